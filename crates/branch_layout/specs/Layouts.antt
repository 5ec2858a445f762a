-- Blocks in their places, one behind the other.
use Rattle.std.specs.Prelude.{◌≡◌, ℕ, ◌<◌, ◌≤◌, ◌+◌, ◌^◌, ◌++◌, nat_le, All, Bool, List, [], ◌∷◌, length, map, slice_get, sum_by, Option, Some, None, take, drop}
use Rattle.std.specs.List.{AllAdjacentBelow, fold}
use Rattle.vax_form.specs.State.{IsState}
use Rattle.vax_form.specs.declared.state.Flags.{Flags}
use Rattle.vax_form.specs.declared.state.VaxState.{VaxState}
use Rattle.alpha_encode.specs.Words.{word_of}
use Rattle.alpha_encode.specs.declared.instr.AlphaInstr.{AlphaInstr}
use Rattle.alpha_meaning.specs.State.{Regs, at_place}
use Rattle.alpha_meaning.specs.Pieces.{Plain, most_words}
use Rattle.address_map.specs.Pairs.{Pair, AllRise, word_at}
use Rattle.exception_records.specs.Blocks.{BlockValue}
use Rattle.exception_records.specs.Points.{Entry, WordsRise, point_at}
use Rattle.exception_records.specs.Shown.{Shows}
use Rattle.exception_records.specs.declared.rules.Rules.{Rules}
use Rattle.block_law.specs.Blocks.{Exit, ExitsLead, IsBlockOf, RulesMeet, Stands, exit_words}
use Rattle.block_law.specs.Follows.{Follows}
use Rattle.block_law.specs.Placements.{InForm}
use Rattle.block_law.specs.Rounds.{block_steps, new_round}
use Rattle.block_law.specs.Translations.{Code, IsBlock, Meaning, Permit, has_loop, placed}
use Rattle.branch_layout.specs.Ends.{end_of, ended_words, placed_size}
use Rattle.branch_layout.specs.Exits.{exit_code}
use Rattle.branch_layout.specs.declared.ends.End.{End}

-- the address of a VAX instruction, and its block
abbrev pub Placed : Type 0
Placed = ℕ × BlockValue

-- addresses rise
abbrev pub AddressesRise : List Placed → Type 0
AddressesRise blocks = AllAdjacentBelow (λ b c. b.0 < c.0) blocks (length blocks)

-- the block is its instruction's, with a loop or without
abbrev pub IsPlaced : Placed → Type 0
IsPlaced block = (loops : Bool) × IsBlockOf loops block.0 block.1

-- each is
abbrev pub AreBlocks : List Placed → Type 0
AreBlocks blocks = All IsPlaced blocks

-- the address of the first of them
abbrev pub next_address : List Placed → Option ℕ
next_address [] = None
next_address (block ∷ blocks) = Some block.0

-- ---- places
-- an address, and how many words its block has
abbrev pub Sized : Type 0
Sized = ℕ × ℕ

-- each address with the first word of its block, which stands behind the one before
abbrev pub places : (first : ℕ) → List Sized → List Pair
places first [] = []
places first (size ∷ sizes) = (size.0, first) ∷ places (first + size.1) sizes

-- with all their words
abbrev pub whole_sizes : List Placed → List Sized
whole_sizes blocks = map (λ block. (block.0, length block.1.words)) blocks

-- how many words they have
abbrev pub words_of : List Sized → ℕ
words_of sizes = sum_by (λ size. size.1) sizes

-- a branch from one of so many words reaches every other
abbrev pub is_small : (words : ℕ) → Bool
is_small words = nat_le words (2 ^ 20)

-- with the words that they have in their places
abbrev pub placed_sizes : (small : Bool) → (mapped : List Pair) → List Placed → List Sized
placed_sizes small mapped [] = []
placed_sizes small mapped (block ∷ blocks) = (block.0, placed_size (end_of small mapped (next_address blocks) block.1) block.1) ∷ placed_sizes small mapped blocks

-- the ends of the first so many blocks
pub record AreEnds (small : Bool) (mapped : List Pair) (blocks : List Placed) (many : ℕ) (ends : List (Option End)) : Type 0 where
  pub counted : length ends ≡ many
  pub each : (place : ℕ) (block : Placed) → place < many → slice_get blocks place ≡ Some block
      → slice_get ends place ≡ Some (end_of small mapped (next_address (drop (place + 1) blocks)) block.1)

-- points whose words count from that one on
abbrev pub shifted : (first : ℕ) → List Entry → List Entry
shifted first points = map (λ entry. (first + entry.0, entry.1)) points

-- ---- what is made
-- words with those of an exit in place of its own
abbrev pub with_exit : (words : List AlphaInstr) → (start : ℕ) → (code : List AlphaInstr) → List AlphaInstr
with_exit words start code = take start words ++ (code ++ drop (start + exit_words) words)

-- with those of the exit of a block that begins at that word of the code
abbrev pub fill_exit : List Pair → (first : ℕ) → List AlphaInstr → Exit → List AlphaInstr
fill_exit pairs first words exit = with_exit words exit.0 (exit_code (word_at pairs exit.1) (first + exit.0) exit.1)

abbrev pub filled_words : List Pair → (first : ℕ) → BlockValue → List AlphaInstr
filled_words pairs first block = fold (fill_exit pairs first) block.words block.exits

-- the words of a block by its end, or with three for each exit
abbrev pub placed_words : List Pair → (first : ℕ) → Option End → BlockValue → List AlphaInstr
placed_words pairs first None block = filled_words pairs first block
placed_words pairs first (Some end) block = ended_words pairs first block end

-- the words of the blocks one behind the other, from that word of the code on
abbrev pub laid_words : (small : Bool) → (mapped pairs : List Pair) → (first : ℕ) → List Placed → List ℕ
laid_words small mapped pairs first [] = []
laid_words small mapped pairs first (block ∷ blocks) =
    map word_of (placed_words pairs first (end_of small mapped (next_address blocks) block.1) block.1)
    ++ laid_words small mapped pairs (first + placed_size (end_of small mapped (next_address blocks) block.1) block.1) blocks

abbrev pub laid_points : (small : Bool) → (mapped : List Pair) → (first : ℕ) → List Placed → List Entry
laid_points small mapped first [] = []
laid_points small mapped first (block ∷ blocks) =
    shifted first block.1.points ++ laid_points small mapped (first + placed_size (end_of small mapped (next_address blocks) block.1) block.1) blocks

-- the code of blocks, where it is told whether they are small, and which addresses have one
abbrev pub layout_by : (small : Bool) → (mapped : List Pair) → List Placed → Code
layout_by small mapped blocks =
    let pairs = places 0 (placed_sizes small mapped blocks) in
    record { words = laid_words small mapped pairs 0 blocks; map = pairs; points = laid_points small mapped 0 blocks }

-- the code of the blocks
unfoldable pub layout : List Placed → Code
layout blocks = layout_by (is_small (words_of (whole_sizes blocks))) (places 0 (whole_sizes blocks)) blocks

-- ---- what is promised
-- Wherever the block of the instruction at that address stands with three words for each exit, it follows the instruction's
-- tree: from registers in form that show the state by the rules of its first word, where its exits lead to their
-- addresses by those behind it.
abbrev pub FollowsAnywhere : Meaning → Permit → (address : ℕ) → BlockValue → (before behind : Rules) → Type 0
FollowsAnywhere meaning permit address block before behind =
    (code : Code) (first thread n : ℕ) (state : VaxState) (held : Flags) (regs : Regs)
    → length code.words ≤ most_words → Stands code block first → thread < 256 → IsState state → state.pc ≡ address
    → InForm regs → Shows regs address before held state
    → ExitsLead (placed meaning permit code thread state held first) block.exits first behind
    → Follows (placed meaning permit code thread state held first) n Plain block_steps new_round (at_place regs first) (meaning.tree thread state)

-- the block of the instruction at that address has its place in the code, and does there what it does anywhere
pub record IsInPlace (code : Code) (address : ℕ) (block : BlockValue) : Type 0 where
  pub first : ℕ
  pub mapped : word_at code.map address ≡ Some first
  pub points : point_at code.points first ≡ point_at block.points 0
  pub does : (meaning : Meaning) (permit : Permit) (shape : IsBlockOf (has_loop permit address) address block) (behind : Rules) → RulesMeet code block.exits behind
      → FollowsAnywhere meaning permit address block shape.first.rules behind → IsBlock meaning permit code address first

-- the code of the blocks: they stand in their order from word 0 on without gaps, and do there what they do anywhere
pub record IsLayout (blocks : List Placed) (code : Code) : Type 0 where
  pub few : length code.words ≤ most_words
  pub addresses : map (λ pair. pair.0) code.map ≡ map (λ block. block.0) blocks
  pub map_rises : AllRise code.map
  pub points_rise : WordsRise code.points
  pub laid : (place : ℕ) (block : Placed) → slice_get blocks place ≡ Some block → IsInPlace code block.0 block.1
