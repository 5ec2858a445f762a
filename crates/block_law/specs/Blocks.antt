-- Blocks by themselves, and where they stand in code.
use Rattle.std.specs.Prelude.{◌≡◌, ℕ, ◌<◌, ◌≤◌, ◌+◌, ◌^◌, ◌==◌, ◌&&◌, not, nat_lt, nat_le, Bool, true, false, All, List, length, slice_get, Option, Some, None}
use Rattle.std.specs.List.{list_any, AllAdjacentBelow}
use Rattle.vax_form.specs.declared.state.Flags.{Flags}
use Rattle.vax_form.specs.declared.state.VaxState.{VaxState}
use Rattle.alpha_encode.specs.Words.{IsEncodable}
use Rattle.alpha_encode.specs.declared.instr.AlphaInstr.{AlphaInstr}
use Rattle.alpha_meaning.specs.Pieces.{HasAt}
use Rattle.address_map.specs.Pairs.{word_at, address_at}
use Rattle.exception_records.specs.Blocks.{BlockValue}
use Rattle.exception_records.specs.Codes.{all_ready}
use Rattle.exception_records.specs.Points.{WordsRise, point_at}
use Rattle.exception_records.specs.declared.points.Point.{Point}
use Rattle.exception_records.specs.declared.rules.Rules.{Rules}
use Rattle.block_law.specs.Placements.{Placement}
use Rattle.block_law.specs.Follows.{LeadsTo}
use Rattle.block_law.specs.Tidy.{is_kept, register_written, may_fault, interprets, IsTidy}
use Rattle.block_law.specs.Translations.{Meaning, Permit, Code, placed, end_of, fetch_of, done_at}

-- ---- exits
-- the word at which an exit begins, and the VAX address to which it leads
abbrev pub Exit : Type 0
Exit = ℕ × ℕ

-- how many words an exit has
abbrev pub exit_words : ℕ
exit_words = 3

-- the word is one of the three of the exit
abbrev pub has_word : (word : ℕ) → Exit → Bool
has_word word exit = nat_le exit.0 word && nat_lt word (exit.0 + exit_words)

-- the word is one of an exit's
abbrev pub is_exit_word : List Exit → (word : ℕ) → Bool
is_exit_word exits word = list_any (has_word word) exits

-- the word is one of an exit's behind its first
abbrev pub is_past_exit : List Exit → (word : ℕ) → Bool
is_past_exit exits word = list_any (λ exit. has_word word exit && not (word == exit.0)) exits

-- it writes no register that a boundary shows, makes no access, raises nothing and ends nothing
abbrev pub is_quiet : AlphaInstr → Bool
is_quiet i = not (is_kept (register_written i)) && not (may_fault i) && not (interprets i) && (done_at (Some i) == 0)

-- ---- a block by itself
-- an exit's words are the block's
abbrev pub IsExitOf : BlockValue → Exit → Type 0
IsExitOf block exit = (exit.0 + exit_words ≤ length block.words) × (exit.1 < 2 ^ 32)

-- a point is of that instruction, at a word of the block that is no exit's but for its first
pub record IsPointOf (address : ℕ) (block : BlockValue) (word : ℕ) (point : Point) : Type 0 where
  pub within : word < length block.words
  pub no_exit : is_past_exit block.exits word ≡ false
  pub its : point.vax_pc ≡ address
  pub done : point.done ≡ done_at (slice_get block.words word)

-- a block of the instruction at that address, with a loop or without, wherever it may come to stand
pub record IsBlockOf (loops : Bool) (address : ℕ) (block : BlockValue) : Type 0 where
  pub tidy : IsTidy loops block.words
  pub encodable : All IsEncodable block.words
  pub exits : All (IsExitOf block) block.exits
  pub exits_apart : AllAdjacentBelow (λ e f. e.0 + exit_words ≤ f.0) block.exits (length block.exits)
  pub exits_quiet : (word : ℕ) (i : AlphaInstr) → is_exit_word block.exits word ≡ true → slice_get block.words word ≡ Some i → is_quiet i ≡ true
  pub points_rise : WordsRise block.points
  pub points : (word : ℕ) (point : Point) → point_at block.points word ≡ Some point → IsPointOf address block word point
  pub first : Point
  pub has_first : point_at block.points 0 ≡ Some first

-- ---- a block in its place
-- the words of a block, with others that are quiet in place of its exits'
pub record IsLike (block : BlockValue) (words : List AlphaInstr) : Type 0 where
  pub count : length words ≡ length block.words
  pub same : (word : ℕ) → is_exit_word block.exits word ≡ false → slice_get words word ≡ slice_get block.words word
  pub quiet : (word : ℕ) (i : AlphaInstr) → is_exit_word block.exits word ≡ true → slice_get words word ≡ Some i → is_quiet i ≡ true

-- the block stands in the code from that word on, with its points, and up to the next block
pub record Stands (code : Code) (block : BlockValue) (first : ℕ) : Type 0 where
  pub words : List AlphaInstr
  pub like : IsLike block words
  pub stand : HasAt (fetch_of code.words) first words
  pub ends : first + length words ≡ end_of code first
  pub within : end_of code first ≤ length code.words
  pub alone : (word : ℕ) → 0 < word → word < length words → address_at code.map (first + word) ≡ None
  pub points : (word : ℕ) → word < length words → point_at code.points (first + word) ≡ point_at block.points word

-- each exit leads to its address, where the registers show the state by those rules
abbrev pub ExitsLead : Placement → List Exit → (first : ℕ) → Rules → Type 0
ExitsLead p exits first rules = (place : ℕ) (exit : Exit) → slice_get exits place ≡ Some exit → LeadsTo p (first + exit.0) exit.1 rules exit_words

-- the rules are those at the address: the point's of its block, or all ready where it has none
abbrev pub RulesAt : Code → Option ℕ → Rules → Type 0
RulesAt code (Some word) rules = (point : Point) → point_at code.points word ≡ Some point → point.rules ≡ rules
RulesAt code None rules = rules ≡ all_ready

-- the rules at each exit's address are those
abbrev pub RulesMeet : Code → List Exit → Rules → Type 0
RulesMeet code exits rules = (place : ℕ) (exit : Exit) → slice_get exits place ≡ Some exit → RulesAt code (word_at code.map exit.1) rules

-- the block of the instruction at that address has its place in the code, and its exits lead to theirs
pub record IsLaid (code : Code) (address : ℕ) (block : BlockValue) : Type 0 where
  pub first : ℕ
  pub mapped : word_at code.map address ≡ Some first
  pub stands : Stands code block first
  pub leads : (meaning : Meaning) (permit : Permit) (thread : ℕ) (state : VaxState) (held : Flags) (rules : Rules) → RulesMeet code block.exits rules
      → ExitsLead (placed meaning permit code thread state held first) block.exits first rules
