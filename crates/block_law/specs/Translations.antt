-- What a translation has to meet.
use Rattle.std.specs.Prelude.{◌≡◌, ℕ, ◌<◌, ◌≤◌, ◌+◌, ◌==◌, nat_lt, Bool, List, length, find, slice_index, Option, Some, None, if◌then◌else◌}
use Rattle.vax_form.specs.State.{IsState}
use Rattle.vax_form.specs.Tree.{Tree}
use Rattle.vax_form.specs.declared.pages.Pages.{Pages}
use Rattle.vax_form.specs.declared.state.Flags.{Flags}
use Rattle.vax_form.specs.declared.state.Reference.{Reference}
use Rattle.vax_form.specs.declared.state.VaxState.{VaxState}
use Rattle.alpha_encode.specs.Words.{instr_at}
use Rattle.alpha_encode.specs.declared.instr.AlphaInstr.{AlphaInstr}
use Rattle.alpha_encode.specs.declared.instr.AlphaInstr.TheVariants.{Memory, Branch, Operate, Jump, Pal}
use Rattle.alpha_encode.specs.Calls.{TRAP}
use Rattle.alpha_meaning.specs.State.{Regs, at_place}
use Rattle.alpha_meaning.specs.Pieces.{Fetch, Kinds, Plain, HasAt, most_words}
use Rattle.address_map.specs.Pairs.{Pair, AllRise, word_at, address_at}
use Rattle.exception_records.specs.Points.{Entry, WordsRise, point_at}
use Rattle.exception_records.specs.Shown.{Shows}
use Rattle.exception_records.specs.declared.points.Point.{Point}
use Rattle.block_law.specs.Placements.{Placement, InForm}
use Rattle.block_law.specs.Rounds.{block_steps, new_round}
use Rattle.block_law.specs.Follows.{Follows}
use Rattle.block_law.specs.Tidy.{IsTidy}

-- what the instructions of an image mean: the tree of the one at a state of a thread, what a service does there, and the
-- condition codes that the one at an address writes
pub record Meaning : Type 0 where
  pub pages : Pages
  pub tree : (thread : ℕ) → VaxState → Tree
  -- what a thread does at a state: its instruction, whose exceptions its handler takes, or what is pending
  pub moment : (thread : ℕ) → VaxState → Tree
  pub serve : (thread code : ℕ) → VaxState → Tree
  pub written : (address : ℕ) → Flags

-- what the block of the instruction at an address may do: the kinds of accesses that it may make for a reference, and how
-- many steps more each that counts allows
pub record Permit : Type 0 where
  pub kinds : (address : ℕ) → Reference → Kinds
  pub bonus : (address : ℕ) → ℕ

-- the words, the map from VAX addresses to the first words of their blocks, and the points of words
pub record Code : Type 0 where
  pub words : List ℕ
  pub map : List Pair
  pub points : List Entry

-- the instruction at a word
abbrev pub fetch_of : List ℕ → Fetch
fetch_of words pc = if nat_lt pc (length words) then instr_at (slice_index words pc) else None

-- the first word of the next block, or the end where there is none
abbrev pub next_first : Option Pair → (length : ℕ) → ℕ
next_first None length = length
next_first (Some pair) length = pair.1

-- the word behind a block: the next first word, or the end of the code
abbrev pub end_of : Code → (first : ℕ) → ℕ
end_of code first = next_first (find (λ pair. nat_lt first pair.1) code.map) (length code.words)

-- the block at that word, for the instruction that begins in that state
abbrev pub placed : Meaning → Permit → Code → (thread : ℕ) → VaxState → (held : Flags) → (first : ℕ) → Placement
placed meaning permit code thread begun held first = record {
  pages = meaning.pages;
  fetch = fetch_of code.words;
  points = point_at code.points;
  stops = address_at code.map;
  maps = word_at code.map;
  first = first;
  end = end_of code first;
  begun = begun;
  held = held;
  written = meaning.written begun.pc;
  serve = meaning.serve thread;
  kinds = permit.kinds begun.pc;
  bonus = permit.bonus begun.pc;
}

-- the block of an instruction may have a loop where accesses that count allow more steps
abbrev pub has_loop : Permit → (address : ℕ) → Bool
has_loop permit address = nat_lt 0 (permit.bonus address)

-- whether the instruction is done at its word
abbrev pub done_at : Option AlphaInstr → ℕ
done_at (Some (Pal number)) = if number == TRAP then 1 else 0
done_at (Some (Memory op ra rb disp)) = 0
done_at (Some (Branch op ra disp)) = 0
done_at (Some (Operate op ra rb rc)) = 0
done_at (Some (Jump ra rb)) = 0
done_at None = 0

-- the block of the instruction at that address stands at that word, and does what it may
pub record IsBlock (meaning : Meaning) (permit : Permit) (code : Code) (address first : ℕ) : Type 0 where
  pub point : Point
  pub has_point : point_at code.points first ≡ Some point
  -- the points of its words are the instruction's
  pub its_points : (word : ℕ) (q : Point) → first ≤ word → word < end_of code first → point_at code.points word ≡ Some q
      → (q.vax_pc ≡ address) × (q.done ≡ done_at (fetch_of code.words word))
  -- its words
  pub words : List AlphaInstr
  pub ends : first + length words ≡ end_of code first
  pub within : end_of code first ≤ length code.words
  pub stand : HasAt (fetch_of code.words) first words
  pub tidy : IsTidy (has_loop permit address) words
  -- whatever the thread's state there is, and the registers that show it, they follow the instruction's tree
  pub follows : (thread n : ℕ) (state : VaxState) (held : Flags) (regs : Regs) → thread < 256 → IsState state → state.pc ≡ address
      → InForm regs → Shows regs address point.rules held state
      → Follows (placed meaning permit code thread state held first) n Plain block_steps new_round (at_place regs first) (meaning.tree thread state)

-- each mapped instruction has its block, which does what it may
pub record Meets (meaning : Meaning) (permit : Permit) (code : Code) : Type 0 where
  pub few : length code.words ≤ most_words
  pub map_rises : AllRise code.map
  pub points_rise : WordsRise code.points
  pub blocks : (address first : ℕ) → word_at code.map address ≡ Some first → IsBlock meaning permit code address first
