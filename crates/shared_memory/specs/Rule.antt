-- The rule of the shared slot, in which the memory lies. It is a fact about the two words, the slot and what each pass knows;
-- every step keeps it. Word 0 stays 0: on it steps are made that tell of the history. Word 1 is 1 while a pass has the turn, and else
-- 0. Lists of entries are oldest first.
use Rattle.std.specs.Prelude.{◌≡◌, ℕ, ◌+◌, ◌≤◌, true, false, cond, List, [], ◌∷◌, length, reverse, slice_index, Option, Some}
use Rattle.std.proofs.Common.{leb}
use mathlib.Core.Option.{some}
use mathlib.Core.List.{IsPrefix}
use lib.ListN.{get_elem?}
use Rattle.atomic_table.specs.Table.{State}
use Rattle.memory_core.specs.declared.entry.Entry.{Entry}
use Rattle.memory_core.specs.declared.entry.SetUp.{SetUp}
use Rattle.memory_core.specs.declared.state.MemState.{MemState}
use Rattle.memory_core.specs.declared.entry.Limit.TheVariants.{Entries}
use Rattle.memory_core.specs.Contents.{Contents, fresh}
use Rattle.memory_core.specs.Limits.{IsWithin}
use Rattle.memory_core.specs.Order.{own, Meets}
use Rattle.shared_memory.specs.declared.view.View.{View}
use Rattle.shared_memory.specs.declared.view.Ended.{Ended}
use Rattle.shared_memory.specs.Lists.{total, times}

-- a memory with another history
abbrev pub behind : Contents → List Entry → Contents
behind start history = record start { history = history }

-- a history that the memory allows
pub record IsLegal (set_up : SetUp) (history : List Entry) : Type 0 where
  pub order : Meets set_up (reverse history)
  pub room : IsWithin set_up.limit history

abbrev pub nothing : Contents
nothing = fresh (record { version = 1; threads = []; sections = []; entries = []; pages = record { ranges = []; code = [] } }) [] 0 (Entries 0) 0

abbrev pub keeper_of : Contents → View
keeper_of start = record { start = start; lives = false; number = 0; keeps = true; turn = 0; found = []; seen = []; own = []; chosen = 0; given = []; ended = [] }

abbrev pub pass_of : Contents → ℕ → List Entry → View
pass_of start number seen = record { start = start; lives = true; number = number; keeps = false; turn = 0; found = []; seen = seen; own = []; chosen = 0; given = []; ended = [] }

-- what is left of a pass that was joined
abbrev pub spent : View
spent = record { start = nothing; lives = false; number = 0; keeps = false; turn = 0; found = []; seen = []; own = []; chosen = 0; given = []; ended = [] }

abbrev pub made_left : View → View
made_left v = record v { given = v.chosen ∷ v.given }

abbrev pub made_right : View → View
made_right v = pass_of v.start v.chosen v.seen

abbrev pub longer : List Entry → List Entry → List Entry
longer xs ys = cond (leb (length xs) (length ys)) ys xs

abbrev pub ended_as : View → Ended
ended_as w = record { number = w.number; seen = w.seen; own = w.own }

abbrev pub ended_both : View → View → View
ended_both v w = record v { seen = longer v.seen w.seen; ended = ended_as w ∷ v.ended }

-- the weight of the number of a living pass
abbrev pub living : (ℕ → ℕ) → View → ℕ
living f v = cond v.lives (f v.number) 0

-- what one pass says of the history: all that it has seen is its beginning, its own list has its processor's entries, and
-- where it has the turn it has found the whole
pub record Fits (start : Contents) (history : List Entry) (v : View) : Type 0 where
  pub about : v.lives ≡ true → v.start ≡ start
  pub seen : IsPrefix v.seen history
  pub found : v.turn ≡ 1 → v.found ≡ history
  pub small : v.turn ≤ 1
  pub alive : v.turn ≡ 1 → v.lives ≡ true
  pub own : v.lives ≡ true → own v.number history ≡ v.own
  pub over : v.lives ≡ false → v.keeps ≡ false → v ≡ spent

-- what a pass that was joined says of it
pub record FitsEnded (history : List Entry) (e : Ended) : Type 0 where
  pub seen : IsPrefix e.seen history
  pub own : own e.number history ≡ e.own

-- There is one history, and some pass has seen all of it. One pass alone is the keeper, which has no processor. Each number
-- that it has given is that of one living pass or of one that was joined, and no other number has an entry: this is what
-- `balance` says, with a weight for each number.
pub record Kept (start : Contents) (s : State (Option MemState) View) : Type 0 where
  pub history : List Entry
  pub seat : ℕ
  pub keeper : View
  pub wide : length s.words ≡ 2
  pub turns : total (λ (v : View). v.turn) s.views ≡ slice_index s.words 1
  pub single : slice_index s.words 1 ≤ 1
  pub legal : IsLegal start.set_up history
  pub still : slice_index s.words 0 ≡ 0
  pub longest : (k : ℕ) × (v : View) × (get_elem? s.views k ≡ some v) × (v.seen ≡ history)
  pub fits : (k : ℕ) (v : View) → get_elem? s.views k ≡ some v → Fits start history v
  pub home : slice_index s.words 1 ≡ 0 → get_elem? s.homes 0 ≡ some (some (Some (behind start history)))
  pub sits : get_elem? s.views seat ≡ some keeper
  pub keeps : keeper.keeps ≡ true
  pub idle : keeper.lives ≡ false
  pub about : keeper.start ≡ start
  pub alone : (k : ℕ) (v : View) → get_elem? s.views k ≡ some v → v.keeps ≡ true → k ≡ seat
  pub balance : (f : ℕ → ℕ) → total (living f) s.views + total (λ (e : Ended). f e.number) keeper.ended ≡ total f keeper.given
  pub once : (p : ℕ) → times p keeper.given ≤ 1
  pub ended : (k : ℕ) (e : Ended) → get_elem? keeper.ended k ≡ some e → FitsEnded history e
  pub fresh : (p : ℕ) → times p keeper.given ≡ 0 → own p history ≡ []
