-- What the contracts say of what a pass knows. Lists of entries are oldest first.
use Rattle.std.specs.Prelude.{◌≡◌, ℕ, ◌<◌, true, false, List, [], ◌∷◌}
use mathlib.Core.Option.{some}
use lib.ListN.{get_elem?}
use Rattle.memory_core.specs.declared.entry.Entry.{Entry}
use Rattle.memory_core.specs.Contents.{Contents}
use Rattle.memory_core.specs.Order.{own}
use Rattle.shared_memory.specs.declared.view.View.{View}
use Rattle.shared_memory.specs.declared.view.Ended.{Ended}
use Rattle.shared_memory.specs.Lists.{times}
use Rattle.shared_memory.specs.Rule.{behind, longer, ended_as, IsLegal, FitsEnded}

-- a processor's living pass, which has not the turn
pub record IsPass (start : Contents) (number : ℕ) (v : View) : Type 0 where
  pub about : v.start ≡ start
  pub lives : v.lives ≡ true
  pub number_is : v.number ≡ number
  pub within : number < start.processors
  pub keeps : v.keeps ≡ false
  pub turn : v.turn ≡ 0

pub record IsKeeper (start : Contents) (v : View) : Type 0 where
  pub about : v.start ≡ start
  pub lives : v.lives ≡ false
  pub keeps : v.keeps ≡ true
  pub turn : v.turn ≡ 0

-- between two accesses of a pass any entries of others may come
abbrev pub Any : List Entry → Type 0
Any entries = Unit {0}

-- none come between two that are made in one hand
abbrev pub IsNone : List Entry → Type 0
IsNone entries = entries ≡ []

-- the keeper has given one more number
pub record HasGiven (number : ℕ) (v w : View) : Type 0 where
  pub given : w.given ≡ number ∷ v.given
  pub ended : w.ended ≡ v.ended
  pub seen : w.seen ≡ v.seen

-- the keeper has taken in a pass: its number, what it has seen and its own list
pub record HasJoined (other v w : View) : Type 0 where
  pub given : w.given ≡ v.given
  pub ended : w.ended ≡ ended_as other ∷ v.ended
  pub seen : w.seen ≡ longer v.seen other.seen

-- the memory behind the last access: its history is what the keeper has seen. What each joined pass had seen is a
-- beginning of it, and that pass's own list has just its processor's entries
pub record IsClosed (start : Contents) (v : View) (m : Contents) : Type 0 where
  pub is : m ≡ behind start v.seen
  pub legal : IsLegal start.set_up v.seen
  pub ended : (j : ℕ) (e : Ended) → get_elem? v.ended j ≡ some e → FitsEnded v.seen e
  pub others : (p : ℕ) → times p v.given ≡ 0 → own p v.seen ≡ []
