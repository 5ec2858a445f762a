-- Many turns of one processor, one after the other, and the memories that their accesses lead to. Histories are oldest first.
use Rattle.std.specs.Prelude.{ℕ, zero, suc, List}
use Rattle.memory_core.specs.declared.entry.Entry.{Entry}
use Rattle.memory_core.specs.declared.entry.SetUp.{SetUp}
use Rattle.system_model.specs.Processors.{Processor}
use Rattle.system_model.specs.Settings.{Setting}
use Rattle.tie_switch.specs.Turns.{IsTurn}

-- what so many turns do to a processor, and to what is seen of a memory's history
pub data IsTurns (setting : Setting) (set_up : SetUp) (may_come : List Entry → Type 0) (budget : ℕ) (first : Processor) (begun : List Entry) : ℕ → Processor → List Entry → Type 0 where
  NoTurn : IsTurns setting set_up may_come budget first begun zero first begun
  Turns : {n : ℕ} {p q : Processor} {old new : List Entry} → IsTurns setting set_up may_come budget first begun n p old
      → IsTurn setting set_up may_come budget p q old new → IsTurns setting set_up may_come budget first begun (suc n) q new

-- what accesses, none or more, lead to, where each leads to what is the same place
pub data IsBehind {A : Type 0} (same : A → A → Type 0) (first : A) : A → Type 0 where
  NoAccess : IsBehind same first first
  Accesses : {before after : A} → IsBehind same first before → same before after → IsBehind same first after

-- entries of others that may come between two accesses there
pub record MayCome {A : Type 0} (same : A → A → Type 0) (between : A → List Entry → Type 0) (first : A) (entries : List Entry) : Type 0 where
  pub memory : A
  pub behind : IsBehind same first memory
  pub comes : between memory entries
