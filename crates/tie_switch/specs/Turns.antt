-- What one turn does to a processor, and to what is seen of a memory's history. Histories are oldest first.
use Rattle.std.specs.Prelude.{◌≡◌, ℕ, ◌⊎◌, ◌==◌, ◌&&◌, Bool, true, false, List, MatchBool}
use Rattle.memory_core.specs.Seen.{IsNext, IsOver}
use Rattle.memory_core.specs.declared.entry.Entry.{Entry}
use Rattle.memory_core.specs.declared.entry.Request.{Request}
use Rattle.memory_core.specs.declared.entry.SetUp.{SetUp}
use Rattle.system_model.specs.Legal.{spent}
use Rattle.system_model.specs.Processors.{Mode, New, Runs, Interprets, Ended, Processor, Turn, Went, Asks, Over, Stuck}
use Rattle.system_model.specs.Processors as model
use Rattle.system_model.specs.Settings.{Setting}

-- the access was made, and the processor goes on by what it found
pub record IsMade (set_up : SetUp) (may_come : List Entry → Type 0) (request : Request) (on : ℕ → Bool → Processor) (q : Processor) (old new : List Entry) : Type 0 where
  pub before : ℕ
  pub success : Bool
  pub entry : IsNext set_up may_come request before success old new
  pub goes : q ≡ on before success

-- the history was full, and the processor makes no more steps
pub record IsRefused (set_up : SetUp) (may_come : List Entry → Type 0) (request : Request) (p q : Processor) (old new : List Entry) : Type 0 where
  pub over : IsOver set_up may_come request old new
  pub goes : q ≡ spent p

pub record IsStill (p q : Processor) (old new : List Entry) : Type 0 where
  pub processor : q ≡ p
  pub seen : new ≡ old

-- the processor made that turn of the model
abbrev pub Makes : Turn → SetUp → (may_come : List Entry → Type 0) → (p q : Processor) → (old new : List Entry) → Type 0
Makes (Went r) set_up may_come p q old new = IsStill r q old new
Makes (Asks request on) set_up may_come p q old new = IsMade set_up may_come request on q old new ⊎ IsRefused set_up may_come request p q old new
Makes Over set_up may_come p q old new = IsStill p q old new
Makes Stuck set_up may_come p q old new = ⊥

abbrev pub has_ended : Mode → Bool
has_ended New = false
has_ended (Runs alpha) = false
has_ended (Interprets state replies) = false
has_ended (Ended end) = true

abbrev pub goes_on : Mode → Bool
goes_on New = true
goes_on (Runs alpha) = true
goes_on (Interprets state replies) = true
goes_on (Ended end) = false

-- it goes on, and its steps equal the budget
abbrev pub is_out : (budget : ℕ) → Processor → Bool
is_out budget p = goes_on p.mode && (p.steps == budget)

-- one turn: a processor whose budget is spent makes no more steps
abbrev pub IsTurn : Setting → SetUp → (may_come : List Entry → Type 0) → (budget : ℕ) → (p q : Processor) → (old new : List Entry) → Type 0
IsTurn setting set_up may_come budget p q old new =
    MatchBool (is_out budget p) (IsStill (spent p) q old new) (Makes (model.turn setting p) set_up may_come p q old new)
