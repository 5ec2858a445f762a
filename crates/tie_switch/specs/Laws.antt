-- What turns keep. Histories are oldest first.
use Rattle.std.specs.Prelude.{◌≡◌, ℕ, ◌+◌, ◌≤◌, List, [], Some, reverse, slice_get, slice_set}
use Rattle.memory_core.specs.declared.entry.Entry.{Entry}
use Rattle.memory_core.specs.declared.entry.SetUp.{SetUp}
use Rattle.vax_form.specs.declared.state.VaxState.{VaxState}
use Rattle.system_model.specs.Legal.{IsReached, IsLegal}
use Rattle.system_model.specs.Processors.{Processor}
use Rattle.system_model.specs.Settings.{Setting}
use Rattle.tie_switch.specs.Inside.{went}
use Rattle.tie_switch.specs.ManyTurns.{IsTurns}
use Rattle.tie_switch.specs.Turns.{IsTurn}

-- whatever entries of others come between, a processor stays reached by its own entries of what was seen
abbrev pub TurnsKeepReached : Type 0
TurnsKeepReached = (setting : Setting) (set_up : SetUp) (budget : ℕ) (old new : List Entry) (thread : ℕ) (start : VaxState) (p q : Processor)
    → IsReached setting budget set_up.limit (reverse old) thread start p
    → IsTurn setting set_up (λ between. Unit {0}) budget p q old new
    → IsReached setting budget set_up.limit (reverse new) thread start q

-- and behind so many turns
abbrev pub ManyTurnsKeepReached : Type 0
ManyTurnsKeepReached = (setting : Setting) (set_up : SetUp) (budget n : ℕ) (old new : List Entry) (thread : ℕ) (start : VaxState) (p q : Processor)
    → IsReached setting budget set_up.limit (reverse old) thread start p
    → IsTurns setting set_up (λ between. Unit {0}) budget p old n q new
    → IsReached setting budget set_up.limit (reverse new) thread start q

-- and behind so many turns that ask nothing, within the budget
abbrev pub LocalTurnsKeepReached : Type 0
LocalTurnsKeepReached = (setting : Setting) (set_up : SetUp) (budget n : ℕ) (seen : List Entry) (thread : ℕ) (start : VaxState) (p q : Processor)
    → IsReached setting budget set_up.limit (reverse seen) thread start p
    → went setting p n ≡ Some q → p.steps + n ≤ budget
    → IsReached setting budget set_up.limit (reverse seen) thread start q

-- where no entries of others come between
abbrev pub TurnsStayLegal : Type 0
TurnsStayLegal = (setting : Setting) (set_up : SetUp) (budget : ℕ) (history new : List Entry) (processors : List Processor) (thread : ℕ) (p q : Processor)
    → IsLegal setting set_up budget (reverse history) processors → slice_get processors thread ≡ Some p
    → IsTurn setting set_up (λ between. between ≡ []) budget p q history new
    → IsLegal setting set_up budget (reverse new) (slice_set processors thread q)
