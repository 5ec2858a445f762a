-- Many turns of one processor of a legal run.
use Rattle.std.proofs.Common.{◌≡◌, ℕ, List, [], Some, sym, subst}
use Rattle.std.specs.Prelude.{reverse, slice_get, slice_set}
use Rattle.std.proofs.lemmas.List.{set-set}
use Rattle.memory_core.specs.declared.entry.Entry.{Entry}
use Rattle.memory_core.specs.declared.entry.SetUp.{SetUp}
use Rattle.system_model.specs.Legal.{IsLegal}
use Rattle.system_model.specs.Processors.{Processor}
use Rattle.system_model.specs.Settings.{Setting}
use Rattle.tie_switch.specs.Laws.{TurnsStayLegal}
use Rattle.tie_switch.specs.ManyTurns.{IsTurns, NoTurn, Turns}
use Rattle.tie_switch.proofs.Turns.{get_same}
use Rattle.vest_core.proofs.Lists.{set_same}

-- a history and its processors stay legal behind many turns of one
pub many_stay_legal : TurnsStayLegal → (setting : Setting) (set_up : SetUp) (budget thread : ℕ) (p : Processor) (begun : List Entry) (processors : List Processor)
    → IsLegal setting set_up budget (reverse begun) processors → slice_get processors thread ≡ Some p
    → {n : ℕ} {q : Processor} {new : List Entry} → IsTurns setting set_up (λ between. between ≡ []) budget p begun n q new
    → IsLegal setting set_up budget (reverse new) (slice_set processors thread q)
many_stay_legal law setting set_up budget thread p begun processors legal at NoTurn =
    subst (λ (ps : List Processor). IsLegal setting set_up budget (reverse begun) ps) (sym (set_same processors thread p at)) legal
many_stay_legal law setting set_up budget thread p begun processors legal at (Turns {p = x} {q = y} {old = mid} {new = behind} more last) =
    let before = many_stay_legal law setting set_up budget thread p begun processors legal at more in
    let next = law setting set_up budget mid behind (slice_set processors thread x) thread x y before (get_same processors thread p x at) last in
    subst (λ (ps : List Processor). IsLegal setting set_up budget (reverse behind) ps) (set-set processors thread x y) next
