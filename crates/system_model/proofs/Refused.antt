-- What no processor that is reached may be.
use Rattle.std.proofs.Common.{◌≡◌, ◌≢◌, ℕ, ◌<◌, true, List, ◌∷◌, ◌∙◌, ap, subst, arith, ⊎_elim}
use Rattle.memory_core.specs.declared.entry.Entry.{Entry}
use Rattle.memory_core.specs.declared.entry.Limit.{Limit}
use Rattle.memory_core.specs.Limits.{counts, IsAtLimit}
use Rattle.memory_core.proofs.Limits.{past_limit}
use Rattle.vax_form.specs.declared.state.VaxState.{VaxState}
use Rattle.system_model.specs.Legal.{IsReached, IsSpent, spent}
use Rattle.system_model.specs.Processors.{Processor, begun, Reaches, Steps, Takes}
use Rattle.system_model.specs.Settings.{Setting}
use Rattle.system_model.proofs.Requests.{Makes, makes}
use Rattle.system_model.proofs.Turns.{reached_thread}

-- reached by an entry of another processor
pub by_another : (setting : Setting) (thread : ℕ) (start : VaxState) (n : ℕ) (e : Entry) (mine : List Entry) (p : Processor) → e.processor ≢ thread
    → Reaches setting (begun thread start) n (e ∷ mine) p → ⊥
by_another setting thread start n e mine p other (Steps {p = q} r turned) = by_another setting thread start _ e mine q other r
by_another setting thread start n e mine p other (Takes {mine = older} {p = q} r turned before success) =
    other ((subst (Makes q) turned (makes setting q)).0 ∙ reached_thread setting (begun thread start) _ older q r)

-- spent by the limit, in a history with one entry more that counts
pub spent_before : (setting : Setting) (budget : ℕ) (limit : Limit) (e : Entry) (entries : List Entry) (was p : Processor) → was.steps < budget
    → counts limit e.kind ≡ true → IsAtLimit limit entries → IsSpent setting budget limit (e ∷ entries) was p → ⊥
spent_before setting budget limit e entries was p more counts_so full spent =
    ⊎_elim (λ out. absurd (omega (arith, more, out))) (λ c. past_limit limit e entries counts_so full c.1) spent.cause

-- with more steps than the budget has
pub beyond_its_budget : (setting : Setting) (budget : ℕ) (limit : Limit) (entries : List Entry) (thread : ℕ) (start : VaxState) (p : Processor) → budget < p.steps
    → IsReached setting budget limit entries thread start p → ⊥
beyond_its_budget setting budget limit entries thread start p more r =
    let within = r.within in
    ⊎_elim (λ same. let e : p.steps ≡ r.was.steps = ap (λ (x : Processor). x.steps) same in absurd (omega (arith, more, within, e)))
    (λ s. let e : p.steps ≡ r.was.steps = ap (λ (x : Processor). x.steps) s.is in absurd (omega (arith, more, within, e))) r.now
