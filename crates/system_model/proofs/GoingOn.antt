-- A legal history from a set-up that goes on as its own.
use Rattle.std.proofs.Common.{◌≡◌, ℕ, zero, suc, List, [], ◌∷◌, Some, sym, ap, ◌∙◌, subst, ◌⊎◌, inl, inr}
use Rattle.std.specs.Prelude.{length, slice_get}
use Rattle.std.specs.List.{AllByRecursion}
use Rattle.image_file.specs.Values.{ImageValue}
use Rattle.memory_core.specs.declared.entry.Entry.{Entry}
use Rattle.memory_core.specs.declared.entry.Limit.{Limit}
use Rattle.memory_core.proofs.GoingOn.{meets_go_on}
use Rattle.memory_core.proofs.Limits.{within_raised}
use Rattle.vax_form.specs.declared.state.VaxState.{VaxState}
use Rattle.vax_driven.specs.declared.thread.End.TheVariants.{Spent}
use Rattle.system_model.specs.Settings.{Setting}
use Rattle.system_model.specs.Processors.{Ended, Processor}
use Rattle.system_model.specs.Legal.{starts, IsSpent, IsReached}
use Rattle.system_model.specs.Laws.{LegalGoesOn}

-- where it is spent, it has no step left
abbrev HasNoStep : (budget : ℕ) → Processor → Type 0
HasNoStep budget p = p.mode ≡ Ended Spent → p.steps ≡ budget

each_has : (budget : ℕ) (processors : List Processor) (thread : ℕ) (p : Processor) → AllByRecursion (HasNoStep budget) processors → slice_get processors thread ≡ Some p → HasNoStep budget p
each_has budget [] thread p all h = absurd (cc h)
each_has budget (q ∷ rest) zero p all h =
    let is : q ≡ p = cc h in
    subst (HasNoStep budget) is all.0
each_has budget (q ∷ rest) (suc thread) p all h = each_has budget rest thread p all.1 h

goes : (setting : Setting) (budget : ℕ) (old new : Limit) (entries : List Entry) (was p : Processor) → HasNoStep budget p
    → (p ≡ was) ⊎ IsSpent setting budget old entries was p → (p ≡ was) ⊎ IsSpent setting budget new entries was p
goes setting budget old new entries was p left (inl same) = inl same
goes setting budget old new entries was p left (inr spent) =
    let steps : was.steps ≡ budget = ap (λ (x : Processor). x.steps) (sym spent.is) ∙ left (ap (λ (x : Processor). x.mode) spent.is) in
    inr (record { is = spent.is; going = spent.going; cause = inl steps })

reached_goes_on : (setting : Setting) (budget : ℕ) (old new : Limit) (entries : List Entry) (thread : ℕ) (start : VaxState) (p : Processor) → HasNoStep budget p
    → IsReached setting budget old entries thread start p → IsReached setting budget new entries thread start p
reached_goes_on setting budget old new entries thread start p left r =
    record { was = r.was; within = r.within; reaches = r.reaches; now = goes setting budget old new entries r.was p left r.now }

pub legal_goes_on : LegalGoesOn
legal_goes_on setting old new budget entries processors g left legal = record {
  pages = legal.pages ∙ ap (λ (i : ImageValue). i.pages) (sym g.image);
  order = meets_go_on old new entries g legal.order;
  room = within_raised old.limit new.limit entries g.limit legal.room;
  count = legal.count ∙ ap (λ (i : ImageValue). length i.threads) (sym g.image);
  known = legal.known;
  each = λ thread start p s at.
      reached_goes_on setting budget old.limit new.limit entries thread start p (each_has budget processors thread p left at)
      (legal.each thread start p (ap (λ (i : ImageValue). starts i thread) (sym g.image) ∙ s) at);
}
