-- Trees that are the same.
use Rattle.std.proofs.Common.{◌≡◌, Bool, true, sym, ◌∙◌, subst, None}
use Rattle.vax_form.specs.Pages.{first_bad}
use Rattle.vax_form.specs.Ranges.{ChecksNoWrite, FitsPage, IsInRange, ending_state, is_write}
use Rattle.vax_form.specs.State.{Answers, IsState}
use Rattle.vax_form.specs.Tree.{Ask, Check, Ending, Ends, Fault, Same, Tree}
use Rattle.vax_form.specs.declared.pages.Pages.{Pages}
use Rattle.vax_form.specs.declared.state.Reference.{Reference}

module _ (pages : Pages) where
  same_checks : (t u : Tree) → Same t u → ChecksNoWrite pages u → ChecksNoWrite pages t
  same_checks (Check address count write t) (Check address' count' write' u) h c =
      (h.2 ∙ c.0, λ good. same_checks t u h.3 (c.1 (by h.0 h.1 h.2 good)))
    where
      by : address ≡ address' → count ≡ count' → write ≡ write' → first_bad pages write address count ≡ None → first_bad pages write' address' count' ≡ None
      by a n w good = subst (λ x. first_bad pages write' address' x ≡ None) n (subst (λ x. first_bad pages write' x count ≡ None) a (subst (λ (x : Bool). first_bad pages x address count ≡ None) w good))
  same_checks (Ask r on) (Ask r' on') h c = λ reply answers. same_checks (on reply) (on' reply) (h.1 reply answers) (c reply (subst (λ (x : Reference). Answers x reply) h.0 answers))
  same_checks (Fault e) (Fault e') h c = c
  same_checks (Ends e) (Ends e') h c = c
  same_checks _ _ h c = absurd h

  pub same_range : (t u : Tree) → Same t u → IsInRange pages u → IsInRange pages t
  same_range (Check address count write t) (Check address' count' write' u) h r = λ good. same_range t u h.3 (r (by h.0 h.1 h.2 good))
    where
      by : address ≡ address' → count ≡ count' → write ≡ write' → first_bad pages write address count ≡ None → first_bad pages write' address' count' ≡ None
      by a n w good = subst (λ x. first_bad pages write' address' x ≡ None) n (subst (λ x. first_bad pages write' x count ≡ None) a (subst (λ (x : Bool). first_bad pages x address count ≡ None) w good))
  same_range (Ask r on) (Ask r' on') h i = (
    subst (λ (x : Reference). FitsPage pages x) (sym h.0) i.0,
    λ reply answers. same_range (on reply) (on' reply) (h.1 reply answers) (i.1 reply (subst (λ (x : Reference). Answers x reply) h.0 answers)),
    λ writes reply answers. same_checks (on reply) (on' reply) (h.1 reply answers) (i.2 (subst (λ (x : Reference). is_write x.kind ≡ true) h.0 writes) reply (subst (λ (x : Reference). Answers x reply) h.0 answers)),
  )
  same_range (Fault e) (Fault e') h r = tt
  same_range (Ends e) (Ends e') h r = subst (λ (x : Ending). IsState (ending_state x)) (sym h) r
  same_range _ _ h r = absurd h
