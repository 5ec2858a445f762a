-- A step with one reply more.
use Rattle.std.proofs.Common.{◌≡◌, ℕ, List, [], ◌∷◌, ◌++◌, Option, Some, None, refl, ap, sym, ◌∙◌, subst}
use Rattle.std.specs.Prelude.{Bool}
use Rattle.vax_form.specs.Pages.{first_bad}
use Rattle.vax_form.specs.Tree.{Tree, Check, Ask, Fault, Ends, unless_bad, feed, head_outcome}
use Rattle.vax_form.specs.declared.pages.Pages.{Pages}
use Rattle.vax_form.specs.declared.state.Reference.{Reference}
use Rattle.vax_form.specs.declared.state.VaxState.{VaxState}
use Rattle.vax_form.proofs.Trees.{feeding_twice}
use Rattle.tie_operands.specs.Steps.{Shows, IfWant, IsAsking, step_of}
use Rattle.tie_operands.specs.declared.step.TieStep.{TieStep}
use Rattle.tie_operands.specs.declared.step.TieStep.TheVariants.{Want}
use Rattle.tie_operands.proofs.Passing.{asking}
use Rattle.tie_operands.proofs.Whole.{if_want}
use Rattle.tie_strings.specs.Strings.{loop_tree, StandsAt}
use Rattle.tie_strings.specs.declared.string.StringLoop.{StringLoop}

pub advanced : (pages : Pages) (before : VaxState) (old taken new : StringLoop) (step result : TieStep) (reference : Reference) (reply : ℕ) (tree : Tree) (replies : List ℕ) → step ≡ Want reference
    → (IsAsking (feed pages (loop_tree pages old) []) → feed pages (loop_tree pages old) (reply ∷ []) ≡ feed pages (loop_tree pages taken) [])
    → Shows before (feed pages (loop_tree pages taken) []) result → IfWant result (feed pages (loop_tree pages new) [] ≡ feed pages (loop_tree pages taken) [])
    → StandsAt pages before tree replies old step → StandsAt pages before tree (replies ++ reply ∷ []) new result
advanced pages before old taken new step result reference reply tree replies wants takes shows same stands =
    let given : IfWant (Want reference) (feed pages (loop_tree pages old) [] ≡ feed pages tree replies) = subst (λ s. IfWant s (feed pages (loop_tree pages old) [] ≡ feed pages tree replies)) wants stands.rest in
    let asks = asking before (feed pages tree replies) reference (sym wants ∙ stands.shown.head) in
    let rest : feed pages (loop_tree pages taken) [] ≡ feed pages tree (replies ++ reply ∷ []) =
    sym (takes (subst IsAsking (sym given) asks)) ∙ sym (feeding_twice pages (loop_tree pages old) [] (reply ∷ []))
    ∙ ap (λ t. feed pages t (reply ∷ [])) given ∙ feeding_twice pages tree replies (reply ∷ []) in
    record { shown = subst (λ t. Shows before t result) rest shows; rest = if_want result (λ e. e ∙ rest) same }

-- what does not want a reference is over
abbrev IsOver : Tree → Type 0
IsOver (Check address count write tree) = IsOver tree
IsOver (Ask reference on) = ⊥
IsOver (Fault exception) = Unit {0}
IsOver (Ends e) = Unit {0}

over : (before : VaxState) (tree : Tree) (step : TieStep) → step ≡ step_of (head_outcome before tree) → ((reference : Reference) → step ≡ Want reference → ⊥) → IsOver tree
over before (Check address count write tree) step is none = over before tree step is none
over before (Ask reference on) step is none = none reference is
over before (Fault exception) step is none = tt
over before (Ends e) step is none = tt

over_checked : (pages : Pages) (bad : Option ℕ) (write : Bool) (tree : Tree) (more : List ℕ) → (IsOver tree → feed pages tree more ≡ tree)
    → IsOver (unless_bad bad Fault write tree) → feed pages (unless_bad bad Fault write tree) more ≡ unless_bad bad Fault write tree
over_checked pages None write tree more f is = f is
over_checked pages (Some address) write tree more f is = refl

stays_over : (pages : Pages) (tree : Tree) (first more : List ℕ) → IsOver (feed pages tree first) → feed pages (feed pages tree first) more ≡ feed pages tree first
stays_over pages (Check address count write tree) first more is =
    over_checked pages (first_bad pages write address count) write (feed pages tree first) more (stays_over pages tree first more) is
stays_over pages (Ask reference on) [] more is = absurd is
stays_over pages (Ask reference on) (reply ∷ first) more is = stays_over pages (on reply) first more is
stays_over pages (Fault exception) first more is = refl
stays_over pages (Ends e) first more is = refl

pub stayed : (pages : Pages) (before : VaxState) (under_way : StringLoop) (step : TieStep) (reply : ℕ) (tree : Tree) (replies : List ℕ) → ((reference : Reference) → step ≡ Want reference → ⊥)
    → StandsAt pages before tree replies under_way step → StandsAt pages before tree (replies ++ reply ∷ []) under_way step
stayed pages before under_way step reply tree replies none stands =
    let same : feed pages tree replies ≡ feed pages tree (replies ++ reply ∷ []) =
    sym (stays_over pages tree replies (reply ∷ []) (over before (feed pages tree replies) step stands.shown.head none)) ∙ feeding_twice pages tree replies (reply ∷ []) in
    record { shown = subst (λ t. Shows before t step) same stands.shown; rest = if_want step (λ e. e ∙ same) stands.rest }
