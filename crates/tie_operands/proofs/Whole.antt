-- From the rest of the tree to the replies made.
use Rattle.std.proofs.Common.{◌≡◌, ℕ, List, [], ◌∷◌, ◌++◌, Option, Some, None, refl, ap, sym, ◌∙◌, subst}
use Rattle.std.specs.Prelude.{Bool}
use Rattle.vax_form.specs.Pages.{first_bad}
use Rattle.vax_form.specs.Tree.{Tree, Check, Ask, Fault, Ends, Answer, Fails, Ending, Finish, Exit, Trap, unless_bad, answer, feed, outcome, head_outcome, stop_outcome, ending_outcome}
use Rattle.vax_form.specs.TreeLaws.{FeedingTwice, ShowsTheOutcome}
use Rattle.vax_form.specs.declared.pages.Pages.{Pages}
use Rattle.vax_form.specs.declared.script.Stop.{Stop}
use Rattle.vax_form.specs.declared.script.Stop.TheVariants as stops
use Rattle.vax_form.specs.declared.state.Exception.{Exception}
use Rattle.vax_form.specs.declared.state.Exception.TheVariants.{Arithmetic, AccessViolation, ReservedInstruction}
use Rattle.vax_form.specs.declared.state.Outcome.{Outcome}
use Rattle.vax_form.specs.declared.state.Outcome.TheVariants as outcomes
use Rattle.vax_form.specs.declared.state.VaxState.{VaxState}
use Rattle.vax_form.proofs.Trees.{feeding_twice, shows_the_outcome}
use Rattle.vax_meaning.specs.Play.{IsFault}
use Rattle.tie_operands.specs.declared.step.TieStep.{TieStep}
use Rattle.tie_operands.specs.declared.step.TieStep.TheVariants.{Want, Retired, Exited, Raised}
use Rattle.tie_operands.specs.Steps.{step_of, IfWant, FaultsAtHead, Shows, FailsByFault, SeenAs, StandsFor, StepsAs}

pub if_want : {A B : Type 0} (step : TieStep) → (A → B) → IfWant step A → IfWant step B
if_want (Want reference) f given = f given
if_want (Retired state) f given = tt
if_want (Exited state) f given = tt
if_want (Raised exception state) f given = tt

-- the fault at the head of what is left is the one that the answer fails with
fails_checked : (bad : Option ℕ) (write : Bool) (tree : Tree) (a : Answer) → (FaultsAtHead tree → FailsByFault a)
    → FaultsAtHead (unless_bad bad Fault write tree) → FailsByFault (unless_bad bad Fails write a)
fails_checked None write tree a f faults = f faults
fails_checked (Some address) write tree a f faults = tt

fails_by_fault : (pages : Pages) (tree : Tree) (replies : List ℕ) → FaultsAtHead (feed pages tree replies) → FailsByFault (answer pages tree replies)
fails_by_fault pages (Check address count write tree) replies faults =
    fails_checked (first_bad pages write address count) write (feed pages tree replies) (answer pages tree replies) (fails_by_fault pages tree replies) faults
fails_by_fault pages (Ask reference on) [] faults = tt
fails_by_fault pages (Ask reference on) (reply ∷ replies) faults = fails_by_fault pages (on reply) replies faults
fails_by_fault pages (Fault exception) replies faults = faults
fails_by_fault pages (Ends e) replies faults = tt

-- a step that shows the rest of a tree behind all replies comes to what the tree comes to with them
pub seen_as : (pages : Pages) (before : VaxState) (tree : Tree) (replies : List ℕ) (step : TieStep) → Shows before (feed pages tree replies) step → SeenAs pages before tree replies step
seen_as pages before tree replies step shows = record {
  answers = shows.head ∙ ap step_of (shows_the_outcome pages tree replies before);
  faults = fails_by_fault pages tree replies shows.faults;
}

-- a step that shows the rest of a tree with one more reply comes to what the tree comes to
pub steps_as : (pages : Pages) (kept : VaxState) (old new : Tree) (reply : List ℕ) (step : TieStep)
    → Shows kept (feed pages old reply) step → IfWant step (new ≡ feed pages old reply)
    → (state : VaxState) (tree : Tree) (replies : List ℕ) → StandsFor pages kept old state tree replies → StepsAs pages kept new step state tree (replies ++ reply)
steps_as pages kept old new reply step shows rest state tree replies stands =
    let fed : feed pages old reply ≡ feed pages tree (replies ++ reply) = ap (λ t. feed pages t reply) stands.rest ∙ feeding_twice pages tree replies reply in
    record {
      answers = shows.head ∙ ap (λ s. step_of (head_outcome s (feed pages old reply))) stands.before
          ∙ ap (λ t. step_of (head_outcome state t)) fed ∙ ap step_of (shows_the_outcome pages tree (replies ++ reply) state);
      faults = fails_by_fault pages tree (replies ++ reply) (subst FaultsAtHead fed shows.faults);
      stands = if_want step (λ e. record { before = stands.before; rest = e ∙ fed }) rest;
    }

-- why a script stopped is no arithmetic exception
abbrev pub StopsByFault : Stop → Type 0
StopsByFault (stops.Wants reference) = Unit {0}
StopsByFault (stops.Fails exception) = IsFault exception

-- a fault that a stop shows
raised_same : (before : VaxState) (exception : Exception) (stop : Stop) → outcomes.Raises exception before ≡ stop_outcome before stop → StopsByFault stop → IsFault exception
raised_same before exception (stops.Wants reference) is fault = absurd cc
raised_same before exception (stops.Fails other) is fault =
    let same : other ≡ exception = cc in
    subst IsFault same fault

stop_faults : (before : VaxState) (tree : Tree) (stop : Stop) → head_outcome before tree ≡ stop_outcome before stop → StopsByFault stop → FaultsAtHead tree
stop_faults before (Check address count write tree) stop is fault = stop_faults before tree stop is fault
stop_faults before (Ask reference on) stop is fault = tt
stop_faults before (Fault exception) stop is fault = raised_same before exception stop is fault
stop_faults before (Ends e) stop is fault = tt

-- a step that stops shows the head of a tree that stops so
pub shows_stop : (before : VaxState) (tree : Tree) (stop : Stop) (step : TieStep)
    → step ≡ step_of (stop_outcome before stop) → StopsByFault stop → head_outcome before tree ≡ stop_outcome before stop → Shows before tree step
shows_stop before tree stop step is fault head = record { head = is ∙ ap step_of (sym head); faults = stop_faults before tree stop head fault }
