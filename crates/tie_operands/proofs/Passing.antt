-- Going through a script to its end shows the head of its tree.
use Rattle.std.proofs.Common.{◌≡◌, ℕ, List, [], ◌++◌, Result, Ok, Err, refl, ap, sym, subst}
use Rattle.vax_form.specs.Script.{Script}
use Rattle.vax_form.specs.Tree.{Tree, Check, Ask, Fault, Ends, Ending, Finish, Exit, Trap, feed, ends_with, ending, ending_outcome, head_outcome, stop_outcome, instruction_tree}
use Rattle.vax_form.specs.declared.script.End.{End}
use Rattle.vax_form.specs.declared.script.Stop.{Stop}
use Rattle.vax_form.specs.declared.script.Stop.TheVariants.{Wants, Fails}
use Rattle.vax_form.specs.declared.state.Reference.{Reference}
use Rattle.vax_form.specs.declared.state.VaxState.{VaxState}
use Rattle.vax_meaning.specs.Fed.{Fed}
use Rattle.vax_meaning.specs.Play.{Plays, Uses}
use Rattle.vax_meaning.specs.declared.cursor.Cursor.{Cursor}
use Rattle.vax_meaning.proofs.Feeding.{fed_of_plays}
use Rattle.tie_operands.specs.Steps.{Shows, FaultsAtHead, Passes, IsAsking, step_of}
use Rattle.tie_operands.specs.declared.step.TieStep.TheVariants.{Want}
use Rattle.tie_operands.proofs.Whole.{shows_stop}

-- an end shows itself
pub shows_end : (before : VaxState) (tree : Tree) (end : End) (state : VaxState) → tree ≡ ends_with end state → Shows before tree (step_of (ending_outcome (ending end state)))
shows_end before tree end state is = record {
  head = ap (λ t. step_of (head_outcome before t)) (sym is);
  faults = subst FaultsAtHead (sym is) tt;
}

pub passes_fed : (most : ℕ) (before : VaxState) (script : Script End) (old new : Cursor) (result : Result End Stop) → Fed script old result new → Uses most old result new
    → Passes before (feed old.pages.now (instruction_tree old.pages.now script old.state) old.replies.now) result new.state
passes_fed most before script old new (Ok end) fed few = shows_end before _ end new.state (fed.1 ends_with)
passes_fed most before script old new (Err (Wants reference)) fed few = shows_stop before _ (Wants reference) _ refl tt (fed ends_with before)
passes_fed most before script old new (Err (Fails exception)) fed few = shows_stop before _ (Fails exception) _ refl few (fed ends_with before)

pub passes : (most : ℕ) (before : VaxState) (script : Script End) (old new : Cursor) (result : Result End Stop) → Plays script old result new → Uses most old result new
    → Passes before (feed old.pages.now (instruction_tree old.pages.now script old.state) old.replies.now) result new.state
passes most before script old new result plays few = passes_fed most before script old new result (fed_of_plays script old new result plays) few

-- what shows that it wants a reference asks
asking_end : (before : VaxState) (e : Ending) (reference : Reference) → Want reference ≡ step_of (ending_outcome e) → IsAsking (Ends e)
asking_end before (Finish state) reference is = absurd cc
asking_end before (Exit state) reference is = absurd cc
asking_end before (Trap kind state) reference is = absurd cc

pub asking : (before : VaxState) (tree : Tree) (reference : Reference) → Want reference ≡ step_of (head_outcome before tree) → IsAsking tree
asking before (Check address count write tree) reference is = asking before tree reference is
asking before (Ask wanted on) reference is = tt
asking before (Fault exception) reference is = absurd cc
asking before (Ends e) reference is = asking_end before e reference is
