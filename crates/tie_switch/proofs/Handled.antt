-- The step of what a thread does at a state, by the step of its instruction.
use Rattle.std.proofs.Common.{◌≡◌, ℕ, List, [], ◌∷◌, Bool, true, false, Option, Some, None, refl, sym, ap, ◌∙◌}
use Rattle.std.specs.Prelude.{if◌then◌else◌}
use Rattle.vax_form.specs.Moments.{delivering, has_handler, handled_fault, handled}
use Rattle.vax_form.specs.Pages.{first_bad}
use Rattle.vax_form.specs.Tree.{Tree, Check, Ask, Fault, Ends, Finish, Answer, Fails, Comes, unless_bad, answer}
use Rattle.vax_form.specs.declared.pages.Pages.{Pages}
use Rattle.vax_form.specs.declared.state.Exception.{Exception}
use Rattle.vax_form.specs.declared.state.Exception.TheVariants.{AccessViolation}
use Rattle.vax_form.specs.declared.state.Pending.{Pending}
use Rattle.vax_form.specs.declared.state.Pending.TheVariants.{Nothing}
use Rattle.vax_form.specs.declared.state.VaxState.{VaxState}
use Rattle.vax_long.specs.Instructions.{tree_at}
use Rattle.vax_long.specs.Pending.{moment_of, moment_at}
use Rattle.tie_operands.specs.Steps.{IfWant}
use Rattle.tie_operands.specs.declared.step.TieStep.{TieStep}
use Rattle.tie_operands.specs.declared.step.TieStep.TheVariants.{Want, Retired, Exited, Raised}
use Rattle.tie_switch.specs.Interpreted.{step_of, handled_answer, IfWants, IsWant}
use Rattle.tie_switch.specs.declared.interpreted.Step.{Step}
use Rattle.tie_switch.specs.declared.interpreted.Step.TheVariants.{Wants, Leaves}

fault_answered : (b : Bool) (pages : Pages) (before : VaxState) (exception : Exception) (replies : List ℕ)
    → step_of (answer pages (if b then Ends (Finish (delivering exception before)) else Fault exception) replies)
    ≡ step_of (if b then Comes (Finish (delivering exception before)) [] else Fails exception)
fault_answered true pages before exception replies = refl
fault_answered false pages before exception replies = refl

check_answered : (bad : Option ℕ) (write : Bool) (pages : Pages) (before : VaxState) (t : Tree) (a : Answer) (replies : List ℕ)
    → step_of (answer pages t replies) ≡ step_of (handled_answer before a)
    → step_of (answer pages (unless_bad bad (handled_fault before) write t) replies) ≡ step_of (handled_answer before (unless_bad bad Fails write a))
check_answered None write pages before t a replies same = same
check_answered (Some address) write pages before t a replies same = fault_answered (has_handler before) pages before (AccessViolation address write) replies

-- a tree whose exceptions the handler takes is answered as it is, but for what the handler takes
handled_step : (pages : Pages) (before : VaxState) (tree : Tree) (replies : List ℕ)
    → step_of (answer pages (handled pages before tree) replies) ≡ step_of (handled_answer before (answer pages tree replies))
handled_step pages before (Check address count write tree) replies =
    check_answered (first_bad pages write address count) write pages before (handled pages before tree) (answer pages tree replies) replies (handled_step pages before tree replies)
handled_step pages before (Ask reference on) [] = refl
handled_step pages before (Ask reference on) (reply ∷ replies) = handled_step pages before (on reply) replies
handled_step pages before (Fault exception) replies = fault_answered (has_handler before) pages before exception replies
handled_step pages before (Ends e) replies = refl

-- with nothing pending a thread does its instruction, whose exceptions the handler takes
pub moment_step : (pages : Pages) (thread : ℕ) (state : VaxState) (replies : List ℕ) → state.pending ≡ Nothing
    → step_of (handled_answer state (answer pages (tree_at pages thread state) replies)) ≡ step_of (answer pages (moment_at pages thread state) replies)
moment_step pages thread state replies nothing =
    sym (handled_step pages state (tree_at pages thread state) replies)
    ∙ ap (λ (p : Pending). step_of (answer pages (moment_of pages thread state p) replies)) (sym nothing)

-- a step that wants a reply is that of an instruction that wants it
pub if_wants : {A B : Type 0} (result : Step) (step : TieStep) → IfWants result (IsWant step) → (A → B) → IfWant step A → IfWants result B
if_wants (Leaves last) step is f given = tt
if_wants (Wants reference) (Want wanted) is f given = f given
if_wants (Wants reference) (Retired state) is f given = absurd is
if_wants (Wants reference) (Exited state) is f given = absurd is
if_wants (Wants reference) (Raised exception state) is f given = absurd is

-- a fact follows where a step wants a reply
pub wants_map : {A B : Type 0} (result : Step) → (A → B) → IfWants result A → IfWants result B
wants_map (Leaves last) f given = tt
wants_map (Wants reference) f given = f given
