-- A delivery and a resumption end in no trap and no exit, so that whatever they raise is a fault.
use Rattle.std.proofs.Common.{◌≡◌, ◌≢◌, ℕ, List, [], ◌∷◌, Bool, true, false, Option, Some, None, refl}
use Rattle.std.specs.Prelude.{if◌then◌else◌}
use Rattle.vax_form.specs.Moments.{delivering, has_handler, handled_fault, handled}
use Rattle.vax_form.specs.Pages.{first_bad, code_byte_at}
use Rattle.vax_form.specs.Script.{Script, pure, bind, choose, ask, check_bytes, read_code, fail, get, change}
use Rattle.vax_form.specs.Tree.{Tree, Check, Ask, Fault, Ends, Ending, Finish, Exit, Trap, Answer, Fails, tree_of, code_or_fault, instruction_tree, unless_bad, answer, outcome}
use Rattle.vax_form.specs.declared.pages.Pages.{Pages}
use Rattle.vax_form.specs.declared.state.Exception.{Exception}
use Rattle.vax_form.specs.declared.state.Exception.TheVariants.{AccessViolation}
use Rattle.vax_form.specs.declared.state.Outcome.{Outcome}
use Rattle.vax_form.specs.declared.state.Outcome.TheVariants as outcomes
use Rattle.vax_form.specs.declared.state.Pending.{Pending}
use Rattle.vax_form.specs.declared.state.Pending.TheVariants.{Nothing, Deliver, Resume}
use Rattle.vax_form.specs.declared.state.VaxState.{VaxState}
use Rattle.vax_long.specs.Pending.{frame_address, frame_bytes, go_on, push_exception, is_user_psl, resume, moment_of, moment_at}
use Rattle.vax_long.specs.Registers.{push_checked, pop_checked}
use Rattle.tie_switch.specs.Interpreted.{step_of}
use Rattle.tie_switch.specs.declared.interpreted.Step.{Step}
use Rattle.tie_switch.specs.declared.interpreted.Step.TheVariants.{Wants, Leaves}
use Rattle.tie_switch.specs.declared.place.Last.TheVariants as lasts

abbrev IsFinish : Ending → Type 0
IsFinish (Finish state) = Unit {0}
IsFinish (Exit state) = ⊥
IsFinish (Trap kind state) = ⊥

-- at each of its ends the thread goes on
abbrev GoesOn : Tree → Type 0
GoesOn (Check address count write tree) = GoesOn tree
GoesOn (Ask reference on) = (reply : ℕ) → GoesOn (on reply)
GoesOn (Fault exception) = Unit {0}
GoesOn (Ends e) = IsFinish e

-- ---- a tree that goes on fails by a fault alone
-- what is seen as a step, where all that is raised is a fault
abbrev pub faulting_step : Outcome → Step
faulting_step (outcomes.Wants reference) = Wants reference
faulting_step (outcomes.Done state) = Leaves (lasts.Finish state)
faulting_step (outcomes.Exits state) = Leaves (lasts.Exit state)
faulting_step (outcomes.Raises exception state) = Leaves (lasts.Fault exception)

end_faulting : (e : Ending) (before : VaxState) (pages : Pages) (replies : List ℕ) → IsFinish e
    → faulting_step (outcome before (answer pages (Ends e) replies)) ≡ step_of (answer pages (Ends e) replies)
end_faulting (Finish state) before pages replies on = refl
end_faulting (Exit state) before pages replies on = absurd on
end_faulting (Trap kind state) before pages replies on = absurd on

check_faulting : (bad : Option ℕ) (write : Bool) (before : VaxState) (a : Answer) → faulting_step (outcome before a) ≡ step_of a
    → faulting_step (outcome before (unless_bad bad Fails write a)) ≡ step_of (unless_bad bad Fails write a)
check_faulting None write before a same = same
check_faulting (Some address) write before a same = refl

faulting : (pages : Pages) (before : VaxState) (tree : Tree) (replies : List ℕ) → GoesOn tree
    → faulting_step (outcome before (answer pages tree replies)) ≡ step_of (answer pages tree replies)
faulting pages before (Check address count write tree) replies on =
    check_faulting (first_bad pages write address count) write before (answer pages tree replies) (faulting pages before tree replies on)
faulting pages before (Ask reference go) [] on = refl
faulting pages before (Ask reference go) (reply ∷ replies) on = faulting pages before (go reply) replies (on reply)
faulting pages before (Fault exception) replies on = refl
faulting pages before (Ends e) replies on = end_faulting e before pages replies on

-- ---- what is pending goes on
chosen_on : (b : Bool) (t u : Tree) → GoesOn t → GoesOn u → GoesOn (if b then t else u)
chosen_on true t u first second = first
chosen_on false t u first second = second

code_on : (byte : Option ℕ) (address : ℕ) (rest : ℕ → Tree) → ((b : ℕ) → GoesOn (rest b)) → GoesOn (code_or_fault byte address rest)
code_on None address rest on = tt
code_on (Some byte) address rest on = on byte

-- a script does, where all that comes behind it does
script_on : (A : Type 0) (pages : Pages) (script : Script A) (state : VaxState) (rest : A → VaxState → Tree) → ((x : A) (after : VaxState) → GoesOn (rest x after))
    → GoesOn (tree_of pages script state rest)
script_on _ pages (pure x) state rest on = on x state
script_on _ pages (bind m f) state rest on = script_on _ pages m state (λ x after. tree_of pages (f x) after rest) (λ x after. script_on _ pages (f x) after rest on)
script_on _ pages (choose b m n) state rest on = chosen_on b (tree_of pages m state rest) (tree_of pages n state rest) (script_on _ pages m state rest on) (script_on _ pages n state rest on)
script_on _ pages (ask reference) state rest on = λ reply. on reply state
script_on _ pages (check_bytes address count write) state rest on = on tt state
script_on _ pages (read_code address) state rest on = code_on (code_byte_at pages address) address (λ byte. rest byte state) (λ byte. on byte state)
script_on _ pages (fail exception) state rest on = tt
script_on _ pages (get f) state rest on = on (f state) state
script_on _ pages (change f) state rest on = on tt (f state)

pushed_on : (pages : Pages) (exception : Exception) (state : VaxState) → GoesOn (instruction_tree pages (push_exception exception) state)
unfolding push_exception go_on
pushed_on pages exception state =
    script_on _ pages (push_checked _) _ _ (λ _ _.
    script_on _ pages (push_checked _) _ _ (λ _ _.
    script_on _ pages (push_checked _) _ _ (λ _ _.
    script_on _ pages (push_checked _) _ _ (λ _ _.
    script_on _ pages (push_checked _) _ _ (λ _ _. tt)))))

resumed_on : (pages : Pages) (state : VaxState) → GoesOn (instruction_tree pages resume state)
unfolding resume go_on
resumed_on pages state =
    script_on _ pages pop_checked _ _ (λ _ _.
    script_on _ pages pop_checked _ _ (λ _ _.
    script_on _ pages pop_checked _ _ (λ _ _.
    script_on _ pages pop_checked _ _ (λ pc _.
    script_on _ pages pop_checked _ _ (λ psl _. chosen_on (is_user_psl psl) _ _ tt tt)))))

-- and so does what the handler takes the exceptions of
fault_on : (b : Bool) (before : VaxState) (exception : Exception) → GoesOn (if b then Ends (Finish (delivering exception before)) else Fault exception)
fault_on true before exception = tt
fault_on false before exception = tt

check_on : (bad : Option ℕ) (failed : Exception → Tree) (write : Bool) (t : Tree) → ((exception : Exception) → GoesOn (failed exception)) → GoesOn t
    → GoesOn (unless_bad bad failed write t)
check_on None failed write t failing on = on
check_on (Some address) failed write t failing on = failing (AccessViolation address write)

end_on : (e : Ending) → IsFinish e → (pages : Pages) (before : VaxState) → GoesOn (handled pages before (Ends e))
end_on (Finish state) on pages before = tt
end_on (Exit state) on pages before = absurd on
end_on (Trap kind state) on pages before = absurd on

handled_on : (pages : Pages) (before : VaxState) (tree : Tree) → GoesOn tree → GoesOn (handled pages before tree)
handled_on pages before (Check address count write tree) on =
    check_on (first_bad pages write address count) (handled_fault before) write (handled pages before tree) (λ e. fault_on (has_handler before) before e) (handled_on pages before tree on)
handled_on pages before (Ask reference go) on = λ reply. handled_on pages before (go reply) (on reply)
handled_on pages before (Fault exception) on = fault_on (has_handler before) before exception
handled_on pages before (Ends e) on = end_on e on pages before

pending_on : (pages : Pages) (thread : ℕ) (state : VaxState) (pending : Pending) → pending ≢ Nothing → GoesOn (moment_of pages thread state pending)
pending_on pages thread state Nothing some = absurd (some refl)
pending_on pages thread state (Deliver exception) some =
    check_on (first_bad pages true (frame_address state) frame_bytes) (λ _. Fault exception) true (instruction_tree pages (push_exception exception) state) (λ e. tt)
    (pushed_on pages exception state)
pending_on pages thread state Resume some = handled_on pages state (instruction_tree pages resume state) (resumed_on pages state)

-- what is seen of what is pending, as a step
pub awaited_step : (pages : Pages) (thread : ℕ) (state : VaxState) (replies : List ℕ) → state.pending ≢ Nothing
    → faulting_step (outcome state (answer pages (moment_at pages thread state) replies)) ≡ step_of (answer pages (moment_at pages thread state) replies)
awaited_step pages thread state replies some = faulting pages state (moment_at pages thread state) replies (pending_on pages thread state state.pending some)
