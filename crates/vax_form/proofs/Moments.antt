-- Trees whose exceptions a handler takes.
use Rattle.std.proofs.Common.{◌≡◌, ℕ, List, [], ◌∷◌, Bool, true, false, Option, Some, None, refl}
use Rattle.std.specs.Prelude.{if◌then◌else◌}
use Rattle.vax_form.specs.Pages.{first_bad}
use Rattle.vax_form.specs.State.{IsState}
use Rattle.vax_form.specs.Ranges.{IsInRange, ChecksNoWrite, ending_state}
use Rattle.vax_form.specs.Tree.{Tree, Check, Ask, Fault, Ends, Ending, Finish, Exit, Trap, Answer, Fails, unless_bad, answer, outcome, ending_outcome}
use Rattle.vax_form.specs.Moments.{delivering, has_handler, handled_ending, handled_fault, handled, settled, HandledIsSettled, HandledStaysInRange}
use Rattle.vax_form.specs.declared.pages.Pages.{Pages}
use Rattle.vax_form.specs.declared.state.VaxState.{VaxState}
use Rattle.vax_form.specs.declared.state.Exception.{Exception}
use Rattle.vax_form.specs.declared.state.Exception.TheVariants.{AccessViolation, Arithmetic}
use Rattle.vax_form.specs.declared.state.Outcome.TheVariants as outcomes

fault_settled : (b : Bool) (pages : Pages) (before : VaxState) (exception : Exception) (replies : List ℕ)
    → outcome before (answer pages (if b then Ends (Finish (delivering exception before)) else Fault exception) replies)
    ≡ (if b then outcomes.Done (delivering exception before) else outcomes.Raises exception before)
fault_settled true pages before exception replies = refl
fault_settled false pages before exception replies = refl

check_settled : (bad : Option ℕ) (write : Bool) (pages : Pages) (before : VaxState) (t : Tree) (a : Answer) (replies : List ℕ)
    → outcome before (answer pages t replies) ≡ settled (outcome before a)
    → outcome before (answer pages (unless_bad bad (handled_fault before) write t) replies) ≡ settled (outcome before (unless_bad bad Fails write a))
check_settled None write pages before t a replies same = same
check_settled (Some address) write pages before t a replies same = fault_settled (has_handler before) pages before (AccessViolation address write) replies

trap_settled : (b : Bool) (kind : ℕ) (state : VaxState)
    → ending_outcome (if b then Finish (delivering (Arithmetic kind) state) else Trap kind state)
    ≡ (if b then outcomes.Done (delivering (Arithmetic kind) state) else outcomes.Raises (Arithmetic kind) state)
trap_settled true kind state = refl
trap_settled false kind state = refl

end_settled : (e : Ending) → ending_outcome (handled_ending e) ≡ settled (ending_outcome e)
end_settled (Finish state) = refl
end_settled (Exit state) = refl
end_settled (Trap kind state) = trap_settled (has_handler state) kind state

pub handled_is_settled : HandledIsSettled
handled_is_settled pages before (Check address count write tree) replies =
    check_settled (first_bad pages write address count) write pages before (handled pages before tree) (answer pages tree replies) replies (handled_is_settled pages before tree replies)
handled_is_settled pages before (Ask reference on) [] = refl
handled_is_settled pages before (Ask reference on) (reply ∷ replies) = handled_is_settled pages before (on reply) replies
handled_is_settled pages before (Fault exception) replies = fault_settled (has_handler before) pages before exception replies
handled_is_settled pages before (Ends e) replies = end_settled e

delivering_is : (exception : Exception) (state : VaxState) → IsState state → IsState (delivering exception state)
delivering_is exception state is = record { registers = is.registers; longwords = is.longwords; pc = is.pc; psw = is.psw; handler = is.handler }

fault_ranged : (b : Bool) (pages : Pages) (before : VaxState) (exception : Exception) → IsState before
    → IsInRange pages (if b then Ends (Finish (delivering exception before)) else Fault exception)
fault_ranged true pages before exception is = delivering_is exception before is
fault_ranged false pages before exception is = tt

check_ranged : (bad : Option ℕ) (write : Bool) (pages : Pages) (before : VaxState) (t : Tree) → IsState before → (bad ≡ None → IsInRange pages t)
    → IsInRange pages (unless_bad bad (handled_fault before) write t)
check_ranged None write pages before t is range = range refl
check_ranged (Some address) write pages before t is range = fault_ranged (has_handler before) pages before (AccessViolation address write) is

trap_ranged : (b : Bool) (kind : ℕ) (state : VaxState) → IsState state
    → IsState (ending_state (if b then Finish (delivering (Arithmetic kind) state) else Trap kind state))
trap_ranged true kind state is = delivering_is (Arithmetic kind) state is
trap_ranged false kind state is = is

end_ranged : (e : Ending) → IsState (ending_state e) → IsState (ending_state (handled_ending e))
end_ranged (Finish state) is = is
end_ranged (Exit state) is = is
end_ranged (Trap kind state) is = trap_ranged (has_handler state) kind state is

-- no check is left in a handled tree
fault_unchecked : (b : Bool) (pages : Pages) (before : VaxState) (exception : Exception)
    → ChecksNoWrite pages (if b then Ends (Finish (delivering exception before)) else Fault exception)
fault_unchecked true pages before exception = tt
fault_unchecked false pages before exception = tt

check_unchecked : (bad : Option ℕ) (write : Bool) (pages : Pages) (before : VaxState) (t : Tree) → ChecksNoWrite pages t
    → ChecksNoWrite pages (unless_bad bad (handled_fault before) write t)
check_unchecked None write pages before t none = none
check_unchecked (Some address) write pages before t none = fault_unchecked (has_handler before) pages before (AccessViolation address write)

handled_unchecked : (pages : Pages) (before : VaxState) (tree : Tree) → ChecksNoWrite pages (handled pages before tree)
handled_unchecked pages before (Check address count write tree) =
    check_unchecked (first_bad pages write address count) write pages before (handled pages before tree) (handled_unchecked pages before tree)
handled_unchecked pages before (Ask reference on) = λ reply answers. handled_unchecked pages before (on reply)
handled_unchecked pages before (Fault exception) = fault_unchecked (has_handler before) pages before exception
handled_unchecked pages before (Ends e) = tt

pub handled_stays_in_range : HandledStaysInRange
handled_stays_in_range pages before (Check address count write tree) is range =
    check_ranged (first_bad pages write address count) write pages before (handled pages before tree) is
    (λ holds. handled_stays_in_range pages before tree is (range holds))
handled_stays_in_range pages before (Ask reference on) is range = (
  range.0,
  λ reply answers. handled_stays_in_range pages before (on reply) is (range.1 reply answers),
  λ writes reply answers. handled_unchecked pages before (on reply),
)
handled_stays_in_range pages before (Fault exception) is range = fault_ranged (has_handler before) pages before exception is
handled_stays_in_range pages before (Ends e) is range = end_ranged e range
