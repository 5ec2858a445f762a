-- What a thread's handler takes: the faults and traps of its instructions.
-- VAX Architecture Reference Manual, "Exceptions and Interrupts"; the handler is this system's own.
use Rattle.std.specs.Prelude.{◌≡◌, ℕ, ◌==◌, not, Bool, List, Result, Ok, Err, if◌then◌else◌}
use Rattle.vax_form.specs.Pages.{first_bad}
use Rattle.vax_form.specs.State.{IsState}
use Rattle.vax_form.specs.Ranges.{IsInRange}
use Rattle.vax_form.specs.Script.{Script, Moment, Halt, run}
use Rattle.vax_form.specs.Tree.{Tree, Answer, Wants, Fails, Comes, tree_of, Check, Ask, Fault, Ends, Ending, Finish, Exit, Trap, unless_bad, answer, outcome}
use Rattle.vax_form.specs.declared.pages.Pages.{Pages}
use Rattle.vax_form.specs.declared.state.VaxState.{VaxState}
use Rattle.vax_form.specs.declared.state.Pending.TheVariants.{Deliver}
use Rattle.vax_form.specs.declared.state.Exception.{Exception}
use Rattle.vax_form.specs.declared.state.Exception.TheVariants.{Arithmetic}
use Rattle.vax_form.specs.declared.script.Stop.TheVariants as stops
use Rattle.vax_form.specs.declared.state.Outcome.{Outcome}
use Rattle.vax_form.specs.declared.state.Outcome.TheVariants as outcomes

-- the state in which the handler is to be given an exception
abbrev pub delivering : Exception → VaxState → VaxState
delivering exception state = record state { pending = Deliver exception }

-- an address of 0 is none
abbrev pub has_handler : VaxState → Bool
has_handler state = not (state.handler == 0)

-- a trap goes to the handler, where there is one
abbrev pub handled_ending : Ending → Ending
handled_ending (Finish state) = Finish state
handled_ending (Exit state) = Exit state
handled_ending (Trap kind state) = if has_handler state then Finish (delivering (Arithmetic kind) state) else Trap kind state

-- and so does a fault, with the state before the instruction
abbrev pub handled_fault : VaxState → Exception → Tree
handled_fault before exception = if has_handler before then Ends (Finish (delivering exception before)) else Fault exception

-- an instruction whose faults and traps the handler takes
abbrev pub handled : Pages → (before : VaxState) → Tree → Tree
handled pages before (Check address count write tree) = unless_bad (first_bad pages write address count) (handled_fault before) write (handled pages before tree)
handled pages before (Ask reference on) = Ask reference (λ reply. handled pages before (on reply))
handled pages before (Fault exception) = handled_fault before exception
handled pages before (Ends e) = Ends (handled_ending e)

-- what is seen of an instruction whose exceptions the handler takes
abbrev pub settled : Outcome → Outcome
settled (outcomes.Raises exception state) = if has_handler state then outcomes.Done (delivering exception state) else outcomes.Raises exception state
settled other = other

-- what is seen of a tree with a handler is what is seen of it, settled
abbrev pub HandledIsSettled : Type 0
HandledIsSettled = (pages : Pages) (before : VaxState) (tree : Tree) (replies : List ℕ)
    → outcome before (answer pages (handled pages before tree) replies) ≡ settled (outcome before (answer pages tree replies))

-- it stays in range
abbrev pub HandledStaysInRange : Type 0
HandledStaysInRange = (pages : Pages) (before : VaxState) (tree : Tree) → IsState before → IsInRange pages tree → IsInRange pages (handled pages before tree)

-- what a failure that the handler takes leaves, with the replies that were left there
abbrev pub handled_failure : (before : VaxState) → Exception → (left : List ℕ) → Answer
handled_failure before exception left = if has_handler before then Comes (Finish (delivering exception before)) left else Fails exception

-- what a script comes to whose exceptions the handler takes, with what comes behind it
abbrev pub handled_behind : {A : Type 0} → (before : VaxState) → Result (A × Moment) Halt → (A → VaxState → Tree) → Answer
handled_behind before (Ok (x, moment)) rest = answer moment.pages (handled moment.pages before (rest x moment.state)) moment.replies
handled_behind before (Err (stops.Wants reference, left)) rest = Wants reference
handled_behind before (Err (stops.Fails exception, left)) rest = handled_failure before exception left

-- answering the tree of a script whose exceptions the handler takes is running the script
abbrev pub HandlingIsRunning : Type 1
HandlingIsRunning = (A : Type 0) (script : Script A) (before : VaxState) (moment : Moment) (rest : A → VaxState → Tree)
    → answer moment.pages (handled moment.pages before (tree_of moment.pages script moment.state rest)) moment.replies ≡ handled_behind before (run script moment) rest
