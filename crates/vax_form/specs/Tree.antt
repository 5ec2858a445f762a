-- The tree of checks and references of a script, and what it comes to. The meaning of an instruction is its tree.
-- VAX Architecture Reference Manual, "Exceptions and Interrupts": a fault leaves the state as it was before the
-- instruction, and a trap comes behind it.
use Rattle.std.specs.Prelude.{◌≡◌, ℕ, List, [], ◌∷◌, Bool, false, Option, Some, None, Result, Ok, Err, if◌then◌else◌}
use Rattle.vax_form.specs.Pages.{first_bad, code_byte_at}
use Rattle.vax_form.specs.State.{Answers}
use Rattle.vax_form.specs.Script.{Script, Moment, Halt, pure, bind, choose, ask, check_bytes, read_code, fail, get, change}
use Rattle.vax_form.specs.declared.pages.Pages.{Pages}
use Rattle.vax_form.specs.declared.state.VaxState.{VaxState}
use Rattle.vax_form.specs.declared.state.Reference.{Reference}
use Rattle.vax_form.specs.declared.state.Exception.{Exception}
use Rattle.vax_form.specs.declared.state.Exception.TheVariants.{AccessViolation, Arithmetic}
use Rattle.vax_form.specs.declared.state.Outcome.{Outcome}
use Rattle.vax_form.specs.declared.state.Outcome.TheVariants as outcomes
use Rattle.vax_form.specs.declared.script.End.{End}
use Rattle.vax_form.specs.declared.script.End.TheVariants as ends
use Rattle.vax_form.specs.declared.script.Stop.{Stop}
use Rattle.vax_form.specs.declared.script.Stop.TheVariants as stops

-- how an instruction ends that is done, and the state that it leaves
pub data Ending : Type 0 where
  Finish : VaxState → Ending
  -- the thread ends
  Exit : VaxState → Ending
  -- an arithmetic trap of that type
  Trap : (kind : ℕ) → VaxState → Ending

pub data Tree : Type 0 where
  -- goes on where each of the bytes may be used with that intent
  Check : (address count : ℕ) → (write : Bool) → Tree → Tree
  -- makes a reference, and goes on by its reply
  Ask : Reference → (ℕ → Tree) → Tree
  -- a fault, which carries no state: the state before the instruction is given with it where it is seen
  Fault : Exception → Tree
  Ends : Ending → Tree

abbrev pub code_or_fault : Option ℕ → (address : ℕ) → (ℕ → Tree) → Tree
code_or_fault None address rest = Fault (AccessViolation address false)
code_or_fault (Some byte) address rest = rest byte

-- a script's tree from a state on, with what comes behind it. The pages give the bytes of the code alone
abbrev pub tree_of : {A : Type 0} → Pages → Script A → VaxState → (A → VaxState → Tree) → Tree
tree_of pages (pure x) state rest = rest x state
tree_of pages (bind m f) state rest = tree_of pages m state (λ x after. tree_of pages (f x) after rest)
tree_of pages (choose b m n) state rest = if b then tree_of pages m state rest else tree_of pages n state rest
tree_of pages (ask reference) state rest = Ask reference (λ reply. rest reply state)
tree_of pages (check_bytes address count write) state rest = Check address count write (rest tt state)
tree_of pages (read_code address) state rest = code_or_fault (code_byte_at pages address) address (λ byte. rest byte state)
tree_of pages (fail exception) state rest = Fault exception
tree_of pages (get f) state rest = rest (f state) state
tree_of pages (change f) state rest = rest tt (f state)

abbrev pub ending : End → VaxState → Ending
ending ends.Done state = Finish state
ending ends.Exits state = Exit state
ending (ends.Traps kind) state = Trap kind state

abbrev pub ends_with : End → VaxState → Tree
ends_with end state = Ends (ending end state)

-- the tree of an instruction's script
abbrev pub instruction_tree : Pages → Script End → VaxState → Tree
instruction_tree pages script state = tree_of pages script state ends_with

-- what a tree comes to with some replies: a reference that has none, a fault, or an end with the replies that are left
pub data Answer : Type 0 where
  Wants : Reference → Answer
  Fails : Exception → Answer
  Comes : Ending → List ℕ → Answer

abbrev pub unless_bad : {A : Type 0} → Option ℕ → (Exception → A) → (write : Bool) → A → A
unless_bad None failed write on = on
unless_bad (Some address) failed write on = failed (AccessViolation address write)

abbrev pub answer : Pages → Tree → List ℕ → Answer
answer pages (Check address count write tree) replies = unless_bad (first_bad pages write address count) Fails write (answer pages tree replies)
answer pages (Ask reference on) [] = Wants reference
answer pages (Ask reference on) (reply ∷ replies) = answer pages (on reply) replies
answer pages (Fault exception) replies = Fails exception
answer pages (Ends e) replies = Comes e replies

-- the rest of a tree behind some replies: checks that hold are passed
abbrev pub feed : Pages → Tree → List ℕ → Tree
feed pages (Check address count write tree) replies = unless_bad (first_bad pages write address count) Fault write (feed pages tree replies)
feed pages (Ask reference on) [] = Ask reference on
feed pages (Ask reference on) (reply ∷ replies) = feed pages (on reply) replies
feed pages (Fault exception) replies = Fault exception
feed pages (Ends e) replies = Ends e

-- what is seen of an end: a trap shows the state behind the instruction
abbrev pub ending_outcome : Ending → Outcome
ending_outcome (Finish state) = outcomes.Done state
ending_outcome (Exit state) = outcomes.Exits state
ending_outcome (Trap kind state) = outcomes.Raises (Arithmetic kind) state

-- what is seen of an answer: a fault shows the state before the instruction
abbrev pub outcome : (before : VaxState) → Answer → Outcome
outcome before (Wants reference) = outcomes.Wants reference
outcome before (Fails exception) = outcomes.Raises exception before
outcome before (Comes e left) = ending_outcome e

-- what is seen of the head of a tree whose checks hold
abbrev pub head_outcome : (before : VaxState) → Tree → Outcome
head_outcome before (Check address count write tree) = head_outcome before tree
head_outcome before (Ask reference on) = outcomes.Wants reference
head_outcome before (Fault exception) = outcomes.Raises exception before
head_outcome before (Ends e) = ending_outcome e

-- how a thread goes on behind an instruction that retired
pub data Life : Type 0 where
  Runs : Life
  Exited : Life
  Trapped : (kind : ℕ) → Life

-- what an instruction that retired leaves: its thread's life and state, and the replies that it did not take
pub record Retired : Type 0 where
  pub life : Life
  pub state : VaxState
  pub left : List ℕ

-- an instruction retires where it finishes, exits or traps; a fault retires nothing
abbrev pub retires : Answer → Option Retired
retires (Wants reference) = None
retires (Fails exception) = None
retires (Comes (Finish state) left) = Some (record { life = Runs; state = state; left = left })
retires (Comes (Exit state) left) = Some (record { life = Exited; state = state; left = left })
retires (Comes (Trap kind state) left) = Some (record { life = Trapped kind; state = state; left = left })

-- what comes behind a script, where the script came to its end
abbrev pub behind : {A : Type 0} → Result (A × Moment) Halt → (A → VaxState → Tree) → Answer
behind (Ok (x, moment)) rest = answer moment.pages (rest x moment.state) moment.replies
behind (Err (stops.Wants reference, left)) rest = Wants reference
behind (Err (stops.Fails exception, left)) rest = Fails exception

-- what is seen of an instruction's script that was run
abbrev pub run_outcome : (before : VaxState) → Result (End × Moment) Halt → Outcome
run_outcome before (Ok (end, moment)) = ending_outcome (ending end moment.state)
run_outcome before (Err (stops.Wants reference, left)) = outcomes.Wants reference
run_outcome before (Err (stops.Fails exception, left)) = outcomes.Raises exception before

-- what is seen of a stop
abbrev pub stop_outcome : (before : VaxState) → Stop → Outcome
stop_outcome before (stops.Wants reference) = outcomes.Wants reference
stop_outcome before (stops.Fails exception) = outcomes.Raises exception before

-- the same checks, references and ends, as long as each reference has a reply that can be given to it
abbrev pub Same : Tree → Tree → Type 0
Same (Check address count write tree) (Check address' count' write' tree') = (address ≡ address') × (count ≡ count') × (write ≡ write') × Same tree tree'
Same (Ask reference on) (Ask reference' on') = (reference ≡ reference') × ((reply : ℕ) → Answers reference reply → Same (on reply) (on' reply))
Same (Fault exception) (Fault exception') = exception ≡ exception'
Same (Ends e) (Ends e') = e ≡ e'
Same _ _ = ⊥

-- replies that can be given to the references of a tree
abbrev pub AnswersTree : Tree → List ℕ → Type 0
AnswersTree (Check address count write tree) replies = AnswersTree tree replies
AnswersTree (Ask reference on) [] = Unit {0}
AnswersTree (Ask reference on) (reply ∷ replies) = Answers reference reply × AnswersTree (on reply) replies
AnswersTree (Fault exception) replies = Unit {0}
AnswersTree (Ends e) replies = Unit {0}
