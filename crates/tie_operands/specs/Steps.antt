-- What a step of an interpreted instruction shows, and for what an interpreted instruction stands.
use Rattle.std.specs.Prelude.{◌≡◌, ℕ, List, Result, Ok, Err}
use Rattle.vax_form.specs.Tree.{Tree, Check, Ask, Fault, Ends, Answer, Wants, Fails, Comes, answer, feed, outcome, head_outcome, stop_outcome, ending, ending_outcome}
use Rattle.vax_form.specs.declared.pages.Pages.{Pages}
use Rattle.vax_form.specs.declared.script.End.{End}
use Rattle.vax_form.specs.declared.script.Stop.{Stop}
use Rattle.vax_form.specs.declared.state.Exception.{Exception}
use Rattle.vax_form.specs.declared.state.Outcome.{Outcome}
use Rattle.vax_form.specs.declared.state.Outcome.TheVariants as outcomes
use Rattle.vax_form.specs.declared.state.VaxState.{VaxState}
use Rattle.vax_meaning.specs.Play.{IsFault}
use Rattle.tie_operands.specs.declared.step.TieStep.{TieStep}
use Rattle.tie_operands.specs.declared.step.TieStep.TheVariants.{Want, Retired, Exited, Raised}

-- an outcome as a step
abbrev pub step_of : Outcome → TieStep
step_of (outcomes.Wants reference) = Want reference
step_of (outcomes.Done state) = Retired state
step_of (outcomes.Exits state) = Exited state
step_of (outcomes.Raises exception state) = Raised exception state

-- a fact where a step wants a reply
abbrev pub IfWant : TieStep → Type 0 → Type 0
IfWant (Want reference) P = P
IfWant (Retired state) P = Unit {0}
IfWant (Exited state) P = Unit {0}
IfWant (Raised exception state) P = Unit {0}

-- where the head of a tree whose checks hold is a fault, it is no arithmetic exception
abbrev pub FaultsAtHead : Tree → Type 0
FaultsAtHead (Check address count write tree) = FaultsAtHead tree
FaultsAtHead (Ask reference on) = Unit {0}
FaultsAtHead (Fault exception) = IsFault exception
FaultsAtHead (Ends e) = Unit {0}

-- a step shows the head of what is left of a tree
pub record Shows (before : VaxState) (tree : Tree) (step : TieStep) : Type 0 where
  pub head : step ≡ step_of (head_outcome before tree)
  pub faults : FaultsAtHead tree

-- going through a script to its end shows the head of its tree
abbrev pub Passes : VaxState → Tree → Result End Stop → VaxState → Type 0
Passes before tree (Ok end) after = Shows before tree (step_of (ending_outcome (ending end after)))
Passes before tree (Err stop) after = Shows before tree (step_of (stop_outcome before stop))

-- the step of an instruction that was gone through from its begin, from one state to another
abbrev pub step_by : (before : VaxState) → Result End Stop → (after : VaxState) → TieStep
step_by before (Ok end) after = step_of (ending_outcome (ending end after))
step_by before (Err stop) after = step_of (stop_outcome before stop)

-- what failed did so by a fault: an arithmetic exception is a trap
abbrev pub FailsByFault : Answer → Type 0
FailsByFault (Wants reference) = Unit {0}
FailsByFault (Fails exception) = IsFault exception
FailsByFault (Comes e left) = Unit {0}

-- it comes to what the tree comes to with these replies, and fails by faults alone
pub record SeenAs (pages : Pages) (before : VaxState) (tree : Tree) (replies : List ℕ) (step : TieStep) : Type 0 where
  pub answers : step ≡ step_of (outcome before (answer pages tree replies))
  pub faults : FailsByFault (answer pages tree replies)

-- a tree that wants a reference first
abbrev pub IsAsking : Tree → Type 0
IsAsking (Check address count write tree) = IsAsking tree
IsAsking (Ask reference on) = Unit {0}
IsAsking (Fault exception) = ⊥
IsAsking (Ends e) = ⊥

-- what stands for an instruction that was begun in that state, with these replies made to its tree: the state before it,
-- and the rest of the tree
pub record StandsFor (pages : Pages) (kept : VaxState) (left : Tree) (state : VaxState) (tree : Tree) (replies : List ℕ) : Type 0 where
  pub before : kept ≡ state
  pub rest : left ≡ feed pages tree replies

-- a step comes to what the tree comes to with these replies, and what is left stands for it where it wants another
pub record StepsAs (pages : Pages) (kept : VaxState) (left : Tree) (step : TieStep) (state : VaxState) (tree : Tree) (replies : List ℕ) : Type 0 where
  pub answers : step ≡ step_of (outcome state (answer pages tree replies))
  pub faults : FailsByFault (answer pages tree replies)
  pub stands : IfWant step (StandsFor pages kept left state tree replies)
