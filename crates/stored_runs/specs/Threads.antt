-- Threads on their way along an order, as the code keeps them.
use Rattle.std.specs.Prelude.{◌≡◌, ℕ, suc, ◌+◌, ◌≤◌, ◌<◌, ◌==◌, List, [], ◌++◌, Option, Some, None, if◌then◌else◌}
use Rattle.image_file.specs.Values.{ImageValue}
use Rattle.vax_form.specs.Tree.{Answer, Wants, Fails, Comes, answer, Life, Runs, Exited, Trapped, Retired}
use Rattle.vax_form.specs.declared.state.Reference.{Reference}
use Rattle.vax_form.specs.declared.state.VaxState.{VaxState}
use Rattle.vax_driven.specs.Threads.{reached}
use Rattle.vax_long.specs.Pending.{moment_at}
use Rattle.vax_run.specs.Values.{threads_of}
use Rattle.tie_operands.specs.Replies.{list_of}
use Rattle.tie_switch.specs.Interpreted.{Stands, step_of}
use Rattle.tie_switch.specs.declared.interpreted.Step.TheVariants as steps
use Rattle.tie_switch.specs.declared.place.Last.{Last}
use Rattle.tie_switch.specs.declared.interpreted.Interpreted.{Interpreted}
use Rattle.stored_runs.specs.declared.thread.Stage.{Stage}
use Rattle.stored_runs.specs.declared.thread.Stage.TheVariants as stages
use Rattle.stored_runs.specs.declared.thread.Thread.{Thread}

-- no reply is left, where the instruction comes to its end
abbrev pub LeavesNone : Answer → Type 0
LeavesNone (Wants reference) = Unit {0}
LeavesNone (Fails exception) = Unit {0}
LeavesNone (Comes e left) = left ≡ []

-- the thread came to that state after so many instructions, and these replies are left
abbrev pub Came : ImageValue → (thread : ℕ) → (replies : List ℕ) → (count : ℕ) → Life → VaxState → (left : List ℕ) → Type 0
Came image thread replies count life state left =
    reached (threads_of image) thread count replies ≡ Some (record { life = life; state = state; left = left })

-- what is interpreted has been given all replies since the boundary but the last
pub record IsUnderWay (image : ImageValue) (thread : ℕ) (replies : List ℕ) (retired : ℕ) (state : VaxState) (interpreted : Interpreted) (reply : Option ℕ) : Type 0 where
  pub given : List ℕ
  pub stands : Stands image.pages thread interpreted state given
  pub came : Came image thread replies retired Runs state (given ++ list_of reply)
  pub takes : LeavesNone (answer image.pages (moment_at image.pages thread state) (given ++ list_of reply))

-- a thread that came to its end
pub record IsOver (image : ImageValue) (thread : ℕ) (replies : List ℕ) (retired : ℕ) (life : Life) (state : VaxState) : Type 0 where
  pub left : List ℕ
  pub came : Came image thread replies retired life state left

abbrev pub IsStage : ImageValue → (thread : ℕ) → (replies : List ℕ) → (retired : ℕ) → VaxState → Stage → Type 0
IsStage image thread replies retired state (stages.Goes interpreted reply) = IsUnderWay image thread replies retired state interpreted reply
IsStage image thread replies retired state stages.Exited = IsOver image thread replies retired Exited state
IsStage image thread replies retired state (stages.Trapped kind) = IsOver image thread replies retired (Trapped kind) state

-- it went on behind its count, where it had that state
pub record IsPassed (image : ImageValue) (thread : ℕ) (replies : List ℕ) (count : ℕ) (state : VaxState) : Type 0 where
  pub left : List ℕ
  pub came : Came image thread replies count Runs state left
  pub next : Retired
  pub later : reached (threads_of image) thread (suc count) replies ≡ Some next

-- its state after its count is noted where it went on
abbrev pub IsNoted : ImageValue → (thread : ℕ) → (replies : List ℕ) → (retired count : ℕ) → Option VaxState → Type 0
IsNoted image thread replies retired count None = retired ≤ count
IsNoted image thread replies retired count (Some state) = (count < retired) × IsPassed image thread replies count state

-- a thread stands where it came with the replies that it got
pub record IsAt (image : ImageValue) (thread : ℕ) (replies : List ℕ) (t : Thread) : Type 0 where
  pub stage : IsStage image thread replies t.retired t.state t.stage
  pub noted : IsNoted image thread replies t.retired t.count t.noted

-- what is interpreted wants the reply to that reference
pub record IsAsking (image : ImageValue) (thread : ℕ) (replies : List ℕ) (reference : Reference) (t : Thread) : Type 0 where
  pub interpreted : Interpreted
  pub stage : t.stage ≡ stages.Goes interpreted None
  pub given : List ℕ
  pub stands : Stands image.pages thread interpreted t.state given
  pub came : Came image thread replies t.retired Runs t.state given
  pub wants : answer image.pages (moment_at image.pages thread t.state) given ≡ Wants reference
  pub noted : IsNoted image thread replies t.retired t.count t.noted

-- what it does at its boundary ended so, and took all replies
pub record EndsSo (image : ImageValue) (thread : ℕ) (replies left : List ℕ) (t : Thread) (last : Last) : Type 0 where
  pub came : Came image thread replies t.retired Runs t.state left
  pub takes : LeavesNone (answer image.pages (moment_at image.pages thread t.state) left)
  pub ends : steps.Leaves last ≡ step_of (answer image.pages (moment_at image.pages thread t.state) left)
  pub noted : IsNoted image thread replies t.retired t.count t.noted

-- it goes on from its boundary by what is begun there
pub record IsBegun (image : ImageValue) (thread : ℕ) (old new : Thread) : Type 0 where
  pub interpreted : Interpreted
  pub stands : Stands image.pages thread interpreted old.state []
  pub is : new ≡ record old { stage = stages.Goes interpreted None }

-- at the next boundary, in that state; behind its count its state there is noted
abbrev pub stood : Stage → VaxState → Thread → Thread
stood stage state t = record {
  stage = stage;
  state = state;
  retired = t.retired + 1;
  count = t.count;
  noted = if t.retired == t.count then Some t.state else t.noted;
}
