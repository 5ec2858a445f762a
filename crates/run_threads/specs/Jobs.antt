-- Processors beside their passes.
use Rattle.std.specs.Prelude.{◌≡◌, ℕ, ◌<◌, ◌≤◌, List, [], length, slice_index_or}
use mathlib.Core.Option.{some}
use lib.ListN.{get_elem?}
use Rattle.memory_core.specs.Order.{own}
use Rattle.system_model.specs.Settings.{Setting}
use Rattle.shared_memory.specs.declared.pass.Pass.{Pass}
use Rattle.shared_memory.specs.declared.shared.SharedMemory.{SharedMemory}
use Rattle.shared_memory.specs.declared.view.View.{View}
use Rattle.shared_memory.specs.Lists.{times}
use Rattle.shared_memory.specs.Passes.{set_up_of, view_of, number_of, seen_of, own_of, given_of, ended_of, IsPassOf, IsKeeperOf}
use Rattle.shared_memory.specs.Rule.{ended_as}
use Rattle.tie_switch.specs.Processors.{ProcessorValue}
use Rattle.run_threads.specs.declared.job.Job.{Job}
use Rattle.run_threads.specs.Processors.{IsBegun, HasEnded}

-- it is of that thread, and its pass is of this memory
pub record HasPass (memory : SharedMemory) (thread : ℕ) (job : Job) : Type 0 where
  pub thread_is : job.processor.thread ≡ thread
  pub of_it : IsPassOf memory thread job.pass

-- the pass has seen nothing, and the processor is before its first turn
pub record IsReady (memory : SharedMemory) (thread : ℕ) (job : Job) : Type 0 where
  pub has : HasPass memory thread job
  pub unseen : seen_of job.pass ≡ []
  pub begun : IsBegun (set_up_of memory).image job.processor

-- the processor has ended by what the pass has seen
pub record IsDone (setting : Setting) (memory : SharedMemory) (budget thread : ℕ) (job : Job) : Type 0 where
  pub has : HasPass memory thread job
  pub budget_is : job.processor.budget ≡ budget
  pub ended : HasEnded setting (set_up_of memory) (seen_of job.pass) job.processor

-- ---- of each job, by its place, which is its thread's number
abbrev pub AllReady : SharedMemory → List Job → Type 0
AllReady memory jobs = (j : ℕ) (d : Job) → j < length jobs → IsReady memory j (slice_index_or jobs j d)

abbrev pub AllHavePasses : SharedMemory → List Job → Type 0
AllHavePasses memory jobs = (j : ℕ) (d : Job) → j < length jobs → HasPass memory j (slice_index_or jobs j d)

abbrev pub AllHaveBudget : (budget : ℕ) → List Job → Type 0
AllHaveBudget budget jobs = (j : ℕ) (d : Job) → j < length jobs → (slice_index_or jobs j d).processor.budget ≡ budget

-- ---- jobs are made
-- the keeper has given the numbers below that, each to a job, it has seen nothing, and none was joined
pub record HasSplit (memory : SharedMemory) (keeper : Pass) (budget : ℕ) (jobs : List Job) (number : ℕ) : Type 0 where
  pub keeps : IsKeeperOf memory keeper
  pub unseen : seen_of keeper ≡ []
  pub none_ended : ended_of keeper ≡ []
  pub given : length (given_of keeper) ≡ number
  pub fresh : (p : ℕ) → number ≤ p → times p (given_of keeper) ≡ 0
  pub many : length jobs ≡ number
  pub ready : AllReady memory jobs
  pub budgets : AllHaveBudget budget jobs

-- ---- and joined
-- the keeper has taken in the job's pass, whose own list has its entries, and this is the job's processor
pub record IsJoined (v : View) (job : Job) (k : ProcessorValue) : Type 0 where
  pub processor : k ≡ job.processor
  pub place : ℕ
  pub at : get_elem? v.ended place ≡ some (ended_as (view_of job.pass))
  pub own_is : own_of job.pass ≡ own (number_of job.pass) (seen_of job.pass)

-- the jobs below that number were joined
pub record HasJoined (memory : SharedMemory) (given : List ℕ) (keeper : Pass) (jobs : List Job) (ended : List ProcessorValue) (number : ℕ) : Type 0 where
  pub keeps : IsKeeperOf memory keeper
  pub same : given_of keeper ≡ given
  pub counts : length (ended_of keeper) ≡ number
  pub many : length ended ≡ number
  pub each : (j : ℕ) (d : Job) (k : ProcessorValue) → j < number → IsJoined (view_of keeper) (slice_index_or jobs j d) (slice_index_or ended j k)
