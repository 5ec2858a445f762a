-- Jobs that run at the same time.
use Rattle.std.specs.Prelude.{◌≡◌, ℕ, ◌<◌, List, length, slice_index_or}
use Rattle.run_threads.specs.declared.together.JobThread.{JobThread}

module _ {J : Type 0} where
  -- each of them may be run
  abbrev pub AllCanRun : (J → Type 0) → List J → Type 0
  AllCanRun can_run jobs = (j : ℕ) (d : J) → j < length jobs → can_run (slice_index_or jobs j d)

  -- it runs that job, by that runner
  pub record IsThreadOf {T : Type 0} (runner : T) (job : J) (thread : JobThread J T) : Type 0 where
    pub runner_is : thread.handle.promise.runner.value ≡ runner
    pub job_is : thread.handle.promise.job.value ≡ job

  -- a thread runs each job below that number
  pub record HaveStarted {T : Type 0} (runner : T) (jobs : List J) (threads : List (JobThread J T)) (number : ℕ) : Type 0 where
    pub many : length threads ≡ number
    pub each : (j : ℕ) (d : J) (t : JobThread J T) → j < number → IsThreadOf runner (slice_index_or jobs j d) (slice_index_or threads j t)

  -- each job below that number gave the one at its place
  pub record HaveRan (gives : J → J → Type 0) (before after : List J) (number : ℕ) : Type 0 where
    pub many : length after ≡ number
    pub each : (j : ℕ) (d : J) → j < number → gives (slice_index_or before j d) (slice_index_or after j d)
