-- A run before its first step.
use Rattle.std.specs.Prelude.{◌≡◌, ℕ, ◌<◌, ◌≤◌, List, [], Vec, length, vec_capacity}
use Rattle.std.specs.declared.alloc.Global.{Global}
use Rattle.memory_core.specs.declared.entry.SetUp.{SetUp}
use Rattle.shared_memory.specs.declared.pass.Pass.{Pass}
use Rattle.shared_memory.specs.declared.shared.SharedMemory.{SharedMemory}
use Rattle.shared_memory.specs.Passes.{set_up_of}
use Rattle.tie_switch.specs.Processors.{ProcessorValue}
use Rattle.legal_history.specs.Law.{IsRun}
use Rattle.run_threads.specs.declared.job.Job.{Job}
use Rattle.run_threads.specs.Jobs.{HasSplit}

-- what it starts with, and the most steps of each processor
pub record RunningValue : Type 0 where
  pub set_up : SetUp
  pub budget : ℕ

-- a job for each thread of the image, and room for their processors
pub record IsRunning (memory : SharedMemory) (keeper : Pass) (budget : ℕ) (jobs : List Job) (ended : Vec ProcessorValue Global) : Type 0 where
  pub run : IsRun (set_up_of memory)
  pub split : HasSplit memory keeper budget jobs (length (set_up_of memory).image.threads)
  pub some : 0 < length jobs
  pub empty : ended.items ≡ []
  pub room : length jobs ≤ vec_capacity ended
