use Rattle.std.proofs.Common.{◌≤◌, length, vec_capacity}
use Rattle.shared_memory.specs.Passes.{given_of}
use Rattle.run_threads.specs.Jobs.{HasJoined}
use Rattle.run_threads.proofs.passes.join_all.Given as goal

abbrev pub invariant-loop-job : goal.invariant-loop-job
invariant-loop-job l = record {
  joined : HasJoined l.memory (given_of l.initial.keeper) l.keeper l.fn.jobs.items l.ended.items (length l.yielded);
  room : length l.fn.jobs.items ≤ vec_capacity l.ended;
}
