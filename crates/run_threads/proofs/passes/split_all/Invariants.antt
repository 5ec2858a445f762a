use Rattle.std.proofs.Common.{◌≤◌, vec_capacity}
use Rattle.run_threads.specs.Jobs.{HasSplit}
use Rattle.run_threads.proofs.passes.split_all.Given as goal

abbrev pub invariant-loop-number : goal.invariant-loop-number
invariant-loop-number l = record {
  split : HasSplit l.memory l.keeper l.budget l.jobs.items l.number;
  room : l.count ≤ vec_capacity l.jobs;
}
