use Rattle.std.proofs.Common.{◌≤◌, length, vec_capacity}
use Rattle.run_threads.specs.Together.{HaveRan, HaveStarted}
use Rattle.run_threads.proofs.together.start_and_join.Given as goal

abbrev pub invariant-loop-job : goal.invariant-loop-job
invariant-loop-job g l = record {
  started : HaveStarted l.fn.runner l.fn.jobs.items l.threads.items (length l.yielded);
  room : length l.fn.jobs.items ≤ vec_capacity l.threads;
}

abbrev pub invariant-loop-thread : goal.invariant-loop-thread
invariant-loop-thread g l = record {
  ran : HaveRan (g.T.Runner.run_gives l.fn.runner) l.fn.jobs.items l.ended.items (length l.yielded);
  room : length l.fn.jobs.items ≤ vec_capacity l.ended;
}
