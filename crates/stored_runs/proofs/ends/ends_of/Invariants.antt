use Rattle.std.proofs.Common.{◌≡◌}
use Rattle.stored_runs.specs.Replay.{ends_from}
use Rattle.stored_runs.proofs.Ending.{from, with_first}
use Rattle.stored_runs.proofs.ends.ends_of.Given as goal

abbrev pub invariant-loop-thread : goal.invariant-loop-thread
invariant-loop-thread l = ends_from 0 l.runs l.order.spent l.order.counts ≡ with_first l.ends.items (from l.runs l.order.spent l.order.counts l.thread)
