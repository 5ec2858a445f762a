use Rattle.stored_runs.specs.World.{AreBegun}
use Rattle.stored_runs.proofs.world.begun.Given as goal

abbrev pub invariant-loop-thread : goal.invariant-loop-thread
invariant-loop-thread l = AreBegun l.image l.counts l.thread l.threads.items
