use Rattle.std.proofs.Common.{[], take}
use Rattle.vax_run.specs.Threads.{AreThreads}
use Rattle.vax_run.proofs.world.threads_of.Given as goal

abbrev pub invariant-loop-start : goal.invariant-loop-start
invariant-loop-start l = AreThreads l.image 0 [] (take l.start-index l.start-items) l.threads.items
