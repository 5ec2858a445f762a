use Rattle.std.proofs.Common.{◌≡◌, ◌++◌, drop}
use Rattle.image_parts.specs.Program.{threads_from}
use Rattle.image_parts.proofs.stacks.threads_of.Given as goal

abbrev pub invariant-loop-thread : goal.invariant-loop-thread
invariant-loop-thread l = l.threads.items ++ threads_from l.size l.thread (drop l.thread l.starts) ≡ threads_from l.size 0 l.starts
