use Rattle.std.proofs.Common.{◌≡◌, length}
use Rattle.vest_core.proofs.NewWorlds.{AreBegun}
use Rattle.vest_core.proofs.world.begun.Given as goal

abbrev pub invariant-loop-thread : goal.invariant-loop-thread
invariant-loop-thread l = record {
  count : length l.processors.items ≡ l.thread;
  each : AreBegun 0 l.budget l.threads l.processors.items;
}
