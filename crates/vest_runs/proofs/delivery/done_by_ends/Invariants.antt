-- No thread so far raised an exception.
use Rattle.std.proofs.Common.{◌≡◌, false, take}
use Rattle.vest_runs.proofs.Delivering.{raised, spent}
use Rattle.vest_runs.proofs.delivery.done_by_ends.Given as goal

abbrev pub invariant-loop-processor : goal.invariant-loop-processor
invariant-loop-processor l = record {
  no_exception : raised (take l.processor-index l.processors) ≡ false;
  so_far : l.spent ≡ spent (take l.processor-index l.processors);
}
