use Rattle.std.proofs.Common.{◌≡◌, length, map, take, vec_capacity}
use Rattle.tie_switch.specs.Processors.{processor_of}
use Rattle.vest_runs.specs.Order.{end_of}
use Rattle.vest_runs.proofs.order.put_ends.Given as goal

abbrev pub invariant-loop-processor : goal.invariant-loop-processor
invariant-loop-processor l = record {
  ends : l.ends.items ≡ map end_of (map processor_of (take l.processor-index l.processors));
  count : length l.ends.items ≡ l.processor-index;
  room : vec_capacity l.ends ≡ vec_capacity l.fn.ends;
}
