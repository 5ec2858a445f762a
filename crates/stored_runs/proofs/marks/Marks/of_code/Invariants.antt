use Rattle.std.proofs.Common.{take}
use Rattle.stored_runs.proofs.Marking.{AreOf}
use Rattle.stored_runs.proofs.marks.Marks.of_code.Given as goal

abbrev pub invariant-loop-range : goal.invariant-loop-range
invariant-loop-range l = AreOf (take l.range-index l.range-items) l.ranges.items
