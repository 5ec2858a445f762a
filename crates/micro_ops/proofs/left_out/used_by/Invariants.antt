use Rattle.std.proofs.Common.{◌-◌, drop, length}
use Rattle.micro_ops.specs.LeftOut.{Tells, is_used}
use Rattle.micro_ops.proofs.left_out.used_by.Given as goal

abbrev pub invariant-loop-i : goal.invariant-loop-i
invariant-loop-i l = Tells l.used (is_used l.codes (drop (length l.program - l.i) l.program))
