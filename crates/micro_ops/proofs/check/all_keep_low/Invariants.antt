use Rattle.std.proofs.Common.{◌≡◌, ◌-◌, true, drop, length}
use Rattle.micro_ops.specs.LeftOut.{Tells, is_used}
use Rattle.micro_ops.specs.Fits.{all_keep_low}
use Rattle.micro_ops.proofs.check.all_keep_low.Given as goal

abbrev pub invariant-loop-i : goal.invariant-loop-i
invariant-loop-i l =
    Tells l.used (is_used l.codes (drop (length l.program - l.i) l.program))
    × (all_keep_low l.codes (drop (length l.program - l.i) l.program) ≡ true)
