-- Nothing has changed yet.
use Rattle.vt_outside.proofs.Settling.{Still}
use Rattle.vt_outside.proofs.replacing.replace.Given as goal

abbrev pub invariant-loop-part : goal.invariant-loop-part
invariant-loop-part g l = Still (g.D.Disk.meaning l.initial.disk) (g.D.Disk.meaning l.disk)
