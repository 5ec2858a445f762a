use Rattle.std.proofs.Common.{◌≡◌, drop}
use Rattle.micro_ops.specs.Known.{at_start}
use Rattle.micro_ops.specs.Fits.{walk}
use Rattle.micro_ops.proofs.check.walk.Given as goal

abbrev pub invariant-loop-operation : goal.invariant-loop-operation
invariant-loop-operation l = walk l.codes at_start l.program ≡ walk l.codes l.known (drop l.operation-index l.program)
