use Rattle.std.proofs.Common.{sym, ◌∙◌}
use Rattle.micro_ops.specs.declared.program.Micro.TheVariants.{SetPsw}
use Rattle.micro_ops.proofs.Walks.{walk_ended}
use Rattle.micro_ops.proofs.check.walk.Goals as goal

pub returns-then-known : goal.returns-then-known
returns-then-known c =
    sym (c.loop-operation.invariant ∙ walk_ended c.args.codes c.loop-operation.known c.args.program.now c.loop-operation.operation-index (SetPsw 0) c.loop-operation-test.true c.if-known.true)
