use Rattle.std.proofs.Common.{◌∙◌, sym, ap, length, ◌-◌, drop}
use Rattle.micro_ops.specs.LeftOut.{is_used}
use Rattle.micro_ops.proofs.Lists.{one_earlier}
use Rattle.micro_ops.proofs.Walks.{none_used}
use Rattle.micro_ops.proofs.left_out.used_by.Goals as goal

pub loop-i-init : goal.loop-i-init
loop-i-init c = none_used c.args.codes c.args.program.now

pub loop-i-preserved : goal.loop-i-preserved
loop-i-preserved c number lt =
    let program = c.args.program.now in
    c.use_from.ensures (is_used c.args.codes (drop (length program - c.loop-i.i) program)) c.loop-i.invariant number lt
    ∙ ap (λ rest. is_used c.args.codes rest number) (sym (one_earlier program c.loop-i.i _ c.loop-i-test.true))
