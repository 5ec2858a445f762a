use Rattle.std.proofs.Common.{◌++◌, ap, ◌∙◌}
use Rattle.report_text.specs.declared.images.Group.{Group}
use Rattle.report_text.specs.Generated.{front_bytes, group_bytes}
use Rattle.report_text.proofs.GeneratedLaws.{code_moved, number_moved}
use Rattle.report_text.proofs.images.generated_code.Goals as goal

pub loop-group-preserved : goal.loop-group-preserved
loop-group-preserved c =
    let number = c.args.number in
    let group = c.loop-group._group in
    let pushed = c.in_ok-push.ensures ∙ ap (λ (g : Group). c.loop-group.code.items ++ group_bytes g) c.of.ensures in
    record {
      number = number_moved number group _ _ c.loop-group.invariant.number c.next_number-x.ensures;
      code = code_moved number group _ front_bytes _ _ c.loop-group.invariant.number c.loop-group.invariant.code pushed;
    }
