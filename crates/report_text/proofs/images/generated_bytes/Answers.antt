use Rattle.std.proofs.Common.{◌≡◌, ◌+◌, length, ap, sym, ◌∙◌, arith}
use Rattle.report_text.specs.declared.images.Group.{Group}
use Rattle.report_text.specs.Generated.{group_bytes, groups}
use Rattle.report_text.proofs.GeneratedLaws.{bytes_moved, group_few, groups_few, number_moved, spelled_generated}
use Rattle.report_text.proofs.images.generated_bytes.Goals as goal

pub loop-group-preserved : goal.loop-group-preserved
loop-group-preserved c =
    let number = c.args.number in
    let group = c.loop-group._group in
    let size = c.bytes-bytes.ensures ∙ ap (λ (g : Group). length (group_bytes g)) c.of.ensures in
    record {
      number = number_moved number group _ _ c.loop-group.invariant.number c.next_number-x.ensures;
      bytes = bytes_moved number group _ _ _ c.loop-group.invariant.number c.loop-group.invariant.bytes size;
    }

pub overflow_add-bytes : goal.overflow_add-bytes
overflow_add-bytes c = omega (arith, groups_few c.args.number c.loop-group._group, group_few c.of.result)

pub returns : goal.returns
returns c =
    let all : c.loop-group._group ≡ c.args.number = omega arith in
    c.loop-group.invariant.bytes
    ∙ ap (λ count. 89 + length (groups c.args.number count)) all
    ∙ sym (spelled_generated c.args.number)
