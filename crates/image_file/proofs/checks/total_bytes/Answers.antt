use Rattle.std.proofs.Common.{◌*◌, arith, ap, ◌∙◌}
use Rattle.image_file.proofs.Overlaps.{total_more}
use Rattle.image_file.proofs.checks.total_bytes.Goals as goal

pub loop-row-preserved : goal.loop-row-preserved
loop-row-preserved c =
    let bytes = ap (λ n. 512 * n) (c.from.ensures ∙ c.pages.ensures) in (
      omega (arith, bytes, total_more c.args.rows.now c.loop-row.row-index c.loop-row.total c.loop-row-test.true c.loop-row.invariant.0),
      omega (arith, c.pages.type_inv, c.from.ensures, c.loop-row.invariant.1),
    )
