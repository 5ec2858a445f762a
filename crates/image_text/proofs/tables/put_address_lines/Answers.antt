use Rattle.image_text.specs.Lines.{address_line}
use Rattle.image_text.proofs.Appended.{numbered_step}
use Rattle.image_text.proofs.tables.put_address_lines.Goals as goal

pub loop-number-preserved : goal.loop-number-preserved
loop-number-preserved c =
    numbered_step (address_line c.args.table.now) c.args.addresses.now c.loop-number.number _ c.loop-number.out.items _ _ c.loop-number-test.true
    c.loop-number.invariant c.in_ok-put_address_line.ensures
