use Rattle.image_text.specs.Lines.{stop_line}
use Rattle.image_text.proofs.Appended.{each_step}
use Rattle.image_text.proofs.instructions.put_stops_at.Goals as goal

pub loop-address-preserved : goal.loop-address-preserved
loop-address-preserved c =
    each_step (stop_line c.args.pages.now c.args.from) c.args.addresses.now c.loop-address.address-index _ c.args.out.now.items c.loop-address.out.items _
    c.loop-address-test.true c.loop-address.invariant c.in_ok-put_stop.ensures
