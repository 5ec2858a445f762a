use Rattle.image_text.specs.Lines.{register_text}
use Rattle.image_text.proofs.Appended.{numbered_step}
use Rattle.image_text.proofs.tables.put_registers.Goals as goal

pub loop-number-preserved : goal.loop-number-preserved
loop-number-preserved c =
    numbered_step register_text c.args.values.now c.loop-number.number _ c.loop-number.out.items _ _ c.loop-number-test.true c.loop-number.invariant c.in_ok-put_register.ensures
