use Rattle.image_text.specs.Lines.{open_line}
use Rattle.image_text.proofs.Appended.{each_step}
use Rattle.image_text.proofs.flow.put_opens.Goals as goal

pub loop-instr-preserved : goal.loop-instr-preserved
loop-instr-preserved c =
    each_step open_line c.args.instrs.now c.loop-instr.instr-index _ c.args.out.now.items c.loop-instr.out.items _ c.loop-instr-test.true c.loop-instr.invariant
    c.in_ok-put_open.ensures
