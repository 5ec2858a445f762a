use Rattle.image_text.specs.Lines.{stop_lines}
use Rattle.image_text.proofs.Appended.{each_step}
use Rattle.image_text.proofs.flow.put_all_stops.Goals as goal

pub loop-instr-preserved : goal.loop-instr-preserved
loop-instr-preserved c =
    each_step (stop_lines c.args.pages.now) c.args.instrs.now c.loop-instr.instr-index _ c.args.out.now.items c.loop-instr.out.items _ c.loop-instr-test.true c.loop-instr.invariant
    c.in_ok-put_stops.ensures
