-- One operand more is put in its slot, until there is none.
use Rattle.micro_lower.proofs.SlotLoop.{program_more, steps_more, program_all, steps_all}
use Rattle.micro_lower.proofs.plans.put_operands.Goals as goal

pub loop-i-preserved : goal.loop-i-preserved
loop-i-preserved c =
    let put = c.in_ok-put_slot.ensures in
    let below = c.loop-i-test.true in
    record {
      program = program_more c.args.slots.now c.loop-i.i _ c.args.instr.now _ _ below put.steps _ _ _ put.program c.loop-i.invariant.program;
      steps = steps_more c.args.slots.now c.loop-i.i _ c.args.instr.now _ _ below put.steps _ c.loop-i.invariant.steps;
    }

pub returns : goal.returns
returns c =
    let end = c.loop-i-test.false in
    record {
      program = program_all c.args.slots.now c.loop-i.i c.args.instr.now _ end _ _ c.loop-i.invariant.program;
      steps = steps_all c.args.slots.now c.loop-i.i c.args.instr.now _ end _ c.loop-i.invariant.steps;
    }
