-- More steps behind those so far.
use Rattle.std.proofs.Common.{arith}
use Rattle.alpha_machine.specs.Step.{state_of}
use Rattle.prepared_code.proofs.Steps.{more_steps}
use Rattle.prepared_code.proofs.prepared.Prepared.steps_in.Goals as goal

pub loop-made-preserved : goal.loop-made-preserved
loop-made-preserved c = record {
  most = omega (arith, c.loop-made.invariant.most, c.stride-more.ensures.most);
  zero = c.stride-more.ensures.zero;
  ran =
      more_steps c.args.self.now.code (state_of c.args.cpu.now) (state_of c.loop-made.cpu) (state_of c.stride-more.new.cpu) c.loop-made.made c.stride-more.result
      c.loop-made.invariant.ran c.stride-more.ensures.ran;
}
