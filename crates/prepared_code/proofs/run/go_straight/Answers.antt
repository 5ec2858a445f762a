-- One straight step more.
use Rattle.std.proofs.Common.{ap, ◌∙◌, ◌+◌, arith}
use Rattle.std.proofs.lemmas.Option.{slice_get-get_or}
use Rattle.alpha_machine.specs.Step.{state_of}
use Rattle.alpha_meaning.specs.State.{Alpha}
use Rattle.prepared_code.proofs.Steps.{one_more_straight}
use Rattle.prepared_code.proofs.run.go_straight.Goals as goal

pub loop-made-preserved : goal.loop-made-preserved
loop-made-preserved g c = record {
  zero = c.operate.ensures.zero;
  pc = ap (λ (s : Alpha). s.pc) c.operate.ensures.is ∙ c.loop-made.invariant.pc;
  ran = λ code are.
      one_more_straight code (state_of c.args.cpu.now) c.args.cpu.now.pc c.loop-made.made c.args.count c.args.flats.now _ c.loop-made.cpu c.operate.new.cpu are c.loop-made-test.true
      (slice_get-get_or c.args.flats.now (c.args.cpu.now.pc + c.loop-made.made) _ (omega (arith, c.requires.within, c.loop-made-test.true))) (c.loop-made.invariant.ran code are) c.operate.ensures.is;
}
