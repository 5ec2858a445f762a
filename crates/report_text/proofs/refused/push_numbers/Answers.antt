use Rattle.std.proofs.Common.{arith}
use Rattle.report_text.proofs.Lines.{number_pushed}
use Rattle.report_text.proofs.refused.push_numbers.Goals as goal

pub loop-number-preserved : goal.loop-number-preserved
loop-number-preserved c = record {
  text = number_pushed c.args.numbers.now c.loop-number.number-index c.args.line.now _ _ (omega arith) c.loop-number.invariant.text c.push_spaced.ensures.text;
  count = omega (arith, c.push_spaced.ensures.room, c.loop-number.invariant.count);
}
