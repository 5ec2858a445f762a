-- Behind the last operand stands what comes behind them.
use Rattle.std.proofs.Common.{◌∙◌, sym, arith}
use Rattle.tie_operands.proofs.Parts.{evaluated_all}
use Rattle.tie_operands.proofs.operands.Operands.evaluate.Goals as goal

pub returns-clause-passes : goal.returns-clause-passes
returns-clause-passes c = (
  c.loop-place.invariant.pages,
  λ behind. sym (c.loop-place.invariant.rest behind)
      ∙ evaluated_all c.args.self.now.specifiers c.loop-place.found c.loop-place.place c.loop-place.values c.loop-place.cursor c.args.cursor.now.pages.now behind
      c.loop-place.invariant.place (omega (arith, c.loop-place-test.false)) c.loop-place.invariant.pages,
)
