use Rattle.std.proofs.Common.{arith, ap, ◌∙◌}
use Rattle.alpha_encode.specs.Rows.{operate_at}
use Rattle.alpha_encode.proofs.FirstOperand.{of_word}
use Rattle.alpha_encode.proofs.decoder.operate.Goals as goal

pub returns-in-16 : goal.returns-in-16
returns-in-16 c = of_word c.args.word 0x10 c.operate_op.result c.in-16.is (λ e. omega arith) (c.operate_op.ensures ∙ ap (operate_at 0x10) c.function.ensures.value)

pub returns-in-17 : goal.returns-in-17
returns-in-17 c = of_word c.args.word 0x11 c.operate_op-in-17.result c.in-17.is (λ e. omega arith) (c.operate_op-in-17.ensures ∙ ap (operate_at 0x11) c.function-in-17.ensures.value)

pub returns-in-18 : goal.returns-in-18
returns-in-18 c = of_word c.args.word 0x12 c.operate_op-in-18.result c.in-18.is (λ e. omega arith) (c.operate_op-in-18.ensures ∙ ap (operate_at 0x12) c.function-in-18.ensures.value)

pub returns-in-19 : goal.returns-in-19
returns-in-19 c = of_word c.args.word 0x13 c.operate_op-in-19.result c.in-19.is (λ e. omega arith) (c.operate_op-in-19.ensures ∙ ap (operate_at 0x13) c.function-in-19.ensures.value)
