use Rattle.std.proofs.Common.{arith, ◌∙◌}
use Rattle.alpha_encode.proofs.Rows.{operate_by_code}
use Rattle.alpha_encode.proofs.tables.operate_op.Goals as goal

pub returns : goal.returns
returns c = c.operate_row.ensures ∙ operate_by_code c.args.opcode c.args.function (omega arith)
