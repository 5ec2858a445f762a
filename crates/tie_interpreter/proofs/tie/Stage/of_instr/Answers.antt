-- An instruction is its operands, and what comes behind them.
use Rattle.std.proofs.Common.{◌∙◌, sym}
use Rattle.vax_form.specs.Operation.{operation_at}
use Rattle.tie_interpreter.proofs.Begun.{begun_with}
use Rattle.tie_interpreter.proofs.tie.Stage.of_instr.Goals as goal

pub returns-in-Some : goal.returns-in-Some
returns-in-Some c =
    begun_with c.begin.result c.in-Some.operation c.evaluated_row-row.result c.args.instr.now c.args.state.now (operation_at c.args.instr.now.opcode)
    (sym c.in-Some.is ∙ c.operation_of.ensures) c.evaluated_row-row.ensures c.begin.ensures.instr c.begin.ensures.rest
