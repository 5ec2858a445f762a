-- A long instruction is its operands, and what comes behind them.
use Rattle.tie_strings.proofs.Beginnings.{begun_with}
use Rattle.tie_strings.proofs.tie.Stage.begin.Goals as goal

pub returns : goal.returns
returns c = begun_with c.begin.result c.args.operation c.row-row.result c.args.instr.now c.args.state.now c.row-row.ensures c.begin.ensures.instr c.begin.ensures.rest
