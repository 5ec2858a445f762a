use Rattle.row_tally.proofs.Cuts.{IsCut-from_split_once}
use Rattle.row_tally.proofs.columns.cut.Goals as goal

pub returns : goal.returns
returns c = IsCut-from_split_once c.args.row.now _ c.split_once.ensures.cases
