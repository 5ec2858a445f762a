-- A row fits.
use Rattle.operand_programs.proofs.RowWalks.{row_law}
use Rattle.operand_programs.proofs.laws.row_law.Goals as goal

pub returns : goal.returns
returns c = row_law
