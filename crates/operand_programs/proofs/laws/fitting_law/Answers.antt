-- The walk keeps what is known more.
use Rattle.operand_programs.proofs.More.{fits_behind_more, fits_joined}
use Rattle.operand_programs.proofs.laws.fitting_law.Goals as goal

pub returns-clause-behind_more : goal.returns-clause-behind_more
returns-clause-behind_more c = fits_behind_more

pub returns-clause-joined : goal.returns-clause-joined
returns-clause-joined c = fits_joined
