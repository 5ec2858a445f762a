-- Where an instruction ends.
use Rattle.micro_lower.proofs.Ends.{ends_where_it_goes}
use Rattle.micro_lower.proofs.laws.ending_law.Goals as goal

pub returns : goal.returns
returns c = ends_where_it_goes
