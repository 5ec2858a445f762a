use Rattle.translate.proofs.Targets.{have_like_points}
use Rattle.translate.proofs.laws.points_law.Goals as goal

pub returns : goal.returns
returns c = have_like_points
