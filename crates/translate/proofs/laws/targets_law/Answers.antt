use Rattle.translate.proofs.Alone.{same_mapped}
use Rattle.translate.proofs.laws.targets_law.Goals as goal

pub returns : goal.returns
returns c = same_mapped
