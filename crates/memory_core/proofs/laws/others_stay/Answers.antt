use Rattle.memory_core.proofs.Neighbours.{others_stay}
use Rattle.memory_core.proofs.laws.others_stay.Goals as goal

pub returns : goal.returns
returns c = others_stay
