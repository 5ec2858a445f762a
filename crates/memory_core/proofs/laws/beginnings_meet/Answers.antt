use Rattle.memory_core.proofs.LookingBack.{beginnings_meet}
use Rattle.memory_core.proofs.laws.beginnings_meet.Goals as goal

pub returns : goal.returns
returns c = beginnings_meet
