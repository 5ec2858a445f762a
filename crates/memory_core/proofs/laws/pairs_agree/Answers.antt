use Rattle.memory_core.proofs.LookingBack.{pairs_agree}
use Rattle.memory_core.proofs.laws.pairs_agree.Goals as goal

pub returns : goal.returns
returns c = pairs_agree
