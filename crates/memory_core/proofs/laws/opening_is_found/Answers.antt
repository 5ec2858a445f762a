use Rattle.memory_core.proofs.LookingBack.{opening_is_found}
use Rattle.memory_core.proofs.laws.opening_is_found.Goals as goal

pub returns : goal.returns
returns c = opening_is_found
