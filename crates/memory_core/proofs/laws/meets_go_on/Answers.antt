use Rattle.memory_core.proofs.GoingOn.{meets_go_on}
use Rattle.memory_core.proofs.laws.meets_go_on.Goals as goal

pub returns : goal.returns
returns c = meets_go_on
