use Rattle.system_model.proofs.Turns.{requests_are_own}
use Rattle.system_model.proofs.laws.requests_are_own.Goals as goal

pub returns : goal.returns
returns c = requests_are_own
