use Rattle.system_model.proofs.Turns.{legal_are_within}
use Rattle.system_model.proofs.laws.legal_are_within.Goals as goal

pub returns : goal.returns
returns c = legal_are_within
