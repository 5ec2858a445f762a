use Rattle.system_model.proofs.Making.{steps_can_be_made}
use Rattle.system_model.proofs.laws.steps_can_be_made.Goals as goal

pub returns : goal.returns
returns c = steps_can_be_made
