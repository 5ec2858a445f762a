use Rattle.system_model.proofs.Making.{references_can_be_made}
use Rattle.system_model.proofs.laws.references_can_be_made.Goals as goal

pub returns : goal.returns
returns c = references_can_be_made
