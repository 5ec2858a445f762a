use Rattle.system_model.proofs.GoingOn.{legal_goes_on}
use Rattle.system_model.proofs.laws.legal_goes_on.Goals as goal

pub returns : goal.returns
returns c = legal_goes_on
