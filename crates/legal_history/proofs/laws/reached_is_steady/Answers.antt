use Rattle.legal_history.proofs.Headlines.{reached_is_steady}
use Rattle.legal_history.proofs.laws.reached_is_steady.Goals as goal

pub returns : goal.returns
returns c = reached_is_steady
