use Rattle.stored_runs.proofs.Storing.{legal_is_replayed}
use Rattle.stored_runs.proofs.laws.legal_is_replayed.Goals as goal

pub returns : goal.returns
returns c = legal_is_replayed
