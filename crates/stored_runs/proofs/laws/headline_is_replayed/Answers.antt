use Rattle.stored_runs.proofs.Storing.{headline_is_replayed}
use Rattle.stored_runs.proofs.laws.headline_is_replayed.Goals as goal

pub returns : goal.returns
returns c = headline_is_replayed
