use Rattle.system_model.proofs.Turns.{reached_are_within}
use Rattle.system_model.proofs.laws.reached_are_within.Goals as goal

pub returns : goal.returns
returns c = reached_are_within
