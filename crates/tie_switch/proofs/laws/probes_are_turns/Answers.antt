-- As the lemma says.
use Rattle.tie_switch.proofs.Inside.{probes_are_turns}
use Rattle.tie_switch.proofs.laws.probes_are_turns.Goals as goal

pub returns : goal.returns
returns c = probes_are_turns
