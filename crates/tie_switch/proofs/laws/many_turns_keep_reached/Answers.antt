-- One turn after the other.
use Rattle.tie_switch.proofs.ManyTurns.{many_keep, local_keep}
use Rattle.tie_switch.proofs.laws.many_turns_keep_reached.Goals as goal

pub returns-clause-many : goal.returns-clause-many
returns-clause-many c = many_keep c.turns_keep_reached.ensures

pub returns-clause-local : goal.returns-clause-local
returns-clause-local c = local_keep c.turns_keep_reached.ensures
