-- By what keeps each processor reached, and makes a history legal.
use Rattle.tie_switch.proofs.Turns.{turns_stay_legal}
use Rattle.tie_switch.proofs.laws.turns_stay_legal.Goals as goal

pub returns : goal.returns
returns c = turns_stay_legal c.turns_keep_reached.ensures c.others_keep_reached.ensures c.requests_are_own.ensures c.reached_are_legal.ensures
