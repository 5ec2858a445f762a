-- By what keeps a processor reached.
use Rattle.tie_switch.proofs.Turns.{turns_keep_reached}
use Rattle.tie_switch.proofs.laws.turns_keep_reached.Goals as goal

pub returns : goal.returns
returns c =
    turns_keep_reached c.steps_keep_reached.ensures c.accesses_keep_reached.ensures c.ends_keep_reached.ensures c.others_keep_reached.ensures c.requests_are_own.ensures
