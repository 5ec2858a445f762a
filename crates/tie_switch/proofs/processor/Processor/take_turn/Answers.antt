-- Where no GET waits, none does.
use Rattle.std.proofs.Common.{refl}
use Rattle.tie_switch.proofs.processor.Processor.take_turn.Goals as goal

pub returns-clause-steps : goal.returns-clause-steps
returns-clause-steps g c = c.take_or_wait.ensures.steps (c.take_or_wait.ensures.goes refl)

pub returns-clause-turned : goal.returns-clause-turned
returns-clause-turned g c = c.take_or_wait.ensures.turned (c.take_or_wait.ensures.goes refl)
