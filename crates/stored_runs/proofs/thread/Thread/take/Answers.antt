use Rattle.stored_runs.proofs.Standing.{taken}
use Rattle.stored_runs.proofs.thread.Thread.take.Goals as goal

pub returns-in-Goes-clause-at : goal.returns-in-Goes-clause-at
returns-in-Goes-clause-at c = λ image thread replies reference asking.
    taken image thread replies c.args.reply reference c.args.self.now c.in-Goes.field-0 _ c.in-Goes.is asking
