use Rattle.std.proofs.Common.{ap, ◌∙◌, arith}
use Rattle.vax_long.specs.Pending.{moment_at}
use Rattle.vax_run.specs.Answered.{reached_of}
use Rattle.vax_run.proofs.Answering.{never}
use Rattle.vax_run.proofs.advance.advance.Goals as goal

pub returns-in_default-clause-reached : goal.returns-in_default-clause-reached
returns-in_default-clause-reached c = λ start from.
    never (moment_at c.args.pages.now c.args.thread) c.args.pages.now c.args.replies.now start c.loop.counter c.args.count
    (c.loop.invariant.reached start from ∙ ap (reached_of c.args.replies.now) c.in_default.is) (omega arith)
