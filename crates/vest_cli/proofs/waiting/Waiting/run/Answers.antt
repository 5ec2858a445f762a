-- The run was made, and what it gives was given.
use Rattle.std.proofs.Common.{subst}
use Rattle.vest_cli.specs.Storing.{name_of}
use Rattle.vest_cli.specs.Waiting.{Gives, given}
use Rattle.vest_cli.specs.declared.execute.Task.{Task}
use Rattle.vest_cli.proofs.waiting.Waiting.run.Goals as goal

pub returns-in-Ok : goal.returns-in-Ok
returns-in-Ok g c = given c.give.result c.status.ensures
    (subst (λ (task : Task). Gives c.give.result task c.args.self.puts (name_of c.args.self.order) (g.D.Desk.meaning c.args.desk.now) (g.D.Desk.meaning c.give.new.desk)
    (g.K.Sink.meaning c.args.out.now) (g.K.Sink.meaning c.give.new.out) (g.E.Sink.meaning c.args.report.now) (g.E.Sink.meaning c.give.new.report) c.give.new.kept) c.in-Ok.ensures.task c.give.ensures)
