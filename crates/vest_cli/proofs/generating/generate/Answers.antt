-- Behind the task the run is made, memory runs out, or it waits.
use Rattle.std.proofs.Common.{None, refl}
use Rattle.vest_cli.proofs.Halting.{generate_halts, generate_untouched, generated_is_ready, generates_ok, halts_ready}
use Rattle.vest_cli.proofs.generating.generate.Goals as goal

pub run_or_wait-requires-clause-ready : goal.run_or_wait-requires-clause-ready
run_or_wait-requires-clause-ready g c = generated_is_ready c.args.number c.in_ok-task.task c.requires.few c.in_ok-task.ensures

pub returns-clause-does : goal.returns-clause-does
returns-clause-does g c =
    generates_ok c.run_or_wait.result c.args.number None (g.D.Desk.meaning c.args.desk.now) (g.D.Desk.meaning c.run_or_wait.new.desk)
    (g.K.Sink.meaning c.args.out.now) (g.K.Sink.meaning c.run_or_wait.new.out) (g.E.Sink.meaning c.args.report.now) (g.E.Sink.meaning c.run_or_wait.new.report)
    c.run_or_wait.new.kept _ c.in_ok-task.ensures refl c.run_or_wait.ensures.gives

pub returns-clause-why : goal.returns-clause-why
returns-clause-why g c = generate_halts c.run_or_wait.result c.args.number _ c.in_ok-task.ensures refl refl c.run_or_wait.ensures.why

pub returns-clause-ready : goal.returns-clause-ready
returns-clause-ready g c = halts_ready c.run_or_wait.result _ (generated_is_ready c.args.number c.in_ok-task.task c.requires.few c.in_ok-task.ensures) c.run_or_wait.ensures.why

pub returns-clause-desk : goal.returns-clause-desk
returns-clause-desk g c =
    generate_untouched c.run_or_wait.result _ _ None (g.D.Desk.meaning c.args.desk.now) (g.D.Desk.meaning c.run_or_wait.new.desk)
    (g.K.Sink.meaning c.args.out.now) (g.K.Sink.meaning c.run_or_wait.new.out) (g.E.Sink.meaning c.args.report.now) (g.E.Sink.meaning c.run_or_wait.new.report)
    c.run_or_wait.new.kept refl c.run_or_wait.ensures.gives c.run_or_wait.ensures.untouched
