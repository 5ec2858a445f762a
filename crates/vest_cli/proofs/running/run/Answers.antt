-- Behind the task the run is made, memory runs out, or it waits.
use Rattle.command_words.specs.Answers.{options_value}
use Rattle.vest_cli.specs.Lent.{lent}
use Rattle.vest_cli.specs.Run.{target_of}
use Rattle.vest_cli.proofs.RunDecided.{runs_on}
use Rattle.vest_cli.proofs.Halting.{halts_decided, halts_ready, run_halts, run_leaves, runs_ok, to_run_is_ready}
use Rattle.vest_cli.proofs.running.run.Goals as goal

pub run_or_wait-requires-clause-ready : goal.run_or_wait-requires-clause-ready
run_or_wait-requires-clause-ready g c = to_run_is_ready _ _ _ _ _ c.in_ok-waiting.waiting c.in_ok-waiting.ensures.waiting

pub returns-clause-runs : goal.returns-clause-runs
returns-clause-runs g c =
    runs_ok c.run_or_wait.result c.args.name.now (options_value c.args.options.now)
    (lent (g.D.Desk.meaning c.args.desk.now) (g.I.Source.meaning c.args.input.now) (g.K.Sink.meaning c.args.out.now) (g.E.Sink.meaning c.args.report.now))
    (lent (g.D.Desk.meaning c.run_or_wait.new.desk) (g.I.Source.meaning c.waiting_of.new.input) (g.K.Sink.meaning c.run_or_wait.new.out) (g.E.Sink.meaning c.run_or_wait.new.report))
    (g.D.Desk.meaning c.waiting_of.new.desk) c.run_or_wait.new.kept c.in_ok-waiting.waiting c.in_ok-waiting.ensures.waiting c.waiting_of.ensures.desk c.run_or_wait.ensures.gives

pub returns-clause-why : goal.returns-clause-why
returns-clause-why g c =
    run_halts c.run_or_wait.result c.args.name.now (options_value c.args.options.now) (g.D.Desk.meaning c.args.desk.now) (g.D.Desk.meaning c.run_or_wait.new.desk)
    (g.I.Source.meaning c.args.input.now) (g.I.Source.meaning c.waiting_of.new.input) c.in_ok-waiting.waiting c.in_ok-waiting.ensures.waiting c.run_or_wait.ensures.why

pub returns-clause-ready : goal.returns-clause-ready
returns-clause-ready g c = halts_ready c.run_or_wait.result c.in_ok-waiting.waiting (to_run_is_ready _ _ _ _ _ c.in_ok-waiting.waiting c.in_ok-waiting.ensures.waiting) c.run_or_wait.ensures.why

pub returns-clause-leaves : goal.returns-clause-leaves
returns-clause-leaves g c =
    run_leaves c.run_or_wait.result
    (lent (g.D.Desk.meaning c.args.desk.now) (g.I.Source.meaning c.args.input.now) (g.K.Sink.meaning c.args.out.now) (g.E.Sink.meaning c.args.report.now))
    (lent (g.D.Desk.meaning c.run_or_wait.new.desk) (g.I.Source.meaning c.waiting_of.new.input) (g.K.Sink.meaning c.run_or_wait.new.out) (g.E.Sink.meaning c.run_or_wait.new.report))
    (g.D.Desk.meaning c.waiting_of.new.desk) c.run_or_wait.new.kept c.waiting_of.ensures.desk c.run_or_wait.ensures.untouched c.run_or_wait.ensures.unsent c.run_or_wait.ensures.unsaid c.run_or_wait.ensures.unkept

pub returns-clause-decided : goal.returns-clause-decided
returns-clause-decided g c = λ d on.
    let task = c.in_ok-waiting.waiting.task in
    let its = c.in_ok-waiting.ensures.waiting.task in
    halts_decided c.run_or_wait.result c.in_ok-waiting.waiting d
    (runs_on (target_of c.args.options.now.target) (g.D.Desk.meaning c.args.desk.now).files c.args.name.now task.loaded.image task.loaded.target task.loaded.translation (g.I.Source.meaning c.args.input.now) (g.I.Source.meaning c.waiting_of.new.input) task.taken.items d its.loads its.reads on)
    c.run_or_wait.ensures.why
