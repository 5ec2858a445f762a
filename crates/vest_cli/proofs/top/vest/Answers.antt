-- What waits is run by its threads.
use Rattle.vest_cli.specs.Lent.{lent}
use Rattle.vest_cli.specs.Words.{spelled}
use Rattle.vest_cli.proofs.Completing.{complete}
use Rattle.vest_cli.proofs.Halting.{finish_decided, finish_ends, finish_no_usage, finish_spelled}
use Rattle.vest_cli.proofs.top.vest.Goals as goal

pub run-requires-clause-ready : goal.run-requires-clause-ready
run-requires-clause-ready g c κs within = c.in-Err.ensures.waits.ready

pub run-requires-clause-nothing : goal.run-requires-clause-nothing
run-requires-clause-nothing g c κs within = c.in-Err.ensures.waits.leaves.kept_nothing

pub returns-in-Err-clause-meaning : goal.returns-in-Err-clause-meaning
returns-in-Err-clause-meaning g c =
    finish_ends (spelled c.args.words.now) c.in-Err.waiting c.run.result
    (lent (g.D.Desk.meaning c.args.desk.now) (g.I.Source.meaning c.args.input.now) (g.K.Sink.meaning c.args.out.now) (g.E.Sink.meaning c.args.report.now))
    (lent (g.D.Desk.meaning c.begin.new.desk) (g.I.Source.meaning c.begin.new.input) (g.K.Sink.meaning c.begin.new.out) (g.E.Sink.meaning c.begin.new.report))
    c.begin.new.kept (g.D.Desk.meaning c.run.new.desk) (g.K.Sink.meaning c.run.new.out) (g.E.Sink.meaning c.run.new.report) c.run.new.kept c.in-Err.ensures.waits c.run.ensures

pub returns-in-Err-clause-usage : goal.returns-in-Err-clause-usage
returns-in-Err-clause-usage g c =
    finish_no_usage (spelled c.args.words.now) c.in-Err.waiting c.run.result
    (lent (g.D.Desk.meaning c.args.desk.now) (g.I.Source.meaning c.args.input.now) (g.K.Sink.meaning c.args.out.now) (g.E.Sink.meaning c.args.report.now))
    (lent (g.D.Desk.meaning c.begin.new.desk) (g.I.Source.meaning c.begin.new.input) (g.K.Sink.meaning c.begin.new.out) (g.E.Sink.meaning c.begin.new.report))
    c.begin.new.kept (g.D.Desk.meaning c.run.new.desk) (g.K.Sink.meaning c.run.new.out) (g.E.Sink.meaning c.run.new.report) c.run.new.kept c.in-Err.ensures.waits c.run.ensures

pub returns-in-Err-clause-no_command : goal.returns-in-Err-clause-no_command
returns-in-Err-clause-no_command g c =
    finish_spelled (spelled c.args.words.now) c.in-Err.waiting c.run.result
    (lent (g.D.Desk.meaning c.args.desk.now) (g.I.Source.meaning c.args.input.now) (g.K.Sink.meaning c.args.out.now) (g.E.Sink.meaning c.args.report.now))
    (lent (g.D.Desk.meaning c.begin.new.desk) (g.I.Source.meaning c.begin.new.input) (g.K.Sink.meaning c.begin.new.out) (g.E.Sink.meaning c.begin.new.report))
    c.begin.new.kept (g.D.Desk.meaning c.run.new.desk) (g.K.Sink.meaning c.run.new.out) (g.E.Sink.meaning c.run.new.report) c.run.new.kept c.in-Err.ensures.waits

pub returns-in-Err-clause-decided : goal.returns-in-Err-clause-decided
returns-in-Err-clause-decided g c =
    finish_decided (spelled c.args.words.now) c.in-Err.waiting c.run.result
    (lent (g.D.Desk.meaning c.args.desk.now) (g.I.Source.meaning c.args.input.now) (g.K.Sink.meaning c.args.out.now) (g.E.Sink.meaning c.args.report.now))
    (lent (g.D.Desk.meaning c.begin.new.desk) (g.I.Source.meaning c.begin.new.input) (g.K.Sink.meaning c.begin.new.out) (g.E.Sink.meaning c.begin.new.report))
    c.begin.new.kept (g.D.Desk.meaning c.run.new.desk) (g.K.Sink.meaning c.run.new.out) (g.E.Sink.meaning c.run.new.report) c.run.new.kept c.in-Err.ensures.waits c.run.ensures

pub returns-in-Err-clause-complete : goal.returns-in-Err-clause-complete
returns-in-Err-clause-complete g c = λ d on none.
    complete
    (lent (g.D.Desk.meaning c.args.desk.now) (g.I.Source.meaning c.args.input.now) (g.K.Sink.meaning c.args.out.now) (g.E.Sink.meaning c.args.report.now))
    (lent (g.D.Desk.meaning c.run.new.desk) (g.I.Source.meaning c.begin.new.input) (g.K.Sink.meaning c.run.new.out) (g.E.Sink.meaning c.run.new.report))
    c.run.new.kept none (spelled c.args.words.now) c.run.result d
    (returns-in-Err-clause-meaning g c) (returns-in-Err-clause-decided g c d on)
