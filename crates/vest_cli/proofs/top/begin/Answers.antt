-- What a call does and its status, by its words and by what its command came to.
use Rattle.std.proofs.Common.{map}
use Rattle.std.specs.String.{string_bytes}
use Rattle.command_words.specs.Answers.{command_value}
use Rattle.vest_cli.specs.Lent.{lent}
use Rattle.vest_cli.specs.Words.{spelled}
use Rattle.vest_cli.proofs.Bounds.{can_be_obeyed}
use Rattle.vest_cli.proofs.Completing.{complete, complete_ok}
use Rattle.vest_cli.proofs.Ending.{call_decided, call_ends, call_has_spelled, call_no_usage, call_waits, words_decided, words_end, words_unspelled, words_usage}
use Rattle.vest_cli.proofs.top.begin.Goals as goal

pub obey-ended-requires-clause-few : goal.obey-ended-requires-clause-few
obey-ended-requires-clause-few g c = can_be_obeyed (map string_bytes c.args.words.now) (command_value c.in-Ok.command) c.in-Ok.ensures

pub returns-in-Ok-clause-meaning : goal.returns-in-Ok-clause-meaning
returns-in-Ok-clause-meaning g c =
    call_ends (spelled c.args.words.now) (command_value c.in-Ok.command) c.in-Ok.ensures c.obey-ended.result c.conclude.result
    (lent (g.D.Desk.meaning c.args.desk.now) (g.I.Source.meaning c.args.input.now) (g.K.Sink.meaning c.args.out.now) (g.E.Sink.meaning c.args.report.now))
    (g.D.Desk.meaning c.obey-ended.new.desk) (g.I.Source.meaning c.obey-ended.new.input) (g.K.Sink.meaning c.obey-ended.new.out)
    (g.E.Sink.meaning c.obey-ended.new.report) (g.E.Sink.meaning c.conclude.new.report) c.obey-ended.new.kept
    c.obey-ended.ensures.does c.obey-ended.ensures.why c.obey-ended.ensures.leaves c.conclude.ensures

pub returns-in-Ok-clause-waits : goal.returns-in-Ok-clause-waits
returns-in-Ok-clause-waits g c =
    call_waits (spelled c.args.words.now) (command_value c.in-Ok.command) c.in-Ok.ensures c.obey-ended.result c.conclude.result
    (lent (g.D.Desk.meaning c.args.desk.now) (g.I.Source.meaning c.args.input.now) (g.K.Sink.meaning c.args.out.now) (g.E.Sink.meaning c.args.report.now))
    (g.D.Desk.meaning c.obey-ended.new.desk) (g.I.Source.meaning c.obey-ended.new.input) (g.K.Sink.meaning c.obey-ended.new.out)
    (g.E.Sink.meaning c.obey-ended.new.report) (g.E.Sink.meaning c.conclude.new.report) c.obey-ended.new.kept
    c.obey-ended.ensures.why c.obey-ended.ensures.ready c.obey-ended.ensures.leaves c.obey-ended.ensures.decided c.conclude.ensures

pub returns-in-Ok-clause-usage : goal.returns-in-Ok-clause-usage
returns-in-Ok-clause-usage g c =
    call_no_usage (spelled c.args.words.now) (command_value c.in-Ok.command) c.in-Ok.ensures c.obey-ended.result c.conclude.result
    (g.E.Sink.meaning c.obey-ended.new.report) (g.E.Sink.meaning c.conclude.new.report) c.conclude.ensures

pub returns-in-Ok-clause-no_command : goal.returns-in-Ok-clause-no_command
returns-in-Ok-clause-no_command g c = call_has_spelled (spelled c.args.words.now) (command_value c.in-Ok.command) c.in-Ok.ensures c.conclude.result

pub returns-in-Ok-clause-decided : goal.returns-in-Ok-clause-decided
returns-in-Ok-clause-decided g c =
    call_decided (spelled c.args.words.now) (command_value c.in-Ok.command) c.in-Ok.ensures c.obey-ended.result c.conclude.result
    (lent (g.D.Desk.meaning c.args.desk.now) (g.I.Source.meaning c.args.input.now) (g.K.Sink.meaning c.args.out.now) (g.E.Sink.meaning c.args.report.now))
    (lent (g.D.Desk.meaning c.obey-ended.new.desk) (g.I.Source.meaning c.obey-ended.new.input) (g.K.Sink.meaning c.obey-ended.new.out) (g.E.Sink.meaning c.obey-ended.new.report))
    c.obey-ended.new.kept (g.E.Sink.meaning c.obey-ended.new.report) (g.E.Sink.meaning c.conclude.new.report)
    (g.D.Desk.meaning c.args.desk.now).files (g.I.Source.meaning c.args.input.now).left
    c.obey-ended.ensures.does c.obey-ended.ensures.decided c.conclude.ensures

pub returns-in-Ok-clause-complete : goal.returns-in-Ok-clause-complete
returns-in-Ok-clause-complete g c =
    complete_ok
    (lent (g.D.Desk.meaning c.args.desk.now) (g.I.Source.meaning c.args.input.now) (g.K.Sink.meaning c.args.out.now) (g.E.Sink.meaning c.args.report.now))
    (lent (g.D.Desk.meaning c.obey-ended.new.desk) (g.I.Source.meaning c.obey-ended.new.input) (g.K.Sink.meaning c.obey-ended.new.out) (g.E.Sink.meaning c.conclude.new.report))
    c.obey-ended.new.kept (spelled c.args.words.now) (g.D.Desk.meaning c.args.desk.now).files (g.I.Source.meaning c.args.input.now).left c.conclude.result
    (returns-in-Ok-clause-meaning g c) (returns-in-Ok-clause-decided g c)

pub returns-in-Err-clause-usage : goal.returns-in-Err-clause-usage
returns-in-Err-clause-usage g c =
    words_usage (spelled c.args.words.now) c.in-Err.fault c.refuse_words.result (g.E.Sink.meaning c.args.report.now) (g.E.Sink.meaning c.refuse_words.new.report)
    c.in-Err.ensures c.refuse_words.ensures

pub returns-in-Err-clause-no_command : goal.returns-in-Err-clause-no_command
returns-in-Err-clause-no_command g c = λ none.
    words_unspelled (spelled c.args.words.now) c.in-Err.fault c.refuse_words.result (g.E.Sink.meaning c.args.report.now) (g.E.Sink.meaning c.refuse_words.new.report)
    c.refuse_words.ensures

pub returns-in-Err-clause-decided : goal.returns-in-Err-clause-decided
returns-in-Err-clause-decided g c =
    words_decided (spelled c.args.words.now) c.in-Err.fault c.refuse_words.result (g.E.Sink.meaning c.args.report.now) (g.E.Sink.meaning c.refuse_words.new.report)
    (g.D.Desk.meaning c.args.desk.now).files (g.I.Source.meaning c.args.input.now).left
    c.in-Err.ensures c.refuse_words.ensures

pub returns-in-Err-clause-meaning : goal.returns-in-Err-clause-meaning
returns-in-Err-clause-meaning g c =
    words_end (spelled c.args.words.now) c.in-Err.fault c.refuse_words.result
    (g.D.Desk.meaning c.args.desk.now) (g.I.Source.meaning c.args.input.now) (g.K.Sink.meaning c.args.out.now)
    (g.E.Sink.meaning c.args.report.now) (g.E.Sink.meaning c.refuse_words.new.report) _
    c.in-Err.ensures c.empty.ensures c.refuse_words.ensures

pub returns-in-Err-clause-complete : goal.returns-in-Err-clause-complete
returns-in-Err-clause-complete g c = λ d on none.
    complete
    (lent (g.D.Desk.meaning c.args.desk.now) (g.I.Source.meaning c.args.input.now) (g.K.Sink.meaning c.args.out.now) (g.E.Sink.meaning c.args.report.now))
    (lent (g.D.Desk.meaning c.args.desk.now) (g.I.Source.meaning c.args.input.now) (g.K.Sink.meaning c.args.out.now) (g.E.Sink.meaning c.refuse_words.new.report))
    _ none (spelled c.args.words.now) c.refuse_words.result d
    (returns-in-Err-clause-meaning g c) (returns-in-Err-clause-decided g c d on)
