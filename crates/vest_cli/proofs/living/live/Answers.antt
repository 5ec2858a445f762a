-- What was told went out, and is kept.
use Rattle.std.proofs.Common.{List, map, inl, subst}
use Rattle.std.proofs.lemmas.Result.{err_from_is_err_and}
use Rattle.command_words.specs.Answers.{live_options_value}
use Rattle.tie_switch.specs.Processors.{ProcessorValue, processor_of}
use Rattle.vest_cli.specs.Lent.{lent}
use Rattle.vest_cli.specs.Live.{Closes}
use Rattle.vest_cli.specs.Run.{target_of}
use Rattle.vest_cli.proofs.Lived.{alone_goes, lives}
use Rattle.vest_cli.proofs.living.live.Goals as goal

pub returns-in_err-told-clause-why : goal.returns-in_err-told-clause-why
returns-in_err-told-clause-why g c =
    let p = err_from_is_err_and c.from_residual-in_err-told.result c.from_residual-in_err-told.ensures.1 in
    rw (p.1, p.2) (inl (inl tt))

pub returns-in_err-told-clause-decided : goal.returns-in_err-told-clause-decided
returns-in_err-told-clause-decided g c = λ d on.
    let p = err_from_is_err_and c.from_residual-in_err-told.result c.from_residual-in_err-told.ensures.1 in
    rw (p.1, p.2) tt

pub returns-clause-lives : goal.returns-clause-lives
returns-clause-lives g c =
    let report = g.E.Sink.meaning c.args.report.now in
    let behind = g.E.Sink.meaning c.talk.new.report in
    let report' = g.E.Sink.meaning c.close-done.new.report in
    lives c.args.name.now (live_options_value c.args.options.now)
    (lent (g.D.Desk.meaning c.args.desk.now) (g.I.Source.meaning c.args.input.now) (g.K.Sink.meaning c.args.out.now) report)
    (lent (g.D.Desk.meaning c.live_task_of.new.desk) (g.I.Source.meaning c.talk.new.input) (g.K.Sink.meaning c.talk.new.out) report')
    behind c.in_ok-task.task c.in_ok-told.told c.close-done.result c.keep_told.new.kept c.in_ok-task.ensures.task c.in_ok-told.ensures.told
    (subst (λ (ps : List ProcessorValue). Closes c.in_ok-told.told.end c.close-done.result (map processor_of ps) behind report') c.deref.ensures.value c.close-done.ensures)
    c.live_task_of.ensures.desk c.keep_told.ensures

pub returns-clause-decided : goal.returns-clause-decided
returns-clause-decided g c = λ d e.
    let task = c.in_ok-task.task in
    let its = c.in_ok-task.ensures.task in
    alone_goes (g.D.Desk.meaning c.args.desk.now).files (target_of c.args.options.now.target) c.args.name.now task.loaded.image task.loaded.target task.loaded.translation d its.loads its.alone e
