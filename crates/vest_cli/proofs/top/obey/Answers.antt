-- The command is the one that was read.
use Rattle.std.proofs.Common.{IfOk, ap, subst}
use Rattle.std.specs.Prelude.{option_map}
use Rattle.command_words.specs.Answers.{command_value, live_options_value, options_value}
use Rattle.command_words.specs.Commands.{generate, list, live, replay, run, translate}
use Rattle.image_meaning.specs.declared.target.Target.{Target}
use Rattle.vest_files.specs.Loading.{StopsAtLoad}
use Rattle.vest_files.specs.Translate.{StopsTranslate, Translates}
use Rattle.vest_cli.specs.Leaving.{LeavesAll}
use Rattle.vest_cli.specs.Lent.{lent}
use Rattle.vest_cli.specs.Replay.{StopsReplay}
use Rattle.vest_cli.specs.Run.{target_of}
use Rattle.vest_cli.specs.Vest.{Does}
use Rattle.vest_cli.specs.Words.{CanBeObeyed}
use Rattle.vest_cli.proofs.Obeying.{decided_as, decided_so, does_as, err_so, generate_leaves, generate_why, halts_as, input_stays, list_leaves, live_leaves, live_why, ok_so, only_generates, only_lists, only_replays, only_translates, ready_so, replay_leaves, run_why, translate_leaves, why_so}
use Rattle.vest_cli.proofs.Halting.{generate_decided}
use Rattle.vest_cli.proofs.StoredOrders.{replay_decided}
use Rattle.vest_cli.proofs.top.obey.Goals as goal

pub run-requires-clause-few : goal.run-requires-clause-few
run-requires-clause-few g c = subst CanBeObeyed (ap command_value c.in-Run.is) c.requires.few

pub returns-in-Run-clause-does : goal.returns-in-Run-clause-does
returns-in-Run-clause-does g c =
    does_as c.run.result (command_value c.args.command) (run c.in-Run.name.now (options_value c.in-Run.options))
    (lent (g.D.Desk.meaning c.args.desk.now) (g.I.Source.meaning c.args.input.now) (g.K.Sink.meaning c.args.out.now) (g.E.Sink.meaning c.args.report.now))
    (lent (g.D.Desk.meaning c.run.new.desk) (g.I.Source.meaning c.run.new.input) (g.K.Sink.meaning c.run.new.out) (g.E.Sink.meaning c.run.new.report))
    c.run.new.kept (ap command_value c.in-Run.is) c.run.ensures.runs

pub returns-in-Run-clause-why : goal.returns-in-Run-clause-why
returns-in-Run-clause-why g c =
    halts_as c.run.result (command_value c.args.command) (run c.in-Run.name.now (options_value c.in-Run.options))
    (g.D.Desk.meaning c.args.desk.now) (g.D.Desk.meaning c.run.new.desk) (g.I.Source.meaning c.args.input.now) (g.I.Source.meaning c.run.new.input) (ap command_value c.in-Run.is)
    (run_why c.run.result c.in-Run.name.now (options_value c.in-Run.options) (g.D.Desk.meaning c.args.desk.now) (g.D.Desk.meaning c.run.new.desk) (g.I.Source.meaning c.args.input.now) (g.I.Source.meaning c.run.new.input)
    c.run.ensures.why)

pub returns-in-Run-clause-decided : goal.returns-in-Run-clause-decided
returns-in-Run-clause-decided g c =
    decided_as c.run.result (command_value c.args.command) (run c.in-Run.name.now (options_value c.in-Run.options))
    (g.D.Desk.meaning c.args.desk.now).files (g.I.Source.meaning c.args.input.now).left (ap command_value c.in-Run.is) c.run.ensures.decided

pub returns-in-Translate-clause-does : goal.returns-in-Translate-clause-does
returns-in-Translate-clause-does g c =
    does_as c.or_halt-in-Translate.result (command_value c.args.command) (translate c.in-Translate.image.now c.in-Translate.to.now c.in-Translate.target (option_map (λ s. s.now) c.in-Translate.hints))
    (lent (g.D.Desk.meaning c.args.desk.now) (g.I.Source.meaning c.args.input.now) (g.K.Sink.meaning c.args.out.now) (g.E.Sink.meaning c.args.report.now))
    (lent (g.D.Desk.meaning c.translate_file.new.desk) (g.I.Source.meaning c.args.input.now) (g.K.Sink.meaning c.args.out.now) (g.E.Sink.meaning c.args.report.now))
    c.args.kept.now (ap command_value c.in-Translate.is)
    (ok_so c.translate_file.result c.or_halt-in-Translate.result c.or_halt-in-Translate.ensures (λ end. Does (translate c.in-Translate.image.now c.in-Translate.to.now c.in-Translate.target (option_map (λ s. s.now) c.in-Translate.hints)) end (lent (g.D.Desk.meaning c.args.desk.now) (g.I.Source.meaning c.args.input.now) (g.K.Sink.meaning c.args.out.now) (g.E.Sink.meaning c.args.report.now)) (lent (g.D.Desk.meaning c.translate_file.new.desk) (g.I.Source.meaning c.args.input.now) (g.K.Sink.meaning c.args.out.now) (g.E.Sink.meaning c.args.report.now)) c.args.kept.now)
    (only_translates c.translate_file.result (g.I.Source.meaning c.args.input.now) (g.E.Sink.meaning c.args.report.now) c.args.kept.now c.requires.nothing (target_of c.in-Translate.target) c.in-Translate.image.now c.in-Translate.to.now (option_map (λ s. s.now) c.in-Translate.hints) (g.D.Desk.meaning c.args.desk.now) (g.D.Desk.meaning c.translate_file.new.desk) (g.K.Sink.meaning c.args.out.now) (subst (λ (t : Target). IfOk c.translate_file.result (λ end. Translates t end c.in-Translate.image.now c.in-Translate.to.now (option_map (λ s. s.now) c.in-Translate.hints) (g.D.Desk.meaning c.args.desk.now) (g.D.Desk.meaning c.translate_file.new.desk))) c.target_of.ensures c.translate_file.ensures.does)))

pub returns-in-Translate-clause-why : goal.returns-in-Translate-clause-why
returns-in-Translate-clause-why g c =
    halts_as c.or_halt-in-Translate.result (command_value c.args.command) (translate c.in-Translate.image.now c.in-Translate.to.now c.in-Translate.target (option_map (λ s. s.now) c.in-Translate.hints))
    (g.D.Desk.meaning c.args.desk.now) (g.D.Desk.meaning c.translate_file.new.desk) (g.I.Source.meaning c.args.input.now) (g.I.Source.meaning c.args.input.now) (ap command_value c.in-Translate.is)
    (why_so c.translate_file.result c.or_halt-in-Translate.result c.or_halt-in-Translate.ensures (translate c.in-Translate.image.now c.in-Translate.to.now c.in-Translate.target (option_map (λ s. s.now) c.in-Translate.hints))
    (g.D.Desk.meaning c.args.desk.now) (g.D.Desk.meaning c.translate_file.new.desk) (g.I.Source.meaning c.args.input.now) (g.I.Source.meaning c.args.input.now)
    (input_stays c.translate_file.result (λ stop. StopsTranslate stop c.in-Translate.image.now (option_map (λ s. s.now) c.in-Translate.hints) (g.D.Desk.meaning c.args.desk.now) (g.D.Desk.meaning c.translate_file.new.desk)) (g.I.Source.meaning c.args.input.now) c.translate_file.ensures.why))

pub returns-in-Translate-clause-ready : goal.returns-in-Translate-clause-ready
returns-in-Translate-clause-ready g c = ready_so c.translate_file.result c.or_halt-in-Translate.result c.or_halt-in-Translate.ensures

pub returns-in-Translate-clause-decided : goal.returns-in-Translate-clause-decided
returns-in-Translate-clause-decided g c =
    decided_as c.or_halt-in-Translate.result (command_value c.args.command) (translate c.in-Translate.image.now c.in-Translate.to.now c.in-Translate.target (option_map (λ s. s.now) c.in-Translate.hints))
    (g.D.Desk.meaning c.args.desk.now).files (g.I.Source.meaning c.args.input.now).left (ap command_value c.in-Translate.is) (λ d on. decided_so c.translate_file.result c.or_halt-in-Translate.result c.or_halt-in-Translate.ensures d (c.translate_file.ensures.decided d on))

pub returns-in-Translate-clause-leaves : goal.returns-in-Translate-clause-leaves
returns-in-Translate-clause-leaves g c =
    err_so c.translate_file.result c.or_halt-in-Translate.result c.or_halt-in-Translate.ensures
    (LeavesAll (lent (g.D.Desk.meaning c.args.desk.now) (g.I.Source.meaning c.args.input.now) (g.K.Sink.meaning c.args.out.now) (g.E.Sink.meaning c.args.report.now)) (lent (g.D.Desk.meaning c.translate_file.new.desk) (g.I.Source.meaning c.args.input.now) (g.K.Sink.meaning c.args.out.now) (g.E.Sink.meaning c.args.report.now)) c.args.kept.now)
    (translate_leaves c.translate_file.result (g.I.Source.meaning c.args.input.now) (g.E.Sink.meaning c.args.report.now) c.args.kept.now c.requires.nothing (g.D.Desk.meaning c.args.desk.now) (g.D.Desk.meaning c.translate_file.new.desk) (g.K.Sink.meaning c.args.out.now) c.translate_file.ensures.stays)

pub returns-in-List-clause-does : goal.returns-in-List-clause-does
returns-in-List-clause-does g c =
    does_as c.or_halt-in-List.result (command_value c.args.command) (list c.in-List.name.now)
    (lent (g.D.Desk.meaning c.args.desk.now) (g.I.Source.meaning c.args.input.now) (g.K.Sink.meaning c.args.out.now) (g.E.Sink.meaning c.args.report.now))
    (lent (g.D.Desk.meaning c.list_file.new.desk) (g.I.Source.meaning c.args.input.now) (g.K.Sink.meaning c.list_file.new.out) (g.E.Sink.meaning c.args.report.now))
    c.args.kept.now (ap command_value c.in-List.is)
    (ok_so c.list_file.result c.or_halt-in-List.result c.or_halt-in-List.ensures (λ end. Does (list c.in-List.name.now) end (lent (g.D.Desk.meaning c.args.desk.now) (g.I.Source.meaning c.args.input.now) (g.K.Sink.meaning c.args.out.now) (g.E.Sink.meaning c.args.report.now)) (lent (g.D.Desk.meaning c.list_file.new.desk) (g.I.Source.meaning c.args.input.now) (g.K.Sink.meaning c.list_file.new.out) (g.E.Sink.meaning c.args.report.now)) c.args.kept.now)
    (only_lists c.list_file.result (g.I.Source.meaning c.args.input.now) (g.E.Sink.meaning c.args.report.now) c.args.kept.now c.requires.nothing c.in-List.name.now (g.D.Desk.meaning c.args.desk.now) (g.D.Desk.meaning c.list_file.new.desk) (g.K.Sink.meaning c.args.out.now) (g.K.Sink.meaning c.list_file.new.out) c.list_file.ensures.stays c.list_file.ensures.does))

pub returns-in-List-clause-why : goal.returns-in-List-clause-why
returns-in-List-clause-why g c =
    halts_as c.or_halt-in-List.result (command_value c.args.command) (list c.in-List.name.now)
    (g.D.Desk.meaning c.args.desk.now) (g.D.Desk.meaning c.list_file.new.desk) (g.I.Source.meaning c.args.input.now) (g.I.Source.meaning c.args.input.now) (ap command_value c.in-List.is)
    (why_so c.list_file.result c.or_halt-in-List.result c.or_halt-in-List.ensures (list c.in-List.name.now)
    (g.D.Desk.meaning c.args.desk.now) (g.D.Desk.meaning c.list_file.new.desk) (g.I.Source.meaning c.args.input.now) (g.I.Source.meaning c.args.input.now)
    (input_stays c.list_file.result (λ stop. StopsAtLoad stop c.in-List.name.now (g.D.Desk.meaning c.args.desk.now) (g.D.Desk.meaning c.list_file.new.desk)) (g.I.Source.meaning c.args.input.now) c.list_file.ensures.why))

pub returns-in-List-clause-ready : goal.returns-in-List-clause-ready
returns-in-List-clause-ready g c = ready_so c.list_file.result c.or_halt-in-List.result c.or_halt-in-List.ensures

pub returns-in-List-clause-decided : goal.returns-in-List-clause-decided
returns-in-List-clause-decided g c =
    decided_as c.or_halt-in-List.result (command_value c.args.command) (list c.in-List.name.now)
    (g.D.Desk.meaning c.args.desk.now).files (g.I.Source.meaning c.args.input.now).left (ap command_value c.in-List.is) (λ d on. decided_so c.list_file.result c.or_halt-in-List.result c.or_halt-in-List.ensures d (c.list_file.ensures.decided d on))

pub returns-in-List-clause-leaves : goal.returns-in-List-clause-leaves
returns-in-List-clause-leaves g c =
    err_so c.list_file.result c.or_halt-in-List.result c.or_halt-in-List.ensures
    (LeavesAll (lent (g.D.Desk.meaning c.args.desk.now) (g.I.Source.meaning c.args.input.now) (g.K.Sink.meaning c.args.out.now) (g.E.Sink.meaning c.args.report.now)) (lent (g.D.Desk.meaning c.list_file.new.desk) (g.I.Source.meaning c.args.input.now) (g.K.Sink.meaning c.list_file.new.out) (g.E.Sink.meaning c.args.report.now)) c.args.kept.now)
    (list_leaves c.list_file.result (g.I.Source.meaning c.args.input.now) (g.E.Sink.meaning c.args.report.now) c.args.kept.now c.requires.nothing (g.D.Desk.meaning c.args.desk.now) (g.D.Desk.meaning c.list_file.new.desk) (g.K.Sink.meaning c.args.out.now) (g.K.Sink.meaning c.list_file.new.out) c.list_file.ensures.stays c.list_file.ensures.unsent)

pub returns-in-Generate-clause-does : goal.returns-in-Generate-clause-does
returns-in-Generate-clause-does g c =
    does_as c.generate.result (command_value c.args.command) (generate c.in-Generate.number)
    (lent (g.D.Desk.meaning c.args.desk.now) (g.I.Source.meaning c.args.input.now) (g.K.Sink.meaning c.args.out.now) (g.E.Sink.meaning c.args.report.now))
    (lent (g.D.Desk.meaning c.generate.new.desk) (g.I.Source.meaning c.args.input.now) (g.K.Sink.meaning c.generate.new.out) (g.E.Sink.meaning c.generate.new.report))
    c.generate.new.kept (ap command_value c.in-Generate.is)
    (only_generates c.generate.result c.in-Generate.number (g.D.Desk.meaning c.args.desk.now) (g.D.Desk.meaning c.generate.new.desk) (g.I.Source.meaning c.args.input.now) (g.K.Sink.meaning c.args.out.now) (g.K.Sink.meaning c.generate.new.out) (g.E.Sink.meaning c.args.report.now) (g.E.Sink.meaning c.generate.new.report) c.generate.new.kept c.generate.ensures.desk c.generate.ensures.does)

pub returns-in-Generate-clause-why : goal.returns-in-Generate-clause-why
returns-in-Generate-clause-why g c =
    halts_as c.generate.result (command_value c.args.command) (generate c.in-Generate.number)
    (g.D.Desk.meaning c.args.desk.now) (g.D.Desk.meaning c.generate.new.desk) (g.I.Source.meaning c.args.input.now) (g.I.Source.meaning c.args.input.now) (ap command_value c.in-Generate.is)
    (generate_why c.generate.result c.in-Generate.number (g.D.Desk.meaning c.args.desk.now) (g.D.Desk.meaning c.generate.new.desk) (g.I.Source.meaning c.args.input.now) c.generate.ensures.desk c.generate.ensures.why)

pub returns-in-Generate-clause-decided : goal.returns-in-Generate-clause-decided
returns-in-Generate-clause-decided g c =
    decided_as c.generate.result (command_value c.args.command) (generate c.in-Generate.number)
    (g.D.Desk.meaning c.args.desk.now).files (g.I.Source.meaning c.args.input.now).left (ap command_value c.in-Generate.is) (generate_decided c.generate.result c.in-Generate.number c.generate.ensures.why)

pub returns-in-Generate-clause-leaves : goal.returns-in-Generate-clause-leaves
returns-in-Generate-clause-leaves g c =
    generate_leaves c.generate.result (g.D.Desk.meaning c.args.desk.now) (g.D.Desk.meaning c.generate.new.desk) (g.I.Source.meaning c.args.input.now) (g.K.Sink.meaning c.args.out.now) (g.K.Sink.meaning c.generate.new.out) (g.E.Sink.meaning c.args.report.now) (g.E.Sink.meaning c.generate.new.report) c.generate.new.kept
    c.generate.ensures.desk c.generate.ensures.unsent c.generate.ensures.unsaid c.generate.ensures.unkept

pub live-requires : goal.live-requires
live-requires g c = record { few = subst CanBeObeyed (ap command_value c.in-Live.is) c.requires.few }

pub returns-in-Live-clause-does : goal.returns-in-Live-clause-does
returns-in-Live-clause-does g c =
    let command = live c.in-Live.name.now (live_options_value c.in-Live.options) in
    let old = lent (g.D.Desk.meaning c.args.desk.now) (g.I.Source.meaning c.args.input.now) (g.K.Sink.meaning c.args.out.now) (g.E.Sink.meaning c.args.report.now) in
    let new = lent (g.D.Desk.meaning c.live.new.desk) (g.I.Source.meaning c.live.new.input) (g.K.Sink.meaning c.live.new.out) (g.E.Sink.meaning c.live.new.report) in
    does_as c.or_halt.result (command_value c.args.command) command old new c.live.new.kept (ap command_value c.in-Live.is)
    (ok_so c.live.result c.or_halt.result c.or_halt.ensures (λ end. Does command end old new c.live.new.kept) c.live.ensures.lives)

pub returns-in-Live-clause-why : goal.returns-in-Live-clause-why
returns-in-Live-clause-why g c =
    let command = live c.in-Live.name.now (live_options_value c.in-Live.options) in
    let desk = g.D.Desk.meaning c.args.desk.now in
    let desk' = g.D.Desk.meaning c.live.new.desk in
    let input = g.I.Source.meaning c.args.input.now in
    let input' = g.I.Source.meaning c.live.new.input in
    halts_as c.or_halt.result (command_value c.args.command) command desk desk' input input' (ap command_value c.in-Live.is)
    (why_so c.live.result c.or_halt.result c.or_halt.ensures command desk desk' input input'
    (live_why c.live.result c.in-Live.name.now (live_options_value c.in-Live.options) desk desk' input input' c.live.ensures.why c.live.ensures.unasked))

pub returns-in-Live-clause-ready : goal.returns-in-Live-clause-ready
returns-in-Live-clause-ready g c = ready_so c.live.result c.or_halt.result c.or_halt.ensures

pub returns-in-Live-clause-decided : goal.returns-in-Live-clause-decided
returns-in-Live-clause-decided g c =
    decided_as c.or_halt.result (command_value c.args.command) (live c.in-Live.name.now (live_options_value c.in-Live.options))
    (g.D.Desk.meaning c.args.desk.now).files (g.I.Source.meaning c.args.input.now).left (ap command_value c.in-Live.is)
    (λ d on. decided_so c.live.result c.or_halt.result c.or_halt.ensures d (c.live.ensures.decided d on))

pub returns-in-Live-clause-leaves : goal.returns-in-Live-clause-leaves
returns-in-Live-clause-leaves g c =
    let old = lent (g.D.Desk.meaning c.args.desk.now) (g.I.Source.meaning c.args.input.now) (g.K.Sink.meaning c.args.out.now) (g.E.Sink.meaning c.args.report.now) in
    let new = lent (g.D.Desk.meaning c.live.new.desk) (g.I.Source.meaning c.live.new.input) (g.K.Sink.meaning c.live.new.out) (g.E.Sink.meaning c.live.new.report) in
    err_so c.live.result c.or_halt.result c.or_halt.ensures (LeavesAll old new c.live.new.kept)
    (live_leaves c.live.result old new c.args.kept.now c.live.new.kept c.requires.nothing c.live.ensures.stays c.live.ensures.unsent c.live.ensures.unsaid c.live.ensures.unkept)

pub returns-in-Replay-clause-does : goal.returns-in-Replay-clause-does
returns-in-Replay-clause-does g c =
    does_as c.or_halt-in-Replay.result (command_value c.args.command) (replay c.in-Replay.name.now c.in-Replay.file.now (option_map (λ s. s.now) c.in-Replay.hints))
    (lent (g.D.Desk.meaning c.args.desk.now) (g.I.Source.meaning c.args.input.now) (g.K.Sink.meaning c.args.out.now) (g.E.Sink.meaning c.args.report.now))
    (lent (g.D.Desk.meaning c.replay.new.desk) (g.I.Source.meaning c.args.input.now) (g.K.Sink.meaning c.replay.new.out) (g.E.Sink.meaning c.replay.new.report))
    c.args.kept.now (ap command_value c.in-Replay.is)
    (ok_so c.replay.result c.or_halt-in-Replay.result c.or_halt-in-Replay.ensures (λ end. Does (replay c.in-Replay.name.now c.in-Replay.file.now (option_map (λ s. s.now) c.in-Replay.hints)) end (lent (g.D.Desk.meaning c.args.desk.now) (g.I.Source.meaning c.args.input.now) (g.K.Sink.meaning c.args.out.now) (g.E.Sink.meaning c.args.report.now)) (lent (g.D.Desk.meaning c.replay.new.desk) (g.I.Source.meaning c.args.input.now) (g.K.Sink.meaning c.replay.new.out) (g.E.Sink.meaning c.replay.new.report)) c.args.kept.now)
    (only_replays c.replay.result (g.I.Source.meaning c.args.input.now) (g.E.Sink.meaning c.args.report.now) c.args.kept.now c.requires.nothing c.in-Replay.name.now c.in-Replay.file.now (option_map (λ s. s.now) c.in-Replay.hints) (g.D.Desk.meaning c.args.desk.now) (g.D.Desk.meaning c.replay.new.desk) (g.K.Sink.meaning c.args.out.now) (g.K.Sink.meaning c.replay.new.out) (g.E.Sink.meaning c.replay.new.report) c.replay.ensures.does))

pub returns-in-Replay-clause-why : goal.returns-in-Replay-clause-why
returns-in-Replay-clause-why g c =
    halts_as c.or_halt-in-Replay.result (command_value c.args.command) (replay c.in-Replay.name.now c.in-Replay.file.now (option_map (λ s. s.now) c.in-Replay.hints))
    (g.D.Desk.meaning c.args.desk.now) (g.D.Desk.meaning c.replay.new.desk) (g.I.Source.meaning c.args.input.now) (g.I.Source.meaning c.args.input.now) (ap command_value c.in-Replay.is)
    (why_so c.replay.result c.or_halt-in-Replay.result c.or_halt-in-Replay.ensures (replay c.in-Replay.name.now c.in-Replay.file.now (option_map (λ s. s.now) c.in-Replay.hints))
    (g.D.Desk.meaning c.args.desk.now) (g.D.Desk.meaning c.replay.new.desk) (g.I.Source.meaning c.args.input.now) (g.I.Source.meaning c.args.input.now)
    (input_stays c.replay.result (λ stop. StopsReplay stop c.in-Replay.name.now c.in-Replay.file.now (g.D.Desk.meaning c.args.desk.now) (g.D.Desk.meaning c.replay.new.desk)) (g.I.Source.meaning c.args.input.now) c.replay.ensures.why))

pub returns-in-Replay-clause-ready : goal.returns-in-Replay-clause-ready
returns-in-Replay-clause-ready g c = ready_so c.replay.result c.or_halt-in-Replay.result c.or_halt-in-Replay.ensures

pub returns-in-Replay-clause-decided : goal.returns-in-Replay-clause-decided
returns-in-Replay-clause-decided g c =
    decided_as c.or_halt-in-Replay.result (command_value c.args.command) (replay c.in-Replay.name.now c.in-Replay.file.now (option_map (λ s. s.now) c.in-Replay.hints))
    (g.D.Desk.meaning c.args.desk.now).files (g.I.Source.meaning c.args.input.now).left (ap command_value c.in-Replay.is) (λ d on. decided_so c.replay.result c.or_halt-in-Replay.result c.or_halt-in-Replay.ensures d
    (replay_decided c.replay.result c.in-Replay.name.now c.in-Replay.file.now (option_map (λ s. s.now) c.in-Replay.hints) (g.D.Desk.meaning c.args.desk.now) (g.D.Desk.meaning c.replay.new.desk) (g.K.Sink.meaning c.args.out.now) (g.K.Sink.meaning c.replay.new.out) (g.E.Sink.meaning c.args.report.now) (g.E.Sink.meaning c.replay.new.report)
    c.replay.ensures.does c.replay.ensures.why d on))

pub returns-in-Replay-clause-leaves : goal.returns-in-Replay-clause-leaves
returns-in-Replay-clause-leaves g c =
    err_so c.replay.result c.or_halt-in-Replay.result c.or_halt-in-Replay.ensures
    (LeavesAll (lent (g.D.Desk.meaning c.args.desk.now) (g.I.Source.meaning c.args.input.now) (g.K.Sink.meaning c.args.out.now) (g.E.Sink.meaning c.args.report.now)) (lent (g.D.Desk.meaning c.replay.new.desk) (g.I.Source.meaning c.args.input.now) (g.K.Sink.meaning c.replay.new.out) (g.E.Sink.meaning c.replay.new.report)) c.args.kept.now)
    (replay_leaves c.replay.result (g.I.Source.meaning c.args.input.now) (g.E.Sink.meaning c.args.report.now) c.args.kept.now c.requires.nothing (g.D.Desk.meaning c.args.desk.now) (g.D.Desk.meaning c.replay.new.desk) (g.K.Sink.meaning c.args.out.now) (g.K.Sink.meaning c.replay.new.out) (g.E.Sink.meaning c.replay.new.report) c.replay.ensures.stays c.replay.ensures.unsent c.replay.ensures.unsaid)
