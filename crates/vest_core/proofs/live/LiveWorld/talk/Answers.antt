-- Pause by pause, the thread goes on or the talk ends.
use Rattle.std.proofs.Common.{◌≡◌, ◌∙◌, ◌<◌, ◌≤◌, ◌^◌, ◌-◌, Bool, inl, ap, sym, subst, true, false, rules, arith}
use Rattle.memory_core.specs.Live.{all_sent, given}
use Rattle.memory_core.specs.declared.entry.SetUp.{SetUp}
use Rattle.tie_switch.specs.Live.{is_full}
use Rattle.tie_switch.specs.Processors.{ProcessorValue, processor_of}
use Rattle.tie_switch.specs.Settings.{image_setting}
use Rattle.tie_switch.specs.Turns.{has_ended}
use Rattle.tie_switch.proofs.Knowing.{none_known}
use Rattle.vest_core.specs.LiveWorlds.{LiveWorldValue}
use Rattle.vest_core.specs.declared.talking.TalkEnd.TheVariants.{Ended}
use Rattle.vest_core.proofs.Pauses.{IsTalking, all_asked, ends, ends_input, ends_untold, ends_unwritten, fails_there, fewer_ended, fewer_given, fewer_sent, gives_on, goes_on, goes_on_behind, pauses_left, sends_on, starts, took_all_now, took_some_now}
use Rattle.vest_core.proofs.Reporting.{IsTelling, all_offered, ended_told, full_by, made, part_told, some_offered, starts_telling, told_on, unread_told, unwritten_told}
use Rattle.vt_outside.specs.Taking.{TookAll, TookSome}
use Rattle.vest_core.proofs.live.LiveWorld.talk.Goals as goal

pub loop-known-init : goal.loop-known-init
loop-known-init g c =
    let image = c.args.image.now in
    let setting = image_setting image.pages c.args.translation.now c.args.ranges.now in
    let few : c.new-progress.result.due ≤ 2 ^ 64 - 1 = search rules in
    record {
      known = none_known image.pages 1024;
      every = c.new-progress.ensures.every;
      talking = starts image setting c.args.self.now (g.I.Source.meaning c.args.input.now) (g.K.Sink.meaning c.args.out.now) c.requires.new c.requires.legal;
      telling =
          starts_telling setting image c.args.every c.args.self.now (g.E.Sink.meaning c.args.report.now) c.new-progress.result.due (c.new-progress.ensures.due ∙ c.new-progress.ensures.every) few c.requires.new;
    }

pub returns-then-is_err-clause-talked : goal.returns-then-is_err-clause-talked
returns-then-is_err-clause-talked g c =
    let e = c.advance-pause.ensures in
    let t = c.loop-known.invariant.talking in
    let was = c.loop-known.self in
    let now = c.advance-pause.new.self in
    let image = c.args.image.now in
    let setting = image_setting image.pages c.args.translation.now c.args.ranges.now in
    let sink = g.K.Sink.meaning c.args.out.now in
    let sink' = g.K.Sink.meaning c.loop-known.out in
    let sink'' = g.K.Sink.meaning c.write_all.new.sink in
    let took : TookSome sink' sink'' c.output.result.now = search rules in
    let report = g.E.Sink.meaning c.args.report.now in
    let report' = g.E.Sink.meaning c.loop-known.report in
    let h = c.loop-known.invariant.telling in
    let m = made setting image c.args.every c.loop-known.progress.due was now report report' c.advance-pause.result.0 c.turns-turns.result c.steps.result h e.turned
    (ap (λ (u : SetUp). u.image) e.memory.set_up ∙ t.image_is) (let few = c.requires.few in omega (arith, few, t.budget, e.budget)) e.legal c.turns-turns.ensures.few e.most
    (c.steps.ensures ∙ ap (λ (k : ProcessorValue). k.steps) c.processor-in-loop-known.ensures.value) in
    ends_unwritten image setting c.args.self.now was c.loop-known.input_ended (g.I.Source.meaning c.args.input.now) (g.I.Source.meaning c.loop-known.input) sink sink' t now e.memory e.read c.args.every report report' e.spent e.legal (e.asked t.asked) sink''
    (took_some_now was.memory now.memory e.sent sink sink' sink'' t.sent (subst (TookSome sink' sink'') c.output.ensures took))
    (unwritten_told setting image c.args.every c.loop-known.progress.due was now report report' m)

pub returns-in-Failed-clause-talked : goal.returns-in-Failed-clause-talked
returns-in-Failed-clause-talked g c =
    let e = c.advance-pause.ensures in
    let t = c.loop-known.invariant.talking in
    let was = c.loop-known.self in
    let now = c.advance-pause.new.self in
    let image = c.args.image.now in
    let setting = image_setting image.pages c.args.translation.now c.args.ranges.now in
    let sink = g.K.Sink.meaning c.args.out.now in
    let sink' = g.K.Sink.meaning c.loop-known.out in
    let sink'' = g.K.Sink.meaning c.write_all.new.sink in
    let took : TookAll sink' sink'' c.output.result.now = search rules in
    let report = g.E.Sink.meaning c.args.report.now in
    let report' = g.E.Sink.meaning c.loop-known.report in
    let h = c.loop-known.invariant.telling in
    let m = made setting image c.args.every c.loop-known.progress.due was now report report' c.advance-pause.result.0 c.turns-turns.result c.steps.result h e.turned
    (ap (λ (u : SetUp). u.image) e.memory.set_up ∙ t.image_is) (let few = c.requires.few in omega (arith, few, t.budget, e.budget)) e.legal c.turns-turns.ensures.few e.most
    (c.steps.ensures ∙ ap (λ (k : ProcessorValue). k.steps) c.processor-in-loop-known.ensures.value) in
    let report'' = g.E.Sink.meaning c.tell.new.report in
    let offered = some_offered report' report'' c.loop-known.progress.due c.retired-retired.result was.processor.retired c.processor-in-loop-known-2.result.now now.processor
    (c.retired-retired.ensures ∙ ap (λ (k : ProcessorValue). k.retired) c.processor.ensures.value) c.processor-in-loop-known-2.ensures.value c.in-Failed.ensures.told in
    ends_untold image setting c.args.self.now was c.loop-known.input_ended (g.I.Source.meaning c.args.input.now) (g.I.Source.meaning c.loop-known.input) sink sink' t now e.memory e.read c.args.every report report'' e.spent e.legal (e.asked t.asked) sink''
    (took_all_now was.memory now.memory e.sent sink sink' sink'' t.sent (subst (TookAll sink' sink'') c.output.ensures took))
    (λ l. part_told setting image c.args.every c.loop-known.progress.due was now report report' m l report'' offered)

pub returns-in-Ended-clause-talked : goal.returns-in-Ended-clause-talked
returns-in-Ended-clause-talked g c =
    let e = c.advance-pause.ensures in
    let t = c.loop-known.invariant.talking in
    let was = c.loop-known.self in
    let now = c.advance-pause.new.self in
    let image = c.args.image.now in
    let setting = image_setting image.pages c.args.translation.now c.args.ranges.now in
    let sink = g.K.Sink.meaning c.args.out.now in
    let sink' = g.K.Sink.meaning c.loop-known.out in
    let sink'' = g.K.Sink.meaning c.write_all.new.sink in
    let took : TookAll sink' sink'' c.output.result.now = search rules in
    let report = g.E.Sink.meaning c.args.report.now in
    let report' = g.E.Sink.meaning c.loop-known.report in
    let h = c.loop-known.invariant.telling in
    let m = made setting image c.args.every c.loop-known.progress.due was now report report' c.advance-pause.result.0 c.turns-turns.result c.steps.result h e.turned
    (ap (λ (u : SetUp). u.image) e.memory.set_up ∙ t.image_is) (let few = c.requires.few in omega (arith, few, t.budget, e.budget)) e.legal c.turns-turns.ensures.few e.most
    (c.steps.ensures ∙ ap (λ (k : ProcessorValue). k.steps) c.processor-in-loop-known.ensures.value) in
    let report'' = g.E.Sink.meaning c.tell.new.report in
    let offered = all_offered c.tell.result report' report'' c.loop-known.progress.due c.retired-retired.result was.processor.retired c.processor-in-loop-known-2.result.now now.processor
    (c.retired-retired.ensures ∙ ap (λ (k : ProcessorValue). k.retired) c.processor.ensures.value) c.processor-in-loop-known-2.ensures.value c.in_default.not-Failed c.tell.ensures.told in
    let ended = e.ended.0 c.in-Ended.is in
    ends image setting c.args.self.now was c.loop-known.input_ended (g.I.Source.meaning c.args.input.now) (g.I.Source.meaning c.loop-known.input) sink sink' t now e.memory e.read Ended c.args.every report report'' e.spent e.legal ended
    (inl (all_asked setting now ended (e.asked t.asked))) sink''
    (took_all_now was.memory now.memory e.sent sink sink' sink'' t.sent (subst (TookAll sink' sink'') c.output.ensures took))
    (ended_told setting image c.args.every c.loop-known.progress.due was now report report' m e.legal report'' offered)

-- ---- a full buffer, or as many turns as were asked for
pub loop-known-preserved : goal.loop-known-preserved
loop-known-preserved g c =
    let e = c.advance-pause.ensures in
    let t = c.loop-known.invariant.talking in
    let was = c.loop-known.self in
    let now = c.advance-pause.new.self in
    let image = c.args.image.now in
    let setting = image_setting image.pages c.args.translation.now c.args.ranges.now in
    let sink = g.K.Sink.meaning c.args.out.now in
    let sink' = g.K.Sink.meaning c.loop-known.out in
    let sink'' = g.K.Sink.meaning c.write_all.new.sink in
    let took : TookAll sink' sink'' c.output.result.now = search rules in
    let report = g.E.Sink.meaning c.args.report.now in
    let report' = g.E.Sink.meaning c.loop-known.report in
    let h = c.loop-known.invariant.telling in
    let m = made setting image c.args.every c.loop-known.progress.due was now report report' c.advance-pause.result.0 c.turns-turns.result c.steps.result h e.turned
    (ap (λ (u : SetUp). u.image) e.memory.set_up ∙ t.image_is) (let few = c.requires.few in omega (arith, few, t.budget, e.budget)) e.legal c.turns-turns.ensures.few e.most
    (c.steps.ensures ∙ ap (λ (k : ProcessorValue). k.steps) c.processor-in-loop-known.ensures.value) in
    let report'' = g.E.Sink.meaning c.tell.new.report in
    let offered = all_offered c.tell.result report' report'' c.loop-known.progress.due c.retired-retired.result was.processor.retired c.processor-in-loop-known-2.result.now now.processor
    (c.retired-retired.ensures ∙ ap (λ (k : ProcessorValue). k.retired) c.processor.ensures.value) c.processor-in-loop-known-2.ensures.value c.in_default.not-Failed c.tell.ensures.told in
    let going : has_ended (processor_of now.processor).mode ≡ false = goes_on c.advance-pause.result.1 _ e.ended.1 c.in-FullOutput.is in
    record {
      known = e.known;
      every = c.tell.ensures.every ∙ c.loop-known.invariant.every;
      talking =
          sends_on image setting c.args.self.now was c.loop-known.input_ended (g.I.Source.meaning c.args.input.now) (g.I.Source.meaning c.loop-known.input) sink sink' t now e.memory e.read e.budget going sink''
          (took_all_now was.memory now.memory e.sent sink sink' sink'' t.sent (subst (TookAll sink' sink'') c.output.ensures took))
          c.send-in-FullOutput.new.self c.send-in-FullOutput.ensures.all (c.send-in-FullOutput.ensures.legal setting e.legal) (c.send-in-FullOutput.ensures.asked setting (e.asked t.asked));
      telling =
          subst (λ (w : LiveWorldValue). IsTelling setting image c.args.every c.tell.new.self.due w.memory.contents.history w.processor report report'') (sym c.send-in-FullOutput.ensures.all)
          (told_on setting image c.args.every c.loop-known.progress.due was now report report' m c.tell.new.self.due c.loop-known.progress.every c.retired-retired.result c.processor-in-loop-known-2.result.now report''
          (c.retired-retired.ensures ∙ ap (λ (k : ProcessorValue). k.retired) c.processor.ensures.value) c.processor-in-loop-known-2.ensures.value c.loop-known.invariant.every c.tell.ensures.due offered);
    }

pub loop-known-smaller : goal.loop-known-smaller
loop-known-smaller g c =
    let e = c.advance-pause.ensures in
    let t = c.loop-known.invariant.talking in
    let now = c.advance-pause.new.self in
    let setting = image_setting c.args.image.now.pages c.args.translation.now c.args.ranges.now in
    let going : has_ended (processor_of now.processor).mode ≡ false = goes_on c.advance-pause.result.1 _ e.ended.1 c.in-FullOutput.is in
    let by_requires = c.requires.room in
    let few = c.requires.few in
    let full = full_by c.advance-pause.result.1 c.advance-pause.result.0 c.turns-turns.result (is_full now.memory.contents) e.full e.all c.turns-turns.ensures.some c.in-FullOutput.is in
    subst (λ (w : LiveWorldValue). pauses_left w c.loop-known.input_ended < pauses_left c.loop-known.self c.loop-known.input_ended) (sym c.send-in-FullOutput.ensures.all)
    (fewer_sent setting c.loop-known.self now c.advance-pause.result.0 e.legal e.budget (e.steps going) e.unmade
    (omega (arith, by_requires, t.buffer, e.memory.buffer)) (omega (arith, few, t.budget, e.budget)) c.loop-known.input_ended full)

-- ---- where input is wanted
pub loop-known-preserved-in-Byte : goal.loop-known-preserved-in-Byte
loop-known-preserved-in-Byte g c =
    let e = c.advance-pause.ensures in
    let was = c.loop-known.self in
    let now = c.advance-pause.new.self in
    let image = c.args.image.now in
    let setting = image_setting image.pages c.args.translation.now c.args.ranges.now in
    let source = g.I.Source.meaning c.args.input.now in
    let source' = g.I.Source.meaning c.loop-known.input in
    let source'' = g.I.Source.meaning c.hear.new.input in
    let sink = g.K.Sink.meaning c.args.out.now in
    let sink' = g.K.Sink.meaning c.loop-known.out in
    let sink'' = g.K.Sink.meaning c.write_all.new.sink in
    let took : TookAll sink' sink'' c.output.result.now = search rules in
    let wants = e.wants c.in-WantsInput.is in
    let t = subst (λ (b : Bool). IsTalking image setting c.args.self.now was b source source' sink sink') wants.0 c.loop-known.invariant.talking in
    let report = g.E.Sink.meaning c.args.report.now in
    let report' = g.E.Sink.meaning c.loop-known.report in
    let h = c.loop-known.invariant.telling in
    let m = made setting image c.args.every c.loop-known.progress.due was now report report' c.advance-pause.result.0 c.turns-turns.result c.steps.result h e.turned
    (ap (λ (u : SetUp). u.image) e.memory.set_up ∙ t.image_is) (let few = c.requires.few in omega (arith, few, t.budget, e.budget)) e.legal c.turns-turns.ensures.few e.most
    (c.steps.ensures ∙ ap (λ (k : ProcessorValue). k.steps) c.processor-in-loop-known.ensures.value) in
    let report'' = g.E.Sink.meaning c.tell.new.report in
    let offered = all_offered c.tell.result report' report'' c.loop-known.progress.due c.retired-retired.result was.processor.retired c.processor-in-loop-known-2.result.now now.processor
    (c.retired-retired.ensures ∙ ap (λ (k : ProcessorValue). k.retired) c.processor.ensures.value) c.processor-in-loop-known-2.ensures.value c.in_default.not-Failed c.tell.ensures.told in
    let took_now = took_all_now was.memory now.memory e.sent sink sink' sink'' t.sent (subst (TookAll sink' sink'') c.output.ensures took) in
    let going : has_ended (processor_of now.processor).mode ≡ false = goes_on_behind c.advance-pause.result.1 _ e.ended.1 c.in-WantsInput.is in
    let sent_now : c.send.new.self ≡ record now { memory = all_sent (record now.memory { contents = given c.in-Byte.byte now.memory.contents }) } =
    c.send.ensures.all ∙ ap (λ (w : LiveWorldValue). record w { memory = all_sent w.memory }) c.give.ensures.given in
    record {
      known = e.known;
      every = c.tell.ensures.every ∙ c.loop-known.invariant.every;
      talking =
          subst (λ (b : Bool). IsTalking image setting c.args.self.now c.send.new.self b source source'' sink sink'') (sym wants.0)
          (gives_on image setting c.args.self.now was source source' sink sink' t now e.memory wants.1 e.budget going sink'' took_now c.in-Byte.byte source'' c.in-Byte.ensures.0 c.in-Byte.ensures.1
          c.send.new.self sent_now (c.send.ensures.legal setting (c.give.ensures.legal setting e.legal)) (c.send.ensures.asked setting (c.give.ensures.asked setting (e.asks c.in-WantsInput.is))));
      telling =
          subst (λ (w : LiveWorldValue). IsTelling setting image c.args.every c.tell.new.self.due w.memory.contents.history w.processor report report'') (sym sent_now)
          (told_on setting image c.args.every c.loop-known.progress.due was now report report' m c.tell.new.self.due c.loop-known.progress.every c.retired-retired.result c.processor-in-loop-known-2.result.now report''
          (c.retired-retired.ensures ∙ ap (λ (k : ProcessorValue). k.retired) c.processor.ensures.value) c.processor-in-loop-known-2.ensures.value c.loop-known.invariant.every c.tell.ensures.due offered);
    }

pub loop-known-preserved-in-End : goal.loop-known-preserved-in-End
loop-known-preserved-in-End g c =
    let e = c.advance-pause.ensures in
    let was = c.loop-known.self in
    let now = c.advance-pause.new.self in
    let image = c.args.image.now in
    let setting = image_setting image.pages c.args.translation.now c.args.ranges.now in
    let source = g.I.Source.meaning c.args.input.now in
    let source' = g.I.Source.meaning c.loop-known.input in
    let source'' = g.I.Source.meaning c.hear.new.input in
    let sink = g.K.Sink.meaning c.args.out.now in
    let sink' = g.K.Sink.meaning c.loop-known.out in
    let sink'' = g.K.Sink.meaning c.write_all.new.sink in
    let took : TookAll sink' sink'' c.output.result.now = search rules in
    let wants = e.wants c.in-WantsInput.is in
    let t = subst (λ (b : Bool). IsTalking image setting c.args.self.now was b source source' sink sink') wants.0 c.loop-known.invariant.talking in
    let report = g.E.Sink.meaning c.args.report.now in
    let report' = g.E.Sink.meaning c.loop-known.report in
    let h = c.loop-known.invariant.telling in
    let m = made setting image c.args.every c.loop-known.progress.due was now report report' c.advance-pause.result.0 c.turns-turns.result c.steps.result h e.turned
    (ap (λ (u : SetUp). u.image) e.memory.set_up ∙ t.image_is) (let few = c.requires.few in omega (arith, few, t.budget, e.budget)) e.legal c.turns-turns.ensures.few e.most
    (c.steps.ensures ∙ ap (λ (k : ProcessorValue). k.steps) c.processor-in-loop-known.ensures.value) in
    let report'' = g.E.Sink.meaning c.tell.new.report in
    let offered = all_offered c.tell.result report' report'' c.loop-known.progress.due c.retired-retired.result was.processor.retired c.processor-in-loop-known-2.result.now now.processor
    (c.retired-retired.ensures ∙ ap (λ (k : ProcessorValue). k.retired) c.processor.ensures.value) c.processor-in-loop-known-2.ensures.value c.in_default.not-Failed c.tell.ensures.told in
    let took_now = took_all_now was.memory now.memory e.sent sink sink' sink'' t.sent (subst (TookAll sink' sink'') c.output.ensures took) in
    let going : has_ended (processor_of now.processor).mode ≡ false = goes_on_behind c.advance-pause.result.1 _ e.ended.1 c.in-WantsInput.is in
    let sent = sends_on image setting c.args.self.now was false source source' sink sink' t now e.memory (λ so. e.read wants.0) e.budget going sink'' took_now
    c.send-in-End.new.self c.send-in-End.ensures.all (c.send-in-End.ensures.legal setting e.legal) (c.send-in-End.ensures.asked setting (e.asked t.asked)) in
    record {
      known = e.known;
      every = c.tell.ensures.every ∙ c.loop-known.invariant.every;
      talking = ends_input image setting c.args.self.now c.send-in-End.new.self source source' sink sink'' sent source'' c.in-End.ensures.0 c.in-End.ensures.1 c.in-End.ensures.2;
      telling =
          subst (λ (w : LiveWorldValue). IsTelling setting image c.args.every c.tell.new.self.due w.memory.contents.history w.processor report report'') (sym c.send-in-End.ensures.all)
          (told_on setting image c.args.every c.loop-known.progress.due was now report report' m c.tell.new.self.due c.loop-known.progress.every c.retired-retired.result c.processor-in-loop-known-2.result.now report''
          (c.retired-retired.ensures ∙ ap (λ (k : ProcessorValue). k.retired) c.processor.ensures.value) c.processor-in-loop-known-2.ensures.value c.loop-known.invariant.every c.tell.ensures.due offered);
    }

pub returns-in-Failed-hear-clause-talked : goal.returns-in-Failed-hear-clause-talked
returns-in-Failed-hear-clause-talked g c =
    let e = c.advance-pause.ensures in
    let was = c.loop-known.self in
    let now = c.advance-pause.new.self in
    let image = c.args.image.now in
    let setting = image_setting image.pages c.args.translation.now c.args.ranges.now in
    let source = g.I.Source.meaning c.args.input.now in
    let source' = g.I.Source.meaning c.loop-known.input in
    let source'' = g.I.Source.meaning c.hear.new.input in
    let sink = g.K.Sink.meaning c.args.out.now in
    let sink' = g.K.Sink.meaning c.loop-known.out in
    let sink'' = g.K.Sink.meaning c.write_all.new.sink in
    let took : TookAll sink' sink'' c.output.result.now = search rules in
    let wants = e.wants c.in-WantsInput.is in
    let t = subst (λ (b : Bool). IsTalking image setting c.args.self.now was b source source' sink sink') wants.0 c.loop-known.invariant.talking in
    let report = g.E.Sink.meaning c.args.report.now in
    let report' = g.E.Sink.meaning c.loop-known.report in
    let h = c.loop-known.invariant.telling in
    let m = made setting image c.args.every c.loop-known.progress.due was now report report' c.advance-pause.result.0 c.turns-turns.result c.steps.result h e.turned
    (ap (λ (u : SetUp). u.image) e.memory.set_up ∙ t.image_is) (let few = c.requires.few in omega (arith, few, t.budget, e.budget)) e.legal c.turns-turns.ensures.few e.most
    (c.steps.ensures ∙ ap (λ (k : ProcessorValue). k.steps) c.processor-in-loop-known.ensures.value) in
    let report'' = g.E.Sink.meaning c.tell.new.report in
    let offered = all_offered c.tell.result report' report'' c.loop-known.progress.due c.retired-retired.result was.processor.retired c.processor-in-loop-known-2.result.now now.processor
    (c.retired-retired.ensures ∙ ap (λ (k : ProcessorValue). k.retired) c.processor.ensures.value) c.processor-in-loop-known-2.ensures.value c.in_default.not-Failed c.tell.ensures.told in
    let took_now = took_all_now was.memory now.memory e.sent sink sink' sink'' t.sent (subst (TookAll sink' sink'') c.output.ensures took) in
    fails_there image setting c.args.self.now was source source' sink sink' t now e.memory wants.1 c.args.every report report'' e.spent (e.asks c.in-WantsInput.is) source'' c.in-Failed-hear.ensures.0 c.in-Failed-hear.ensures.1 sink'' took_now
    (λ l. unread_told setting image c.args.every c.loop-known.progress.due was now report report' m l report'' offered)

pub loop-known-smaller-in-Byte : goal.loop-known-smaller-in-Byte
loop-known-smaller-in-Byte g c =
    let e = c.advance-pause.ensures in
    let t = c.loop-known.invariant.talking in
    let was = c.loop-known.self in
    let now = c.advance-pause.new.self in
    let setting = image_setting c.args.image.now.pages c.args.translation.now c.args.ranges.now in
    let wants = e.wants c.in-WantsInput.is in
    let going : has_ended (processor_of now.processor).mode ≡ false = goes_on_behind c.advance-pause.result.1 _ e.ended.1 c.in-WantsInput.is in
    let by_requires = c.requires.room in
    let few = c.requires.few in
    let byte = c.in-Byte.byte in
    let sent : LiveWorldValue = record now { memory = all_sent (record now.memory { contents = given byte now.memory.contents }) } in
    let sent_now : c.send.new.self ≡ sent = c.send.ensures.all ∙ ap (λ (w : LiveWorldValue). record w { memory = all_sent w.memory }) c.give.ensures.given in
    subst (λ (w : LiveWorldValue). pauses_left w c.loop-known.input_ended < pauses_left was c.loop-known.input_ended) (sym sent_now)
    (subst (λ (b : Bool). pauses_left sent b < pauses_left was b) (sym wants.0)
    (fewer_given setting was now c.advance-pause.result.0 e.legal e.budget (e.steps going) e.unmade
    (omega (arith, by_requires, t.buffer, e.memory.buffer)) (omega (arith, few, t.budget, e.budget)) wants.1 byte))

pub loop-known-smaller-in-End : goal.loop-known-smaller-in-End
loop-known-smaller-in-End g c =
    let e = c.advance-pause.ensures in
    let t = c.loop-known.invariant.talking in
    let was = c.loop-known.self in
    let now = c.advance-pause.new.self in
    let setting = image_setting c.args.image.now.pages c.args.translation.now c.args.ranges.now in
    let wants = e.wants c.in-WantsInput.is in
    let going : has_ended (processor_of now.processor).mode ≡ false = goes_on_behind c.advance-pause.result.1 _ e.ended.1 c.in-WantsInput.is in
    let by_requires = c.requires.room in
    let few = c.requires.few in
    let sent : LiveWorldValue = record now { memory = all_sent now.memory } in
    subst (λ (w : LiveWorldValue). pauses_left w true < pauses_left was c.loop-known.input_ended) (sym c.send-in-End.ensures.all)
    (subst (λ (b : Bool). pauses_left sent true < pauses_left was b) (sym wants.0)
    (fewer_ended setting was now c.advance-pause.result.0 e.legal e.budget (e.steps going) e.unmade
    (omega (arith, by_requires, t.buffer, e.memory.buffer)) (omega (arith, few, t.budget, e.budget)) wants.1))
