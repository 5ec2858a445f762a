-- The thread was talked with, from its start, and so what it did is the VAX thread's.
use Rattle.std.proofs.Common.{◌≡◌, ◌∷◌, [], ◌∙◌, List, refl, ap, rules, subst}
use Rattle.image_file.specs.Values.{ImageValue}
use Rattle.vax_form.specs.GrammarLaws.{AreBytes}
use Rattle.block_law.specs.Sound.{IsSound}
use Rattle.image_meaning.specs.Meant.{codes_written, image_meaning}
use Rattle.memory_core.specs.Live.{LiveContents}
use Rattle.system_model.specs.declared.translation.Range.{Range}
use Rattle.tie_switch.specs.Settings.{image_setting}
use Rattle.vest_core.specs.Talks.{HasTalked}
use Rattle.vest_cli.proofs.Lived.{tells}
use Rattle.vest_cli.proofs.living.talk.Goals as goal

pub talk-end-requires-clause-meets : goal.talk-end-requires-clause-meets
talk-end-requires-clause-meets g c =
    let pages = c.args.task.now.loaded.image.pages in
    c.permits.ensures.meets (image_meaning pages) c.args.task.now.loaded.target pages c.args.task.now.loaded.translation c.requires.meets

pub returns-clause-told : goal.returns-clause-told
returns-clause-told g c =
    let task = c.args.task.now in
    let pages = task.loaded.image.pages in
    let new = c.in_ok-world.ensures.new in
    let w = c.talk-end.new.self in
    let e = c.talk-end.ensures in
    let source = g.I.Source.meaning c.args.input.now in
    let source' = g.I.Source.meaning c.talk-end.new.input in
    let sink = g.K.Sink.meaning c.args.out.now in
    let sink' = g.K.Sink.meaning c.talk-end.new.out in
    let report = g.E.Sink.meaning c.args.report.now in
    let report' = g.E.Sink.meaning c.talk-end.new.report in
    let bytes = subst (λ (i : ImageValue). AreBytes i.pages.code) c.image.view_is c.page_table_has_bytes.ensures in
    let sound : IsSound (image_meaning pages) = c.vax_meaning_is_sound.ensures pages (codes_written pages) bytes in
    let talked = subst (λ (ranges : List Range). HasTalked c.talk-end.result (image_setting pages task.loaded.translation ranges) w.memory.contents.set_up w.budget w.memory.contents.history w.processor source source' sink sink' task.progress report report')
    c.deref.ensures.value e.talked in
    let its : c.push_reserved.new.self.items ≡ w.processor ∷ [] = search rules in
    tells c.legal_has_headline.ensures task sound (c.permits.ensures.few task.loaded.target pages) c.requires.meets c.talk-end.result w source source' sink sink' report report'
    _ refl c.apart-memory.ensures.memory its (e.budget ∙ new.budget) e.image (e.miss ∙ ap (λ (m : LiveContents). m.contents.set_up.miss) new.memory) c.apart-memory.ensures.run talked
