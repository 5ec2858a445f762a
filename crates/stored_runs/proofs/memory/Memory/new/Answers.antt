use Rattle.std.proofs.Common.{◌≡◌, ◌<◌, length, get_or, ap, ◌∙◌, subst, arith}
use Rattle.image_file.specs.Rows.{is_sound}
use Rattle.image_file.specs.Spelling.{row_of}
use Rattle.image_file.specs.Values.{SectionValue, ImageValue}
use Rattle.stored_runs.proofs.Sections.{one_more, stored_fits, sound_at, bytes_first}
use Rattle.stored_runs.proofs.memory.Memory.new.Goals as goal

pub region_of-requires : goal.region_of-requires
region_of-requires c =
    let list : c.deref-section-items.result.now ≡ c.args.image.now.sections = c.deref-section-items.ensures.value ∙ ap (λ (i : ImageValue). i.sections) c.image.view_is in
    let at : c.section-item.result ≡ get_or c.deref-section-items.result.now c.loop-section.section-index c.section-item.result = c.section-item.is in
    let item : c.section-item.result ≡ get_or c.args.image.now.sections c.loop-section.section-index c.section-item.result =
    at ∙ ap (λ l. get_or l c.loop-section.section-index c.section-item.result) list in
    let below : c.loop-section.section-index < length c.args.image.now.sections = subst (λ l. c.loop-section.section-index < length l) list c.loop-section-test.true in
    stored_fits c.section-item.result (ap (λ (s : SectionValue). is_sound (row_of s)) item
    ∙ sound_at c.args.image.now.sections c.loop-section.section-index c.section-item.result below c.requires.whole.laid_out.sound)

pub loop-section-preserved : goal.loop-section-preserved
loop-section-preserved c =
    one_more c.deref-section-items.result.now c.loop-section.section-index c.section-item.result c.loop-section.regions.items c.push.new.self.items c.in_ok-region_of.field-0
    c.loop-section-test.true c.section-item.is c.loop-section.invariant c.in_ok-region_of.ensures c.in_ok-push.ensures.items

pub returns-clause-bytes : goal.returns-clause-bytes
returns-clause-bytes c =
    let list : c.deref-section-items.result.now ≡ c.args.image.now.sections = c.deref-section-items.ensures.value ∙ ap (λ (i : ImageValue). i.sections) c.image.view_is in
    bytes_first c.args.image.now c.deref-section-items.result.now c.loop-section.section-index c.loop-section.regions.items list (omega arith) c.loop-section.invariant c.requires.whole.laid_out.sound
