use Rattle.std.proofs.Common.{◌++◌, ◌∙◌, ap}
use Rattle.image_file.specs.Values.{SectionValue}
use Rattle.image_parts.proofs.Appending.{appended_more}
use Rattle.image_parts.proofs.spelled.put_stored.Goals as goal

pub loop-section-preserved : goal.loop-section-preserved
loop-section-preserved c =
    let out = c.loop-section.out.items in
    let stored = c.deref.ensures.value ∙ ap (λ (s : SectionValue). s.stored) (c.section.view_is ∙ c.section-item.is) in
    appended_more (λ (s : SectionValue). s.stored) c.args.out.now.items out _ c.args.sections.now c.loop-section.section-index c.section-item.result c.loop-section-test.true
    c.loop-section.invariant (c.in_ok-extend_from_slice.ensures.items ∙ ap (λ more. out ++ more) stored)
