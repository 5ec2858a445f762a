use Rattle.std.proofs.Common.{◌∷◌, ◌++◌, [], ◌∙◌, false, sym}
use Rattle.std.proofs.lemmas.List.{map_more}
use Rattle.image_parts.specs.declared.spans.Span.{Span}
use Rattle.image_parts.specs.Sections.{section_of}
use Rattle.image_parts.proofs.sections.sections_of.Goals as goal

pub loop-span-preserved : goal.loop-span-preserved
loop-span-preserved c =
    let none : Span = record { start = 0; end = 0; writable = false } in
    c.in_ok-push.ensures.items ∙ (λ i. c.loop-span.invariant i ++ c.in_ok-section_of.ensures i ∷ [])
    ∙ sym (map_more (section_of c.args.segments.now) c.deref-span-items.result.now c.loop-span.span-index none c.loop-span-test.true)
