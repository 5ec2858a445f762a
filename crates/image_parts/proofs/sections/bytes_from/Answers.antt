use Rattle.std.proofs.Common.{◌++◌, ◌∷◌, [], ◌∙◌, sym, refl}
use Rattle.std.proofs.lemmas.List.FromFn.{map-range_with_len_more}
use Rattle.image_parts.specs.Segments.{program_byte}
use Rattle.image_parts.proofs.sections.bytes_from.Goals as goal

pub loop-place-preserved : goal.loop-place-preserved
loop-place-preserved c =
    let byte_at = program_byte c.args.segments.now in
    c.in_ok-push.ensures.items ∙ (λ i. c.loop-place.invariant i ++ c.program_byte.ensures i ∷ [])
    ∙ sym (map-range_with_len_more byte_at c.args.start c.loop-place.place _ refl)
