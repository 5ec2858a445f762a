-- One more segment gives one more span.
use Rattle.std.proofs.Common.{◌∷◌, ◌++◌, [], ◌∙◌, ap, sym}
use Rattle.std.proofs.lemmas.List.{map_more}
use Rattle.image_parts.specs.Segments.{span_of}
use Rattle.image_parts.proofs.spans.spans_of.Goals as goal

pub loop-segment-preserved : goal.loop-segment-preserved
loop-segment-preserved c =
    let segment = c.segment-item in
    c.in_ok-push.ensures.items ∙ (λ i. c.loop-segment.invariant i ++ (c.span_of.ensures ∙ ap span_of segment.is) i ∷ [])
    ∙ sym (map_more span_of c.args.segments.now c.loop-segment.segment-index segment.result c.loop-segment-test.true)
