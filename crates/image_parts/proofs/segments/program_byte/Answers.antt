use Rattle.std.proofs.Common.{ap, sym, ◌∙◌}
use Rattle.std.specs.Prelude.{option_map, unwrap_or}
use Rattle.image_file.proofs.ListLaws.{found_here, found_later, found_nowhere}
use Rattle.image_parts.specs.Segments.{segment_has, segment_byte}
use Rattle.image_parts.proofs.segments.program_byte.Goals as goal

pub returns-then-has : goal.returns-then-has
returns-then-has c =
    let here = found_here (segment_has c.args.address) c.args.segments.now c.loop-segment.segment-index c.segment-item.result c.loop-segment-test.true c.segment-item.is c.loop-segment.invariant (sym c.has.ensures ∙ c.if-has.true) in
    c.byte_of.ensures ∙ ap (λ found. unwrap_or (option_map (segment_byte c.args.address) found) 0) (sym here)

pub loop-segment-preserved : goal.loop-segment-preserved
loop-segment-preserved c =
    found_later (segment_has c.args.address) c.args.segments.now c.loop-segment.segment-index c.segment-item.result c.loop-segment-test.true c.segment-item.is c.loop-segment.invariant (sym c.has.ensures ∙ c.if-has.false)

pub returns : goal.returns
returns c =
    let none = found_nowhere (segment_has c.args.address) c.args.segments.now c.loop-segment.segment-index c.loop-segment-test.false c.loop-segment.invariant in
    ap (λ found. unwrap_or (option_map (segment_byte c.args.address) found) 0) (sym none)
