use Rattle.std.proofs.Common.{◌≡◌, map, take}
use Rattle.image_parts.specs.Segments.{span_of}
use Rattle.image_parts.proofs.spans.spans_of.Given as goal

abbrev pub invariant-loop-segment : goal.invariant-loop-segment
invariant-loop-segment l = l.spans.items ≡ map span_of (take l.segment-index l.segments)
