use Rattle.std.proofs.Common.{◌≡◌, take}
use Rattle.image_parts.specs.Sections.{stored_end}
use Rattle.image_parts.proofs.sections.stored_end.Given as goal

abbrev pub invariant-loop-segment : goal.invariant-loop-segment
invariant-loop-segment l = l.end ≡ stored_end l.span (take l.segment-index l.segments) l.span.start
