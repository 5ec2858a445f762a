use Rattle.std.proofs.Common.{◌≡◌, drop}
use Rattle.std.specs.Prelude.{find}
use Rattle.image_parts.specs.Segments.{segment_has}
use Rattle.image_parts.proofs.segments.program_byte.Given as goal

abbrev pub invariant-loop-segment : goal.invariant-loop-segment
invariant-loop-segment l = find (segment_has l.address) (drop l.segment-index l.segments) ≡ find (segment_has l.address) l.segments
