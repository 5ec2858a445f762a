use Rattle.std.proofs.Common.{◌≡◌}
use Rattle.image_parts.specs.Sections.{bytes_from}
use Rattle.image_parts.proofs.sections.bytes_from.Given as goal

abbrev pub invariant-loop-place : goal.invariant-loop-place
invariant-loop-place l = l.bytes.items ≡ bytes_from l.segments l.start l.place
