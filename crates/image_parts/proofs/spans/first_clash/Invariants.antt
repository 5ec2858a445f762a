use Rattle.std.proofs.Common.{◌≡◌, drop}
use Rattle.image_parts.specs.Segments.{first_clash}
use Rattle.image_parts.proofs.spans.first_clash.Given as goal

abbrev pub invariant-loop-low : goal.invariant-loop-low
invariant-loop-low l = first_clash l.low (drop l.low l.spans) ≡ first_clash 0 l.spans
