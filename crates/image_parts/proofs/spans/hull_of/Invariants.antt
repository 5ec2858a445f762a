use Rattle.std.proofs.Common.{◌≡◌, take}
use Rattle.std.specs.Prelude.{filter, fold}
use Rattle.image_parts.specs.Sections.{joins, hull}
use Rattle.image_parts.proofs.spans.hull_of.Given as goal

abbrev pub invariant-loop-other : goal.invariant-loop-other
invariant-loop-other l = l.whole ≡ fold hull l.span (filter (joins l.span) (take l.other-index l.others))
