use Rattle.std.proofs.Common.{◌≡◌, ◌∷◌, not, take}
use Rattle.std.specs.Prelude.{filter, fold}
use Rattle.image_parts.specs.Sections.{joins, hull}
use Rattle.image_parts.proofs.spans.joined.Given as goal

abbrev pub invariant-loop-other : goal.invariant-loop-other
invariant-loop-other l = l.spans.items ≡ fold hull l.span (filter (joins l.span) l.others) ∷ filter (λ t. not (joins l.span t)) (take l.other-index l.others)
