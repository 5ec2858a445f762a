use Rattle.std.proofs.Common.{◌≡◌, ◌-◌, drop, length}
use Rattle.image_parts.specs.Sections.{all_joined}
use Rattle.image_parts.proofs.spans.all_joined.Given as goal

abbrev pub invariant-loop-done : goal.invariant-loop-done
invariant-loop-done l = l.whole.items ≡ all_joined (drop (length l.spans - l.done) l.spans)
