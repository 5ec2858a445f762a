use Rattle.std.proofs.Common.{◌≡◌, take}
use Rattle.memory_core.specs.Places.{quads_of}
use Rattle.memory_core.proofs.page.opening_quads.Given as goal

abbrev pub invariant-loop-range : goal.invariant-loop-range
invariant-loop-range l = l.quads.items ≡ quads_of l.image (take l.range-index l.range-items)
