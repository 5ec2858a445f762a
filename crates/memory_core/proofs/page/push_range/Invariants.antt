use Rattle.std.proofs.Common.{◌≡◌, ◌*◌, ◌++◌}
use Rattle.memory_core.specs.Places.{quads_from}
use Rattle.memory_core.proofs.page.push_range.Given as goal

abbrev pub invariant-loop-n : goal.invariant-loop-n
invariant-loop-n l = l.quads.items ≡ l.initial.quads.items ++ quads_from l.image (512 * l.range.first) l.n
