use Rattle.std.proofs.Common.{◌≡◌, take}
use Rattle.vax_run.specs.World.{bytes_of}
use Rattle.vax_run.proofs.world.World.bytes.Given as goal

abbrev pub invariant-loop-range : goal.invariant-loop-range
invariant-loop-range l = l.bytes.items ≡ bytes_of l.image l.self.memory (take l.range-index l.range-items)
