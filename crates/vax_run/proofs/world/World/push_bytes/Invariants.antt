use Rattle.std.proofs.Common.{◌≡◌, ◌*◌, ◌++◌, map}
use Rattle.vax_run.specs.Values.{addresses_from}
use Rattle.vax_run.specs.World.{pair_at}
use Rattle.vax_run.proofs.world.World.push_bytes.Given as goal

abbrev pub invariant-loop-place : goal.invariant-loop-place
invariant-loop-place l = l.bytes.items ≡ l.initial.bytes.items ++ map (pair_at l.image l.self.memory) (addresses_from (512 * l.range.first) l.place)
