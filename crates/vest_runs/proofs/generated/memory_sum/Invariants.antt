-- The sum of the bytes so far.
use Rattle.std.proofs.Common.{◌≡◌, ◌≤◌, ◌*◌}
use Rattle.vest_runs.specs.Generate.{bytes_left}
use Rattle.vest_runs.proofs.generated.memory_sum.Given as goal

abbrev pub invariant-loop-place : goal.invariant-loop-place
invariant-loop-place l = record {
  sum : l.sum ≡ bytes_left l.memory.set_up l.memory.history 4096 l.place;
  small : l.sum ≤ 255 * l.place;
}
