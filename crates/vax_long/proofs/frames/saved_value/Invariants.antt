-- what is looked for stands as far behind in what is left
use Rattle.std.proofs.Common.{◌≡◌, ◌-◌, slice_index}
use Rattle.vax_long.specs.Calls.{saved_values}
use Rattle.vax_long.proofs.frames.saved_value.Given as goal

abbrev pub invariant-loop-done : goal.invariant-loop-done
invariant-loop-done l = slice_index (saved_values (12 - l.done) l.mask l.state) l.left ≡ slice_index (saved_values 12 l.mask l.fn.state) l.place
