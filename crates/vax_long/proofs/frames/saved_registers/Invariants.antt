-- as many as were in the mask so far
use Rattle.std.proofs.Common.{◌≡◌}
use Rattle.vax_long.specs.Registers.{registers_in}
use Rattle.vax_long.proofs.frames.saved_registers.Given as goal

abbrev pub invariant-loop-number : goal.invariant-loop-number
invariant-loop-number l = l.count ≡ registers_in l.number 0 l.mask
