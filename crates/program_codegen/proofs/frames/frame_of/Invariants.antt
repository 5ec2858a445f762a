use Rattle.std.proofs.Common.{◌≡◌, ◌++◌, ◌≤◌, length, ◌-◌}
use Rattle.program_codegen.specs.Calls.{saved_below}
use Rattle.program_codegen.proofs.frames.frame_of.Given as goal

abbrev pub invariant-loop-done : goal.invariant-loop-done
invariant-loop-done l = record {
  within : l.done ≤ 12;
  few : length l.frame.items ≤ l.done;
  pushed : l.frame.items ++ saved_below (12 - l.done) l.mask ≡ saved_below 12 l.mask;
}
