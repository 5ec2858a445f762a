use Rattle.std.proofs.Common.{◌≡◌, ◌++◌, ◌≤◌, ◌+◌, length, ◌-◌}
use Rattle.program_codegen.specs.Calls.{checks_from}
use Rattle.program_codegen.proofs.frames.push_checks.Given as goal

abbrev pub invariant-loop-place : goal.invariant-loop-place
invariant-loop-place l = record {
  within : l.place ≤ length l.frame;
  pushed : l.lines.items ++ checks_from l.site (l.place + 1) (length l.frame - l.place) ≡ l.fn.lines.items ++ checks_from l.fn.site 1 (length l.fn.frame);
}
