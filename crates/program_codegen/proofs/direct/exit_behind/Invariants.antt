use Rattle.std.proofs.Common.{◌≡◌, ◌≤◌, length}
use Rattle.std.specs.Prelude.{drop}
use Rattle.program_codegen.specs.Ends.{exit_behind}
use Rattle.program_codegen.specs.Programs.{RangedToLeave}
use Rattle.program_codegen.proofs.direct.exit_behind.Given as goal

abbrev pub invariant-loop-i : goal.invariant-loop-i
invariant-loop-i l = record {
  within : l.i ≤ length l.program;
  same : exit_behind l.fn.sources l.fn.program ≡ exit_behind l.sources (drop l.i l.program);
  ranged : RangedToLeave (drop l.i l.program) → RangedToLeave l.fn.program;
}
