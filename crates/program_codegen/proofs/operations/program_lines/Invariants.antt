use Rattle.std.proofs.Common.{◌≡◌, ◌++◌, ◌≤◌, length}
use Rattle.std.specs.Prelude.{drop}
use Rattle.program_codegen.specs.Words.{program_lines}
use Rattle.program_codegen.specs.Programs.{AllFitWords, AllRanged}
use Rattle.program_codegen.proofs.operations.program_lines.Given as goal

abbrev pub invariant-loop-i : goal.invariant-loop-i
invariant-loop-i l = record {
  within : l.i ≤ length l.program;
  words : AllFitWords l.site.sources (drop l.i l.program);
  pushed : l.lines.items ++ program_lines l.site l.codes (drop l.i l.program) ≡ program_lines l.fn.site l.fn.codes l.fn.program;
  ranged : AllRanged (drop l.i l.program) → AllRanged l.program;
}
