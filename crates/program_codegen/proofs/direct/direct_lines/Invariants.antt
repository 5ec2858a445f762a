use Rattle.std.proofs.Common.{◌≡◌, ◌++◌, ◌≤◌, length, List}
use Rattle.std.specs.Prelude.{drop, option_map}
use Rattle.program_codegen.specs.declared.lines.Line.{Line}
use Rattle.program_codegen.specs.Homes.{AreHomes, no_homes}
use Rattle.program_codegen.specs.Direct.{direct_lines}
use Rattle.program_codegen.specs.Programs.{AllFitWords, RangedToLeave}
use Rattle.program_codegen.proofs.direct.direct_lines.Given as goal

abbrev pub invariant-loop-i : goal.invariant-loop-i
invariant-loop-i l = record {
  within : l.i ≤ length l.program;
  words : AllFitWords l.site.sources (drop l.i l.program);
  homes : AreHomes l.homes;
  pushed : direct_lines l.fn.site l.fn.codes no_homes l.fn.program ≡ option_map (λ (rest : List Line). l.lines.items ++ rest) (direct_lines l.site l.codes l.homes (drop l.i l.program));
  ranged : RangedToLeave (drop l.i l.program) → RangedToLeave l.fn.program;
}
