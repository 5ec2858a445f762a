use Rattle.std.proofs.Common.{◌≡◌, ◌++◌, ◌+◌, ◌-◌, ◌≤◌}
use Rattle.program_codegen.specs.Strings.{steps_from}
use Rattle.program_codegen.proofs.strings.behind_words.Given as goal

abbrev pub invariant-loop-done : goal.invariant-loop-done
invariant-loop-done l = record {
  within : l.done ≤ 9;
  pushed : l.words.items ++ steps_from (6 + l.done) (9 - l.done) l.fn.steps ≡ steps_from 6 9 l.fn.steps;
}
