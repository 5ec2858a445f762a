use Rattle.std.proofs.Common.{◌≡◌, drop, ◌++◌}
use Rattle.operand_programs.specs.Fronts.{IsFrontOf}
use Rattle.operand_programs.specs.Specifiers.{commit_program}
use Rattle.operand_programs.proofs.results.put_commits.Given as goal

abbrev pub invariant-loop-number : goal.invariant-loop-number
invariant-loop-number l = record {
  rest : l.program.items ++ commit_program l.number (drop l.number l.steps) ≡ l.fn.program.items ++ commit_program 0 l.steps;
  front : IsFrontOf l.fn.program.items l.program.items;
}
