-- What is left of the operands is still to be evaluated.
use Rattle.std.proofs.Common.{◌≡◌, ◌++◌, drop}
use Rattle.operand_programs.specs.InOrder.{operands_program, steps_behind_all}
use Rattle.micro_lower.specs.Plans.{specifiers_from}
use Rattle.micro_lower.proofs.plans.put_operands.Given as goal

abbrev pub invariant-loop-i : goal.invariant-loop-i
invariant-loop-i l =
    let left = specifiers_from l.i (drop l.i l.slots) l.instr in
    let all = specifiers_from 0 l.slots l.instr in
    record {
      program : l.program.items ++ operands_program left l.steps ≡ l.fn.program.items ++ operands_program all l.fn.steps;
      steps : steps_behind_all left l.steps ≡ steps_behind_all all l.fn.steps;
    }
