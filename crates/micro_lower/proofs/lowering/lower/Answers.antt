-- A program of the table lowers its instruction, and an instruction that is to have one has it.
use Rattle.std.proofs.Common.{rules, ◌≡◌, true, List, Some, None}
use Rattle.vax_form.specs.Operation.{operation_at}
use Rattle.micro_ops.specs.declared.program.Micro.{Micro}
use Rattle.micro_lower.specs.Lowering.{IsLowered, WritesOperand}
use Rattle.micro_lower.specs.Rows.{has_program, program_for, program_of_operation}
use Rattle.micro_lower.proofs.Instructions.{is_lowered_by, program_is, has_it}
use Rattle.micro_lower.proofs.Written.{writes_operand}
use Rattle.micro_lower.proofs.lowering.lower.Goals as goal

pub returns-in-Ok-Some-clause-lowered : goal.returns-in-Ok-Some-clause-lowered
returns-in-Ok-Some-clause-lowered c =
    let instr = c.args.instr.now in
    let operation = c.in-Some.operation in
    let at : operation_at instr.opcode ≡ Some operation = cc (c.operation_of.ensures, c.in-Some.is) in
    let by : (program : List Micro) → program_of_operation operation instr ≡ Some program → IsLowered instr program =
    λ program made. is_lowered_by instr operation program c.requires.spelled c.are_long.ensures at made in
    search (rules, by)

pub returns-in-Ok-Some-clause-program : goal.returns-in-Ok-Some-clause-program
returns-in-Ok-Some-clause-program c =
    let instr = c.args.instr.now in
    let operation = c.in-Some.operation in
    let at : operation_at instr.opcode ≡ Some operation = cc (c.operation_of.ensures, c.in-Some.is) in
    let by : (program : List Micro) → program_of_operation operation instr ≡ Some program → program_for instr ≡ Some program =
    λ program made. program_is instr operation program at made in
    search (rules, by)

pub returns-in-Ok-Some-clause-written : goal.returns-in-Ok-Some-clause-written
returns-in-Ok-Some-clause-written c =
    let instr = c.args.instr.now in
    let operation = c.in-Some.operation in
    let at : operation_at instr.opcode ≡ Some operation = cc (c.operation_of.ensures, c.in-Some.is) in
    let by : (program : List Micro) → program_of_operation operation instr ≡ Some program → WritesOperand instr program =
    λ program made. writes_operand instr operation program at made in
    search (rules, by)

pub returns-in-Ok-None-clause-refused : goal.returns-in-Ok-None-clause-refused
returns-in-Ok-None-clause-refused c =
    let instr = c.args.instr.now in
    let operation = c.in-Some.operation in
    let at : operation_at instr.opcode ≡ Some operation = cc (c.operation_of.ensures, c.in-Some.is) in
    let has : has_program instr ≡ true = cc (c.has_program.ensures, c.if-not-has_program.false) in
    let none : program_of_operation operation instr ≡ None = search rules in
    absurd (has_it instr operation at has none)
