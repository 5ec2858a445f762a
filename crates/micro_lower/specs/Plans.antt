-- The plan of a program: the operands in order, what is computed before the result is written and behind that, where the
-- result goes, and the exit.
use Rattle.std.specs.Prelude.{ℕ, ◌+◌, List, [], ◌∷◌, ◌++◌, Option, Some, None}
use Rattle.vax_form.specs.declared.instr.Instr.{Instr}
use Rattle.vax_form.specs.declared.instr.Size.{Size}
use Rattle.vax_form.specs.declared.instr.Operand.TheVariants as operands
use Rattle.vax_form.specs.declared.instr.Size.TheVariants.{Byte, Long, Quad}
use Rattle.vax_form.specs.State.{SP}
use Rattle.vax_meaning.specs.Evaluation.{operand}
use Rattle.micro_ops.specs.declared.codes.CodeSource.{CodeSource}
use Rattle.micro_ops.specs.declared.codes.CodeSource.TheVariants as sources
use Rattle.micro_ops.specs.declared.codes.CodeSources.{CodeSources}
use Rattle.micro_ops.specs.declared.program.Arg.{Arg}
use Rattle.micro_ops.specs.declared.program.Arg.TheVariants.{Temp, Const}
use Rattle.micro_ops.specs.declared.program.Exit.{Exit}
use Rattle.micro_ops.specs.declared.program.Micro.{Micro}
use Rattle.micro_ops.specs.declared.program.Micro.TheVariants.{Compute, Codes, SetPsw, Leave}
use Rattle.micro_ops.specs.declared.program.MicroOp.{MicroOp}
use Rattle.micro_ops.specs.declared.program.MicroOp.TheVariants as ops
use Rattle.operand_programs.specs.Specifiers.{commit_program}
use Rattle.operand_programs.specs.InOrder.{operands_program, steps_behind_all, no_steps}
use Rattle.operand_programs.specs.Results.{result_program, replacement_program, push_program, finish_program, steps_behind_push}
use Rattle.operand_programs.specs.declared.operands.Specifier.{Specifier}
use Rattle.micro_lower.specs.declared.plans.Plan.{Plan as PlanValue}
use Rattle.micro_lower.specs.declared.plans.Slot.{Slot}
use Rattle.micro_lower.specs.declared.plans.Target.{Target}
use Rattle.micro_lower.specs.declared.plans.Target.TheVariants.{Nowhere, Result, Replacement, Stack}

-- ---- operands
-- the operand of that number in its slot
abbrev pub specifier_at : (number : ℕ) → Slot → Instr → Specifier
specifier_at number slot instr = record { access = slot.access; size = slot.size; operand = operand instr number; to = slot.to; place = slot.place }

-- the operands of an instruction, from that one on, in their slots
abbrev pub specifiers_from : (number : ℕ) → List Slot → Instr → List Specifier
specifiers_from number [] instr = []
specifiers_from number (slot ∷ slots) instr = specifier_at number slot instr ∷ specifiers_from (number + 1) slots instr

-- what the specifiers leave added to the registers
abbrev pub steps_of : List Slot → Instr → List ℕ
steps_of slots instr = steps_behind_all (specifiers_from 0 slots instr) no_steps

-- ---- plans
-- what is computed works on temporaries; the result is in 2, and the address of its operand in 3
pub record Plan : Type 0 where
  pub slots : List Slot
  pub before : List Micro
  pub target : Target
  pub behind : List Micro
  pub exit : Exit

-- the plan that a value of the program is
abbrev pub plan_of : PlanValue → Plan
plan_of plan = record { slots = plan.slots.now; before = plan.before.now; target = plan.target; behind = plan.behind.now; exit = plan.exit }

-- ---- results
-- the result is written
abbrev pub write_program : Target → (steps : List ℕ) → List Micro
write_program Nowhere steps = []
write_program (Result operand size) steps = result_program operand size 3 2
write_program (Replacement operand size) steps = replacement_program operand size 3 2
write_program Stack steps = push_program steps 3 2

-- a push adds to the stack pointer
abbrev pub steps_behind_target : Target → (steps : List ℕ) → List ℕ
steps_behind_target Stack steps = steps_behind_push steps
steps_behind_target target steps = steps

-- what was added, and a result in registers, is committed; behind a push the stack pointer is the address in 3
abbrev pub end_program : Target → (steps : List ℕ) → List Micro
end_program (Result operand size) steps = finish_program operand size steps 2
end_program (Replacement operand size) steps = finish_program operand size steps 2
end_program Stack steps = finish_program (operands.Register SP) Long steps 3
end_program Nowhere steps = commit_program 0 steps

-- ---- condition codes
-- a computation of one argument
abbrev pub unary : (to : ℕ) → MicroOp → Size → Arg → Micro
unary to op size a = Compute to op size a (Const 0)

-- N into 6, Z into 7 and V into 8: N and Z by a temporary
abbrev pub signs_by : (temp : ℕ) → Size → List Micro
signs_by temp size = Compute 6 ops.Less size (Temp temp) (Const 0) ∷ Compute 7 ops.Equal size (Temp temp) (Const 0) ∷ []

-- V: the operands as signed quadwords give another number than the result
abbrev pub overflow_of : MicroOp → Size → List Micro
overflow_of op size =
    unary 8 ops.SignExtend size (Temp 0)
    ∷ unary 9 ops.SignExtend size (Temp 1)
    ∷ Compute 8 op Quad (Temp 8) (Temp 9)
    ∷ unary 9 ops.SignExtend size (Temp 2)
    ∷ Compute 8 ops.Equal Quad (Temp 8) (Temp 9)
    ∷ Compute 8 ops.Xor Byte (Temp 8) (Const 1)
    ∷ []

abbrev pub none_into : (temp : ℕ) → List Micro
none_into temp = unary temp ops.Move Byte (Const 0) ∷ []

-- the first operand is compared with the second
abbrev pub signs_of_two : Size → List Micro
signs_of_two size = Compute 6 ops.Less size (Temp 0) (Temp 1) ∷ Compute 7 ops.Equal size (Temp 0) (Temp 1) ∷ none_into 8

abbrev pub signs_program : CodeSource → List Micro
signs_program (sources.Result size) = signs_by 2 size ++ none_into 8
signs_program (sources.Add size) = signs_by 2 size ++ overflow_of ops.Add size
signs_program (sources.Sub size) = signs_by 2 size ++ overflow_of ops.Sub size
signs_program (sources.Compare size) = signs_of_two size
signs_program (sources.Computed size) = signs_by 2 size
signs_program _ = []

-- C into 9: a sum below an addend, a subtrahend above
abbrev pub carry_program : CodeSource → List Micro
carry_program sources.Zero = none_into 9
carry_program (sources.Add size) = Compute 9 ops.LessUnsigned size (Temp 2) (Temp 0) ∷ []
carry_program (sources.Sub size) = Compute 9 ops.LessUnsigned size (Temp 0) (Temp 1) ∷ []
carry_program (sources.Compare size) = Compute 9 ops.LessUnsigned size (Temp 0) (Temp 1) ∷ []
carry_program _ = []

-- a computed V is in 3 and a computed C in 4
abbrev pub overflow_temp : CodeSource → ℕ
overflow_temp (sources.Computed size) = 3
overflow_temp _ = 8

abbrev pub carry_temp : CodeSource → Option ℕ
carry_temp sources.Kept = None
carry_temp (sources.Computed size) = Some 4
carry_temp _ = Some 9

-- the codes are set by where they come from; a new PSW is in 2
abbrev pub codes_from : (nzv c : CodeSource) → List Micro
codes_from sources.Kept c = []
codes_from sources.Psw c = SetPsw 2 ∷ []
codes_from nzv c = signs_program nzv ++ carry_program c ++ Codes 6 7 (overflow_temp nzv) (carry_temp c) ∷ []

abbrev pub codes_program : CodeSources → List Micro
codes_program codes = codes_from codes.nzv codes.c

-- ---- the whole
-- what comes behind the operands
abbrev pub rest_program : CodeSources → Plan → (steps : List ℕ) → List Micro
rest_program codes plan steps =
    plan.before ++ (write_program plan.target steps ++ (plan.behind ++ (end_program plan.target (steps_behind_target plan.target steps) ++ (codes_program codes ++ Leave plan.exit ∷ []))))

abbrev pub program_of : CodeSources → Plan → Instr → List Micro
program_of codes plan instr = operands_program (specifiers_from 0 plan.slots instr) no_steps ++ rest_program codes plan (steps_of plan.slots instr)
