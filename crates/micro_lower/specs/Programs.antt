-- The programs of operations that evaluate no operand specifier.
use Rattle.std.specs.Prelude.{ℕ, List, [], ◌∷◌, Bool, true, false, Option, Some, None, if◌then◌else◌}
use Rattle.vax_form.specs.State.{SP}
use Rattle.vax_form.specs.declared.instr.Size.TheVariants.{Byte, Long}
use Rattle.vax_form.specs.declared.instr.Instr.{Instr}
use Rattle.vax_form.specs.declared.operation.Condition.{Condition}
use Rattle.vax_form.specs.declared.operation.Operation.{Operation}
use Rattle.vax_form.specs.declared.operation.Operation.TheVariants as operations
use Rattle.vax_form.specs.declared.operation.Operation.TheVariants.{NoOperation, Branch, BranchIf, BranchToSubroutine, ReturnFromSubroutine}
use Rattle.vax_form.specs.declared.operation.Condition.TheVariants.{NotEqual, Equal, Greater, LessOrEqual, GreaterOrEqual, Less, GreaterUnsigned, LessOrEqualUnsigned, OverflowClear, OverflowSet, CarryClear, CarrySet}
use Rattle.vax_meaning.specs.Branches.{target}
use Rattle.vax_meaning.specs.Evaluation.{operand}
use Rattle.micro_ops.specs.declared.program.Arg.TheVariants.{Register, Flag, Const}
use Rattle.micro_ops.specs.declared.program.Exit.{Exit}
use Rattle.micro_ops.specs.declared.program.Exit.TheVariants.{Next, Fixed, Computed, Choice, Breakpoint}
use Rattle.micro_ops.specs.declared.program.Micro.{Micro}
use Rattle.micro_ops.specs.declared.program.Micro.TheVariants.{Compute, Probe, Read, Write, Commit, Leave}
use Rattle.micro_ops.specs.declared.program.MicroOp.TheVariants as ops

-- NOP
abbrev pub no_operation_program : List Micro
no_operation_program = Leave Next ∷ []

-- BPT
abbrev pub breakpoint_program : List Micro
breakpoint_program = Leave Breakpoint ∷ []

-- BR
abbrev pub branch_program : (target : ℕ) → List Micro
branch_program target = Leave (Fixed target) ∷ []

-- the flags that a condition is made from, by their numbers: one, or either of two
abbrev pub flags_of : Condition → ℕ × Option ℕ
flags_of NotEqual = (1, None)
flags_of Equal = (1, None)
flags_of Greater = (0, Some 1)
flags_of LessOrEqual = (0, Some 1)
flags_of GreaterOrEqual = (0, None)
flags_of Less = (0, None)
flags_of GreaterUnsigned = (3, Some 1)
flags_of LessOrEqualUnsigned = (3, Some 1)
flags_of OverflowClear = (2, None)
flags_of OverflowSet = (2, None)
flags_of CarryClear = (3, None)
flags_of CarrySet = (3, None)

-- it holds where none of them is set
abbrev pub is_negated : Condition → Bool
is_negated NotEqual = true
is_negated Greater = true
is_negated GreaterOrEqual = true
is_negated GreaterUnsigned = true
is_negated OverflowClear = true
is_negated CarryClear = true
is_negated _ = false

-- the flags go into temporary 0
abbrev pub flag_test : ℕ × Option ℕ → Micro
flag_test (first, None) = Compute 0 ops.Move Byte (Flag first) (Const 0)
flag_test (first, Some second) = Compute 0 ops.Or Byte (Flag first) (Flag second)

-- a condition that holds where none of its flags is set goes elsewhere where one is
abbrev pub condition_exit : Condition → (target after : ℕ) → Exit
condition_exit condition target after = if is_negated condition then Choice 0 after target else Choice 0 target after

-- BNEQ to BCS
abbrev pub branch_if_program : Condition → (target after : ℕ) → List Micro
branch_if_program condition target after = flag_test (flags_of condition) ∷ Leave (condition_exit condition target after) ∷ []

-- BSB
abbrev pub subroutine_program : (target after : ℕ) → List Micro
subroutine_program target after =
    Compute 1 ops.Add Long (Register SP) (Const 0xFFFFFFFC)
    ∷ Compute 2 ops.Move Long (Const after) (Const 0)
    ∷ Probe 1 4 true
    ∷ Write 1 4 2
    ∷ Commit SP 1
    ∷ Leave (Fixed target)
    ∷ []

-- RSB
abbrev pub return_program : List Micro
return_program =
    Compute 1 ops.Move Long (Register SP) (Const 0)
    ∷ Probe 1 4 false
    ∷ Read 0 1 4
    ∷ Compute 5 ops.Add Long (Register SP) (Const 4)
    ∷ Commit SP 5
    ∷ Leave (Computed 0)
    ∷ []

-- the program of an operation that evaluates no operand specifier
unfoldable pub plain_program_of : Operation → Instr → Option (List Micro)
plain_program_of NoOperation instr = Some no_operation_program
plain_program_of operations.Breakpoint instr = Some breakpoint_program
plain_program_of (Branch width) instr = Some (branch_program (target (operand instr 0)))
plain_program_of (BranchIf condition) instr = Some (branch_if_program condition (target (operand instr 0)) instr.after)
plain_program_of (BranchToSubroutine width) instr = Some (subroutine_program (target (operand instr 0)) instr.after)
plain_program_of ReturnFromSubroutine instr = Some return_program
plain_program_of _ instr = None
