-- The program of each operation keeps to its instruction.
use Rattle.std.proofs.Common.{◌≡◌, ℕ, ◌%◌, ◌^◌, Bool, true, false, List, [], ◌∷◌, ◌++◌, Option, Some, None, refl, sym, subst, lit≤}
use Rattle.std.specs.Prelude.{nat_lt, not, if◌then◌else◌}
use Rattle.std.proofs.lemmas.Option.{same_Some}
use Rattle.std.specs.Option.{option_or}
use Rattle.vax_form.specs.Grammar.{IsSpelled}
use Rattle.vax_form.specs.Operation.{operation_at}
use Rattle.vax_form.specs.Row.{operands_of, displacement}
use Rattle.vax_form.specs.Size.{size_of}
use Rattle.vax_form.specs.Targets.{jump_target}
use Rattle.vax_form.specs.declared.instr.Instr.{Instr}
use Rattle.vax_form.specs.declared.instr.Operand.{Operand}
use Rattle.vax_form.specs.declared.instr.Operand.TheVariants as operands
use Rattle.vax_form.specs.declared.instr.Size.{Size}
use Rattle.vax_form.specs.declared.instr.Size.TheVariants.{Byte, Long}
use Rattle.vax_form.specs.declared.instr.Width.{Width}
use Rattle.vax_form.specs.declared.operation.BinaryOperation.{BinaryOperation}
use Rattle.vax_form.specs.declared.operation.BinaryOperation.TheVariants as binary
use Rattle.vax_form.specs.declared.operation.BitStore.{BitStore}
use Rattle.vax_form.specs.declared.operation.BitStore.TheVariants as stores
use Rattle.vax_form.specs.declared.operation.Condition.{Condition}
use Rattle.vax_form.specs.declared.operation.Condition.TheVariants as conditions
use Rattle.vax_form.specs.declared.operation.Operation.{Operation}
use Rattle.vax_form.specs.declared.operation.Operation.TheVariants as operations
use Rattle.vax_form.specs.declared.state.Flags.{Flags}
use Rattle.vax_meaning.specs.Branches.{target}
use Rattle.vax_meaning.specs.Evaluation.{operand}
use Rattle.cc_liveness.specs.Uses.{code_use_of, tested_by}
use Rattle.micro_ops.specs.Exits.{leaves_computed}
use Rattle.micro_ops.specs.Sources.{sources_of}
use Rattle.micro_ops.specs.declared.program.Arg.TheVariants.{Register, Const, Temp}
use Rattle.micro_ops.specs.declared.program.Exit.TheVariants as exits
use Rattle.micro_ops.specs.declared.program.Micro.{Micro}
use Rattle.micro_ops.specs.declared.program.Micro.TheVariants.{Compute, Probe, Read, Write, Commit, Leave}
use Rattle.micro_ops.specs.declared.program.MicroOp.TheVariants as ops
use Rattle.operand_programs.specs.Operands.{IsTarget}
use Rattle.micro_lower.specs.Lowering.{AreLongOperands, KeepsTo, computes_address}
use Rattle.micro_lower.specs.Plans.{Plan, program_of, unary}
use Rattle.micro_lower.specs.Programs.{flags_of, is_negated, flag_test, condition_exit, branch_if_program, subroutine_program, return_program, plain_program_of}
use Rattle.micro_lower.specs.Rows.{move_row, is_extension, behind_conversion, arithmetic_row, control_row, own_program_of, row_program_of, branch_exit, move_plan, clear_plan, move_zero_extended_plan, move_complemented_plan, move_negated_plan, convert_plan, move_address_plan, push_address_plan, push_long_plan, compare_plan, test_plan, bit_test_plan, by_one_plan, two_operands_plan, three_operands_plan, low_bit_plan, subtract_one_plan, add_one_plan, add_compare_plan, jump_plan, jump_to_subroutine_plan, add_with_carry_plan, change_mode_plan, subtract_with_carry_plan, rotate_plan, arithmetic_shift_plan, literal_shift_by, before_rotation, change_psw_plan, bit_tested, bit_stored, byte_program, before_bit, literal_position, masked, mask_stored, mask_program, byte_of, before_literal, before_bit_at, test_exit, bit_branch_plan, before_aligned, add_aligned_plan, move_psl_plan}
use Rattle.micro_lower.proofs.Covered.{targeted}
use Rattle.micro_lower.proofs.Inner.{IsInner, joined}
use Rattle.micro_lower.proofs.Keeping.{Ends, ExitKeeps, IsFixed, keeps, ends_here, next_keeps, breakpoint_keeps, branch_fixed, fixed_keeps, choice_keeps, choice_kept, computed_keeps, jump_computes_for, jump_keeps, plan_keeps}
use Rattle.micro_lower.proofs.Lowered.{slots_of, second, third, fourth}
use Rattle.micro_lower.proofs.LiteralShiftLower.{literal_shift_keeps}
use Rattle.micro_lower.proofs.ProductLower.{product_keeps}
use Rattle.micro_lower.proofs.Spelled.{Given, given}

-- for each operation
abbrev Keeps : Operation → (Instr → List Micro → Type 0) → Type 0
Keeps operation IsMade = (instr : Instr) (program : List Micro) → IsSpelled instr → AreLongOperands instr → operation_at instr.opcode ≡ Some operation → IsMade instr program → KeepsTo instr program

abbrev KeepsByRow : Operation → Type 0
KeepsByRow operation = Keeps operation (λ instr program. row_program_of operation instr ≡ Some program)

-- ---- operations that evaluate no operand specifier
-- a displacement is the operand
displaced : (instr : Instr) (width : Size) (operation : Operation) → IsSpelled instr → operation_at instr.opcode ≡ Some operation
    → operands_of operation ≡ (displacement width ∷ []) → IsTarget (operand instr 0)
displaced instr width operation spelled is row =
    let t = targeted instr width (subst (λ types. Given types instr) row (given instr operation spelled is)) in
    subst (λ i. IsTarget (operand i 0)) (sym t.1) tt

-- a program that is an exit alone, or a test and an exit
branch_if_ends : (condition : Condition) (taken after : _) → Ends (code_use_of (operations.BranchIf condition)).reads (condition_exit condition taken after) (branch_if_program condition taken after)
unfolding code_use_of tested_by
branch_if_ends conditions.NotEqual taken after = ends_here _ (exits.Choice 0 after taken) (flag_test (flags_of conditions.NotEqual) ∷ []) refl
branch_if_ends conditions.Equal taken after = ends_here _ (exits.Choice 0 taken after) (flag_test (flags_of conditions.Equal) ∷ []) refl
branch_if_ends conditions.Greater taken after = ends_here _ (exits.Choice 0 after taken) (flag_test (flags_of conditions.Greater) ∷ []) refl
branch_if_ends conditions.LessOrEqual taken after = ends_here _ (exits.Choice 0 taken after) (flag_test (flags_of conditions.LessOrEqual) ∷ []) refl
branch_if_ends conditions.GreaterOrEqual taken after = ends_here _ (exits.Choice 0 after taken) (flag_test (flags_of conditions.GreaterOrEqual) ∷ []) refl
branch_if_ends conditions.Less taken after = ends_here _ (exits.Choice 0 taken after) (flag_test (flags_of conditions.Less) ∷ []) refl
branch_if_ends conditions.GreaterUnsigned taken after = ends_here _ (exits.Choice 0 after taken) (flag_test (flags_of conditions.GreaterUnsigned) ∷ []) refl
branch_if_ends conditions.LessOrEqualUnsigned taken after = ends_here _ (exits.Choice 0 taken after) (flag_test (flags_of conditions.LessOrEqualUnsigned) ∷ []) refl
branch_if_ends conditions.OverflowClear taken after = ends_here _ (exits.Choice 0 after taken) (flag_test (flags_of conditions.OverflowClear) ∷ []) refl
branch_if_ends conditions.OverflowSet taken after = ends_here _ (exits.Choice 0 taken after) (flag_test (flags_of conditions.OverflowSet) ∷ []) refl
branch_if_ends conditions.CarryClear taken after = ends_here _ (exits.Choice 0 after taken) (flag_test (flags_of conditions.CarryClear) ∷ []) refl
branch_if_ends conditions.CarrySet taken after = ends_here _ (exits.Choice 0 taken after) (flag_test (flags_of conditions.CarrySet) ∷ []) refl

-- the exit of a conditional branch goes nowhere else
condition_computes : (condition : Condition) (taken after : _) → leaves_computed (Leave (condition_exit condition taken after)) ≡ false
condition_computes condition taken after = by (is_negated condition)
  where
    by : (b : Bool) → leaves_computed (Leave (if b then exits.Choice 0 after taken else exits.Choice 0 taken after)) ≡ false
    by true = refl
    by false = refl

condition_keeps : (condition : Condition) (instr : Instr) (address : _) → operation_at instr.opcode ≡ Some (operations.BranchIf condition) → IsFixed instr address
    → ExitKeeps instr (condition_exit condition address instr.after)
unfolding code_use_of tested_by
condition_keeps condition instr address is fixed = by (is_negated condition)
  where
    by : (b : Bool) → ExitKeeps instr (if b then exits.Choice 0 instr.after address else exits.Choice 0 address instr.after)
    by true = choice_kept (operations.BranchIf condition) instr is refl 0 address fixed
    by false = choice_keeps (operations.BranchIf condition) instr is refl 0 address fixed

subroutine_ends : (set : Flags) (to after : ℕ) → Ends set (exits.Fixed to) (subroutine_program to after)
subroutine_ends set to after =
    ends_here set (exits.Fixed to)
    (Compute 1 ops.Add Long (Register 14) (Const 0xFFFFFFFC) ∷ Compute 2 ops.Move Long (Const after) (Const 0) ∷ Probe 1 4 true ∷ Write 1 4 2 ∷ Commit 14 1 ∷ []) refl

return_ends : (set : Flags) → Ends set (exits.Computed 0) return_program
return_ends set =
    ends_here set (exits.Computed 0)
    (Compute 1 ops.Move Long (Register 14) (Const 0) ∷ Probe 1 4 false ∷ Read 0 1 4 ∷ Compute 5 ops.Add Long (Register 14) (Const 4) ∷ Commit 14 5 ∷ []) refl

pub plain_keep : (operation : Operation) → Keeps operation (λ instr program. plain_program_of operation instr ≡ Some program)
unfolding plain_program_of code_use_of operands_of
plain_keep operations.NoOperation instr program spelled long is made =
    subst (KeepsTo instr) (same_Some _ _ made) (keeps operations.NoOperation instr exits.Next _ is (ends_here _ exits.Next [] refl) refl (next_keeps instr exits.Next refl refl))
plain_keep operations.Breakpoint instr program spelled long is made =
    subst (KeepsTo instr) (same_Some _ _ made) (keeps operations.Breakpoint instr exits.Breakpoint _ is (ends_here _ exits.Breakpoint [] refl) refl (breakpoint_keeps instr))
plain_keep (operations.Branch width) instr program spelled long is made =
    let fixed = branch_fixed instr 0 (displaced instr (size_of width) _ spelled is refl) in
    let to = target (operand instr 0) in
    subst (KeepsTo instr) (same_Some _ _ made) (keeps (operations.Branch width) instr (exits.Fixed to) _ is (ends_here _ (exits.Fixed to) [] refl) refl (fixed_keeps _ instr is refl to fixed))
plain_keep (operations.BranchIf condition) instr program spelled long is made =
    let fixed = branch_fixed instr 0 (displaced instr Byte _ spelled is refl) in
    let to = target (operand instr 0) in
    subst (KeepsTo instr) (same_Some _ _ made) (keeps (operations.BranchIf condition) instr (condition_exit condition to instr.after) _ is (branch_if_ends condition to instr.after) (condition_computes condition to instr.after) (condition_keeps condition instr to is fixed))
plain_keep (operations.BranchToSubroutine width) instr program spelled long is made =
    let fixed = branch_fixed instr 0 (displaced instr (size_of width) _ spelled is refl) in
    let to = target (operand instr 0) in
    subst (KeepsTo instr) (same_Some _ _ made) (keeps (operations.BranchToSubroutine width) instr (exits.Fixed to) _ is (subroutine_ends _ to instr.after) refl (fixed_keeps _ instr is refl to fixed))
plain_keep operations.ReturnFromSubroutine instr program spelled long is made =
    subst (KeepsTo instr) (same_Some _ _ made) (keeps operations.ReturnFromSubroutine instr (exits.Computed 0) _ is (return_ends _) refl (computed_keeps _ instr is refl 0))
plain_keep _ instr program spelled long is made = cc

-- ---- rows
-- inner operations of branches
subtract_one_inner : (set : Flags) (or_equal : Bool) (instr : Instr) → (let plan = subtract_one_plan or_equal instr in IsInner set (plan.before ++ plan.behind))
subtract_one_inner set true instr = refl
subtract_one_inner set false instr = refl

add_one_inner : (set : Flags) (or_equal : Bool) (instr : Instr) → (let plan = add_one_plan or_equal instr in IsInner set (plan.before ++ plan.behind))
add_one_inner set true instr = refl
add_one_inner set false instr = refl

stored_inner : (set : Flags) (store : BitStore) → IsInner set (bit_stored store)
stored_inner set stores.Nothing = refl
stored_inner set (stores.Plain value) = refl
stored_inner set (stores.Interlocked value) = refl

byte_inner : (set : Flags) (store : BitStore) → IsInner set (byte_program store)
byte_inner set stores.Nothing = refl
byte_inner set (stores.Plain value) = refl
byte_inner set (stores.Interlocked value) = refl

before_inner : (set : Flags) (base : Operand) (store : BitStore) → IsInner set (before_bit base store)
before_inner set (operands.Register n) store = joined set (bit_stored store) (bit_tested Long) (stored_inner set store) refl
before_inner set operands.Unused store = joined set (byte_program store) (bit_tested Byte) (byte_inner set store) refl
before_inner set (operands.Value value) store = joined set (byte_program store) (bit_tested Byte) (byte_inner set store) refl
before_inner set (operands.Place base index) store = joined set (byte_program store) (bit_tested Byte) (byte_inner set store) refl
before_inner set (operands.Target address) store = joined set (byte_program store) (bit_tested Byte) (byte_inner set store) refl

mask_stored_inner : (set : Flags) (store : BitStore) (mask : ℕ) → IsInner set (mask_stored store mask)
mask_stored_inner set stores.Nothing mask = refl
mask_stored_inner set (stores.Plain value) mask = refl
mask_stored_inner set (stores.Interlocked value) mask = refl

mask_inner : (set : Flags) (store : BitStore) (mask : ℕ) → IsInner set (mask_program store mask)
mask_inner set stores.Nothing mask = refl
mask_inner set (stores.Plain value) mask = refl
mask_inner set (stores.Interlocked value) mask = refl

byte_of_inner : (set : Flags) (first : Bool) (position : ℕ) → IsInner set (byte_of first position)
byte_of_inner set true position = refl
byte_of_inner set false position = refl

in_memory_inner : (set : Flags) (first : Bool) (position : ℕ) (store : BitStore) → IsInner set (before_literal operands.Unused first position store)
in_memory_inner set first position store =
    let mask = 2 ^ (position % 8) in
    joined set (byte_of first position) (mask_program store mask ++ masked Byte mask ∷ []) (byte_of_inner set first position)
    (joined set (mask_program store mask) (masked Byte mask ∷ []) (mask_inner set store mask) refl)

literal_inner : (set : Flags) (base : Operand) (first : Bool) (position : ℕ) (store : BitStore) → IsInner set (before_literal base first position store)
literal_inner set (operands.Register n) first position store =
    let mask = 2 ^ (position % 32) in joined set (mask_stored store mask) (masked Long mask ∷ []) (mask_stored_inner set store mask) refl
literal_inner set operands.Unused first position store = in_memory_inner set first position store
literal_inner set (operands.Value value) first position store = in_memory_inner set first position store
literal_inner set (operands.Place base index) first position store = in_memory_inner set first position store
literal_inner set (operands.Target address) first position store = in_memory_inner set first position store

bit_at_inner : (set : Flags) (position : Option ℕ) (base : Operand) (store : BitStore) → IsInner set (before_bit_at position base store)
bit_at_inner set None base store = before_inner set base store
bit_at_inner set (Some position) base store = literal_inner set base (nat_lt position 8) position store

bit_inner : (set : Flags) (position : Option ℕ) (base : Operand) (store : BitStore) → IsInner set (before_bit_at position base store ++ [])
bit_inner set position base store = joined set (before_bit_at position base store) [] (bit_at_inner set position base store) refl

-- the exit of a branch by a test
test_computes : (state : Bool) (instr : Instr) (number : ℕ) → leaves_computed (Leave (test_exit state instr number)) ≡ false
test_computes true instr number = refl
test_computes false instr number = refl

aligned_inner : (set : Flags) (base : Operand) → IsInner set (before_aligned base ++ [])
aligned_inner set (operands.Register n) = refl
aligned_inner set operands.Unused = refl
aligned_inner set (operands.Value value) = refl
aligned_inner set (operands.Place base index) = refl
aligned_inner set (operands.Target address) = refl

-- a rotation, by the operand that counts
rotation_inner : (set : Flags) (count : Operand) → IsInner set (before_rotation count ++ [])
rotation_inner set (operands.Value literal) = refl
rotation_inner set operands.Unused = refl
rotation_inner set (operands.Register n) = refl
rotation_inner set (operands.Place base index) = refl
rotation_inner set (operands.Target address) = refl

-- a branch by the operand of that number
branch_keeps : (operation : Operation) (instr : Instr) → operation_at instr.opcode ≡ Some operation → (code_use_of operation).ends ≡ true
    → (number : ℕ) → IsTarget (operand instr number) → ExitKeeps instr (branch_exit instr number)
branch_keeps operation instr is ends number displaced = choice_keeps operation instr is ends 0 (target (operand instr number)) (branch_fixed instr number displaced)

test_keeps : (operation : Operation) (instr : Instr) → operation_at instr.opcode ≡ Some operation → (code_use_of operation).ends ≡ true
    → (state : Bool) (number : ℕ) → IsTarget (operand instr number) → ExitKeeps instr (test_exit state instr number)
test_keeps operation instr is ends true number displaced = branch_keeps operation instr is ends number displaced
test_keeps operation instr is ends false number displaced = choice_kept operation instr is ends 0 (target (operand instr number)) (branch_fixed instr number displaced)

-- a conversion, by whether it extends
conversion_inner : (set : Flags) (extension : Bool) (from to : Size) → IsInner set (unary 2 ops.SignExtend from (Temp 0) ∷ unary 2 ops.Move to (Temp 2) ∷ behind_conversion extension from to)
conversion_inner set true from to = refl
conversion_inner set false from to = refl

next_row : (operation : Operation) (instr : Instr) (plan : Plan) (program : List Micro) → operation_at instr.opcode ≡ Some operation
    → IsInner (code_use_of operation).reads (plan.before ++ plan.behind) → plan.exit ≡ exits.Next → computes_address operation instr ≡ false
    → Some (program_of (sources_of operation) plan instr) ≡ Some program → KeepsTo instr program
next_row operation instr plan program is inner exit none row =
    plan_keeps operation instr plan program is inner (rw (exit, none) refl) (rw exit (next_keeps instr exits.Next refl refl)) (sym (same_Some _ _ row))

two_operands_keep : (operation : BinaryOperation) (width : Width) → KeepsByRow (operations.TwoOperands operation width)
unfolding own_program_of move_row arithmetic_row control_row code_use_of
two_operands_keep binary.Divide width instr program spelled long is row = cc
two_operands_keep operation width instr program spelled long is row = next_row (operations.TwoOperands operation width) instr (two_operands_plan operation width instr) program is refl refl refl row

three_operands_keep : (operation : BinaryOperation) (width : Width) → KeepsByRow (operations.ThreeOperands operation width)
unfolding own_program_of move_row arithmetic_row control_row code_use_of
three_operands_keep binary.Divide width instr program spelled long is row = cc
three_operands_keep operation width instr program spelled long is row = next_row (operations.ThreeOperands operation width) instr (three_operands_plan operation width instr) program is refl refl refl row

-- by the operand that counts
shift_keeps : (instr : Instr) (program : List Micro) → operation_at instr.opcode ≡ Some operations.ArithmeticShift
    → (count : Operand) → option_or (literal_shift_by count instr) (Some (program_of (sources_of operations.ArithmeticShift) (arithmetic_shift_plan instr) instr)) ≡ Some program → KeepsTo instr program
unfolding code_use_of
shift_keeps instr program is (operands.Value literal) row = literal_shift_keeps instr program (nat_lt (literal % 256) 128) (literal % 256) is (sym (same_Some _ _ row))
shift_keeps instr program is operands.Unused row = next_row operations.ArithmeticShift instr (arithmetic_shift_plan instr) program is refl refl refl row
shift_keeps instr program is (operands.Register n) row = next_row operations.ArithmeticShift instr (arithmetic_shift_plan instr) program is refl refl refl row
shift_keeps instr program is (operands.Place base index) row = next_row operations.ArithmeticShift instr (arithmetic_shift_plan instr) program is refl refl refl row
shift_keeps instr program is (operands.Target address) row = next_row operations.ArithmeticShift instr (arithmetic_shift_plan instr) program is refl refl refl row

pub rows_keep : (operation : Operation) → KeepsByRow operation
unfolding own_program_of move_row arithmetic_row control_row code_use_of operands_of jump_target
rows_keep (operations.Move size) instr program spelled long is row = next_row (operations.Move size) instr (move_plan size instr) program is refl refl refl row
rows_keep (operations.MoveZeroExtended from to) instr program spelled long is row = next_row (operations.MoveZeroExtended from to) instr (move_zero_extended_plan from to instr) program is refl refl refl row
rows_keep (operations.Clear size) instr program spelled long is row = next_row (operations.Clear size) instr (clear_plan size instr) program is refl refl refl row
rows_keep (operations.MoveComplemented width) instr program spelled long is row = next_row (operations.MoveComplemented width) instr (move_complemented_plan width instr) program is refl refl refl row
rows_keep (operations.MoveNegated width) instr program spelled long is row = next_row (operations.MoveNegated width) instr (move_negated_plan width instr) program is refl refl refl row
rows_keep (operations.Convert from to) instr program spelled long is row = next_row (operations.Convert from to) instr (convert_plan from to instr) program is (conversion_inner _ (is_extension from to) (size_of from) (size_of to)) refl refl row
rows_keep (operations.MoveAddress size) instr program spelled long is row = next_row (operations.MoveAddress size) instr (move_address_plan size instr) program is refl refl refl row
rows_keep (operations.PushAddress size) instr program spelled long is row = next_row (operations.PushAddress size) instr (push_address_plan size) program is refl refl refl row
rows_keep operations.PushLong instr program spelled long is row = next_row operations.PushLong instr (push_long_plan) program is refl refl refl row
rows_keep (operations.Compare width) instr program spelled long is row = next_row (operations.Compare width) instr (compare_plan width) program is refl refl refl row
rows_keep (operations.Test width) instr program spelled long is row = next_row (operations.Test width) instr (test_plan width) program is refl refl refl row
rows_keep (operations.BitTest width) instr program spelled long is row = next_row (operations.BitTest width) instr (bit_test_plan width) program is refl refl refl row
rows_keep (operations.Increment width) instr program spelled long is row = next_row (operations.Increment width) instr (by_one_plan ops.Add width instr) program is refl refl refl row
rows_keep (operations.Decrement width) instr program spelled long is row = next_row (operations.Decrement width) instr (by_one_plan ops.Sub width instr) program is refl refl refl row
rows_keep operations.SubtractWithCarry instr program spelled long is row = next_row operations.SubtractWithCarry instr (subtract_with_carry_plan instr) program is refl refl refl row
rows_keep operations.AddWithCarry instr program spelled long is row = next_row operations.AddWithCarry instr (add_with_carry_plan instr) program is refl refl refl row
rows_keep operations.Rotate instr program spelled long is row = next_row operations.Rotate instr (rotate_plan instr) program is (rotation_inner _ (operand instr 0)) refl refl row
rows_keep operations.AddAlignedWord instr program spelled long is row = next_row operations.AddAlignedWord instr (add_aligned_plan instr) program is (aligned_inner _ (operand instr 1)) refl refl row
rows_keep operations.ArithmeticShift instr program spelled long is row = shift_keeps instr program is (operand instr 0) row
rows_keep operations.BitSetPsw instr program spelled long is row = next_row operations.BitSetPsw instr (change_psw_plan ops.Or) program is refl refl refl row
rows_keep operations.BitClearPsw instr program spelled long is row = next_row operations.BitClearPsw instr (change_psw_plan ops.AndNot) program is refl refl refl row
rows_keep operations.ExtendedMultiply instr program spelled long is row = product_keeps instr program is (sym (same_Some _ _ row))
rows_keep operations.MovePsl instr program spelled long is row = next_row operations.MovePsl instr (move_psl_plan instr) program is refl refl refl row
rows_keep operations.ChangeMode instr program spelled long is row =
    plan_keeps operations.ChangeMode instr change_mode_plan program is refl refl (next_keeps instr (exits.Service 0) refl refl) (sym (same_Some _ _ row))
rows_keep (operations.BranchOnLowBit state) instr program spelled long is row =
    let slots = slots_of (operations.BranchOnLowBit state) instr (low_bit_plan state instr) program spelled long is (sym (same_Some _ _ row)) refl refl (lit≤ tt) in
    plan_keeps (operations.BranchOnLowBit state) instr (low_bit_plan state instr) program is refl (test_computes state instr 1) (test_keeps (operations.BranchOnLowBit state) instr is refl state 1 (second _ _ _ instr slots).0.0) (sym (same_Some _ _ row))
rows_keep (operations.SubtractOneBranch or_equal) instr program spelled long is row =
    let slots = slots_of (operations.SubtractOneBranch or_equal) instr (subtract_one_plan or_equal instr) program spelled long is (sym (same_Some _ _ row)) refl refl (lit≤ tt) in
    plan_keeps (operations.SubtractOneBranch or_equal) instr (subtract_one_plan or_equal instr) program is (subtract_one_inner _ or_equal instr) (test_computes (not or_equal) instr 1) (test_keeps (operations.SubtractOneBranch or_equal) instr is refl (not or_equal) 1 (second _ _ _ instr slots).0.0) (sym (same_Some _ _ row))
rows_keep (operations.AddOneBranch or_equal) instr program spelled long is row =
    let slots = slots_of (operations.AddOneBranch or_equal) instr (add_one_plan or_equal instr) program spelled long is (sym (same_Some _ _ row)) refl refl (lit≤ tt) in
    plan_keeps (operations.AddOneBranch or_equal) instr (add_one_plan or_equal instr) program is (add_one_inner _ or_equal instr) (test_computes (not or_equal) instr 2) (test_keeps (operations.AddOneBranch or_equal) instr is refl (not or_equal) 2 (third _ _ _ _ instr slots).0.0) (sym (same_Some _ _ row))
rows_keep (operations.AddCompareBranch width) instr program spelled long is row =
    let slots = slots_of (operations.AddCompareBranch width) instr (add_compare_plan width instr) program spelled long is (sym (same_Some _ _ row)) refl refl (lit≤ tt) in
    plan_keeps (operations.AddCompareBranch width) instr (add_compare_plan width instr) program is refl refl (branch_keeps (operations.AddCompareBranch width) instr is refl 3 (fourth _ _ _ _ _ instr slots).0.0) (sym (same_Some _ _ row))
rows_keep (operations.BranchOnBit branch) instr program spelled long is row =
    let slots = slots_of (operations.BranchOnBit branch) instr (bit_branch_plan branch instr) program spelled long is (sym (same_Some _ _ row)) refl refl (lit≤ tt) in
    let position = literal_position (operand instr 0) (operand instr 1) in
    plan_keeps (operations.BranchOnBit branch) instr (bit_branch_plan branch instr) program is (bit_inner _ position (operand instr 1) branch.store) (test_computes branch.state instr 2)
    (test_keeps (operations.BranchOnBit branch) instr is refl branch.state 2 (third _ _ _ _ instr slots).0.0) (sym (same_Some _ _ row))
rows_keep operations.Jump instr program spelled long is row =
    plan_keeps operations.Jump instr (jump_plan instr) program is refl (jump_computes_for instr) (jump_keeps _ instr is refl refl) (sym (same_Some _ _ row))
rows_keep operations.JumpToSubroutine instr program spelled long is row =
    plan_keeps operations.JumpToSubroutine instr (jump_to_subroutine_plan instr) program is refl (jump_computes_for instr) (jump_keeps _ instr is refl refl) (sym (same_Some _ _ row))
rows_keep (operations.TwoOperands operation width) instr program spelled long is row = two_operands_keep operation width instr program spelled long is row
rows_keep (operations.ThreeOperands operation width) instr program spelled long is row = three_operands_keep operation width instr program spelled long is row
rows_keep _ instr program spelled long is row = cc
