-- Each write of a program has as many bytes as the operand that its operation writes.
use Rattle.std.proofs.Common.{◌≡◌, ℕ, Bool, true, false, List, [], ◌∷◌, ◌++◌, Option, Some, None, refl, sym, ap, ◌∙◌, subst}
use Rattle.std.proofs.lemmas.Option.{same_Some}
use Rattle.std.specs.Option.{option_or}
use Rattle.std.specs.Prelude.{◌%◌, ◌^◌, nat_lt, option_and_then}
use Rattle.vax_form.specs.Operation.{operation_at}
use Rattle.vax_form.specs.Size.{bytes_of, size_of}
use Rattle.vax_form.specs.Written.{written_bytes, bytes_of_store}
use Rattle.vax_form.specs.declared.instr.Instr.{Instr}
use Rattle.vax_form.specs.declared.instr.Operand.{Operand}
use Rattle.vax_form.specs.declared.instr.Operand.TheVariants as operands
use Rattle.vax_form.specs.declared.instr.Size.{Size}
use Rattle.vax_form.specs.declared.instr.Size.TheVariants.{Byte, Word, Long, Quad}
use Rattle.vax_form.specs.declared.instr.Width.{Width}
use Rattle.vax_form.specs.declared.operation.BinaryOperation.{BinaryOperation}
use Rattle.vax_form.specs.declared.operation.BinaryOperation.TheVariants as binary
use Rattle.vax_form.specs.declared.operation.BitStore.{BitStore}
use Rattle.vax_form.specs.declared.operation.BitStore.TheVariants as stores
use Rattle.vax_form.specs.declared.operation.Condition.{Condition}
use Rattle.vax_form.specs.declared.operation.Operation.{Operation}
use Rattle.vax_form.specs.declared.operation.Operation.TheVariants as operations
use Rattle.vax_meaning.specs.Branches.{target}
use Rattle.vax_meaning.specs.Evaluation.{operand}
use Rattle.micro_ops.specs.Sources.{sources_of}
use Rattle.micro_ops.specs.declared.program.Exit.{Exit}
use Rattle.micro_ops.specs.declared.program.Micro.{Micro}
use Rattle.micro_ops.specs.declared.program.Micro.TheVariants.{Leave}
use Rattle.micro_ops.specs.declared.program.MicroOp.TheVariants as ops
use Rattle.operand_programs.specs.InOrder.{operands_program, steps_behind_all, no_steps}
use Rattle.micro_lower.specs.Lowering.{ProgramsWriteOperands, WritesOperand}
use Rattle.micro_lower.specs.Plans.{Plan, specifiers_from, rest_program, program_of}
use Rattle.micro_lower.specs.Programs.{flags_of, flag_test, condition_exit, branch_if_program, plain_program_of}
use Rattle.micro_lower.specs.Rows.{move_row, is_extension, behind_conversion, arithmetic_row, control_row, own_program_of, row_program_of, program_of_operation, program_for, register_target, before_aligned, add_aligned_plan, behind_binary, low_bit_plan, subtract_one_plan, add_one_plan, bit_tested, bit_stored, byte_program, before_bit, bit_target, literal_position, masked, mask_stored, mask_program, byte_of, before_literal, before_bit_at, bit_branch_plan, factors, product_program, extended_multiply_plan, extended_multiply_program, move_plan, move_zero_extended_plan, clear_plan, move_complemented_plan, move_negated_plan, convert_plan, move_address_plan, push_address_plan, push_long_plan, compare_plan, test_plan, bit_test_plan, two_operands_plan, three_operands_plan, by_one_plan, add_compare_plan, jump_plan, jump_to_subroutine_plan, add_with_carry_plan, subtract_with_carry_plan, arithmetic_shift_plan, rotate_plan, shifted_by, overflow_of_shift_by, literal_shift_plan, literal_shift_program, literal_shift_by, before_rotation, move_psl_plan, change_psw_plan, change_mode_plan}
use Rattle.micro_lower.proofs.Bytes.{HaveBytes, TargetHas, joined, plan_has, push_has, quiet_has, replacement_has, rest_have, result_has}
use Rattle.micro_lower.proofs.Quiet.{operands_quiet}

-- a program of so many bytes a write, where there is one
abbrev pub ProgramHas : ℕ → Option (List Micro) → Type 0
ProgramHas count made = (program : List Micro) → made ≡ Some program → HaveBytes count program

-- ---- plans, by where their results go
module _ (operation : Operation) (plan : Plan) (instr : Instr) where
  by_plan : HaveBytes (written_bytes operation) plan.before → TargetHas (written_bytes operation) plan.target → HaveBytes (written_bytes operation) plan.behind
      → ProgramHas (written_bytes operation) (Some (program_of (sources_of operation) plan instr))
  by_plan before target behind program made =
      subst (HaveBytes (written_bytes operation)) (same_Some _ _ made) (plan_has (written_bytes operation) (sources_of operation) plan instr before target behind)

-- V of a conversion
conversion_has : (count : ℕ) (extension : Bool) (from to : Size) → HaveBytes count (behind_conversion extension from to)
conversion_has count true from to = refl
conversion_has count false from to = refl

-- ---- the parts of a branch on a bit
stored_has : (count : ℕ) (store : BitStore) → HaveBytes count (bit_stored store)
stored_has count stores.Nothing = refl
stored_has count (stores.Plain value) = refl
stored_has count (stores.Interlocked value) = refl

byte_has : (store : BitStore) → HaveBytes (bytes_of_store store) (byte_program store)
byte_has stores.Nothing = refl
byte_has (stores.Plain value) = refl
byte_has (stores.Interlocked value) = refl

in_register : (store : BitStore) → HaveBytes (bytes_of_store store) (before_bit (operands.Register 0) store)
in_register store = joined (bytes_of_store store) (bit_stored store) (bit_tested Long) (stored_has (bytes_of_store store) store) refl

in_memory : (store : BitStore) → HaveBytes (bytes_of_store store) (before_bit operands.Unused store)
in_memory store = joined (bytes_of_store store) (byte_program store) (bit_tested Byte) (byte_has store) refl

bit_has : (base : Operand) (store : BitStore) → HaveBytes (bytes_of_store store) (before_bit base store)
bit_has (operands.Register n) store = in_register store
bit_has _ store = in_memory store

mask_stored_has : (count : ℕ) (store : BitStore) (mask : ℕ) → HaveBytes count (mask_stored store mask)
mask_stored_has count stores.Nothing mask = refl
mask_stored_has count (stores.Plain value) mask = refl
mask_stored_has count (stores.Interlocked value) mask = refl

mask_has : (store : BitStore) (mask : ℕ) → HaveBytes (bytes_of_store store) (mask_program store mask)
mask_has stores.Nothing mask = refl
mask_has (stores.Plain value) mask = refl
mask_has (stores.Interlocked value) mask = refl

byte_of_has : (count : ℕ) (first : Bool) (position : ℕ) → HaveBytes count (byte_of first position)
byte_of_has count true position = refl
byte_of_has count false position = refl

literal_in_memory : (first : Bool) (position : ℕ) (store : BitStore) → HaveBytes (bytes_of_store store) (before_literal operands.Unused first position store)
literal_in_memory first position store =
    let count = bytes_of_store store in
    let mask = 2 ^ (position % 8) in
    joined count (byte_of first position) (mask_program store mask ++ masked Byte mask ∷ []) (byte_of_has count first position)
    (joined count (mask_program store mask) (masked Byte mask ∷ []) (mask_has store mask) refl)

literal_has : (base : Operand) (first : Bool) (position : ℕ) (store : BitStore) → HaveBytes (bytes_of_store store) (before_literal base first position store)
literal_has (operands.Register n) first position store =
    let mask = 2 ^ (position % 32) in joined (bytes_of_store store) (mask_stored store mask) (masked Long mask ∷ []) (mask_stored_has (bytes_of_store store) store mask) refl
literal_has _ first position store = literal_in_memory first position store

bit_at_has : (position : Option ℕ) (base : Operand) (store : BitStore) → HaveBytes (bytes_of_store store) (before_bit_at position base store)
bit_at_has None base store = bit_has base store
bit_at_has (Some position) base store = literal_has base (nat_lt position 8) position store

-- a register takes the result, and nothing is written
left_has : (count : ℕ) (base : Operand) (size : Size) → TargetHas count (register_target base size)
left_has count (operands.Register n) size steps = refl
left_has count _ size steps = refl

bit_target_has : (count : ℕ) (base : Operand) (store : BitStore) → TargetHas count (bit_target base store)
bit_target_has count base stores.Nothing steps = refl
bit_target_has count base (stores.Plain value) steps = left_has count base Long steps
bit_target_has count base (stores.Interlocked value) steps = left_has count base Long steps

aligned_has : (base : Operand) → HaveBytes 0 (before_aligned base)
aligned_has (operands.Register n) = refl
aligned_has _ = refl

shifted_by_has : (bytes : ℕ) (left : Bool) (count : ℕ) → HaveBytes bytes (shifted_by left count)
shifted_by_has bytes true count = refl
shifted_by_has bytes false count = refl

overflow_by_has : (bytes : ℕ) (left : Bool) (count : ℕ) → HaveBytes bytes (overflow_of_shift_by left count)
overflow_by_has bytes true count = refl
overflow_by_has bytes false count = refl

before_rotation_has : (bytes : ℕ) (count : Operand) → HaveBytes bytes (before_rotation count)
before_rotation_has bytes (operands.Value literal) = refl
before_rotation_has bytes _ = refl

behind_has : (count : ℕ) (operation : BinaryOperation) (size : Size) → HaveBytes count (behind_binary operation size)
behind_has count binary.Add size = refl
behind_has count operation size = refl

-- ---- rows
abbrev RowHas : Operation → Type 0
RowHas operation = (instr : Instr) → ProgramHas (written_bytes operation) (row_program_of operation instr)

two_operands_have : (operation : BinaryOperation) (width : Width) → RowHas (operations.TwoOperands operation width)
unfolding own_program_of move_row arithmetic_row control_row written_bytes
two_operands_have binary.Divide width instr program made = cc
two_operands_have operation width instr program made =
    by_plan (operations.TwoOperands operation width) (two_operands_plan operation width instr) instr refl (λ steps. replacement_has (operand instr 1) (size_of width) 3 2) (behind_has (bytes_of (size_of width)) operation (size_of width)) program made

three_operands_have : (operation : BinaryOperation) (width : Width) → RowHas (operations.ThreeOperands operation width)
unfolding own_program_of move_row arithmetic_row control_row written_bytes
three_operands_have binary.Divide width instr program made = cc
three_operands_have operation width instr program made =
    by_plan (operations.ThreeOperands operation width) (three_operands_plan operation width instr) instr refl (λ steps. result_has (operand instr 2) (size_of width) 3 2) (behind_has (bytes_of (size_of width)) operation (size_of width)) program made

low_bit_has : (state : Bool) → RowHas (operations.BranchOnLowBit state)
unfolding own_program_of move_row arithmetic_row control_row written_bytes
low_bit_has true instr = by_plan (operations.BranchOnLowBit true) (low_bit_plan true instr) instr refl (λ steps. refl) refl
low_bit_has false instr = by_plan (operations.BranchOnLowBit false) (low_bit_plan false instr) instr refl (λ steps. refl) refl

subtract_one_has : (or_equal : Bool) → RowHas (operations.SubtractOneBranch or_equal)
unfolding own_program_of move_row arithmetic_row control_row written_bytes
subtract_one_has true instr = by_plan (operations.SubtractOneBranch true) (subtract_one_plan true instr) instr refl (λ steps. replacement_has (operand instr 0) Long 3 2) refl
subtract_one_has false instr = by_plan (operations.SubtractOneBranch false) (subtract_one_plan false instr) instr refl (λ steps. replacement_has (operand instr 0) Long 3 2) refl

add_one_has : (or_equal : Bool) → RowHas (operations.AddOneBranch or_equal)
unfolding own_program_of move_row arithmetic_row control_row written_bytes
add_one_has true instr = by_plan (operations.AddOneBranch true) (add_one_plan true instr) instr refl (λ steps. replacement_has (operand instr 1) Long 3 2) refl
add_one_has false instr = by_plan (operations.AddOneBranch false) (add_one_plan false instr) instr refl (λ steps. replacement_has (operand instr 1) Long 3 2) refl

-- EMUL
product_has : (instr : Instr) → HaveBytes (bytes_of Quad) (extended_multiply_program instr)
product_has instr =
    let plan = extended_multiply_plan instr in
    let first = specifiers_from 0 factors instr in
    let steps = steps_behind_all first no_steps in
    let later = specifiers_from 2 plan.slots instr in
    let rest = rest_program (sources_of operations.ExtendedMultiply) plan (steps_behind_all later steps) in
    joined (bytes_of Quad) (operands_program first no_steps) (product_program ++ (operands_program later steps ++ rest)) (quiet_has (bytes_of Quad) (operands_program first no_steps) (operands_quiet first no_steps))
    (joined (bytes_of Quad) product_program (operands_program later steps ++ rest) refl
    (joined (bytes_of Quad) (operands_program later steps) rest (quiet_has (bytes_of Quad) (operands_program later steps) (operands_quiet later steps))
    (rest_have (bytes_of Quad) (sources_of operations.ExtendedMultiply) plan (steps_behind_all later steps) refl (λ at. result_has (operand instr 3) Quad 3 2) refl)))

-- ASHL, by the operand that counts
literal_shift_has : (left : Bool) (count : ℕ) (instr : Instr) → HaveBytes (bytes_of Long) (literal_shift_program left count instr)
literal_shift_has left count instr =
    let plan = literal_shift_plan left count instr in
    let later = specifiers_from 1 plan.slots instr in
    let rest = rest_program (sources_of operations.ArithmeticShift) plan (steps_behind_all later no_steps) in
    joined (bytes_of Long) (operands_program later no_steps) rest (quiet_has (bytes_of Long) (operands_program later no_steps) (operands_quiet later no_steps))
    (rest_have (bytes_of Long) (sources_of operations.ArithmeticShift) plan (steps_behind_all later no_steps) (shifted_by_has (bytes_of Long) left count) (λ at. result_has (operand instr 2) Long 3 2) (overflow_by_has (bytes_of Long) left count))

counted_shift_has : (instr : Instr) → ProgramHas (bytes_of Long) (Some (program_of (sources_of operations.ArithmeticShift) (arithmetic_shift_plan instr) instr))
unfolding written_bytes
counted_shift_has instr = by_plan operations.ArithmeticShift (arithmetic_shift_plan instr) instr refl (λ steps. result_has (operand instr 2) Long 3 2) refl

shift_has : (instr : Instr) (count : Operand) → ProgramHas (bytes_of Long) (option_or (literal_shift_by count instr) (Some (program_of (sources_of operations.ArithmeticShift) (arithmetic_shift_plan instr) instr)))
shift_has instr (operands.Value literal) = λ program made. subst (HaveBytes (bytes_of Long)) (same_Some _ _ made) (literal_shift_has (nat_lt (literal % 256) 128) (literal % 256) instr)
shift_has instr operands.Unused = counted_shift_has instr
shift_has instr (operands.Register n) = counted_shift_has instr
shift_has instr (operands.Place base index) = counted_shift_has instr
shift_has instr (operands.Target address) = counted_shift_has instr

rows_have : (operation : Operation) → RowHas operation
unfolding own_program_of move_row arithmetic_row control_row written_bytes
rows_have (operations.Move size) instr = by_plan (operations.Move size) (move_plan size instr) instr refl (λ steps. result_has (operand instr 1) size 3 2) refl
rows_have (operations.MoveZeroExtended from to) instr = by_plan (operations.MoveZeroExtended from to) (move_zero_extended_plan from to instr) instr refl (λ steps. result_has (operand instr 1) (size_of to) 3 2) refl
rows_have (operations.Clear size) instr = by_plan (operations.Clear size) (clear_plan size instr) instr refl (λ steps. result_has (operand instr 0) size 3 2) refl
rows_have (operations.MoveComplemented width) instr = by_plan (operations.MoveComplemented width) (move_complemented_plan width instr) instr refl (λ steps. result_has (operand instr 1) (size_of width) 3 2) refl
rows_have (operations.MoveNegated width) instr = by_plan (operations.MoveNegated width) (move_negated_plan width instr) instr refl (λ steps. result_has (operand instr 1) (size_of width) 3 2) refl
rows_have (operations.Convert from to) instr = by_plan (operations.Convert from to) (convert_plan from to instr) instr refl (λ steps. result_has (operand instr 1) (size_of to) 3 2) (conversion_has _ (is_extension from to) (size_of from) (size_of to))
rows_have (operations.MoveAddress size) instr = by_plan (operations.MoveAddress size) (move_address_plan size instr) instr refl (λ steps. result_has (operand instr 1) Long 3 2) refl
rows_have (operations.PushAddress size) instr = by_plan (operations.PushAddress size) (push_address_plan size) instr refl (λ steps. push_has steps 3 2) refl
rows_have operations.PushLong instr = by_plan operations.PushLong push_long_plan instr refl (λ steps. push_has steps 3 2) refl
rows_have operations.MovePsl instr = by_plan operations.MovePsl (move_psl_plan instr) instr refl (λ steps. result_has (operand instr 0) Long 3 2) refl
rows_have operations.BitSetPsw instr = by_plan operations.BitSetPsw (change_psw_plan ops.Or) instr refl (λ steps. refl) refl
rows_have operations.BitClearPsw instr = by_plan operations.BitClearPsw (change_psw_plan ops.AndNot) instr refl (λ steps. refl) refl
rows_have (operations.Compare width) instr = by_plan (operations.Compare width) (compare_plan width) instr refl (λ steps. refl) refl
rows_have (operations.Test width) instr = by_plan (operations.Test width) (test_plan width) instr refl (λ steps. refl) refl
rows_have (operations.BitTest width) instr = by_plan (operations.BitTest width) (bit_test_plan width) instr refl (λ steps. refl) refl
rows_have (operations.TwoOperands operation width) instr = two_operands_have operation width instr
rows_have (operations.ThreeOperands operation width) instr = three_operands_have operation width instr
rows_have (operations.Increment width) instr = by_plan (operations.Increment width) (by_one_plan ops.Add width instr) instr refl (λ steps. replacement_has (operand instr 0) (size_of width) 3 2) refl
rows_have (operations.Decrement width) instr = by_plan (operations.Decrement width) (by_one_plan ops.Sub width instr) instr refl (λ steps. replacement_has (operand instr 0) (size_of width) 3 2) refl
rows_have operations.AddWithCarry instr = by_plan operations.AddWithCarry (add_with_carry_plan instr) instr refl (λ steps. replacement_has (operand instr 1) Long 3 2) refl
rows_have operations.SubtractWithCarry instr = by_plan operations.SubtractWithCarry (subtract_with_carry_plan instr) instr refl (λ steps. replacement_has (operand instr 1) Long 3 2) refl
rows_have operations.AddAlignedWord instr = by_plan operations.AddAlignedWord (add_aligned_plan instr) instr (aligned_has (operand instr 1)) (left_has 0 (operand instr 1) Word) refl
rows_have operations.ArithmeticShift instr = shift_has instr (operand instr 0)
rows_have operations.Rotate instr = by_plan operations.Rotate (rotate_plan instr) instr (before_rotation_has (bytes_of Long) (operand instr 0)) (λ steps. result_has (operand instr 2) Long 3 2) refl
rows_have operations.ExtendedMultiply instr = λ program made. subst (HaveBytes (bytes_of Quad)) (same_Some _ _ made) (product_has instr)
rows_have (operations.BranchOnLowBit state) instr = low_bit_has state instr
rows_have (operations.BranchOnBit branch) instr =
    by_plan (operations.BranchOnBit branch) (bit_branch_plan branch instr) instr (bit_at_has (literal_position (operand instr 0) (operand instr 1)) (operand instr 1) branch.store) (bit_target_has (bytes_of_store branch.store) (operand instr 1) branch.store) refl
rows_have (operations.SubtractOneBranch or_equal) instr = subtract_one_has or_equal instr
rows_have (operations.AddOneBranch or_equal) instr = add_one_has or_equal instr
rows_have (operations.AddCompareBranch width) instr = by_plan (operations.AddCompareBranch width) (add_compare_plan width instr) instr refl (λ steps. replacement_has (operand instr 2) (size_of width) 3 2) refl
rows_have operations.Jump instr = by_plan operations.Jump (jump_plan instr) instr refl (λ steps. refl) refl
rows_have operations.JumpToSubroutine instr = by_plan operations.JumpToSubroutine (jump_to_subroutine_plan instr) instr refl (λ steps. push_has steps 3 2) refl
rows_have operations.ChangeMode instr = by_plan operations.ChangeMode change_mode_plan instr refl (λ steps. refl) refl
rows_have _ instr = λ program made. cc

-- ---- operations that evaluate no operand specifier
test_has : (flags : ℕ × Option ℕ) (exit : Exit) → HaveBytes 0 (flag_test flags ∷ Leave exit ∷ [])
test_has (first, None) exit = refl
test_has (first, Some second) exit = refl

branch_if_has : (condition : Condition) (target after : ℕ) → HaveBytes 0 (branch_if_program condition target after)
branch_if_has condition target after = test_has (flags_of condition) (condition_exit condition target after)

plain_have : (operation : Operation) (instr : Instr) → ProgramHas (written_bytes operation) (plain_program_of operation instr)
unfolding plain_program_of written_bytes
plain_have operations.NoOperation instr program made = subst (HaveBytes 0) (same_Some _ _ made) refl
plain_have operations.Breakpoint instr program made = subst (HaveBytes 0) (same_Some _ _ made) refl
plain_have (operations.Branch width) instr program made = subst (HaveBytes 0) (same_Some _ _ made) refl
plain_have (operations.BranchIf condition) instr program made = subst (HaveBytes 0) (same_Some _ _ made) (branch_if_has condition (target (operand instr 0)) instr.after)
plain_have (operations.BranchToSubroutine width) instr program made = subst (HaveBytes (bytes_of Long)) (same_Some _ _ made) refl
plain_have operations.ReturnFromSubroutine instr program made = subst (HaveBytes 0) (same_Some _ _ made) refl
plain_have _ instr program made = cc

-- ---- of an instruction
either_has : (count : ℕ) (plain row : Option (List Micro)) → ProgramHas count plain → ProgramHas count row → ProgramHas count (option_or plain row)
either_has count None row by_plain by_row = by_row
either_has count (Some made) row by_plain by_row = by_plain

pub writes_operand : (instr : Instr) (operation : Operation) (program : List Micro) → operation_at instr.opcode ≡ Some operation → program_of_operation operation instr ≡ Some program
    → WritesOperand instr program
writes_operand instr operation program at made other is =
    subst (λ (o : Operation). HaveBytes (written_bytes o) program) (same_Some operation other (sym at ∙ is))
    (either_has (written_bytes operation) (plain_program_of operation instr) (row_program_of operation instr) (plain_have operation instr) (rows_have operation instr) program made)

pub programs_write_operands : ProgramsWriteOperands
unfolding program_for
programs_write_operands instr program made operation is =
    let found : program_of_operation operation instr ≡ Some program = sym (ap (λ o. option_and_then (λ it. program_of_operation it instr) o) is) ∙ made in
    writes_operand instr operation program is found operation is
