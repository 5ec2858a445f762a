-- Each row fits a block, with a result in memory or in a register.
use Rattle.std.proofs.Common.{◌≡◌, ℕ, Bool, true, false, List, ◌∷◌, Option, Some, None, refl}
use Rattle.std.specs.Prelude.{nat_lt}
use Rattle.vax_form.specs.declared.instr.Base.{Base}
use Rattle.vax_form.specs.declared.instr.Instr.{Instr}
use Rattle.vax_form.specs.declared.instr.Operand.{Operand}
use Rattle.vax_form.specs.declared.instr.Operand.TheVariants as operands
use Rattle.vax_form.specs.declared.instr.Size.{Size}
use Rattle.vax_form.specs.declared.instr.Size.TheVariants.{Byte, Word, Long, Quad}
use Rattle.vax_form.specs.declared.instr.Width.{Width}
use Rattle.vax_form.specs.declared.instr.Width.TheVariants as widths
use Rattle.vax_form.specs.declared.operation.BinaryOperation.{BinaryOperation}
use Rattle.vax_form.specs.declared.operation.BinaryOperation.TheVariants as binary
use Rattle.vax_form.specs.declared.operation.BitBranch.{BitBranch}
use Rattle.vax_form.specs.declared.operation.BitStore.{BitStore}
use Rattle.vax_form.specs.declared.operation.BitStore.TheVariants as stores
use Rattle.vax_form.specs.declared.operation.Operation.TheVariants as operations
use Rattle.vax_meaning.specs.Evaluation.{operand}
use Rattle.micro_ops.specs.Fits.{step}
use Rattle.micro_ops.specs.Sources.{sources_of}
use Rattle.micro_ops.specs.declared.program.Exit.{Exit}
use Rattle.micro_ops.specs.declared.program.Micro.{Micro}
use Rattle.micro_ops.specs.declared.program.MicroOp.TheVariants as ops
use Rattle.operand_programs.specs.Operands.{IsLocated}
use Rattle.micro_lower.specs.Rows.{divides, move_plan, clear_plan, move_zero_extended_plan, move_complemented_plan, move_negated_plan, convert_plan, move_address_plan, push_address_plan, push_long_plan, compare_plan, test_plan, bit_test_plan, by_one_plan, two_operands_plan, three_operands_plan, low_bit_plan, subtract_one_plan, add_one_plan, add_compare_plan, add_with_carry_plan, change_mode_plan, subtract_with_carry_plan, rotate_plan, arithmetic_shift_plan, change_psw_plan, test_exit, before_bit, before_literal, literal_position, bit_plan_with, bit_plan_for, bit_branch_plan, move_psl_plan}
use Rattle.micro_lower.proofs.Fit.{having, plan_fits, PlanFits, first_located, second_located, third_located}

pub move_fits : (size : Size) (instr : Instr) → IsLocated (operand instr 1) → plan_fits (sources_of (operations.Move size)) (move_plan size instr) instr ≡ true
unfolding sources_of step
move_fits Byte instr is = second_located (PlanFits (sources_of (operations.Move Byte)) (move_plan Byte)) instr is (λ a base index more. refl) (λ a n more. refl)
move_fits Word instr is = second_located (PlanFits (sources_of (operations.Move Word)) (move_plan Word)) instr is (λ a base index more. refl) (λ a n more. refl)
move_fits Long instr is = second_located (PlanFits (sources_of (operations.Move Long)) (move_plan Long)) instr is (λ a base index more. refl) (λ a n more. refl)
move_fits Quad instr is = second_located (PlanFits (sources_of (operations.Move Quad)) (move_plan Quad)) instr is (λ a base index more. refl) (λ a n more. refl)

pub clear_fits : (size : Size) (instr : Instr) → IsLocated (operand instr 0) → plan_fits (sources_of (operations.Clear size)) (clear_plan size instr) instr ≡ true
unfolding sources_of step
clear_fits Byte instr is = first_located (PlanFits (sources_of (operations.Clear Byte)) (clear_plan Byte)) instr is (λ base index more. refl) (λ n more. refl)
clear_fits Word instr is = first_located (PlanFits (sources_of (operations.Clear Word)) (clear_plan Word)) instr is (λ base index more. refl) (λ n more. refl)
clear_fits Long instr is = first_located (PlanFits (sources_of (operations.Clear Long)) (clear_plan Long)) instr is (λ base index more. refl) (λ n more. refl)
clear_fits Quad instr is = first_located (PlanFits (sources_of (operations.Clear Quad)) (clear_plan Quad)) instr is (λ base index more. refl) (λ n more. refl)

pub move_zero_extended_fits : (from : Width) (to : Width) (instr : Instr) → IsLocated (operand instr 1) → plan_fits (sources_of (operations.MoveZeroExtended from to)) (move_zero_extended_plan from to instr) instr ≡ true
unfolding sources_of step
move_zero_extended_fits widths.Byte widths.Byte instr is = second_located (PlanFits (sources_of (operations.MoveZeroExtended widths.Byte widths.Byte)) (move_zero_extended_plan widths.Byte widths.Byte)) instr is (λ a base index more. refl) (λ a n more. refl)
move_zero_extended_fits widths.Byte widths.Word instr is = second_located (PlanFits (sources_of (operations.MoveZeroExtended widths.Byte widths.Word)) (move_zero_extended_plan widths.Byte widths.Word)) instr is (λ a base index more. refl) (λ a n more. refl)
move_zero_extended_fits widths.Byte widths.Long instr is = second_located (PlanFits (sources_of (operations.MoveZeroExtended widths.Byte widths.Long)) (move_zero_extended_plan widths.Byte widths.Long)) instr is (λ a base index more. refl) (λ a n more. refl)
move_zero_extended_fits widths.Word widths.Byte instr is = second_located (PlanFits (sources_of (operations.MoveZeroExtended widths.Word widths.Byte)) (move_zero_extended_plan widths.Word widths.Byte)) instr is (λ a base index more. refl) (λ a n more. refl)
move_zero_extended_fits widths.Word widths.Word instr is = second_located (PlanFits (sources_of (operations.MoveZeroExtended widths.Word widths.Word)) (move_zero_extended_plan widths.Word widths.Word)) instr is (λ a base index more. refl) (λ a n more. refl)
move_zero_extended_fits widths.Word widths.Long instr is = second_located (PlanFits (sources_of (operations.MoveZeroExtended widths.Word widths.Long)) (move_zero_extended_plan widths.Word widths.Long)) instr is (λ a base index more. refl) (λ a n more. refl)
move_zero_extended_fits widths.Long widths.Byte instr is = second_located (PlanFits (sources_of (operations.MoveZeroExtended widths.Long widths.Byte)) (move_zero_extended_plan widths.Long widths.Byte)) instr is (λ a base index more. refl) (λ a n more. refl)
move_zero_extended_fits widths.Long widths.Word instr is = second_located (PlanFits (sources_of (operations.MoveZeroExtended widths.Long widths.Word)) (move_zero_extended_plan widths.Long widths.Word)) instr is (λ a base index more. refl) (λ a n more. refl)
move_zero_extended_fits widths.Long widths.Long instr is = second_located (PlanFits (sources_of (operations.MoveZeroExtended widths.Long widths.Long)) (move_zero_extended_plan widths.Long widths.Long)) instr is (λ a base index more. refl) (λ a n more. refl)

pub move_complemented_fits : (width : Width) (instr : Instr) → IsLocated (operand instr 1) → plan_fits (sources_of (operations.MoveComplemented width)) (move_complemented_plan width instr) instr ≡ true
unfolding sources_of step
move_complemented_fits widths.Byte instr is = second_located (PlanFits (sources_of (operations.MoveComplemented widths.Byte)) (move_complemented_plan widths.Byte)) instr is (λ a base index more. refl) (λ a n more. refl)
move_complemented_fits widths.Word instr is = second_located (PlanFits (sources_of (operations.MoveComplemented widths.Word)) (move_complemented_plan widths.Word)) instr is (λ a base index more. refl) (λ a n more. refl)
move_complemented_fits widths.Long instr is = second_located (PlanFits (sources_of (operations.MoveComplemented widths.Long)) (move_complemented_plan widths.Long)) instr is (λ a base index more. refl) (λ a n more. refl)

pub move_negated_fits : (width : Width) (instr : Instr) → IsLocated (operand instr 1) → plan_fits (sources_of (operations.MoveNegated width)) (move_negated_plan width instr) instr ≡ true
unfolding sources_of step
move_negated_fits widths.Byte instr is = second_located (PlanFits (sources_of (operations.MoveNegated widths.Byte)) (move_negated_plan widths.Byte)) instr is (λ a base index more. refl) (λ a n more. refl)
move_negated_fits widths.Word instr is = second_located (PlanFits (sources_of (operations.MoveNegated widths.Word)) (move_negated_plan widths.Word)) instr is (λ a base index more. refl) (λ a n more. refl)
move_negated_fits widths.Long instr is = second_located (PlanFits (sources_of (operations.MoveNegated widths.Long)) (move_negated_plan widths.Long)) instr is (λ a base index more. refl) (λ a n more. refl)

pub convert_fits : (from : Width) (to : Width) (instr : Instr) → IsLocated (operand instr 1) → plan_fits (sources_of (operations.Convert from to)) (convert_plan from to instr) instr ≡ true
unfolding sources_of step
convert_fits widths.Byte widths.Byte instr is = second_located (PlanFits (sources_of (operations.Convert widths.Byte widths.Byte)) (convert_plan widths.Byte widths.Byte)) instr is (λ a base index more. refl) (λ a n more. refl)
convert_fits widths.Byte widths.Word instr is = second_located (PlanFits (sources_of (operations.Convert widths.Byte widths.Word)) (convert_plan widths.Byte widths.Word)) instr is (λ a base index more. refl) (λ a n more. refl)
convert_fits widths.Byte widths.Long instr is = second_located (PlanFits (sources_of (operations.Convert widths.Byte widths.Long)) (convert_plan widths.Byte widths.Long)) instr is (λ a base index more. refl) (λ a n more. refl)
convert_fits widths.Word widths.Byte instr is = second_located (PlanFits (sources_of (operations.Convert widths.Word widths.Byte)) (convert_plan widths.Word widths.Byte)) instr is (λ a base index more. refl) (λ a n more. refl)
convert_fits widths.Word widths.Word instr is = second_located (PlanFits (sources_of (operations.Convert widths.Word widths.Word)) (convert_plan widths.Word widths.Word)) instr is (λ a base index more. refl) (λ a n more. refl)
convert_fits widths.Word widths.Long instr is = second_located (PlanFits (sources_of (operations.Convert widths.Word widths.Long)) (convert_plan widths.Word widths.Long)) instr is (λ a base index more. refl) (λ a n more. refl)
convert_fits widths.Long widths.Byte instr is = second_located (PlanFits (sources_of (operations.Convert widths.Long widths.Byte)) (convert_plan widths.Long widths.Byte)) instr is (λ a base index more. refl) (λ a n more. refl)
convert_fits widths.Long widths.Word instr is = second_located (PlanFits (sources_of (operations.Convert widths.Long widths.Word)) (convert_plan widths.Long widths.Word)) instr is (λ a base index more. refl) (λ a n more. refl)
convert_fits widths.Long widths.Long instr is = second_located (PlanFits (sources_of (operations.Convert widths.Long widths.Long)) (convert_plan widths.Long widths.Long)) instr is (λ a base index more. refl) (λ a n more. refl)

pub move_address_fits : (size : Size) (instr : Instr) → IsLocated (operand instr 1) → plan_fits (sources_of (operations.MoveAddress size)) (move_address_plan size instr) instr ≡ true
unfolding sources_of step
move_address_fits Byte instr is = second_located (PlanFits (sources_of (operations.MoveAddress Byte)) (move_address_plan Byte)) instr is (λ a base index more. refl) (λ a n more. refl)
move_address_fits Word instr is = second_located (PlanFits (sources_of (operations.MoveAddress Word)) (move_address_plan Word)) instr is (λ a base index more. refl) (λ a n more. refl)
move_address_fits Long instr is = second_located (PlanFits (sources_of (operations.MoveAddress Long)) (move_address_plan Long)) instr is (λ a base index more. refl) (λ a n more. refl)
move_address_fits Quad instr is = second_located (PlanFits (sources_of (operations.MoveAddress Quad)) (move_address_plan Quad)) instr is (λ a base index more. refl) (λ a n more. refl)

pub push_address_fits : (size : Size) (instr : Instr) → plan_fits (sources_of (operations.PushAddress size)) (push_address_plan size) instr ≡ true
unfolding sources_of step
push_address_fits Byte instr = refl
push_address_fits Word instr = refl
push_address_fits Long instr = refl
push_address_fits Quad instr = refl

pub push_long_fits : (instr : Instr) → plan_fits (sources_of operations.PushLong) push_long_plan instr ≡ true
unfolding sources_of step
push_long_fits instr = refl

pub compare_fits : (width : Width) (instr : Instr) → plan_fits (sources_of (operations.Compare width)) (compare_plan width) instr ≡ true
unfolding sources_of step
compare_fits widths.Byte instr = refl
compare_fits widths.Word instr = refl
compare_fits widths.Long instr = refl

pub test_fits : (width : Width) (instr : Instr) → plan_fits (sources_of (operations.Test width)) (test_plan width) instr ≡ true
unfolding sources_of step
test_fits widths.Byte instr = refl
test_fits widths.Word instr = refl
test_fits widths.Long instr = refl

pub bit_test_fits : (width : Width) (instr : Instr) → plan_fits (sources_of (operations.BitTest width)) (bit_test_plan width) instr ≡ true
unfolding sources_of step
bit_test_fits widths.Byte instr = refl
bit_test_fits widths.Word instr = refl
bit_test_fits widths.Long instr = refl

pub increment_fits : (width : Width) (instr : Instr) → IsLocated (operand instr 0) → plan_fits (sources_of (operations.Increment width)) (by_one_plan ops.Add width instr) instr ≡ true
unfolding sources_of step
increment_fits widths.Byte instr is = first_located (PlanFits (sources_of (operations.Increment widths.Byte)) (by_one_plan ops.Add widths.Byte)) instr is (λ base index more. refl) (λ n more. refl)
increment_fits widths.Word instr is = first_located (PlanFits (sources_of (operations.Increment widths.Word)) (by_one_plan ops.Add widths.Word)) instr is (λ base index more. refl) (λ n more. refl)
increment_fits widths.Long instr is = first_located (PlanFits (sources_of (operations.Increment widths.Long)) (by_one_plan ops.Add widths.Long)) instr is (λ base index more. refl) (λ n more. refl)

pub decrement_fits : (width : Width) (instr : Instr) → IsLocated (operand instr 0) → plan_fits (sources_of (operations.Decrement width)) (by_one_plan ops.Sub width instr) instr ≡ true
unfolding sources_of step
decrement_fits widths.Byte instr is = first_located (PlanFits (sources_of (operations.Decrement widths.Byte)) (by_one_plan ops.Sub widths.Byte)) instr is (λ base index more. refl) (λ n more. refl)
decrement_fits widths.Word instr is = first_located (PlanFits (sources_of (operations.Decrement widths.Word)) (by_one_plan ops.Sub widths.Word)) instr is (λ base index more. refl) (λ n more. refl)
decrement_fits widths.Long instr is = first_located (PlanFits (sources_of (operations.Decrement widths.Long)) (by_one_plan ops.Sub widths.Long)) instr is (λ base index more. refl) (λ n more. refl)

pub two_operands_fits : (operation : BinaryOperation) (width : Width) (instr : Instr) → divides operation ≡ false → IsLocated (operand instr 1) → plan_fits (sources_of (operations.TwoOperands operation width)) (two_operands_plan operation width instr) instr ≡ true
unfolding sources_of step
two_operands_fits binary.Divide width instr none is = cc
two_operands_fits binary.Add widths.Byte instr none is = second_located (PlanFits (sources_of (operations.TwoOperands binary.Add widths.Byte)) (two_operands_plan binary.Add widths.Byte)) instr is (λ a base index more. refl) (λ a n more. refl)
two_operands_fits binary.Add widths.Word instr none is = second_located (PlanFits (sources_of (operations.TwoOperands binary.Add widths.Word)) (two_operands_plan binary.Add widths.Word)) instr is (λ a base index more. refl) (λ a n more. refl)
two_operands_fits binary.Add widths.Long instr none is = second_located (PlanFits (sources_of (operations.TwoOperands binary.Add widths.Long)) (two_operands_plan binary.Add widths.Long)) instr is (λ a base index more. refl) (λ a n more. refl)
two_operands_fits binary.Subtract widths.Byte instr none is = second_located (PlanFits (sources_of (operations.TwoOperands binary.Subtract widths.Byte)) (two_operands_plan binary.Subtract widths.Byte)) instr is (λ a base index more. refl) (λ a n more. refl)
two_operands_fits binary.Subtract widths.Word instr none is = second_located (PlanFits (sources_of (operations.TwoOperands binary.Subtract widths.Word)) (two_operands_plan binary.Subtract widths.Word)) instr is (λ a base index more. refl) (λ a n more. refl)
two_operands_fits binary.Subtract widths.Long instr none is = second_located (PlanFits (sources_of (operations.TwoOperands binary.Subtract widths.Long)) (two_operands_plan binary.Subtract widths.Long)) instr is (λ a base index more. refl) (λ a n more. refl)
two_operands_fits binary.Multiply widths.Byte instr none is = second_located (PlanFits (sources_of (operations.TwoOperands binary.Multiply widths.Byte)) (two_operands_plan binary.Multiply widths.Byte)) instr is (λ a base index more. refl) (λ a n more. refl)
two_operands_fits binary.Multiply widths.Word instr none is = second_located (PlanFits (sources_of (operations.TwoOperands binary.Multiply widths.Word)) (two_operands_plan binary.Multiply widths.Word)) instr is (λ a base index more. refl) (λ a n more. refl)
two_operands_fits binary.Multiply widths.Long instr none is = second_located (PlanFits (sources_of (operations.TwoOperands binary.Multiply widths.Long)) (two_operands_plan binary.Multiply widths.Long)) instr is (λ a base index more. refl) (λ a n more. refl)
two_operands_fits binary.BitSet widths.Byte instr none is = second_located (PlanFits (sources_of (operations.TwoOperands binary.BitSet widths.Byte)) (two_operands_plan binary.BitSet widths.Byte)) instr is (λ a base index more. refl) (λ a n more. refl)
two_operands_fits binary.BitSet widths.Word instr none is = second_located (PlanFits (sources_of (operations.TwoOperands binary.BitSet widths.Word)) (two_operands_plan binary.BitSet widths.Word)) instr is (λ a base index more. refl) (λ a n more. refl)
two_operands_fits binary.BitSet widths.Long instr none is = second_located (PlanFits (sources_of (operations.TwoOperands binary.BitSet widths.Long)) (two_operands_plan binary.BitSet widths.Long)) instr is (λ a base index more. refl) (λ a n more. refl)
two_operands_fits binary.BitClear widths.Byte instr none is = second_located (PlanFits (sources_of (operations.TwoOperands binary.BitClear widths.Byte)) (two_operands_plan binary.BitClear widths.Byte)) instr is (λ a base index more. refl) (λ a n more. refl)
two_operands_fits binary.BitClear widths.Word instr none is = second_located (PlanFits (sources_of (operations.TwoOperands binary.BitClear widths.Word)) (two_operands_plan binary.BitClear widths.Word)) instr is (λ a base index more. refl) (λ a n more. refl)
two_operands_fits binary.BitClear widths.Long instr none is = second_located (PlanFits (sources_of (operations.TwoOperands binary.BitClear widths.Long)) (two_operands_plan binary.BitClear widths.Long)) instr is (λ a base index more. refl) (λ a n more. refl)
two_operands_fits binary.ExclusiveOr widths.Byte instr none is = second_located (PlanFits (sources_of (operations.TwoOperands binary.ExclusiveOr widths.Byte)) (two_operands_plan binary.ExclusiveOr widths.Byte)) instr is (λ a base index more. refl) (λ a n more. refl)
two_operands_fits binary.ExclusiveOr widths.Word instr none is = second_located (PlanFits (sources_of (operations.TwoOperands binary.ExclusiveOr widths.Word)) (two_operands_plan binary.ExclusiveOr widths.Word)) instr is (λ a base index more. refl) (λ a n more. refl)
two_operands_fits binary.ExclusiveOr widths.Long instr none is = second_located (PlanFits (sources_of (operations.TwoOperands binary.ExclusiveOr widths.Long)) (two_operands_plan binary.ExclusiveOr widths.Long)) instr is (λ a base index more. refl) (λ a n more. refl)

pub three_operands_fits : (operation : BinaryOperation) (width : Width) (instr : Instr) → divides operation ≡ false → IsLocated (operand instr 2) → plan_fits (sources_of (operations.ThreeOperands operation width)) (three_operands_plan operation width instr) instr ≡ true
unfolding sources_of step
three_operands_fits binary.Divide width instr none is = cc
three_operands_fits binary.Add widths.Byte instr none is = third_located (PlanFits (sources_of (operations.ThreeOperands binary.Add widths.Byte)) (three_operands_plan binary.Add widths.Byte)) instr is (λ a b base index more. refl) (λ a b n more. refl)
three_operands_fits binary.Add widths.Word instr none is = third_located (PlanFits (sources_of (operations.ThreeOperands binary.Add widths.Word)) (three_operands_plan binary.Add widths.Word)) instr is (λ a b base index more. refl) (λ a b n more. refl)
three_operands_fits binary.Add widths.Long instr none is = third_located (PlanFits (sources_of (operations.ThreeOperands binary.Add widths.Long)) (three_operands_plan binary.Add widths.Long)) instr is (λ a b base index more. refl) (λ a b n more. refl)
three_operands_fits binary.Subtract widths.Byte instr none is = third_located (PlanFits (sources_of (operations.ThreeOperands binary.Subtract widths.Byte)) (three_operands_plan binary.Subtract widths.Byte)) instr is (λ a b base index more. refl) (λ a b n more. refl)
three_operands_fits binary.Subtract widths.Word instr none is = third_located (PlanFits (sources_of (operations.ThreeOperands binary.Subtract widths.Word)) (three_operands_plan binary.Subtract widths.Word)) instr is (λ a b base index more. refl) (λ a b n more. refl)
three_operands_fits binary.Subtract widths.Long instr none is = third_located (PlanFits (sources_of (operations.ThreeOperands binary.Subtract widths.Long)) (three_operands_plan binary.Subtract widths.Long)) instr is (λ a b base index more. refl) (λ a b n more. refl)
three_operands_fits binary.Multiply widths.Byte instr none is = third_located (PlanFits (sources_of (operations.ThreeOperands binary.Multiply widths.Byte)) (three_operands_plan binary.Multiply widths.Byte)) instr is (λ a b base index more. refl) (λ a b n more. refl)
three_operands_fits binary.Multiply widths.Word instr none is = third_located (PlanFits (sources_of (operations.ThreeOperands binary.Multiply widths.Word)) (three_operands_plan binary.Multiply widths.Word)) instr is (λ a b base index more. refl) (λ a b n more. refl)
three_operands_fits binary.Multiply widths.Long instr none is = third_located (PlanFits (sources_of (operations.ThreeOperands binary.Multiply widths.Long)) (three_operands_plan binary.Multiply widths.Long)) instr is (λ a b base index more. refl) (λ a b n more. refl)
three_operands_fits binary.BitSet widths.Byte instr none is = third_located (PlanFits (sources_of (operations.ThreeOperands binary.BitSet widths.Byte)) (three_operands_plan binary.BitSet widths.Byte)) instr is (λ a b base index more. refl) (λ a b n more. refl)
three_operands_fits binary.BitSet widths.Word instr none is = third_located (PlanFits (sources_of (operations.ThreeOperands binary.BitSet widths.Word)) (three_operands_plan binary.BitSet widths.Word)) instr is (λ a b base index more. refl) (λ a b n more. refl)
three_operands_fits binary.BitSet widths.Long instr none is = third_located (PlanFits (sources_of (operations.ThreeOperands binary.BitSet widths.Long)) (three_operands_plan binary.BitSet widths.Long)) instr is (λ a b base index more. refl) (λ a b n more. refl)
three_operands_fits binary.BitClear widths.Byte instr none is = third_located (PlanFits (sources_of (operations.ThreeOperands binary.BitClear widths.Byte)) (three_operands_plan binary.BitClear widths.Byte)) instr is (λ a b base index more. refl) (λ a b n more. refl)
three_operands_fits binary.BitClear widths.Word instr none is = third_located (PlanFits (sources_of (operations.ThreeOperands binary.BitClear widths.Word)) (three_operands_plan binary.BitClear widths.Word)) instr is (λ a b base index more. refl) (λ a b n more. refl)
three_operands_fits binary.BitClear widths.Long instr none is = third_located (PlanFits (sources_of (operations.ThreeOperands binary.BitClear widths.Long)) (three_operands_plan binary.BitClear widths.Long)) instr is (λ a b base index more. refl) (λ a b n more. refl)
three_operands_fits binary.ExclusiveOr widths.Byte instr none is = third_located (PlanFits (sources_of (operations.ThreeOperands binary.ExclusiveOr widths.Byte)) (three_operands_plan binary.ExclusiveOr widths.Byte)) instr is (λ a b base index more. refl) (λ a b n more. refl)
three_operands_fits binary.ExclusiveOr widths.Word instr none is = third_located (PlanFits (sources_of (operations.ThreeOperands binary.ExclusiveOr widths.Word)) (three_operands_plan binary.ExclusiveOr widths.Word)) instr is (λ a b base index more. refl) (λ a b n more. refl)
three_operands_fits binary.ExclusiveOr widths.Long instr none is = third_located (PlanFits (sources_of (operations.ThreeOperands binary.ExclusiveOr widths.Long)) (three_operands_plan binary.ExclusiveOr widths.Long)) instr is (λ a b base index more. refl) (λ a b n more. refl)

pub low_bit_fits : (state : Bool) (instr : Instr) → plan_fits (sources_of (operations.BranchOnLowBit state)) (low_bit_plan state instr) instr ≡ true
unfolding sources_of step
low_bit_fits true instr = refl
low_bit_fits false instr = refl

pub subtract_one_fits : (or_equal : Bool) (instr : Instr) → IsLocated (operand instr 0) → plan_fits (sources_of (operations.SubtractOneBranch or_equal)) (subtract_one_plan or_equal instr) instr ≡ true
unfolding sources_of step
subtract_one_fits true instr is = first_located (PlanFits (sources_of (operations.SubtractOneBranch true)) (subtract_one_plan true)) instr is (λ base index more. refl) (λ n more. refl)
subtract_one_fits false instr is = first_located (PlanFits (sources_of (operations.SubtractOneBranch false)) (subtract_one_plan false)) instr is (λ base index more. refl) (λ n more. refl)

pub add_one_fits : (or_equal : Bool) (instr : Instr) → IsLocated (operand instr 1) → plan_fits (sources_of (operations.AddOneBranch or_equal)) (add_one_plan or_equal instr) instr ≡ true
unfolding sources_of step
add_one_fits true instr is = second_located (PlanFits (sources_of (operations.AddOneBranch true)) (add_one_plan true)) instr is (λ a base index more. refl) (λ a n more. refl)
add_one_fits false instr is = second_located (PlanFits (sources_of (operations.AddOneBranch false)) (add_one_plan false)) instr is (λ a base index more. refl) (λ a n more. refl)

pub add_compare_fits : (width : Width) (instr : Instr) → IsLocated (operand instr 2) → plan_fits (sources_of (operations.AddCompareBranch width)) (add_compare_plan width instr) instr ≡ true
unfolding sources_of step
add_compare_fits widths.Byte instr is = third_located (PlanFits (sources_of (operations.AddCompareBranch widths.Byte)) (add_compare_plan widths.Byte)) instr is (λ a b base index more. refl) (λ a b n more. refl)
add_compare_fits widths.Word instr is = third_located (PlanFits (sources_of (operations.AddCompareBranch widths.Word)) (add_compare_plan widths.Word)) instr is (λ a b base index more. refl) (λ a b n more. refl)
add_compare_fits widths.Long instr is = third_located (PlanFits (sources_of (operations.AddCompareBranch widths.Long)) (add_compare_plan widths.Long)) instr is (λ a b base index more. refl) (λ a b n more. refl)

pub add_with_carry_fits : (instr : Instr) → IsLocated (operand instr 1) → plan_fits (sources_of operations.AddWithCarry) (add_with_carry_plan instr) instr ≡ true
unfolding sources_of step
add_with_carry_fits instr is = second_located (PlanFits (sources_of operations.AddWithCarry) add_with_carry_plan) instr is (λ a base index more. refl) (λ a n more. refl)

pub change_mode_fits : (instr : Instr) → plan_fits (sources_of operations.ChangeMode) change_mode_plan instr ≡ true
unfolding sources_of step
change_mode_fits instr = refl

pub subtract_with_carry_fits : (instr : Instr) → IsLocated (operand instr 1) → plan_fits (sources_of operations.SubtractWithCarry) (subtract_with_carry_plan instr) instr ≡ true
unfolding sources_of step
subtract_with_carry_fits instr is = second_located (PlanFits (sources_of operations.SubtractWithCarry) subtract_with_carry_plan) instr is (λ a base index more. refl) (λ a n more. refl)

-- ---- shifts, by the operand that counts
abbrev counted_by : Instr → (count b : Operand) → (result : Operand) → (more : List Operand) → Instr
counted_by instr count b result more = having instr (count ∷ b ∷ result ∷ more)

rotation_in_memory : (instr : Instr) (count b : Operand) (base : Base) (index : Option ℕ) (more : List Operand) → PlanFits (sources_of operations.Rotate) rotate_plan (counted_by instr count b (operands.Place base index) more)
unfolding sources_of step
rotation_in_memory instr (operands.Value literal) b base index more = refl
rotation_in_memory instr operands.Unused b base index more = refl
rotation_in_memory instr (operands.Register n) b base index more = refl
rotation_in_memory instr (operands.Place at by) b base index more = refl
rotation_in_memory instr (operands.Target address) b base index more = refl

rotation_in_register : (instr : Instr) (count b : Operand) (n : ℕ) (more : List Operand) → PlanFits (sources_of operations.Rotate) rotate_plan (counted_by instr count b (operands.Register n) more)
unfolding sources_of step
rotation_in_register instr (operands.Value literal) b n more = refl
rotation_in_register instr operands.Unused b n more = refl
rotation_in_register instr (operands.Register m) b n more = refl
rotation_in_register instr (operands.Place at by) b n more = refl
rotation_in_register instr (operands.Target address) b n more = refl

pub rotate_fits : (instr : Instr) → IsLocated (operand instr 2) → plan_fits (sources_of operations.Rotate) (rotate_plan instr) instr ≡ true
rotate_fits instr is = third_located (PlanFits (sources_of operations.Rotate) rotate_plan) instr is (rotation_in_memory instr) (rotation_in_register instr)

pub arithmetic_shift_fits : (instr : Instr) → IsLocated (operand instr 2) → plan_fits (sources_of operations.ArithmeticShift) (arithmetic_shift_plan instr) instr ≡ true
unfolding sources_of step
arithmetic_shift_fits instr is = third_located (PlanFits (sources_of operations.ArithmeticShift) arithmetic_shift_plan) instr is (λ a b base index more. refl) (λ a b n more. refl)

pub move_psl_fits : (instr : Instr) → IsLocated (operand instr 0) → plan_fits (sources_of operations.MovePsl) (move_psl_plan instr) instr ≡ true
unfolding sources_of step
move_psl_fits instr is = first_located (PlanFits (sources_of operations.MovePsl) move_psl_plan) instr is (λ base index more. refl) (λ n more. refl)

pub set_psw_fits : (instr : Instr) → plan_fits (sources_of operations.BitSetPsw) (change_psw_plan ops.Or) instr ≡ true
unfolding sources_of step
set_psw_fits instr = refl

pub clear_psw_fits : (instr : Instr) → plan_fits (sources_of operations.BitClearPsw) (change_psw_plan ops.AndNot) instr ≡ true
unfolding sources_of step
clear_psw_fits instr = refl

-- ---- branches on a bit, by the literal
abbrev BitFits : (before : List Micro) → Exit → (s : Bool) → BitStore → Operand → Instr → Type 0
BitFits before exit s store base instr = plan_fits (sources_of (operations.BranchOnBit (record { state = s; store = store }))) (bit_plan_with before exit base store instr) instr ≡ true

abbrev ComputedFits : (s : Bool) → BitStore → Operand → Instr → Type 0
ComputedFits s store base instr = BitFits (before_bit base store) (test_exit s instr 2) s store base instr

abbrev LiteralBitFits : (first : Bool) → (position : ℕ) → (s : Bool) → BitStore → Operand → Instr → Type 0
LiteralBitFits first position s store base instr = BitFits (before_literal base first position store) (test_exit s instr 2) s store base instr

computed_in_memory : (s : Bool) (store : BitStore) (instr : Instr) (a : Operand) (base : Base) (index : Option ℕ) (more : List Operand) → ComputedFits s store (operands.Place base index) (having instr (a ∷ operands.Place base index ∷ more))
unfolding sources_of step
computed_in_memory true stores.Nothing instr a base index more = refl
computed_in_memory true (stores.Plain true) instr a base index more = refl
computed_in_memory true (stores.Plain false) instr a base index more = refl
computed_in_memory true (stores.Interlocked true) instr a base index more = refl
computed_in_memory true (stores.Interlocked false) instr a base index more = refl
computed_in_memory false stores.Nothing instr a base index more = refl
computed_in_memory false (stores.Plain true) instr a base index more = refl
computed_in_memory false (stores.Plain false) instr a base index more = refl
computed_in_memory false (stores.Interlocked true) instr a base index more = refl
computed_in_memory false (stores.Interlocked false) instr a base index more = refl

computed_in_register : (s : Bool) (store : BitStore) (instr : Instr) (a : Operand) (n : ℕ) (more : List Operand) → ComputedFits s store (operands.Register n) (having instr (a ∷ operands.Register n ∷ more))
unfolding sources_of step
computed_in_register true stores.Nothing instr a n more = refl
computed_in_register true (stores.Plain true) instr a n more = refl
computed_in_register true (stores.Plain false) instr a n more = refl
computed_in_register true (stores.Interlocked true) instr a n more = refl
computed_in_register true (stores.Interlocked false) instr a n more = refl
computed_in_register false stores.Nothing instr a n more = refl
computed_in_register false (stores.Plain true) instr a n more = refl
computed_in_register false (stores.Plain false) instr a n more = refl
computed_in_register false (stores.Interlocked true) instr a n more = refl
computed_in_register false (stores.Interlocked false) instr a n more = refl

literal_bit_in_memory : (first s : Bool) (store : BitStore) (instr : Instr) (a : Operand) (base : Base) (index : Option ℕ) (more : List Operand) (position : ℕ) → LiteralBitFits first position s store (operands.Place base index) (having instr (a ∷ operands.Place base index ∷ more))
unfolding sources_of step
literal_bit_in_memory true true stores.Nothing instr a base index more position = refl
literal_bit_in_memory true true (stores.Plain true) instr a base index more position = refl
literal_bit_in_memory true true (stores.Plain false) instr a base index more position = refl
literal_bit_in_memory true true (stores.Interlocked true) instr a base index more position = refl
literal_bit_in_memory true true (stores.Interlocked false) instr a base index more position = refl
literal_bit_in_memory true false stores.Nothing instr a base index more position = refl
literal_bit_in_memory true false (stores.Plain true) instr a base index more position = refl
literal_bit_in_memory true false (stores.Plain false) instr a base index more position = refl
literal_bit_in_memory true false (stores.Interlocked true) instr a base index more position = refl
literal_bit_in_memory true false (stores.Interlocked false) instr a base index more position = refl
literal_bit_in_memory false true stores.Nothing instr a base index more position = refl
literal_bit_in_memory false true (stores.Plain true) instr a base index more position = refl
literal_bit_in_memory false true (stores.Plain false) instr a base index more position = refl
literal_bit_in_memory false true (stores.Interlocked true) instr a base index more position = refl
literal_bit_in_memory false true (stores.Interlocked false) instr a base index more position = refl
literal_bit_in_memory false false stores.Nothing instr a base index more position = refl
literal_bit_in_memory false false (stores.Plain true) instr a base index more position = refl
literal_bit_in_memory false false (stores.Plain false) instr a base index more position = refl
literal_bit_in_memory false false (stores.Interlocked true) instr a base index more position = refl
literal_bit_in_memory false false (stores.Interlocked false) instr a base index more position = refl

literal_bit_in_register : (s : Bool) (store : BitStore) (instr : Instr) (a : Operand) (n : ℕ) (more : List Operand) (first : Bool) (position : ℕ) → LiteralBitFits first position s store (operands.Register n) (having instr (a ∷ operands.Register n ∷ more))
unfolding sources_of step
literal_bit_in_register true stores.Nothing instr a n more first position = refl
literal_bit_in_register true (stores.Plain true) instr a n more first position = refl
literal_bit_in_register true (stores.Plain false) instr a n more first position = refl
literal_bit_in_register true (stores.Interlocked true) instr a n more first position = refl
literal_bit_in_register true (stores.Interlocked false) instr a n more first position = refl
literal_bit_in_register false stores.Nothing instr a n more first position = refl
literal_bit_in_register false (stores.Plain true) instr a n more first position = refl
literal_bit_in_register false (stores.Plain false) instr a n more first position = refl
literal_bit_in_register false (stores.Interlocked true) instr a n more first position = refl
literal_bit_in_register false (stores.Interlocked false) instr a n more first position = refl

bit_in_memory : (branch : BitBranch) (position : Option ℕ) (instr : Instr) (a : Operand) (base : Base) (index : Option ℕ) (more : List Operand)
    → (let i = having instr (a ∷ operands.Place base index ∷ more) in plan_fits (sources_of (operations.BranchOnBit branch)) (bit_plan_for position (operands.Place base index) branch i) i ≡ true)
bit_in_memory branch None instr a base index more = computed_in_memory branch.state branch.store instr a base index more
bit_in_memory branch (Some position) instr a base index more = literal_bit_in_memory (nat_lt position 8) branch.state branch.store instr a base index more position

bit_in_register : (branch : BitBranch) (position : Option ℕ) (instr : Instr) (a : Operand) (n : ℕ) (more : List Operand)
    → (let i = having instr (a ∷ operands.Register n ∷ more) in plan_fits (sources_of (operations.BranchOnBit branch)) (bit_plan_for position (operands.Register n) branch i) i ≡ true)
bit_in_register branch None instr a n more = computed_in_register branch.state branch.store instr a n more
bit_in_register branch (Some position) instr a n more = literal_bit_in_register branch.state branch.store instr a n more (nat_lt position 8) position

pub bit_branch_fits : (branch : BitBranch) (instr : Instr) → IsLocated (operand instr 1) → plan_fits (sources_of (operations.BranchOnBit branch)) (bit_branch_plan branch instr) instr ≡ true
bit_branch_fits branch instr is =
    second_located (PlanFits (sources_of (operations.BranchOnBit branch)) (bit_branch_plan branch)) instr is
    (λ a base index more. bit_in_memory branch (literal_position a (operands.Place base index)) instr a base index more)
    (λ a n more. bit_in_register branch (literal_position a (operands.Register n)) instr a n more)
