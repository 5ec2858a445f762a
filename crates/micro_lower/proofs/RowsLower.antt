-- The program of each row lowers its instruction.
use Rattle.std.proofs.Common.{◌≡◌, Bool, true, false, List, Some, refl, lit≤}
use Rattle.vax_form.specs.Grammar.{IsSpelled}
use Rattle.vax_form.specs.Operation.{operation_at}
use Rattle.vax_form.specs.Row.{operands_of}
use Rattle.vax_form.specs.declared.instr.Instr.{Instr}
use Rattle.vax_form.specs.declared.instr.Operand.{Operand}
use Rattle.vax_form.specs.declared.instr.Operand.TheVariants as operands
use Rattle.vax_form.specs.declared.instr.Size.{Size}
use Rattle.vax_form.specs.declared.instr.Size.TheVariants.{Byte, Long}
use Rattle.vax_form.specs.declared.instr.Width.{Width}
use Rattle.vax_form.specs.declared.operation.BinaryOperation.{BinaryOperation}
use Rattle.vax_form.specs.declared.operation.BitBranch.{BitBranch}
use Rattle.vax_form.specs.declared.operation.BitStore.{BitStore}
use Rattle.vax_form.specs.declared.operation.BitStore.TheVariants as stores
use Rattle.vax_form.specs.declared.operation.Operation.TheVariants as operations
use Rattle.vax_meaning.specs.Evaluation.{operand, evaluated_row}
use Rattle.micro_ops.specs.Sources.{sources_of}
use Rattle.micro_ops.specs.declared.program.Micro.{Micro}
use Rattle.micro_ops.specs.declared.program.MicroOp.TheVariants as ops
use Rattle.operand_programs.specs.Registers.{NamesRegisters}
use Rattle.micro_lower.specs.Lowering.{Lowers, AreLongOperands}
use Rattle.micro_lower.specs.Plans.{program_of}
use Rattle.micro_lower.specs.Rows.{divides, move_plan, clear_plan, move_zero_extended_plan, move_complemented_plan, move_negated_plan, convert_plan, move_address_plan, push_address_plan, push_long_plan, compare_plan, test_plan, bit_test_plan, by_one_plan, two_operands_plan, three_operands_plan, low_bit_plan, subtract_one_plan, add_one_plan, add_compare_plan, add_with_carry_plan, change_mode_plan, subtract_with_carry_plan, rotate_plan, arithmetic_shift_plan, change_psw_plan, register_target, bit_target, bit_branch_plan, move_psl_plan}
use Rattle.micro_lower.proofs.LiteralBits.{bit_branch_all}
use Rattle.micro_lower.proofs.Fit.{TargetIsNamed}
use Rattle.micro_lower.proofs.PswRows.{set_psw_all, clear_psw_all}
use Rattle.micro_lower.proofs.ShiftRows.{arithmetic_shift_all}
use Rattle.micro_lower.proofs.BinaryRows.{convert_all, two_operands_all, three_operands_all, increment_all, decrement_all}
use Rattle.micro_lower.proofs.CarryRows.{add_with_carry_all, subtract_with_carry_all, rotate_all}
use Rattle.micro_lower.proofs.PslRows.{move_psl_all}
use Rattle.micro_lower.proofs.JumpRows.{low_bit_all, change_mode_all}
use Rattle.micro_lower.proofs.LoopRows.{subtract_one_all, add_one_all, add_compare_all}
use Rattle.micro_lower.proofs.Lowered.{slots_of, lowers_by_plan, first, second, third}
use Rattle.micro_lower.proofs.MoveRows.{move_all, clear_all, move_zero_extended_all, move_complemented_all, move_negated_all, move_address_all}
use Rattle.micro_lower.proofs.RowsFit.{move_fits, clear_fits, move_zero_extended_fits, move_complemented_fits, move_negated_fits, convert_fits, move_address_fits, push_address_fits, push_long_fits, compare_fits, test_fits, bit_test_fits, two_operands_fits, three_operands_fits, increment_fits, decrement_fits, low_bit_fits, subtract_one_fits, add_one_fits, add_compare_fits, add_with_carry_fits, change_mode_fits, subtract_with_carry_fits, rotate_fits, arithmetic_shift_fits, set_psw_fits, clear_psw_fits, bit_branch_fits, move_psl_fits}
use Rattle.micro_lower.proofs.Tabled.{is_narrower}
use Rattle.micro_lower.proofs.TestRows.{compare_all, test_all, bit_test_all, push_long_all, push_address_all}

pub move_lowers : (size : Size) (instr : Instr) (program : List Micro) → IsSpelled instr → AreLongOperands instr → operation_at instr.opcode ≡ Some (operations.Move size)
    → program ≡ program_of (sources_of (operations.Move size)) (move_plan size instr) instr → Lowers (operations.Move size) instr program
unfolding operands_of evaluated_row
move_lowers size instr program spelled long is made =
    let slots = slots_of (operations.Move size) instr (move_plan size instr) program spelled long is made refl refl (lit≤ tt) in
    let fit = second _ _ _ instr slots in
    lowers_by_plan (operations.Move size) instr (move_plan size instr) program spelled long is made slots refl (lit≤ tt) (move_all size instr fit.0.1) fit.1 (move_fits size instr fit.0.0)

pub clear_lowers : (size : Size) (instr : Instr) (program : List Micro) → IsSpelled instr → AreLongOperands instr → operation_at instr.opcode ≡ Some (operations.Clear size)
    → program ≡ program_of (sources_of (operations.Clear size)) (clear_plan size instr) instr → Lowers (operations.Clear size) instr program
unfolding operands_of evaluated_row
clear_lowers size instr program spelled long is made =
    let slots = slots_of (operations.Clear size) instr (clear_plan size instr) program spelled long is made refl refl (lit≤ tt) in
    let fit = first _ _ instr slots in
    lowers_by_plan (operations.Clear size) instr (clear_plan size instr) program spelled long is made slots refl (lit≤ tt) (clear_all size instr fit.0.1) fit.1 (clear_fits size instr fit.0.0)

pub move_zero_extended_lowers : (from : Width) (to : Width) (instr : Instr) (program : List Micro) → is_narrower from to ≡ true → IsSpelled instr → AreLongOperands instr → operation_at instr.opcode ≡ Some (operations.MoveZeroExtended from to)
    → program ≡ program_of (sources_of (operations.MoveZeroExtended from to)) (move_zero_extended_plan from to instr) instr → Lowers (operations.MoveZeroExtended from to) instr program
unfolding operands_of evaluated_row
move_zero_extended_lowers from to instr program narrow spelled long is made =
    let slots = slots_of (operations.MoveZeroExtended from to) instr (move_zero_extended_plan from to instr) program spelled long is made refl refl (lit≤ tt) in
    let fit = second _ _ _ instr slots in
    lowers_by_plan (operations.MoveZeroExtended from to) instr (move_zero_extended_plan from to instr) program spelled long is made slots refl (lit≤ tt) (move_zero_extended_all from to instr narrow fit.0.1) fit.1 (move_zero_extended_fits from to instr fit.0.0)

pub move_complemented_lowers : (width : Width) (instr : Instr) (program : List Micro) → IsSpelled instr → AreLongOperands instr → operation_at instr.opcode ≡ Some (operations.MoveComplemented width)
    → program ≡ program_of (sources_of (operations.MoveComplemented width)) (move_complemented_plan width instr) instr → Lowers (operations.MoveComplemented width) instr program
unfolding operands_of evaluated_row
move_complemented_lowers width instr program spelled long is made =
    let slots = slots_of (operations.MoveComplemented width) instr (move_complemented_plan width instr) program spelled long is made refl refl (lit≤ tt) in
    let fit = second _ _ _ instr slots in
    lowers_by_plan (operations.MoveComplemented width) instr (move_complemented_plan width instr) program spelled long is made slots refl (lit≤ tt) (move_complemented_all width instr fit.0.1) fit.1 (move_complemented_fits width instr fit.0.0)

pub move_negated_lowers : (width : Width) (instr : Instr) (program : List Micro) → IsSpelled instr → AreLongOperands instr → operation_at instr.opcode ≡ Some (operations.MoveNegated width)
    → program ≡ program_of (sources_of (operations.MoveNegated width)) (move_negated_plan width instr) instr → Lowers (operations.MoveNegated width) instr program
unfolding operands_of evaluated_row
move_negated_lowers width instr program spelled long is made =
    let slots = slots_of (operations.MoveNegated width) instr (move_negated_plan width instr) program spelled long is made refl refl (lit≤ tt) in
    let fit = second _ _ _ instr slots in
    lowers_by_plan (operations.MoveNegated width) instr (move_negated_plan width instr) program spelled long is made slots refl (lit≤ tt) (move_negated_all width instr fit.0.1) fit.1 (move_negated_fits width instr fit.0.0)

pub convert_lowers : (from : Width) (to : Width) (instr : Instr) (program : List Micro) → IsSpelled instr → AreLongOperands instr → operation_at instr.opcode ≡ Some (operations.Convert from to)
    → program ≡ program_of (sources_of (operations.Convert from to)) (convert_plan from to instr) instr → Lowers (operations.Convert from to) instr program
unfolding operands_of evaluated_row
convert_lowers from to instr program spelled long is made =
    let slots = slots_of (operations.Convert from to) instr (convert_plan from to instr) program spelled long is made refl refl (lit≤ tt) in
    let fit = second _ _ _ instr slots in
    lowers_by_plan (operations.Convert from to) instr (convert_plan from to instr) program spelled long is made slots refl (lit≤ tt) (convert_all from to instr fit.0.1) fit.1 (convert_fits from to instr fit.0.0)

pub move_address_lowers : (size : Size) (instr : Instr) (program : List Micro) → IsSpelled instr → AreLongOperands instr → operation_at instr.opcode ≡ Some (operations.MoveAddress size)
    → program ≡ program_of (sources_of (operations.MoveAddress size)) (move_address_plan size instr) instr → Lowers (operations.MoveAddress size) instr program
unfolding operands_of evaluated_row
move_address_lowers size instr program spelled long is made =
    let slots = slots_of (operations.MoveAddress size) instr (move_address_plan size instr) program spelled long is made refl refl (lit≤ tt) in
    let fit = second _ _ _ instr slots in
    lowers_by_plan (operations.MoveAddress size) instr (move_address_plan size instr) program spelled long is made slots refl (lit≤ tt) (move_address_all size instr fit.0.1) fit.1 (move_address_fits size instr fit.0.0)

pub push_address_lowers : (size : Size) (instr : Instr) (program : List Micro) → IsSpelled instr → AreLongOperands instr → operation_at instr.opcode ≡ Some (operations.PushAddress size)
    → program ≡ program_of (sources_of (operations.PushAddress size)) (push_address_plan size) instr → Lowers (operations.PushAddress size) instr program
unfolding operands_of evaluated_row
push_address_lowers size instr program spelled long is made =
    let slots = slots_of (operations.PushAddress size) instr (push_address_plan size) program spelled long is made refl refl (lit≤ tt) in
    lowers_by_plan (operations.PushAddress size) instr (push_address_plan size) program spelled long is made slots refl (lit≤ tt) (push_address_all size instr) tt (push_address_fits size instr)

pub push_long_lowers : (instr : Instr) (program : List Micro) → IsSpelled instr → AreLongOperands instr → operation_at instr.opcode ≡ Some operations.PushLong
    → program ≡ program_of (sources_of operations.PushLong) push_long_plan instr → Lowers operations.PushLong instr program
unfolding operands_of evaluated_row
push_long_lowers instr program spelled long is made =
    let slots = slots_of operations.PushLong instr push_long_plan program spelled long is made refl refl (lit≤ tt) in
    lowers_by_plan operations.PushLong instr push_long_plan program spelled long is made slots refl (lit≤ tt) (push_long_all instr) tt (push_long_fits instr)

pub compare_lowers : (width : Width) (instr : Instr) (program : List Micro) → IsSpelled instr → AreLongOperands instr → operation_at instr.opcode ≡ Some (operations.Compare width)
    → program ≡ program_of (sources_of (operations.Compare width)) (compare_plan width) instr → Lowers (operations.Compare width) instr program
unfolding operands_of evaluated_row
compare_lowers width instr program spelled long is made =
    let slots = slots_of (operations.Compare width) instr (compare_plan width) program spelled long is made refl refl (lit≤ tt) in
    lowers_by_plan (operations.Compare width) instr (compare_plan width) program spelled long is made slots refl (lit≤ tt) (compare_all width instr) tt (compare_fits width instr)

pub test_lowers : (width : Width) (instr : Instr) (program : List Micro) → IsSpelled instr → AreLongOperands instr → operation_at instr.opcode ≡ Some (operations.Test width)
    → program ≡ program_of (sources_of (operations.Test width)) (test_plan width) instr → Lowers (operations.Test width) instr program
unfolding operands_of evaluated_row
test_lowers width instr program spelled long is made =
    let slots = slots_of (operations.Test width) instr (test_plan width) program spelled long is made refl refl (lit≤ tt) in
    lowers_by_plan (operations.Test width) instr (test_plan width) program spelled long is made slots refl (lit≤ tt) (test_all width instr) tt (test_fits width instr)

pub bit_test_lowers : (width : Width) (instr : Instr) (program : List Micro) → IsSpelled instr → AreLongOperands instr → operation_at instr.opcode ≡ Some (operations.BitTest width)
    → program ≡ program_of (sources_of (operations.BitTest width)) (bit_test_plan width) instr → Lowers (operations.BitTest width) instr program
unfolding operands_of evaluated_row
bit_test_lowers width instr program spelled long is made =
    let slots = slots_of (operations.BitTest width) instr (bit_test_plan width) program spelled long is made refl refl (lit≤ tt) in
    lowers_by_plan (operations.BitTest width) instr (bit_test_plan width) program spelled long is made slots refl (lit≤ tt) (bit_test_all width instr) tt (bit_test_fits width instr)

pub two_operands_lowers : (operation : BinaryOperation) (width : Width) (instr : Instr) (program : List Micro) → divides operation ≡ false → IsSpelled instr → AreLongOperands instr → operation_at instr.opcode ≡ Some (operations.TwoOperands operation width)
    → program ≡ program_of (sources_of (operations.TwoOperands operation width)) (two_operands_plan operation width instr) instr → Lowers (operations.TwoOperands operation width) instr program
unfolding operands_of evaluated_row
two_operands_lowers operation width instr program none spelled long is made =
    let slots = slots_of (operations.TwoOperands operation width) instr (two_operands_plan operation width instr) program spelled long is made refl refl (lit≤ tt) in
    let fit = second _ _ _ instr slots in
    lowers_by_plan (operations.TwoOperands operation width) instr (two_operands_plan operation width instr) program spelled long is made slots refl (lit≤ tt) (two_operands_all operation width instr none fit.0.1) fit.1 (two_operands_fits operation width instr none fit.0.0)

pub three_operands_lowers : (operation : BinaryOperation) (width : Width) (instr : Instr) (program : List Micro) → divides operation ≡ false → IsSpelled instr → AreLongOperands instr → operation_at instr.opcode ≡ Some (operations.ThreeOperands operation width)
    → program ≡ program_of (sources_of (operations.ThreeOperands operation width)) (three_operands_plan operation width instr) instr → Lowers (operations.ThreeOperands operation width) instr program
unfolding operands_of evaluated_row
three_operands_lowers operation width instr program none spelled long is made =
    let slots = slots_of (operations.ThreeOperands operation width) instr (three_operands_plan operation width instr) program spelled long is made refl refl (lit≤ tt) in
    let fit = third _ _ _ _ instr slots in
    lowers_by_plan (operations.ThreeOperands operation width) instr (three_operands_plan operation width instr) program spelled long is made slots refl (lit≤ tt) (three_operands_all operation width instr none fit.0.1) fit.1 (three_operands_fits operation width instr none fit.0.0)

pub increment_lowers : (width : Width) (instr : Instr) (program : List Micro) → IsSpelled instr → AreLongOperands instr → operation_at instr.opcode ≡ Some (operations.Increment width)
    → program ≡ program_of (sources_of (operations.Increment width)) (by_one_plan ops.Add width instr) instr → Lowers (operations.Increment width) instr program
unfolding operands_of evaluated_row
increment_lowers width instr program spelled long is made =
    let slots = slots_of (operations.Increment width) instr (by_one_plan ops.Add width instr) program spelled long is made refl refl (lit≤ tt) in
    let fit = first _ _ instr slots in
    lowers_by_plan (operations.Increment width) instr (by_one_plan ops.Add width instr) program spelled long is made slots refl (lit≤ tt) (increment_all width instr fit.0.1) fit.1 (increment_fits width instr fit.0.0)

pub decrement_lowers : (width : Width) (instr : Instr) (program : List Micro) → IsSpelled instr → AreLongOperands instr → operation_at instr.opcode ≡ Some (operations.Decrement width)
    → program ≡ program_of (sources_of (operations.Decrement width)) (by_one_plan ops.Sub width instr) instr → Lowers (operations.Decrement width) instr program
unfolding operands_of evaluated_row
decrement_lowers width instr program spelled long is made =
    let slots = slots_of (operations.Decrement width) instr (by_one_plan ops.Sub width instr) program spelled long is made refl refl (lit≤ tt) in
    let fit = first _ _ instr slots in
    lowers_by_plan (operations.Decrement width) instr (by_one_plan ops.Sub width instr) program spelled long is made slots refl (lit≤ tt) (decrement_all width instr fit.0.1) fit.1 (decrement_fits width instr fit.0.0)

pub low_bit_lowers : (state : Bool) (instr : Instr) (program : List Micro) → IsSpelled instr → AreLongOperands instr → operation_at instr.opcode ≡ Some (operations.BranchOnLowBit state)
    → program ≡ program_of (sources_of (operations.BranchOnLowBit state)) (low_bit_plan state instr) instr → Lowers (operations.BranchOnLowBit state) instr program
unfolding operands_of evaluated_row
low_bit_lowers state instr program spelled long is made =
    let slots = slots_of (operations.BranchOnLowBit state) instr (low_bit_plan state instr) program spelled long is made refl refl (lit≤ tt) in
    lowers_by_plan (operations.BranchOnLowBit state) instr (low_bit_plan state instr) program spelled long is made slots refl (lit≤ tt) (low_bit_all state instr) tt (low_bit_fits state instr)

pub subtract_one_lowers : (or_equal : Bool) (instr : Instr) (program : List Micro) → IsSpelled instr → AreLongOperands instr → operation_at instr.opcode ≡ Some (operations.SubtractOneBranch or_equal)
    → program ≡ program_of (sources_of (operations.SubtractOneBranch or_equal)) (subtract_one_plan or_equal instr) instr → Lowers (operations.SubtractOneBranch or_equal) instr program
unfolding operands_of evaluated_row
subtract_one_lowers or_equal instr program spelled long is made =
    let slots = slots_of (operations.SubtractOneBranch or_equal) instr (subtract_one_plan or_equal instr) program spelled long is made refl refl (lit≤ tt) in
    let fit = first _ _ instr slots in
    lowers_by_plan (operations.SubtractOneBranch or_equal) instr (subtract_one_plan or_equal instr) program spelled long is made slots refl (lit≤ tt) (subtract_one_all or_equal instr fit.0.1) fit.1 (subtract_one_fits or_equal instr fit.0.0)

pub add_one_lowers : (or_equal : Bool) (instr : Instr) (program : List Micro) → IsSpelled instr → AreLongOperands instr → operation_at instr.opcode ≡ Some (operations.AddOneBranch or_equal)
    → program ≡ program_of (sources_of (operations.AddOneBranch or_equal)) (add_one_plan or_equal instr) instr → Lowers (operations.AddOneBranch or_equal) instr program
unfolding operands_of evaluated_row
add_one_lowers or_equal instr program spelled long is made =
    let slots = slots_of (operations.AddOneBranch or_equal) instr (add_one_plan or_equal instr) program spelled long is made refl refl (lit≤ tt) in
    let fit = second _ _ _ instr slots in
    lowers_by_plan (operations.AddOneBranch or_equal) instr (add_one_plan or_equal instr) program spelled long is made slots refl (lit≤ tt) (add_one_all or_equal instr fit.0.1) fit.1 (add_one_fits or_equal instr fit.0.0)

pub add_compare_lowers : (width : Width) (instr : Instr) (program : List Micro) → IsSpelled instr → AreLongOperands instr → operation_at instr.opcode ≡ Some (operations.AddCompareBranch width)
    → program ≡ program_of (sources_of (operations.AddCompareBranch width)) (add_compare_plan width instr) instr → Lowers (operations.AddCompareBranch width) instr program
unfolding operands_of evaluated_row
add_compare_lowers width instr program spelled long is made =
    let slots = slots_of (operations.AddCompareBranch width) instr (add_compare_plan width instr) program spelled long is made refl refl (lit≤ tt) in
    let fit = third _ _ _ _ instr slots in
    lowers_by_plan (operations.AddCompareBranch width) instr (add_compare_plan width instr) program spelled long is made slots refl (lit≤ tt) (add_compare_all width instr fit.0.1) fit.1 (add_compare_fits width instr fit.0.0)

pub add_with_carry_lowers : (instr : Instr) (program : List Micro) → IsSpelled instr → AreLongOperands instr → operation_at instr.opcode ≡ Some operations.AddWithCarry
    → program ≡ program_of (sources_of operations.AddWithCarry) (add_with_carry_plan instr) instr → Lowers operations.AddWithCarry instr program
unfolding operands_of evaluated_row
add_with_carry_lowers instr program spelled long is made =
    let slots = slots_of operations.AddWithCarry instr (add_with_carry_plan instr) program spelled long is made refl refl (lit≤ tt) in
    let fit = second _ _ _ instr slots in
    lowers_by_plan operations.AddWithCarry instr (add_with_carry_plan instr) program spelled long is made slots refl (lit≤ tt) (add_with_carry_all instr fit.0.1) fit.1 (add_with_carry_fits instr fit.0.0)

pub change_mode_lowers : (instr : Instr) (program : List Micro) → IsSpelled instr → AreLongOperands instr → operation_at instr.opcode ≡ Some operations.ChangeMode
    → program ≡ program_of (sources_of operations.ChangeMode) change_mode_plan instr → Lowers operations.ChangeMode instr program
unfolding operands_of evaluated_row
change_mode_lowers instr program spelled long is made =
    let slots = slots_of operations.ChangeMode instr change_mode_plan program spelled long is made refl refl (lit≤ tt) in
    lowers_by_plan operations.ChangeMode instr change_mode_plan program spelled long is made slots refl (lit≤ tt) (change_mode_all instr) tt (change_mode_fits instr)

pub subtract_with_carry_lowers : (instr : Instr) (program : List Micro) → IsSpelled instr → AreLongOperands instr → operation_at instr.opcode ≡ Some operations.SubtractWithCarry
    → program ≡ program_of (sources_of operations.SubtractWithCarry) (subtract_with_carry_plan instr) instr → Lowers operations.SubtractWithCarry instr program
unfolding operands_of evaluated_row
subtract_with_carry_lowers instr program spelled long is made =
    let slots = slots_of operations.SubtractWithCarry instr (subtract_with_carry_plan instr) program spelled long is made refl refl (lit≤ tt) in
    let fit = second _ _ _ instr slots in
    lowers_by_plan operations.SubtractWithCarry instr (subtract_with_carry_plan instr) program spelled long is made slots refl (lit≤ tt) (subtract_with_carry_all instr fit.0.1) fit.1 (subtract_with_carry_fits instr fit.0.0)

pub rotate_lowers : (instr : Instr) (program : List Micro) → IsSpelled instr → AreLongOperands instr → operation_at instr.opcode ≡ Some operations.Rotate
    → program ≡ program_of (sources_of operations.Rotate) (rotate_plan instr) instr → Lowers operations.Rotate instr program
unfolding operands_of evaluated_row
rotate_lowers instr program spelled long is made =
    let slots = slots_of operations.Rotate instr (rotate_plan instr) program spelled long is made refl refl (lit≤ tt) in
    let fit = third _ _ _ _ instr slots in
    lowers_by_plan operations.Rotate instr (rotate_plan instr) program spelled long is made slots refl (lit≤ tt) (rotate_all instr fit.0.1) fit.1 (rotate_fits instr fit.0.0)

pub move_psl_lowers : (instr : Instr) (program : List Micro) → IsSpelled instr → AreLongOperands instr → operation_at instr.opcode ≡ Some operations.MovePsl
    → program ≡ program_of (sources_of operations.MovePsl) (move_psl_plan instr) instr → Lowers operations.MovePsl instr program
unfolding operands_of evaluated_row
move_psl_lowers instr program spelled long is made =
    let slots = slots_of operations.MovePsl instr (move_psl_plan instr) program spelled long is made refl refl (lit≤ tt) in
    let fit = first _ _ instr slots in
    lowers_by_plan operations.MovePsl instr (move_psl_plan instr) program spelled long is made slots refl (lit≤ tt) (move_psl_all instr fit.0.1) fit.1 (move_psl_fits instr fit.0.0)

pub arithmetic_shift_lowers : (instr : Instr) (program : List Micro) → IsSpelled instr → AreLongOperands instr → operation_at instr.opcode ≡ Some operations.ArithmeticShift
    → program ≡ program_of (sources_of operations.ArithmeticShift) (arithmetic_shift_plan instr) instr → Lowers operations.ArithmeticShift instr program
unfolding operands_of evaluated_row
arithmetic_shift_lowers instr program spelled long is made =
    let slots = slots_of operations.ArithmeticShift instr (arithmetic_shift_plan instr) program spelled long is made refl refl (lit≤ tt) in
    let fit = third _ _ _ _ instr slots in
    lowers_by_plan operations.ArithmeticShift instr (arithmetic_shift_plan instr) program spelled long is made slots refl (lit≤ tt) (arithmetic_shift_all instr fit.0.1) fit.1 (arithmetic_shift_fits instr fit.0.0)

pub set_psw_lowers : (instr : Instr) (program : List Micro) → IsSpelled instr → AreLongOperands instr → operation_at instr.opcode ≡ Some operations.BitSetPsw
    → program ≡ program_of (sources_of operations.BitSetPsw) (change_psw_plan ops.Or) instr → Lowers operations.BitSetPsw instr program
unfolding operands_of evaluated_row
set_psw_lowers instr program spelled long is made =
    let slots = slots_of operations.BitSetPsw instr (change_psw_plan ops.Or) program spelled long is made refl refl (lit≤ tt) in
    lowers_by_plan operations.BitSetPsw instr (change_psw_plan ops.Or) program spelled long is made slots refl (lit≤ tt) (set_psw_all instr) tt (set_psw_fits instr)

pub clear_psw_lowers : (instr : Instr) (program : List Micro) → IsSpelled instr → AreLongOperands instr → operation_at instr.opcode ≡ Some operations.BitClearPsw
    → program ≡ program_of (sources_of operations.BitClearPsw) (change_psw_plan ops.AndNot) instr → Lowers operations.BitClearPsw instr program
unfolding operands_of evaluated_row
clear_psw_lowers instr program spelled long is made =
    let slots = slots_of operations.BitClearPsw instr (change_psw_plan ops.AndNot) program spelled long is made refl refl (lit≤ tt) in
    lowers_by_plan operations.BitClearPsw instr (change_psw_plan ops.AndNot) program spelled long is made slots refl (lit≤ tt) (clear_psw_all instr) tt (clear_psw_fits instr)

-- a register of a byte is one of a longword
register_named : (base : Operand) → NamesRegisters base Byte → TargetIsNamed (register_target base Long)
register_named (operands.Register n) named = named
register_named operands.Unused named = tt
register_named (operands.Value value) named = tt
register_named (operands.Place base index) named = tt
register_named (operands.Target address) named = tt

bit_named : (base : Operand) (store : BitStore) → NamesRegisters base Byte → TargetIsNamed (bit_target base store)
bit_named base stores.Nothing named = tt
bit_named base (stores.Plain value) named = register_named base named
bit_named base (stores.Interlocked value) named = register_named base named

pub bit_branch_lowers : (branch : BitBranch) (instr : Instr) (program : List Micro) → IsSpelled instr → AreLongOperands instr → operation_at instr.opcode ≡ Some (operations.BranchOnBit branch)
    → program ≡ program_of (sources_of (operations.BranchOnBit branch)) (bit_branch_plan branch instr) instr → Lowers (operations.BranchOnBit branch) instr program
unfolding operands_of evaluated_row
bit_branch_lowers branch instr program spelled long is made =
    let slots = slots_of (operations.BranchOnBit branch) instr (bit_branch_plan branch instr) program spelled long is made refl refl (lit≤ tt) in
    let fit = second _ _ _ instr slots in
    lowers_by_plan (operations.BranchOnBit branch) instr (bit_branch_plan branch instr) program spelled long is made slots refl (lit≤ tt) (bit_branch_all branch instr)
    (bit_named (operand instr 1) branch.store fit.1) (bit_branch_fits branch instr fit.0.0)
