-- The program that the table has lowers its instruction.
use Rattle.std.proofs.Common.{◌≡◌, List, Some, refl, sym}
use Rattle.std.proofs.lemmas.Option.{same_Some}
use Rattle.std.specs.Option.{option_or}
use Rattle.vax_form.specs.Grammar.{IsSpelled}
use Rattle.vax_form.specs.Operation.{operation_at}
use Rattle.vax_form.specs.declared.instr.Instr.{Instr}
use Rattle.vax_form.specs.declared.instr.Operand.{Operand}
use Rattle.vax_form.specs.declared.instr.Operand.TheVariants as operands
use Rattle.vax_form.specs.declared.instr.Width.{Width}
use Rattle.vax_form.specs.declared.operation.BinaryOperation.{BinaryOperation}
use Rattle.vax_form.specs.declared.operation.BinaryOperation.TheVariants as binary
use Rattle.vax_form.specs.declared.operation.Operation.{Operation}
use Rattle.vax_form.specs.declared.operation.Operation.TheVariants as operations
use Rattle.vax_meaning.specs.Evaluation.{operand}
use Rattle.micro_ops.specs.Sources.{sources_of}
use Rattle.micro_ops.specs.declared.program.Micro.{Micro}
use Rattle.micro_lower.specs.Lowering.{Lowers, AreLongOperands}
use Rattle.micro_lower.specs.Plans.{program_of}
use Rattle.micro_lower.specs.Rows.{row_program_of, own_program_of, move_row, arithmetic_row, control_row, arithmetic_shift_plan, literal_shift_by}
use Rattle.micro_lower.proofs.RowsLower.{move_lowers, clear_lowers, move_zero_extended_lowers, move_complemented_lowers, move_negated_lowers, convert_lowers, move_address_lowers, push_address_lowers, push_long_lowers, compare_lowers, test_lowers, bit_test_lowers, two_operands_lowers, three_operands_lowers, increment_lowers, decrement_lowers, low_bit_lowers, subtract_one_lowers, add_one_lowers, add_compare_lowers, add_with_carry_lowers, change_mode_lowers, subtract_with_carry_lowers, rotate_lowers, arithmetic_shift_lowers, set_psw_lowers, clear_psw_lowers, bit_branch_lowers, move_psl_lowers}
use Rattle.micro_lower.proofs.AlignedLower.{add_aligned_lowers}
use Rattle.micro_lower.proofs.LiteralShiftLower.{literal_shift_lowers}
use Rattle.micro_lower.proofs.ProductLower.{product_lowers}
use Rattle.micro_lower.proofs.JumpsLower.{jump_lowers, call_lowers}
use Rattle.micro_lower.proofs.Tabled.{is_in_table}

-- for each operation that has a row
abbrev LowersByRow : Operation → Type 0
LowersByRow operation = (instr : Instr) (program : List Micro) → IsSpelled instr → AreLongOperands instr → operation_at instr.opcode ≡ Some operation
    → row_program_of operation instr ≡ Some program → Lowers operation instr program

two_operands_lower : (operation : BinaryOperation) (width : Width) → LowersByRow (operations.TwoOperands operation width)
unfolding own_program_of move_row arithmetic_row control_row
two_operands_lower binary.Divide width instr program spelled long is row = cc
two_operands_lower operation width instr program spelled long is row = two_operands_lowers operation width instr program refl spelled long is (sym (same_Some _ _ row))

three_operands_lower : (operation : BinaryOperation) (width : Width) → LowersByRow (operations.ThreeOperands operation width)
unfolding own_program_of move_row arithmetic_row control_row
three_operands_lower binary.Divide width instr program spelled long is row = cc
three_operands_lower operation width instr program spelled long is row = three_operands_lowers operation width instr program refl spelled long is (sym (same_Some _ _ row))

-- by the operand that counts
shift_lower : (instr : Instr) (program : List Micro) → IsSpelled instr → AreLongOperands instr → operation_at instr.opcode ≡ Some operations.ArithmeticShift
    → (count : Operand) → operand instr 0 ≡ count → option_or (literal_shift_by count instr) (Some (program_of (sources_of operations.ArithmeticShift) (arithmetic_shift_plan instr) instr)) ≡ Some program
    → Lowers operations.ArithmeticShift instr program
shift_lower instr program spelled long is (operands.Value literal) here row = literal_shift_lowers instr program literal here spelled long is (sym (same_Some _ _ row))
shift_lower instr program spelled long is operands.Unused here row = arithmetic_shift_lowers instr program spelled long is (sym (same_Some _ _ row))
shift_lower instr program spelled long is (operands.Register n) here row = arithmetic_shift_lowers instr program spelled long is (sym (same_Some _ _ row))
shift_lower instr program spelled long is (operands.Place base index) here row = arithmetic_shift_lowers instr program spelled long is (sym (same_Some _ _ row))
shift_lower instr program spelled long is (operands.Target address) here row = arithmetic_shift_lowers instr program spelled long is (sym (same_Some _ _ row))

pub rows_lower : (operation : Operation) → LowersByRow operation
unfolding own_program_of move_row arithmetic_row control_row
rows_lower (operations.Move size) instr program spelled long is row = move_lowers size instr program spelled long is (sym (same_Some _ _ row))
rows_lower (operations.MoveZeroExtended from to) instr program spelled long is row = move_zero_extended_lowers from to instr program (is_in_table instr.opcode (operations.MoveZeroExtended from to) is) spelled long is (sym (same_Some _ _ row))
rows_lower (operations.Clear size) instr program spelled long is row = clear_lowers size instr program spelled long is (sym (same_Some _ _ row))
rows_lower (operations.MoveComplemented width) instr program spelled long is row = move_complemented_lowers width instr program spelled long is (sym (same_Some _ _ row))
rows_lower (operations.MoveNegated width) instr program spelled long is row = move_negated_lowers width instr program spelled long is (sym (same_Some _ _ row))
rows_lower (operations.Convert from to) instr program spelled long is row = convert_lowers from to instr program spelled long is (sym (same_Some _ _ row))
rows_lower (operations.MoveAddress size) instr program spelled long is row = move_address_lowers size instr program spelled long is (sym (same_Some _ _ row))
rows_lower (operations.PushAddress size) instr program spelled long is row = push_address_lowers size instr program spelled long is (sym (same_Some _ _ row))
rows_lower (operations.PushLong) instr program spelled long is row = push_long_lowers instr program spelled long is (sym (same_Some _ _ row))
rows_lower (operations.Compare width) instr program spelled long is row = compare_lowers width instr program spelled long is (sym (same_Some _ _ row))
rows_lower (operations.Test width) instr program spelled long is row = test_lowers width instr program spelled long is (sym (same_Some _ _ row))
rows_lower (operations.BitTest width) instr program spelled long is row = bit_test_lowers width instr program spelled long is (sym (same_Some _ _ row))
rows_lower (operations.Increment width) instr program spelled long is row = increment_lowers width instr program spelled long is (sym (same_Some _ _ row))
rows_lower (operations.Decrement width) instr program spelled long is row = decrement_lowers width instr program spelled long is (sym (same_Some _ _ row))
rows_lower (operations.BranchOnLowBit state) instr program spelled long is row = low_bit_lowers state instr program spelled long is (sym (same_Some _ _ row))
rows_lower (operations.SubtractOneBranch or_equal) instr program spelled long is row = subtract_one_lowers or_equal instr program spelled long is (sym (same_Some _ _ row))
rows_lower (operations.AddOneBranch or_equal) instr program spelled long is row = add_one_lowers or_equal instr program spelled long is (sym (same_Some _ _ row))
rows_lower (operations.AddCompareBranch width) instr program spelled long is row = add_compare_lowers width instr program spelled long is (sym (same_Some _ _ row))
rows_lower operations.SubtractWithCarry instr program spelled long is row = subtract_with_carry_lowers instr program spelled long is (sym (same_Some _ _ row))
rows_lower operations.Rotate instr program spelled long is row = rotate_lowers instr program spelled long is (sym (same_Some _ _ row))
rows_lower operations.ArithmeticShift instr program spelled long is row = shift_lower instr program spelled long is (operand instr 0) refl row
rows_lower operations.BitSetPsw instr program spelled long is row = set_psw_lowers instr program spelled long is (sym (same_Some _ _ row))
rows_lower operations.BitClearPsw instr program spelled long is row = clear_psw_lowers instr program spelled long is (sym (same_Some _ _ row))
rows_lower (operations.BranchOnBit branch) instr program spelled long is row = bit_branch_lowers branch instr program spelled long is (sym (same_Some _ _ row))
rows_lower operations.AddAlignedWord instr program spelled long is row = add_aligned_lowers instr program spelled long is (sym (same_Some _ _ row))
rows_lower operations.ExtendedMultiply instr program spelled long is row = product_lowers instr program spelled long is (sym (same_Some _ _ row))
rows_lower operations.MovePsl instr program spelled long is row = move_psl_lowers instr program spelled long is (sym (same_Some _ _ row))
rows_lower operations.AddWithCarry instr program spelled long is row = add_with_carry_lowers instr program spelled long is (sym (same_Some _ _ row))
rows_lower operations.Jump instr program spelled long is row = jump_lowers instr program spelled long is (sym (same_Some _ _ row))
rows_lower operations.JumpToSubroutine instr program spelled long is row = call_lowers instr program spelled long is (sym (same_Some _ _ row))
rows_lower operations.ChangeMode instr program spelled long is row = change_mode_lowers instr program spelled long is (sym (same_Some _ _ row))
rows_lower (operations.TwoOperands operation width) instr program spelled long is row = two_operands_lower operation width instr program spelled long is row
rows_lower (operations.ThreeOperands operation width) instr program spelled long is row = three_operands_lower operation width instr program spelled long is row
rows_lower _ instr program spelled long is row = cc
