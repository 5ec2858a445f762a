-- Every instruction uses the condition codes that it is said to.
use Rattle.std.proofs.Common.{◌≡◌, ℕ, refl, sym, subst, List, Option, Some, true, false}
use Rattle.vax_form.specs.Row.{row_of_operation}
use Rattle.vax_form.specs.Operation.{operation_at}
use Rattle.vax_form.specs.declared.instr.Instr.{Instr}
use Rattle.vax_form.specs.declared.instr.Size.TheVariants as sizes
use Rattle.vax_form.specs.declared.operation.LongOperation.{LongOperation}
use Rattle.vax_form.specs.declared.operation.LongOperation.TheVariants as longs
use Rattle.vax_form.specs.declared.operation.Operation.{Operation}
use Rattle.vax_form.specs.declared.operation.Operation.TheVariants as operations
use Rattle.vax_form.specs.declared.operation.Operation.TheVariants.{NoOperation, Breakpoint, ChangeMode, Move, Clear, MoveAddress, PushAddress, PushLong, MoveZeroExtended, Convert, MoveComplemented, MoveNegated, MovePsl, BitSetPsw, BitClearPsw, Compare, Test, BitTest, TwoOperands, ThreeOperands, Increment, Decrement, AddWithCarry, SubtractWithCarry, AddAlignedWord, ExtendedMultiply, ArithmeticShift, Rotate, ExtractField, InsertField, Branch, BranchIf, BranchOnLowBit, BranchOnBit, AddOneBranch, SubtractOneBranch, AddCompareBranch, BranchToSubroutine, Jump, JumpToSubroutine, ReturnFromSubroutine, Case}
use Rattle.vax_form.specs.Size.{bytes_of, size_of}
use Rattle.vax_form.specs.declared.pages.Pages.{Pages}
use Rattle.vax_form.specs.declared.state.VaxState.{VaxState}
use Rattle.vt_words.specs.Arithmetic.{sum_of, difference_of, negation_of, conversion_of}
use Rattle.vax_meaning.specs.declared.evaluation.Evaluated.{Evaluated}
use Rattle.vax_meaning.specs.Evaluation.{value_of_place, evaluated_row, nothings}
use Rattle.vax_meaning.specs.Arithmetic.{shift_of}
use Rattle.vax_meaning.specs.Instructions.{body, operation_script, script_of, script_where}
use Rattle.vax_long.specs.Instructions.{long_body, long_script, long_operation, either_script, any_script_of}
use Rattle.cc_liveness.specs.Uses.{written_by_long, code_use_of}
use Rattle.image_meaning.specs.CodeUses.{CodesAreUsed}
use Rattle.image_meaning.proofs.Alike as alike
use Rattle.image_meaning.proofs.Alike.{Uses, use_bind, use_fail, trees_alike}
use Rattle.image_meaning.proofs.AlikeStates.{use_go_to}
use Rattle.image_meaning.proofs.AlikeOperands.{use_operands_from}
use Rattle.image_meaning.proofs.AlikeMoves.{use_give, use_move_zero_extended, use_push_value, use_compare, use_test_value, use_bit_test, use_move_psl, use_change_psw, use_replace, use_give_coded, use_two_operands, use_three_operands, use_add_with_carry, use_subtract_with_carry, use_add_aligned_word, use_extended_multiply}
use Rattle.image_meaning.proofs.AlikeBranches.{use_branch, use_branch_if, use_branch_on_low_bit, use_add_one_branch, use_subtract_one_branch, use_add_compare_branch, use_branch_to_subroutine, use_jump_to_subroutine, use_jump, use_return_from_subroutine, use_case_of, use_extract_field, use_insert_field, use_branch_on_bit, use_change_mode}
use Rattle.image_meaning.proofs.AlikeLong.{use_push_by_mask, use_pop_by_mask, use_index, use_call_general, use_call_stack, use_return_from_procedure, use_move_characters, use_move_characters_filled, use_compare_characters, use_scan_characters}

abbrev case_of : (one other : VaxState) → Operation → Instr → alike.Case
case_of one other operation instr = record { one = one; other = other; used = code_use_of operation; after = instr.after }

abbrev UsesCodes : Pages → (one other : VaxState) → Operation → Instr → (thread : ℕ) → List Evaluated → Type 0
UsesCodes pages one other operation instr thread values =
    Uses pages (case_of one other operation instr) (code_use_of operation).reads false (code_use_of operation).writes true (body operation instr thread values)

use_body : (pages : Pages) (one other : VaxState) (operation : Operation) (instr : Instr) (thread : ℕ) (values : List Evaluated) → UsesCodes pages one other operation instr thread values
unfolding body code_use_of
use_body pages one other NoOperation instr thread values = use_go_to instr.after (λ _. refl)
use_body pages one other Breakpoint instr thread values = use_fail
use_body pages one other ChangeMode instr thread values = use_change_mode pages _ _ instr values refl thread refl
use_body pages one other (Move size) instr thread values = use_give pages _ _ instr values refl 1 size (value_of_place values 0 size) refl
use_body pages one other (Clear size) instr thread values = use_give pages _ _ instr values refl 0 size 0 refl
use_body pages one other (MoveAddress size) instr thread values = use_give pages _ _ instr values refl 1 sizes.Long (value_of_place values 0 sizes.Long) refl
use_body pages one other (PushAddress size) instr thread values = use_push_value pages _ _ instr values refl refl
use_body pages one other PushLong instr thread values = use_push_value pages _ _ instr values refl refl
use_body pages one other (MoveZeroExtended from to) instr thread values = use_move_zero_extended pages _ _ instr values refl from to refl
use_body pages one other (Convert from to) instr thread values =
    use_give_coded pages _ _ instr values refl 1 (size_of to) (conversion_of (bytes_of (size_of from)) (bytes_of (size_of to)) (value_of_place values 0 (size_of from))) refl
use_body pages one other (MoveComplemented width) instr thread values = use_give pages _ _ instr values refl 1 (size_of width) _ refl
use_body pages one other (MoveNegated width) instr thread values =
    use_give_coded pages _ _ instr values refl 1 (size_of width) (negation_of (bytes_of (size_of width)) (value_of_place values 0 (size_of width))) refl
use_body pages one other MovePsl instr thread values = use_move_psl pages _ _ instr values refl refl refl
use_body pages one other BitSetPsw instr thread values = use_change_psw pages _ _ instr values refl true refl refl
use_body pages one other BitClearPsw instr thread values = use_change_psw pages _ _ instr values refl false refl refl
use_body pages one other (Compare width) instr thread values = use_compare pages _ _ instr values refl width refl
use_body pages one other (Test width) instr thread values = use_test_value pages _ _ instr values refl width refl
use_body pages one other (BitTest width) instr thread values = use_bit_test pages _ _ instr values refl width refl
use_body pages one other (TwoOperands operation width) instr thread values = use_two_operands pages _ _ instr values refl operation width refl
use_body pages one other (ThreeOperands operation width) instr thread values = use_three_operands pages _ _ instr values refl operation width refl
use_body pages one other (Increment width) instr thread values =
    use_replace pages _ _ instr values refl 0 (size_of width) (sum_of (bytes_of (size_of width)) (value_of_place values 0 (size_of width)) 1 false) refl
use_body pages one other (Decrement width) instr thread values =
    use_replace pages _ _ instr values refl 0 (size_of width) (difference_of (bytes_of (size_of width)) (value_of_place values 0 (size_of width)) 1 false) refl
use_body pages one other AddWithCarry instr thread values = use_add_with_carry pages _ _ instr values refl refl refl
use_body pages one other SubtractWithCarry instr thread values = use_subtract_with_carry pages _ _ instr values refl refl refl
use_body pages one other AddAlignedWord instr thread values = use_add_aligned_word pages _ _ instr values refl refl
use_body pages one other ExtendedMultiply instr thread values = use_extended_multiply pages _ _ instr values refl refl
use_body pages one other ArithmeticShift instr thread values =
    use_give_coded pages _ _ instr values refl 2 sizes.Long (shift_of (value_of_place values 1 sizes.Long) (value_of_place values 0 sizes.Byte)) refl
use_body pages one other Rotate instr thread values = use_give pages _ _ instr values refl 2 sizes.Long _ refl
use_body pages one other (ExtractField signed) instr thread values = use_extract_field pages _ _ instr values refl signed refl
use_body pages one other InsertField instr thread values = use_insert_field pages _ _ instr values refl refl
use_body pages one other (Branch width) instr thread values = use_branch pages _ _ instr values refl refl refl
use_body pages one other (BranchIf condition) instr thread values = use_branch_if pages _ _ instr values refl condition refl refl refl
use_body pages one other (BranchOnLowBit state) instr thread values = use_branch_on_low_bit pages _ _ instr values refl state refl refl
use_body pages one other (BranchOnBit branch) instr thread values = use_branch_on_bit pages _ _ instr values refl branch refl refl
use_body pages one other (AddOneBranch or_equal) instr thread values = use_add_one_branch pages _ _ instr values refl or_equal refl refl
use_body pages one other (SubtractOneBranch or_equal) instr thread values = use_subtract_one_branch pages _ _ instr values refl or_equal refl refl
use_body pages one other (AddCompareBranch width) instr thread values = use_add_compare_branch pages _ _ instr values refl width refl refl
use_body pages one other (BranchToSubroutine width) instr thread values = use_branch_to_subroutine pages _ _ instr values refl refl refl
use_body pages one other Jump instr thread values = use_jump pages _ _ instr values refl refl refl
use_body pages one other JumpToSubroutine instr thread values = use_jump_to_subroutine pages _ _ instr values refl refl refl
use_body pages one other ReturnFromSubroutine instr thread values = use_return_from_subroutine pages _ _ instr values refl refl refl
use_body pages one other (Case width) instr thread values = use_case_of pages _ _ instr values refl width refl refl
use_body pages one other (operations.Long operation) instr thread values = use_fail

abbrev UsesLong : Pages → (one other : VaxState) → LongOperation → Instr → List Evaluated → Type 0
UsesLong pages one other operation instr values =
    let said = code_use_of (operations.Long operation) in
    Uses pages (case_of one other (operations.Long operation) instr) said.reads false said.writes true (long_body operation instr values)

use_long_body : (pages : Pages) (one other : VaxState) (operation : LongOperation) (instr : Instr) (values : List Evaluated) → UsesLong pages one other operation instr values
unfolding long_body code_use_of written_by_long
use_long_body pages one other longs.Index instr values = use_index pages _ instr values refl refl
use_long_body pages one other longs.CallGeneral instr values = use_call_general pages _ instr values refl refl
use_long_body pages one other longs.CallStack instr values = use_call_stack pages _ instr values refl refl
use_long_body pages one other longs.Return instr values = use_return_from_procedure pages _ refl refl
use_long_body pages one other longs.PushRegisters instr values = use_push_by_mask pages _ instr values refl refl
use_long_body pages one other longs.PopRegisters instr values = use_pop_by_mask pages _ instr values refl refl
use_long_body pages one other longs.MoveCharacters instr values = use_move_characters pages _ instr values refl refl
use_long_body pages one other longs.MoveCharactersFilled instr values = use_move_characters_filled pages _ instr values refl refl
use_long_body pages one other longs.CompareCharacters instr values = use_compare_characters pages _ instr values refl refl
use_long_body pages one other longs.LocateCharacter instr values = use_scan_characters pages _ instr true values refl refl
use_long_body pages one other longs.SkipCharacter instr values = use_scan_characters pages _ instr false values refl refl

-- ---- with their operands
use_plain : (pages : Pages) (one other : VaxState) (operation : Operation) (instr : Instr) (thread : ℕ)
    → Uses pages (case_of one other operation instr) (code_use_of operation).reads false (code_use_of operation).writes true (operation_script operation instr thread)
unfolding operation_script
use_plain pages one other operation instr thread =
    use_bind (use_operands_from 6 (evaluated_row operation) instr nothings) (λ values. use_body pages one other operation instr thread values)

use_long : (pages : Pages) (one other : VaxState) (operation : LongOperation) (instr : Instr)
    → let said = code_use_of (operations.Long operation) in Uses pages (case_of one other (operations.Long operation) instr) said.reads false said.writes true (long_script operation instr)
unfolding long_script
use_long pages one other operation instr =
    use_bind (use_operands_from 6 (row_of_operation (operations.Long operation)) instr nothings) (λ values. use_long_body pages one other operation instr values)

use_script_of : (pages : Pages) (one other : VaxState) (operation : Operation) (instr : Instr) (thread : ℕ) → operation_at instr.opcode ≡ Some operation
    → Uses pages (case_of one other operation instr) (code_use_of operation).reads false (code_use_of operation).writes true (script_of instr thread)
use_script_of pages one other operation instr thread at =
    subst (λ found. Uses pages (case_of one other operation instr) (code_use_of operation).reads false (code_use_of operation).writes true (script_where found instr thread)) (sym at)
    (use_plain pages one other operation instr thread)

-- an instruction with that operation, long or not
abbrev UsesFound : Pages → (one other : VaxState) → Operation → Instr → (thread : ℕ) → Option Operation → Type 0
UsesFound pages one other operation instr thread found =
    Uses pages (case_of one other operation instr) (code_use_of operation).reads false (code_use_of operation).writes true (either_script (long_operation found) instr thread)

use_found : (pages : Pages) (one other : VaxState) (operation : Operation) (instr : Instr) (thread : ℕ) → operation_at instr.opcode ≡ Some operation
    → UsesFound pages one other operation instr thread (Some operation)
unfolding long_operation
use_found pages one other (operations.Long operation) instr thread at = use_long pages one other operation instr
use_found pages one other operation instr thread at = use_script_of pages one other operation instr thread at

use_any : (pages : Pages) (one other : VaxState) (operation : Operation) (instr : Instr) (thread : ℕ) → operation_at instr.opcode ≡ Some operation
    → Uses pages (case_of one other operation instr) (code_use_of operation).reads false (code_use_of operation).writes true (any_script_of instr thread)
use_any pages one other operation instr thread at =
    subst (UsesFound pages one other operation instr thread) (sym at) (use_found pages one other operation instr thread at)

pub codes_are_used : CodesAreUsed
codes_are_used pages thread instr operation one other at same agree =
    trees_alike pages (case_of one other operation instr) (any_script_of instr thread) (use_any pages one other operation instr thread at) same agree
