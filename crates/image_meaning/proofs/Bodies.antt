-- The instructions that are not long.
use Rattle.std.proofs.Common.{ℕ, ◌<◌, ◌%◌, ◌^◌, true, false, arith, lit<, List, Option, Some, None, Bool}
use Rattle.vax_form.specs.Operation.{operation_at}
use Rattle.vax_form.specs.Row.{operands_of}
use Rattle.vax_form.specs.declared.instr.Size.TheVariants as sizes
use Rattle.vax_form.specs.declared.instr.Instr.{Instr}
use Rattle.vax_form.specs.declared.operation.Operation.{Operation}
use Rattle.vax_form.specs.declared.operation.Operation.TheVariants as operations
use Rattle.vax_form.specs.declared.operation.Operation.TheVariants.{NoOperation, Breakpoint, ChangeMode, Move, Clear, MoveAddress, PushAddress, PushLong, MoveZeroExtended, Convert, MoveComplemented, MoveNegated, MovePsl, BitSetPsw, BitClearPsw, Compare, Test, BitTest, TwoOperands, ThreeOperands, Increment, Decrement, AddWithCarry, SubtractWithCarry, AddAlignedWord, ExtendedMultiply, ArithmeticShift, Rotate, ExtractField, InsertField, Branch, BranchIf, BranchOnLowBit, BranchOnBit, AddOneBranch, SubtractOneBranch, AddCompareBranch, BranchToSubroutine, Jump, JumpToSubroutine, ReturnFromSubroutine, Case}
use Rattle.vax_meaning.specs.declared.evaluation.Evaluated.{Evaluated}
use Rattle.vax_meaning.specs.Evaluation.{value_of_place, evaluated_row, nothings}
use Rattle.vax_form.specs.declared.state.Pending.TheVariants.{Resume}
use Rattle.vax_meaning.specs.Control.{put_byte, get_byte, exchange_handler, ask_to_resume, serve, change_mode}
use Rattle.vax_meaning.specs.Instructions.{body, operation_script, script_where, script_of}
use Rattle.vax_form.specs.declared.pages.Pages.{Pages}
use Rattle.image_meaning.proofs.Keeping.{Keeps, Any, keep_pure, keep_bind, keep_then, keep_either, keep_get, keep_change, keep_fail, keep_written, kept, stay_ask}
use Rattle.image_meaning.proofs.States.{IsLongword, low_longword, with_handler_is, with_pending_is}
use Rattle.image_meaning.proofs.Operands.{keep_get_register, keep_set_register}
use Rattle.image_meaning.proofs.Evaluations.{FitsValues, FitsRow, nothings_are_fit, keep_operands_from}
use Rattle.image_meaning.proofs.Codes.{FitsInstr, keep_pc, keep_go_to}
use Rattle.image_meaning.proofs.Moves.{keep_move_value, keep_clear, keep_move_address, keep_push_value, keep_move_zero_extended, keep_move_complemented, keep_move_psl, keep_change_psw, keep_compare, keep_test, keep_bit_test}
use Rattle.image_meaning.proofs.Arithmetic.{keep_move_negated, keep_convert, keep_two_operands, keep_three_operands, keep_increment, keep_decrement, keep_add_with_carry, keep_subtract_with_carry, keep_add_aligned_word, keep_extended_multiply, keep_arithmetic_shift, keep_rotate}
use Rattle.image_meaning.proofs.Fields.{keep_extract_field, keep_insert_field, keep_branch_on_bit}
use Rattle.image_meaning.proofs.Branches.{keep_branch, keep_branch_if, keep_branch_on_low_bit, keep_add_one_branch, keep_subtract_one_branch, keep_add_compare_branch, keep_branch_to_subroutine, keep_jump, keep_jump_to_subroutine, keep_return_from_subroutine, keep_case_of}

low_byte : (value : ℕ) → value % 256 < 256
low_byte value = omega arith

keep_put_byte : {pages : Pages} {w : Bool} → Keeps pages w w Any put_byte
unfolding put_byte
keep_put_byte =
    keep_bind (keep_get_register 0) (λ first _. keep_bind {P = Any} (kept (stay_ask (record { quadword = record { longword = lit< tt; within = omega arith; bit = tt }; allowed = tt; value = low_byte first }) (λ reply _. tt))) (λ reply _. keep_pure tt))

keep_get_byte : {pages : Pages} {w : Bool} → Keeps pages w w Any get_byte
unfolding get_byte
keep_get_byte =
    keep_bind {P = Any} (kept (stay_ask (record { quadword = record { longword = lit< tt; within = omega arith; bit = tt }; allowed = tt; value = tt }) (λ reply _. tt)))
    (λ got _. keep_then (keep_set_register 0 (got % 2 ^ 32) (low_longword got)) (keep_pure tt))

keep_exchange_handler : {pages : Pages} {w : Bool} → Keeps pages w w Any exchange_handler
unfolding exchange_handler
keep_exchange_handler =
    keep_bind {P = IsLongword} (keep_get (λ state is. is.handler)) (λ before small.
    keep_bind (keep_get_register 0) (λ first is.
    keep_then (keep_change (λ state still. with_handler_is first state is still))
    (keep_then (keep_set_register 0 before small) (keep_pure tt))))

keep_ask_to_resume : {pages : Pages} {w : Bool} → Keeps pages w w Any ask_to_resume
keep_ask_to_resume = keep_then (keep_change (λ state is. with_pending_is Resume state is)) (keep_pure tt)

keep_serve : {pages : Pages} {w : Bool} (code thread : ℕ) → thread < 256 → Keeps pages w w Any (serve code thread)
unfolding serve
keep_serve code thread few =
    keep_either (keep_pure tt) (keep_either keep_put_byte (keep_either keep_get_byte (keep_either
    (keep_then (keep_set_register 0 thread (omega arith)) (keep_pure tt)) (keep_either keep_exchange_handler (keep_either keep_ask_to_resume
    (keep_then (keep_set_register 0 0 (lit< tt)) (keep_pure tt)))))))

keep_change_mode : {pages : Pages} {w : Bool} (instr : Instr) (thread : ℕ) (values : List Evaluated) → thread < 256 → FitsInstr instr → Keeps pages w w Any (change_mode instr thread values)
unfolding change_mode
keep_change_mode instr thread values few fits = keep_then (keep_pc instr.after fits.after) (keep_serve (value_of_place values 0 sizes.Word) thread few)

keep_body : {pages : Pages} (operation : Operation) (instr : Instr) (thread : ℕ) (values : List Evaluated) → thread < 256 → FitsInstr instr → FitsValues values
    → FitsRow pages (evaluated_row operation) 6 values → Keeps pages false true Any (body operation instr thread values)
unfolding body evaluated_row operands_of
keep_body NoOperation instr thread values few fits all may = keep_written (keep_go_to instr.after fits.after)
keep_body Breakpoint instr thread values few fits all may = keep_fail tt
keep_body ChangeMode instr thread values few fits all may = keep_written (keep_change_mode instr thread values few fits)
keep_body (Move size) instr thread values few fits all may = keep_move_value instr size values fits all
keep_body (Clear size) instr thread values few fits all may = keep_clear instr size values fits all
keep_body (MoveAddress size) instr thread values few fits all may = keep_move_address instr values fits all
keep_body (PushAddress size) instr thread values few fits all may = keep_push_value instr values fits
keep_body PushLong instr thread values few fits all may = keep_push_value instr values fits
keep_body (MoveZeroExtended from to) instr thread values few fits all may = keep_move_zero_extended instr from to values fits all
keep_body (Convert from to) instr thread values few fits all may = keep_convert instr from to values fits all
keep_body (MoveComplemented width) instr thread values few fits all may = keep_move_complemented instr width values fits all
keep_body (MoveNegated width) instr thread values few fits all may = keep_move_negated instr width values fits all
keep_body MovePsl instr thread values few fits all may = keep_move_psl instr values fits all
keep_body BitSetPsw instr thread values few fits all may = keep_written (keep_change_psw instr true values fits)
keep_body BitClearPsw instr thread values few fits all may = keep_written (keep_change_psw instr false values fits)
keep_body (Compare width) instr thread values few fits all may = keep_written (keep_compare instr width values fits)
keep_body (Test width) instr thread values few fits all may = keep_written (keep_test instr width values fits)
keep_body (BitTest width) instr thread values few fits all may = keep_written (keep_bit_test instr width values fits)
keep_body (TwoOperands operation width) instr thread values few fits all may = keep_two_operands instr operation width values fits all (may 1 (lit< tt))
keep_body (ThreeOperands operation width) instr thread values few fits all may = keep_three_operands instr operation width values fits all
keep_body (Increment width) instr thread values few fits all may = keep_increment instr width values fits all (may 0 (lit< tt))
keep_body (Decrement width) instr thread values few fits all may = keep_decrement instr width values fits all (may 0 (lit< tt))
keep_body AddWithCarry instr thread values few fits all may = keep_add_with_carry instr values fits all (may 1 (lit< tt))
keep_body SubtractWithCarry instr thread values few fits all may = keep_subtract_with_carry instr values fits all (may 1 (lit< tt))
keep_body AddAlignedWord instr thread values few fits all may = keep_add_aligned_word instr values fits all
keep_body ExtendedMultiply instr thread values few fits all may = keep_extended_multiply instr values fits all
keep_body ArithmeticShift instr thread values few fits all may = keep_arithmetic_shift instr values fits all
keep_body Rotate instr thread values few fits all may = keep_rotate instr values fits all
keep_body (ExtractField signed) instr thread values few fits all may = keep_extract_field instr signed values fits all
keep_body InsertField instr thread values few fits all may = keep_insert_field instr values fits all
keep_body (Branch width) instr thread values few fits all may = keep_written (keep_branch instr fits)
keep_body (BranchIf condition) instr thread values few fits all may = keep_written (keep_branch_if instr condition fits)
keep_body (BranchOnLowBit state) instr thread values few fits all may = keep_written (keep_branch_on_low_bit instr state values fits)
keep_body (BranchOnBit branch) instr thread values few fits all may = keep_branch_on_bit instr branch values fits
keep_body (AddOneBranch or_equal) instr thread values few fits all may = keep_add_one_branch instr or_equal values fits all (may 1 (lit< tt))
keep_body (SubtractOneBranch or_equal) instr thread values few fits all may = keep_subtract_one_branch instr or_equal values fits all (may 0 (lit< tt))
keep_body (AddCompareBranch width) instr thread values few fits all may = keep_add_compare_branch instr width values fits all (may 2 (lit< tt))
keep_body (BranchToSubroutine width) instr thread values few fits all may = keep_branch_to_subroutine instr fits
keep_body Jump instr thread values few fits all may = keep_written (keep_jump values)
keep_body JumpToSubroutine instr thread values few fits all may = keep_jump_to_subroutine instr values
keep_body ReturnFromSubroutine instr thread values few fits all may = keep_written (keep_return_from_subroutine)
keep_body (Case width) instr thread values few fits all may = keep_written (keep_case_of instr width values)
keep_body (operations.Long operation) instr thread values few fits all may = keep_fail tt

keep_operation_script : {pages : Pages} (operation : Operation) (instr : Instr) (thread : ℕ) → thread < 256 → FitsInstr instr → Keeps pages false true Any (operation_script operation instr thread)
unfolding operation_script
keep_operation_script operation instr thread few fits =
    keep_bind (keep_operands_from 6 (evaluated_row operation) instr nothings fits.operands (omega arith) (nothings_are_fit (evaluated_row operation)))
    (λ values are. keep_body operation instr thread values few fits are.fits are.modified)

keep_script_where : {pages : Pages} (operation : Option Operation) (instr : Instr) (thread : ℕ) → thread < 256 → FitsInstr instr → Keeps pages false true Any (script_where operation instr thread)
keep_script_where None instr thread few fits = keep_fail tt
keep_script_where (Some operation) instr thread few fits = keep_operation_script operation instr thread few fits

pub keep_script_of : {pages : Pages} (instr : Instr) (thread : ℕ) → thread < 256 → FitsInstr instr → Keeps pages false true Any (script_of instr thread)
keep_script_of instr thread few fits = keep_script_where (operation_at instr.opcode) instr thread few fits
