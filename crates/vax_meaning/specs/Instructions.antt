-- What each instruction does, and what it comes to.
-- VAX Architecture Reference Manual, "Instruction Descriptions".
use Rattle.std.specs.Prelude.{ℕ, true, false, List, Option, Some, None}
use Rattle.vax_form.specs.Operation.{operation_at}
use Rattle.vax_form.specs.Script.{Script, ◌>>=◌, fail}
use Rattle.vax_form.specs.Tree.{Tree, instruction_tree, answer, outcome}
use Rattle.vax_form.specs.declared.instr.Instr.{Instr}
use Rattle.vax_form.specs.declared.operation.Operation.{Operation}
use Rattle.vax_form.specs.declared.operation.Operation.TheVariants as operations
use Rattle.vax_form.specs.declared.operation.Operation.TheVariants.{NoOperation, Breakpoint, ChangeMode, Move, Clear, MoveAddress, PushAddress, PushLong, MoveZeroExtended, Convert, MoveComplemented, MoveNegated, MovePsl, BitSetPsw, BitClearPsw, Compare, Test, BitTest, TwoOperands, ThreeOperands, Increment, Decrement, AddWithCarry, SubtractWithCarry, AddAlignedWord, ExtendedMultiply, ArithmeticShift, Rotate, ExtractField, InsertField, Branch, BranchIf, BranchOnLowBit, BranchOnBit, AddOneBranch, SubtractOneBranch, AddCompareBranch, BranchToSubroutine, Jump, JumpToSubroutine, ReturnFromSubroutine, Case}
use Rattle.vax_form.specs.declared.pages.Pages.{Pages}
use Rattle.vax_form.specs.declared.script.End.{End}
use Rattle.vax_form.specs.declared.state.Exception.TheVariants as exceptions
use Rattle.vax_form.specs.declared.state.Outcome.{Outcome}
use Rattle.vax_form.specs.declared.state.VaxState.{VaxState}
use Rattle.vax_meaning.specs.declared.evaluation.Evaluated.{Evaluated}
use Rattle.vax_meaning.specs.Evaluation.{evaluated_row, operands_from, nothings}
use Rattle.vax_meaning.specs.Codes.{go_to}
use Rattle.vax_meaning.specs.Moves.{move_value, clear, move_address, push_value, move_zero_extended, move_complemented, move_psl, change_psw, compare, test_value, bit_test}
use Rattle.vax_meaning.specs.Arithmetic.{move_negated, convert, two_operands, three_operands, increment, decrement, add_with_carry, subtract_with_carry, add_aligned_word, extended_multiply, arithmetic_shift, rotate}
use Rattle.vax_meaning.specs.Fields.{extract_field, insert_field, branch_on_bit}
use Rattle.vax_meaning.specs.Branches.{branch, branch_if, branch_on_low_bit, add_one_branch, subtract_one_branch, add_compare_branch, branch_to_subroutine, jump, jump_to_subroutine, return_from_subroutine, case_of}
use Rattle.vax_meaning.specs.Control.{change_mode}

-- what each operation does once its operands are evaluated. The long instructions have scripts of their own: here they
-- are reserved
unfoldable pub body : Operation → Instr → (thread : ℕ) → List Evaluated → Script End
body NoOperation instr thread values = go_to instr.after
body Breakpoint instr thread values = fail exceptions.Breakpoint
body ChangeMode instr thread values = change_mode instr thread values
body (Move size) instr thread values = move_value instr size values
body (Clear size) instr thread values = clear instr size values
body (MoveAddress size) instr thread values = move_address instr values
body (PushAddress size) instr thread values = push_value instr values
body PushLong instr thread values = push_value instr values
body (MoveZeroExtended from to) instr thread values = move_zero_extended instr from to values
body (Convert from to) instr thread values = convert instr from to values
body (MoveComplemented width) instr thread values = move_complemented instr width values
body (MoveNegated width) instr thread values = move_negated instr width values
body MovePsl instr thread values = move_psl instr values
body BitSetPsw instr thread values = change_psw instr true values
body BitClearPsw instr thread values = change_psw instr false values
body (Compare width) instr thread values = compare instr width values
body (Test width) instr thread values = test_value instr width values
body (BitTest width) instr thread values = bit_test instr width values
body (TwoOperands operation width) instr thread values = two_operands instr operation width values
body (ThreeOperands operation width) instr thread values = three_operands instr operation width values
body (Increment width) instr thread values = increment instr width values
body (Decrement width) instr thread values = decrement instr width values
body AddWithCarry instr thread values = add_with_carry instr values
body SubtractWithCarry instr thread values = subtract_with_carry instr values
body AddAlignedWord instr thread values = add_aligned_word instr values
body ExtendedMultiply instr thread values = extended_multiply instr values
body ArithmeticShift instr thread values = arithmetic_shift instr values
body Rotate instr thread values = rotate instr values
body (ExtractField signed) instr thread values = extract_field instr signed values
body InsertField instr thread values = insert_field instr values
body (Branch width) instr thread values = branch instr
body (BranchIf condition) instr thread values = branch_if instr condition
body (BranchOnLowBit state) instr thread values = branch_on_low_bit instr state values
body (BranchOnBit branch) instr thread values = branch_on_bit instr branch values
body (AddOneBranch or_equal) instr thread values = add_one_branch instr or_equal values
body (SubtractOneBranch or_equal) instr thread values = subtract_one_branch instr or_equal values
body (AddCompareBranch width) instr thread values = add_compare_branch instr width values
body (BranchToSubroutine width) instr thread values = branch_to_subroutine instr
body Jump instr thread values = jump values
body JumpToSubroutine instr thread values = jump_to_subroutine instr values
body ReturnFromSubroutine instr thread values = return_from_subroutine
body (Case width) instr thread values = case_of instr width values
body (operations.Long operation) instr thread values = fail exceptions.ReservedInstruction

-- what each operation does, in order: its operands, and then its body
unfoldable pub operation_script : Operation → Instr → (thread : ℕ) → Script End
operation_script operation instr thread = do
  values ← operands_from 6 (evaluated_row operation) instr nothings
  body operation instr thread values

abbrev pub script_where : Option Operation → Instr → (thread : ℕ) → Script End
script_where None instr thread = fail exceptions.ReservedInstruction
script_where (Some operation) instr thread = operation_script operation instr thread

-- the script of an instruction that is not long
abbrev pub script_of : Instr → (thread : ℕ) → Script End
script_of instr thread = script_where (operation_at instr.opcode) instr thread

-- its tree: what the instruction means
abbrev pub tree_for : VaxState → Instr → Pages → (thread : ℕ) → Tree
tree_for state instr pages thread = instruction_tree pages (script_of instr thread) state

-- what the instruction comes to with the replies so far
abbrev pub next_of : VaxState → Instr → Pages → (thread : ℕ) → (replies : List ℕ) → Outcome
next_of state instr pages thread replies = outcome state (answer pages (tree_for state instr pages thread) replies)
