-- Each operation that is said to end may go on elsewhere: a row for each.
use Rattle.std.proofs.Common.{◌≡◌, ℕ, ◌<◌, ◌∷◌, [], List, refl, Bool, true, false, eqb, lit<, None}
use Rattle.std.specs.Prelude.{replicate}
use Rattle.std.proofs.lemmas.Bool.{eqb-false, false≢true}
use Rattle.vax_form.specs.Grammar.{padded}
use Rattle.vax_form.specs.Row.{operands_of, operands_of_long}
use Rattle.vax_form.specs.Script.{Script}
use Rattle.vax_form.specs.State.{SP}
use Rattle.vax_form.specs.Tree.{Answer, AnswersTree, Comes, Ending, Finish, answer, instruction_tree}
use Rattle.vax_form.specs.declared.instr.Base.TheVariants.{Fixed}
use Rattle.vax_form.specs.declared.instr.Operand.{Operand}
use Rattle.vax_form.specs.declared.instr.Operand.TheVariants.{Place, Register, Target, Value}
use Rattle.vax_form.specs.declared.instr.Width.{Width}
use Rattle.vax_form.specs.declared.instr.Width.TheVariants.{Byte, Word, Long}
use Rattle.vax_form.specs.declared.operation.BitStore.{BitStore}
use Rattle.vax_form.specs.declared.operation.BitStore.TheVariants.{Nothing, Plain, Interlocked}
use Rattle.vax_form.specs.declared.operation.Condition.{Condition}
use Rattle.vax_form.specs.declared.operation.Condition.TheVariants.{NotEqual, Equal, LessOrEqual, Less, LessOrEqualUnsigned, OverflowSet, CarrySet}
use Rattle.vax_form.specs.declared.operation.LongOperation.{LongOperation}
use Rattle.vax_form.specs.declared.operation.LongOperation.TheVariants.{CallGeneral, CallStack, Return}
use Rattle.vax_form.specs.declared.operation.Operation.{Operation}
use Rattle.vax_form.specs.declared.operation.Operation.TheVariants.{Branch, BranchIf, BranchOnLowBit, BranchOnBit, AddOneBranch, SubtractOneBranch, AddCompareBranch, BranchToSubroutine, Jump, JumpToSubroutine, ReturnFromSubroutine, Case}
use Rattle.vax_form.specs.declared.operation.Operation.TheVariants as operations
use Rattle.vax_form.specs.declared.script.End.{End}
use Rattle.vax_form.specs.declared.state.VaxState.{VaxState}
use Rattle.vt_words.specs.Arithmetic.{sum_of, difference_of}
use Rattle.vt_words.specs.Values.{bit}
use Rattle.vax_meaning.specs.Branches.{add_compare_branch, add_one_branch, branch_if, case_of, case_to, holds, return_from_subroutine, step_index, subtract_one_branch}
use Rattle.vax_meaning.specs.Codes.{finish}
use Rattle.vax_meaning.specs.Evaluation.{evaluated_row, find, obtain, operands_from, read_found}
use Rattle.vax_meaning.specs.Fields.{bit_found, branch_on_bit, leave_bit}
use Rattle.vax_meaning.specs.Instructions.{body, operation_script}
use Rattle.vax_meaning.specs.Memory.{code_word, read, write}
use Rattle.vax_meaning.specs.Moves.{push}
use Rattle.vax_meaning.specs.Operands.{base_address, locate, modify_at, place_address, put, store}
use Rattle.vax_long.specs.Calls.{call_general, call_stack, check_frame, enter, entry_mask, leave, push_frame, release_arguments, return_from_procedure}
use Rattle.vax_long.specs.Instructions.{any_script_of, long_body, long_script}
use Rattle.vax_long.specs.Registers.{check_push, check_registers, pop, pop_checked, pop_register, pop_registers, push_checked, push_registers}
use Rattle.cc_liveness.specs.Uses.{code_use_of, long_ends}
use Rattle.image_meaning.specs.CodeUses.{EndsGoElsewhere}
use Rattle.image_meaning.proofs.Witnesses.{any_by, behind, instr_of, is_state_of, is_table, script_by, state_of, two_pages}

-- the state that an answer leaves
abbrev state_left : Ending → VaxState
state_left (Finish left) = left
state_left _ = state_of 0

abbrev left_by : Answer → VaxState
left_by (Comes e left) = state_left e
left_by _ = state_of 0

-- with these replies a script finishes elsewhere than behind its instruction
record Goes (psw : ℕ) (replies : List ℕ) (script : Script End) : Type 0 where
  answers : AnswersTree (instruction_tree two_pages script (state_of psw)) replies
  finishes : answer two_pages (instruction_tree two_pages script (state_of psw)) replies ≡ Comes (Finish (left_by (answer two_pages (instruction_tree two_pages script (state_of psw)) replies))) []
  elsewhere : eqb (left_by (answer two_pages (instruction_tree two_pages script (state_of psw)) replies)).pc behind ≡ false

-- the codes by which a conditional branch is taken
abbrev taken_by : Condition → ℕ
taken_by Equal = 4
taken_by LessOrEqual = 8
taken_by Less = 8
taken_by LessOrEqualUnsigned = 1
taken_by OverflowSet = 2
taken_by CarrySet = 1
taken_by _ = 0

small_taken : (condition : Condition) → taken_by condition < 256
small_taken Equal = lit< tt
small_taken LessOrEqual = lit< tt
small_taken Less = lit< tt
small_taken LessOrEqualUnsigned = lit< tt
small_taken OverflowSet = lit< tt
small_taken CarrySet = lit< tt
small_taken _ = lit< tt

-- bit 9 of SP is 1, and bit 0 is 0
abbrev bit_number : Bool → ℕ
bit_number true = 9
bit_number false = 0

-- the address 4, and that of a procedure
abbrev elsewhere : Operand
elsewhere = Place (Fixed 4 false) None

abbrev procedure : Operand
procedure = Place (Fixed 512 false) None

-- the operands with which an operation goes elsewhere, the codes, and the replies
abbrev operands_for : Operation → List Operand
operands_for (BranchOnLowBit state) = padded (Value (bit state) ∷ Target 4 ∷ [])
operands_for (BranchOnBit branch) = padded (Value (bit_number branch.state) ∷ Register SP ∷ Target 4 ∷ [])
operands_for (AddOneBranch or_equal) = padded (Value 2 ∷ Register 0 ∷ Target 4 ∷ [])
operands_for (SubtractOneBranch or_equal) = padded (Register SP ∷ Target 4 ∷ [])
operands_for (AddCompareBranch width) = padded (Value 2 ∷ Value 1 ∷ Register 0 ∷ Target 4 ∷ [])
operands_for Jump = padded (elsewhere ∷ [])
operands_for JumpToSubroutine = padded (elsewhere ∷ [])
operands_for (Case width) = padded (Value 1 ∷ Value 0 ∷ Value 0 ∷ [])
operands_for (operations.Long CallGeneral) = padded (elsewhere ∷ procedure ∷ [])
operands_for (operations.Long CallStack) = padded (Value 0 ∷ procedure ∷ [])
operands_for _ = padded (Target 4 ∷ [])

abbrev psw_for : Operation → ℕ
psw_for (BranchIf condition) = taken_by condition
psw_for _ = 0

small_for : (operation : Operation) → psw_for operation < 256
small_for (BranchIf condition) = small_taken condition
small_for _ = lit< tt

abbrev replies_for : Operation → List ℕ
replies_for (BranchToSubroutine width) = 0 ∷ []
replies_for JumpToSubroutine = 0 ∷ []
replies_for ReturnFromSubroutine = 4 ∷ []
replies_for (operations.Long CallGeneral) = replicate 5 0
replies_for (operations.Long CallStack) = replicate 6 0
replies_for (operations.Long Return) = 0 ∷ 0 ∷ 0 ∷ 4 ∷ []
replies_for _ = []

module _ (opcode : ℕ) where
  abbrev Way : Operation → Type 0
  Way operation = Goes (psw_for operation) (replies_for operation) (script_by operation (instr_of opcode (operands_for operation)))

  branch_goes : (condition : Condition) → Way (BranchIf condition)
  unfolding operation_script body operands_from evaluated_row operands_of operands_of_long find read_found obtain locate place_address base_address modify_at put store read write branch_if holds
  branch_goes NotEqual = record { answers = tt; finishes = refl; elsewhere = refl }
  branch_goes _ = record { answers = tt; finishes = refl; elsewhere = refl }

  bit_goes : (state : Bool) (store : BitStore) → Way (BranchOnBit (record { state = state; store = store }))
  unfolding operation_script body operands_from evaluated_row operands_of operands_of_long find read_found obtain locate place_address base_address modify_at put store read write branch_on_bit bit_found leave_bit
  bit_goes true Nothing = record { answers = tt; finishes = refl; elsewhere = refl }
  bit_goes false Nothing = record { answers = tt; finishes = refl; elsewhere = refl }
  bit_goes true (Plain value) = record { answers = tt; finishes = refl; elsewhere = refl }
  bit_goes false (Plain value) = record { answers = tt; finishes = refl; elsewhere = refl }
  bit_goes true (Interlocked value) = record { answers = tt; finishes = refl; elsewhere = refl }
  bit_goes false (Interlocked value) = record { answers = tt; finishes = refl; elsewhere = refl }

  loop_goes : (width : Width) → Way (AddCompareBranch width)
  unfolding operation_script body operands_from evaluated_row operands_of operands_of_long find read_found obtain locate place_address base_address modify_at put store read write add_compare_branch step_index sum_of finish
  loop_goes Byte = record { answers = tt; finishes = refl; elsewhere = refl }
  loop_goes Word = record { answers = tt; finishes = refl; elsewhere = refl }
  loop_goes Long = record { answers = tt; finishes = refl; elsewhere = refl }

  case_goes : (width : Width) → Way (Case width)
  unfolding operation_script body operands_from evaluated_row operands_of operands_of_long find read_found obtain locate place_address base_address modify_at put store read write case_of case_to difference_of
  case_goes Byte = record { answers = tt; finishes = refl; elsewhere = refl }
  case_goes Word = record { answers = tt; finishes = refl; elsewhere = refl }
  case_goes Long = record { answers = tt; finishes = refl; elsewhere = refl }

  step_up_goes : (or_equal : Bool) → Way (AddOneBranch or_equal)
  unfolding operation_script body operands_from evaluated_row operands_of operands_of_long find read_found obtain locate place_address base_address modify_at put store read write add_one_branch step_index sum_of finish
  step_up_goes true = record { answers = tt; finishes = refl; elsewhere = refl }
  step_up_goes false = record { answers = tt; finishes = refl; elsewhere = refl }

  step_down_goes : (or_equal : Bool) → Way (SubtractOneBranch or_equal)
  unfolding operation_script body operands_from evaluated_row operands_of operands_of_long find read_found obtain locate place_address base_address modify_at put store read write subtract_one_branch step_index difference_of finish
  step_down_goes true = record { answers = tt; finishes = refl; elsewhere = refl }
  step_down_goes false = record { answers = tt; finishes = refl; elsewhere = refl }

  low_bit_goes : (state : Bool) → Way (BranchOnLowBit state)
  unfolding operation_script body operands_from evaluated_row operands_of operands_of_long find read_found obtain locate place_address base_address modify_at put store read write
  low_bit_goes true = record { answers = tt; finishes = refl; elsewhere = refl }
  low_bit_goes false = record { answers = tt; finishes = refl; elsewhere = refl }

  long_goes : (operation : LongOperation) → long_ends operation ≡ true → Way (operations.Long operation)
  unfolding operation_script body operands_from evaluated_row operands_of operands_of_long find read_found obtain locate place_address base_address modify_at put store read write long_script long_body call_general call_stack check_frame enter entry_mask leave push_frame release_arguments return_from_procedure check_push check_registers pop pop_checked pop_register pop_registers push_checked push_registers code_word
  long_goes CallGeneral is = record { answers = (refl, (refl, (refl, (refl, (refl, tt))))); finishes = refl; elsewhere = refl }
  long_goes CallStack is = record { answers = (refl, (refl, (refl, (refl, (refl, (refl, tt)))))); finishes = refl; elsewhere = refl }
  long_goes Return is = record { answers = (lit< tt, (lit< tt, (lit< tt, (lit< tt, tt)))); finishes = refl; elsewhere = refl }
  long_goes _ is = absurd (false≢true is)

  each_goes : (operation : Operation) → (code_use_of operation).ends ≡ true → Way operation
  unfolding code_use_of operation_script body operands_from evaluated_row operands_of operands_of_long find read_found obtain locate place_address base_address modify_at put store read write push return_from_subroutine
  each_goes (Branch width) is = record { answers = tt; finishes = refl; elsewhere = refl }
  each_goes (BranchIf condition) is = branch_goes condition
  each_goes (BranchOnLowBit state) is = low_bit_goes state
  each_goes (BranchOnBit branch) is = bit_goes branch.state branch.store
  each_goes (AddOneBranch or_equal) is = step_up_goes or_equal
  each_goes (SubtractOneBranch or_equal) is = step_down_goes or_equal
  each_goes (AddCompareBranch width) is = loop_goes width
  each_goes (BranchToSubroutine width) is = record { answers = (refl, tt); finishes = refl; elsewhere = refl }
  each_goes Jump is = record { answers = tt; finishes = refl; elsewhere = refl }
  each_goes JumpToSubroutine is = record { answers = (refl, tt); finishes = refl; elsewhere = refl }
  each_goes ReturnFromSubroutine is = record { answers = (lit< tt, tt); finishes = refl; elsewhere = refl }
  each_goes (Case width) is = case_goes width
  each_goes (operations.Long operation) is = long_goes operation is
  each_goes _ is = absurd (false≢true is)

pub ends_go_elsewhere : EndsGoElsewhere
ends_go_elsewhere opcode operation at is =
    let instr = instr_of opcode (operands_for operation) in
    let psw = psw_for operation in
    let replies = replies_for operation in
    let goes : Goes psw replies (any_script_of instr 0) = any_by (Goes psw replies) operation instr at (each_goes opcode operation is) in
    record {
      pages = two_pages;
      is_table = is_table;
      thread = 0;
      instr = instr;
      has_opcode = refl;
      before = state_of psw;
      is_state = is_state_of psw (small_for operation);
      replies = replies;
      answers = goes.answers;
      left = left_by (answer two_pages (instruction_tree two_pages (any_script_of instr 0) (state_of psw)) replies);
      finishes = goes.finishes;
      elsewhere = eqb-false _ behind goes.elsewhere;
    }
