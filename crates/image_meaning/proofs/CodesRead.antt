-- Each code that an operation is said to read has an effect: a row for each.
use Rattle.std.proofs.Common.{◌≡◌, ℕ, ◌<◌, ◌∷◌, [], List, refl, ap, Bool, true, eqb, lit<}
use Rattle.std.specs.Prelude.{◌/◌, ◌==◌, slice_index}
use Rattle.std.proofs.lemmas.Bool.{false≢true, true≢false}
use Rattle.vax_form.specs.Codes.{Code, negative, zero_code, overflow, carry, holds, none}
use Rattle.vax_form.specs.Grammar.{padded}
use Rattle.vax_form.specs.Row.{operands_of}
use Rattle.vax_form.specs.Script.{Script}
use Rattle.vax_form.specs.State.{user_mode}
use Rattle.vax_form.specs.Tree.{instruction_tree}
use Rattle.vax_form.specs.declared.instr.Operand.{Operand}
use Rattle.vax_form.specs.declared.instr.Operand.TheVariants.{Register, Target}
use Rattle.vax_form.specs.declared.operation.Condition.{Condition}
use Rattle.vax_form.specs.declared.operation.Condition.TheVariants.{NotEqual, Equal, Greater, LessOrEqual, GreaterOrEqual, Less, GreaterUnsigned, LessOrEqualUnsigned, OverflowClear, OverflowSet, CarryClear, CarrySet}
use Rattle.vax_form.specs.declared.operation.Operation.{Operation}
use Rattle.vax_form.specs.declared.operation.Operation.TheVariants.{MovePsl, BitSetPsw, BitClearPsw, AddWithCarry, SubtractWithCarry, BranchIf}
use Rattle.vax_form.specs.declared.script.End.{End}
use Rattle.vt_words.specs.Arithmetic.{sum_of, difference_of}
use Rattle.vax_meaning.specs.Arithmetic.{add_with_carry, subtract_with_carry, replace}
use Rattle.vax_meaning.specs.Branches.{branch_if, holds as tests}
use Rattle.vax_meaning.specs.Codes.{finish}
use Rattle.vax_meaning.specs.Evaluation.{evaluated_row, find, obtain, operands_from, read_found}
use Rattle.vax_meaning.specs.Instructions.{body, operation_script}
use Rattle.vax_meaning.specs.Moves.{change_psw, move_psl}
use Rattle.vax_meaning.specs.Operands.{locate, modify_at, put, store}
use Rattle.cc_liveness.specs.Uses.{code_use_of, tested_by}
use Rattle.block_law.specs.CodeWords.{codes_in}
use Rattle.image_meaning.specs.CodeUses.{Alike, CodesReadHaveEffect, EndAlike}
use Rattle.image_meaning.proofs.Witnesses.{any_by, behind, instr_of, is_state_of, is_table, script_by, state_of, two_pages}

-- the bit of a code in the processor status
abbrev bit_of : Code → ℕ
bit_of negative = 8
bit_of zero_code = 4
bit_of overflow = 2
bit_of carry = 1

small : (code : Code) → bit_of code < 256
small negative = lit< tt
small zero_code = lit< tt
small overflow = lit< tt
small carry = lit< tt

others_same : (code o : Code) → ¬ (o ≡ code) → holds o (codes_in 0) ≡ holds o (codes_in (bit_of code))
others_same negative negative other = absurd (other refl)
others_same negative zero_code other = refl
others_same negative overflow other = refl
others_same negative carry other = refl
others_same zero_code negative other = refl
others_same zero_code zero_code other = absurd (other refl)
others_same zero_code overflow other = refl
others_same zero_code carry other = refl
others_same overflow negative other = refl
others_same overflow zero_code other = refl
others_same overflow overflow other = absurd (other refl)
others_same overflow carry other = refl
others_same carry negative other = refl
others_same carry zero_code other = refl
others_same carry overflow other = refl
others_same carry carry other = absurd (other refl)

upper_same : (code : Code) → 0 ≡ bit_of code / 16
upper_same negative = refl
upper_same zero_code = refl
upper_same overflow = refl
upper_same carry = refl

-- registers, or the target of a branch
abbrev operands_for : Operation → List Operand
operands_for (BranchIf condition) = padded (Target 4 ∷ [])
operands_for _ = padded (Register 0 ∷ Register 1 ∷ [])

abbrev Apart : Operation → Code → (opcode : ℕ) → Script End → Type 0
Apart operation code opcode script =
    ¬ Alike (EndAlike (code_use_of operation) behind (state_of 0) (state_of (bit_of code))) (instruction_tree two_pages script (state_of 0)) (instruction_tree two_pages script (state_of (bit_of code)))

abbrev IsApart : Operation → Code → (opcode : ℕ) → Type 0
IsApart operation code opcode = Apart operation code opcode (script_by operation (instr_of opcode (operands_for operation)))

-- no code is in the empty set
nothing_read : {X : Type 0} (code : Code) → holds code none ≡ true → X
nothing_read negative is = absurd (false≢true is)
nothing_read zero_code is = absurd (false≢true is)
nothing_read overflow is = absurd (false≢true is)
nothing_read carry is = absurd (false≢true is)

-- R0 is another, or R1, or the PC
abbrev first_is : (value : ℕ) → List ℕ → Bool
first_is value registers = slice_index registers 0 == value

abbrev second_is : (value : ℕ) → List ℕ → Bool
second_is value registers = slice_index registers 1 == value

branch_apart : (condition : Condition) (code : Code) (opcode : ℕ) → holds code (tested_by condition) ≡ true → IsApart (BranchIf condition) code opcode
unfolding code_use_of tested_by operation_script body operands_from evaluated_row operands_of find read_found obtain locate modify_at put store tests branch_if
branch_apart NotEqual zero_code opcode is alike = true≢false (ap (eqb 4) alike.same.pc)
branch_apart Equal zero_code opcode is alike = false≢true (ap (eqb 4) alike.same.pc)
branch_apart Greater negative opcode is alike = true≢false (ap (eqb 4) alike.same.pc)
branch_apart Greater zero_code opcode is alike = true≢false (ap (eqb 4) alike.same.pc)
branch_apart LessOrEqual negative opcode is alike = false≢true (ap (eqb 4) alike.same.pc)
branch_apart LessOrEqual zero_code opcode is alike = false≢true (ap (eqb 4) alike.same.pc)
branch_apart GreaterOrEqual negative opcode is alike = true≢false (ap (eqb 4) alike.same.pc)
branch_apart Less negative opcode is alike = false≢true (ap (eqb 4) alike.same.pc)
branch_apart GreaterUnsigned zero_code opcode is alike = true≢false (ap (eqb 4) alike.same.pc)
branch_apart GreaterUnsigned carry opcode is alike = true≢false (ap (eqb 4) alike.same.pc)
branch_apart LessOrEqualUnsigned zero_code opcode is alike = false≢true (ap (eqb 4) alike.same.pc)
branch_apart LessOrEqualUnsigned carry opcode is alike = false≢true (ap (eqb 4) alike.same.pc)
branch_apart OverflowClear overflow opcode is alike = true≢false (ap (eqb 4) alike.same.pc)
branch_apart OverflowSet overflow opcode is alike = false≢true (ap (eqb 4) alike.same.pc)
branch_apart CarryClear carry opcode is alike = true≢false (ap (eqb 4) alike.same.pc)
branch_apart CarrySet carry opcode is alike = false≢true (ap (eqb 4) alike.same.pc)
branch_apart _ _ opcode is alike = false≢true is

each_apart : (operation : Operation) (code : Code) (opcode : ℕ) → holds code (code_use_of operation).reads ≡ true → IsApart operation code opcode
unfolding code_use_of tested_by operation_script body operands_from evaluated_row operands_of find read_found obtain locate modify_at put store move_psl change_psw add_with_carry subtract_with_carry replace sum_of difference_of finish
each_apart MovePsl negative opcode is alike = true≢false (ap (first_is user_mode) alike.same.registers)
each_apart MovePsl zero_code opcode is alike = true≢false (ap (first_is user_mode) alike.same.registers)
each_apart MovePsl overflow opcode is alike = true≢false (ap (first_is user_mode) alike.same.registers)
each_apart MovePsl carry opcode is alike = true≢false (ap (first_is user_mode) alike.same.registers)
each_apart BitSetPsw negative opcode is alike = false≢true (alike.written negative refl)
each_apart BitSetPsw zero_code opcode is alike = false≢true (alike.written zero_code refl)
each_apart BitSetPsw overflow opcode is alike = false≢true (alike.written overflow refl)
each_apart BitSetPsw carry opcode is alike = false≢true (alike.written carry refl)
each_apart BitClearPsw negative opcode is alike = false≢true (alike.written negative refl)
each_apart BitClearPsw zero_code opcode is alike = false≢true (alike.written zero_code refl)
each_apart BitClearPsw overflow opcode is alike = false≢true (alike.written overflow refl)
each_apart BitClearPsw carry opcode is alike = false≢true (alike.written carry refl)
each_apart AddWithCarry carry opcode is alike = true≢false (ap (second_is 0) alike.same.registers)
each_apart SubtractWithCarry carry opcode is alike = true≢false (ap (second_is 0) alike.same.registers)
each_apart AddWithCarry _ opcode is alike = false≢true is
each_apart SubtractWithCarry _ opcode is alike = false≢true is
each_apart (BranchIf condition) code opcode is alike = branch_apart condition code opcode is alike
each_apart _ code opcode is alike = nothing_read code is

pub codes_read_have_effect : CodesReadHaveEffect
codes_read_have_effect opcode operation code at is = record {
  pages = two_pages;
  is_table = is_table;
  thread = 0;
  instr = instr_of opcode (operands_for operation);
  has_opcode = refl;
  one = state_of 0;
  other = state_of (bit_of code);
  is_state = (is_state_of 0 (lit< tt), is_state_of (bit_of code) (small code));
  same = record { registers = refl; pc = refl; upper = upper_same code; handler = refl; pending = refl };
  others = others_same code;
  apart = any_by (Apart operation code opcode) operation (instr_of opcode (operands_for operation)) at (each_apart operation code opcode is);
}
