-- Arithmetic and logical instructions.
-- VAX Architecture Reference Manual, "Integer Arithmetic and Logical Instructions"; the entry is named at each.
use Rattle.std.specs.Prelude.{ℕ, ◌-◌, ◌%◌, nat_lt, ◌==◌, List, Bool, true, false, bit_or, bit_xor, if◌then◌else◌}
use Rattle.vax_form.specs.Size.{bytes_of, size_of}
use Rattle.vax_form.specs.State.{register, with_pc}
use Rattle.vax_form.specs.Script.{Script, ◌>>=◌, ◌>>◌, pure, get, change, fail, when◌then◌else◌}
use Rattle.vax_form.specs.declared.instr.Size.{Size}
use Rattle.vax_form.specs.declared.instr.Size.TheVariants.{Byte, Word, Long, Quad}
use Rattle.vax_form.specs.declared.instr.Width.{Width}
use Rattle.vax_form.specs.declared.instr.Instr.{Instr}
use Rattle.vax_form.specs.declared.operation.BinaryOperation.{BinaryOperation}
use Rattle.vax_form.specs.declared.operation.BinaryOperation.TheVariants.{Add, Subtract, Multiply, Divide, BitSet, BitClear, ExclusiveOr}
use Rattle.vax_form.specs.declared.script.End.{End}
use Rattle.vax_form.specs.declared.script.End.TheVariants.{Traps}
use Rattle.vax_form.specs.declared.state.Exception.TheVariants.{ReservedOperand}
use Rattle.vax_form.specs.declared.state.RefKind.TheVariants as references
use Rattle.vt_words.specs.Arithmetic.{coded_value, sum_of, difference_of, negation_of, product_of, quotient_of, conversion_of, extended_product_of}
use Rattle.vt_words.specs.Shifts.{left_shift_of, right_shift_of, rotation_of, without}
use Rattle.vt_words.specs.declared.arithmetic.Coded.{Coded}
use Rattle.vax_meaning.specs.declared.evaluation.Evaluated.{Evaluated}
use Rattle.vax_meaning.specs.declared.operands.Location.{Location}
use Rattle.vax_meaning.specs.declared.operands.Location.TheVariants.{InRegister, InMemory}
use Rattle.vax_meaning.specs.Memory.{low_bytes, check, lock}
use Rattle.vax_meaning.specs.Operands.{put, store}
use Rattle.vax_meaning.specs.Evaluation.{value_of_place, location_of_place}
use Rattle.vax_meaning.specs.Codes.{with_codes, with_all, sign_of, carry_of, finish, go_to}
use Rattle.vax_meaning.specs.Moves.{give}

-- puts a result back where the operand of that place was read, with its codes
unfoldable pub replace : Instr → (place : ℕ) → Size → Coded → List Evaluated → Script End
replace instr place size answer values = do
  put (location_of_place values place) size answer.value
  change (with_all answer)
  finish instr.after

-- writes a result to the operand of that place, with its codes
unfoldable pub give_coded : Instr → (place : ℕ) → Size → Coded → List Evaluated → Script End
give_coded instr place size answer values = do
  store (location_of_place values place) size answer.value
  change (with_all answer)
  finish instr.after

-- what the operation makes of the second operand by the first; BIS, BIC and XOR keep C
unfoldable pub binary_of : BinaryOperation → (bytes first second : ℕ) → (carry : Bool) → Coded
binary_of Add bytes first second carry = sum_of bytes second first false
binary_of Subtract bytes first second carry = difference_of bytes second first false
binary_of Multiply bytes first second carry = product_of bytes second first
binary_of Divide bytes first second carry = quotient_of bytes second first
binary_of BitSet bytes first second carry = coded_value bytes (bit_or second first) false carry
binary_of BitClear bytes first second carry = coded_value bytes (without bytes second first) false carry
binary_of ExclusiveOr bytes first second carry = coded_value bytes (bit_xor second first) false carry

-- a division by zero, which always traps
abbrev pub divides_by_zero : BinaryOperation → (first : ℕ) → Bool
divides_by_zero Divide first = first == 0
divides_by_zero _ first = false

unfoldable pub finish_binary : BinaryOperation → (first pc : ℕ) → Script End
finish_binary operation first pc =
    when divides_by_zero operation first
    then (do
      change (with_pc pc)
      pure (Traps 2))
    else finish pc

-- ADD2, SUB2, MUL2, DIV2, BIS2, BIC2, XOR2
unfoldable pub two_operands : Instr → BinaryOperation → Width → List Evaluated → Script End
two_operands instr operation width values = do
  let first = value_of_place values 0 (size_of width)
  carry ← get carry_of
  let answer = binary_of operation (bytes_of (size_of width)) first (value_of_place values 1 (size_of width)) carry
  put (location_of_place values 1) (size_of width) answer.value
  change (with_all answer)
  finish_binary operation first instr.after

-- ADD3, SUB3, MUL3, DIV3, BIS3, BIC3, XOR3
unfoldable pub three_operands : Instr → BinaryOperation → Width → List Evaluated → Script End
three_operands instr operation width values = do
  let first = value_of_place values 0 (size_of width)
  carry ← get carry_of
  let answer = binary_of operation (bytes_of (size_of width)) first (value_of_place values 1 (size_of width)) carry
  store (location_of_place values 2) (size_of width) answer.value
  change (with_all answer)
  finish_binary operation first instr.after

-- INC
abbrev pub increment : Instr → Width → List Evaluated → Script End
increment instr width values = replace instr 0 (size_of width) (sum_of (bytes_of (size_of width)) (value_of_place values 0 (size_of width)) 1 false) values

-- DEC
abbrev pub decrement : Instr → Width → List Evaluated → Script End
decrement instr width values = replace instr 0 (size_of width) (difference_of (bytes_of (size_of width)) (value_of_place values 0 (size_of width)) 1 false) values

-- MNEG
abbrev pub move_negated : Instr → Width → List Evaluated → Script End
move_negated instr width values = give_coded instr 1 (size_of width) (negation_of (bytes_of (size_of width)) (value_of_place values 0 (size_of width))) values

-- CVT
abbrev pub convert : Instr → (from to : Width) → List Evaluated → Script End
convert instr from to values =
    give_coded instr 1 (size_of to) (conversion_of (bytes_of (size_of from)) (bytes_of (size_of to)) (value_of_place values 0 (size_of from))) values

-- ADWC: operand and C are added in one sum
unfoldable pub add_with_carry : Instr → List Evaluated → Script End
add_with_carry instr values = do
  carry ← get carry_of
  replace instr 1 Long (sum_of 4 (value_of_place values 1 Long) (value_of_place values 0 Long) carry) values

-- SBWC: operand and C are subtracted in one difference
unfoldable pub subtract_with_carry : Instr → List Evaluated → Script End
subtract_with_carry instr values = do
  carry ← get carry_of
  replace instr 1 Long (difference_of 4 (value_of_place values 1 Long) (value_of_place values 0 Long) carry) values

-- what ADAWI finds: the low word of a register, or in memory what was there before its one interlocked reference. An
-- odd address is a reserved operand, before the page is checked
unfoldable pub add_aligned : Location → (addend : ℕ) → Script ℕ
add_aligned (InRegister n) addend = get (λ state. low_bytes 2 (register n state))
add_aligned (InMemory address) addend =
    when address % 2 == 1
    then fail ReservedOperand
    else (do
      check address 2 true
      lock address 2 (references.Add addend))

-- what ADAWI leaves in a register; in memory the reference has left it
unfoldable pub leave_aligned : Location → (value : ℕ) → Script (Unit {0})
leave_aligned (InRegister n) value = put (InRegister n) Word value
leave_aligned (InMemory address) value = pure tt

-- ADAWI
unfoldable pub add_aligned_word : Instr → List Evaluated → Script End
add_aligned_word instr values = do
  let addend = value_of_place values 0 Word
  found ← add_aligned (location_of_place values 1) addend
  let sum = sum_of 2 found addend false
  leave_aligned (location_of_place values 1) sum.value
  change (with_all sum)
  finish instr.after

-- EMUL: V and C are 0
unfoldable pub extended_multiply : Instr → List Evaluated → Script End
extended_multiply instr values = do
  let product = extended_product_of (value_of_place values 0 Long) (value_of_place values 1 Long) (value_of_place values 2 Long)
  store (location_of_place values 3) Quad product
  change (with_codes (sign_of Quad product) (product == 0) false false)
  go_to instr.after

-- the shift by a signed byte: to the left where it is not negative
abbrev pub shift_of : (source count : ℕ) → Coded
shift_of source count = if nat_lt count 128 then left_shift_of source count else coded_value 4 (right_shift_of source (256 - count)) false false

-- ASHL
abbrev pub arithmetic_shift : Instr → List Evaluated → Script End
arithmetic_shift instr values = give_coded instr 2 Long (shift_of (value_of_place values 1 Long) (value_of_place values 0 Byte)) values

-- ROTL: by the count modulo 32
abbrev pub rotate : Instr → List Evaluated → Script End
rotate instr values = give instr 2 Long (rotation_of (value_of_place values 1 Long) (value_of_place values 0 Byte % 32)) values
