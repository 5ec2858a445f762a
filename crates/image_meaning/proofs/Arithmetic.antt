-- Arithmetic and logical instructions.
use Rattle.std.proofs.Common.{◌≡◌, ℕ, ◌<◌, ◌≤◌, ◌+◌, ◌%◌, ◌^◌, ◌==◌, false, arith, List, Bool, true}
use Rattle.std.specs.Prelude.{ℤ, pos, negsuc}
use Rattle.std.proofs.lemmas.Bool.{eqb-false}
use Rattle.vax_form.specs.Size.{bytes_of, size_of}
use Rattle.vax_form.specs.Pages.{is_allowed}
use Rattle.vax_form.specs.Ranges.{FitsPage}
use Rattle.vax_form.specs.Script.{get}
use Rattle.vax_form.specs.declared.instr.Size.{Size}
use Rattle.vax_form.specs.declared.instr.Size.TheVariants.{Byte, Word, Long, Quad}
use Rattle.vax_form.specs.declared.instr.Width.{Width}
use Rattle.vax_form.specs.declared.instr.Instr.{Instr}
use Rattle.vax_form.specs.declared.operation.BinaryOperation.{BinaryOperation}
use Rattle.vax_form.specs.declared.state.RefKind.TheVariants as references
use Rattle.vt_words.specs.Values.{value_of}
use Rattle.vt_words.specs.Arithmetic.{sum_of, difference_of, negation_of, conversion_of, extended_product_of}
use Rattle.vt_words.specs.Shifts.{rotation_of}
use Rattle.vt_words.specs.declared.arithmetic.Coded.{Coded}
use Rattle.vax_meaning.specs.declared.evaluation.Evaluated.{Evaluated}
use Rattle.vax_meaning.specs.declared.operands.Location.{Location}
use Rattle.vax_meaning.specs.declared.operands.Location.TheVariants.{InRegister, InMemory}
use Rattle.vax_meaning.specs.Evaluation.{value_of_place, location_of_place}
use Rattle.vax_meaning.specs.Codes.{sign_of, carry_of}
use Rattle.vax_meaning.specs.Arithmetic.{replace, give_coded, binary_of, finish_binary, two_operands, three_operands, increment, decrement, move_negated, convert, add_with_carry, subtract_with_carry, add_aligned, leave_aligned, add_aligned_word, extended_multiply, shift_of, arithmetic_shift, rotate}
use Rattle.vax_form.specs.declared.pages.Pages.{Pages}
use Rattle.image_meaning.proofs.Keeping.{Keeps, Any, keep_pure, keep_bind, keep_then, keep_choice, keep_either, keep_get, keep_fail, keep_written, kept, stay_check_write}
use Rattle.image_meaning.proofs.Allowed.{first_allowed}
use Rattle.image_meaning.proofs.States.{IsLongword}
use Rattle.image_meaning.proofs.Memory.{keep_lock}
use Rattle.image_meaning.proofs.Operands.{FitsLocation, FitsSize, Writable, width_fits, keep_put, keep_store}
use Rattle.image_meaning.proofs.Evaluations.{FitsValues}
use Rattle.image_meaning.proofs.Codes.{FitsInstr, keep_codes, keep_all, keep_pc, keep_go_to, keep_finish}
use Rattle.image_meaning.proofs.Moves.{keep_give}

keep_replace : {pages : Pages} {w : Bool} (instr : Instr) (place : ℕ) (size : Size) (answer : Coded) (values : List Evaluated) → FitsInstr instr → FitsValues values → FitsSize size answer.value
    → Writable pages (location_of_place values place) size → Keeps pages w true Any (replace instr place size answer values)
unfolding replace
keep_replace instr place size answer values fits all sized may =
    keep_then (keep_put (location_of_place values place) size answer.value (all place) sized may) (keep_then (keep_all answer) (keep_finish instr.after fits.after))

keep_give_coded : {pages : Pages} (instr : Instr) (place : ℕ) (size : Size) (answer : Coded) (values : List Evaluated) → FitsInstr instr → FitsValues values → FitsSize size answer.value
    → Keeps pages false true Any (give_coded instr place size answer values)
unfolding give_coded
keep_give_coded instr place size answer values fits all sized =
    keep_then (keep_store (location_of_place values place) size answer.value (all place) sized) (keep_then (keep_all answer) (keep_finish instr.after fits.after))

keep_finish_binary : {pages : Pages} {w : Bool} (operation : BinaryOperation) (first pc : ℕ) → IsLongword pc → Keeps pages w w Any (finish_binary operation first pc)
unfolding finish_binary
keep_finish_binary operation first pc small = keep_either (keep_then (keep_pc pc small) (keep_pure tt)) (keep_finish pc small)

any_carry : {pages : Pages} {w : Bool} → Keeps pages w w Any (get carry_of)
any_carry = keep_get (λ state is. tt)

pub keep_two_operands : {pages : Pages} (instr : Instr) (operation : BinaryOperation) (width : Width) (values : List Evaluated) → FitsInstr instr → FitsValues values
    → Writable pages (location_of_place values 1) (size_of width) → Keeps pages false true Any (two_operands instr operation width values)
unfolding two_operands
keep_two_operands instr operation width values fits all may =
    let first = value_of_place values 0 (size_of width) in
    keep_bind any_carry (λ carry _.
    let answer = binary_of operation (bytes_of (size_of width)) first (value_of_place values 1 (size_of width)) carry in
    keep_then (keep_put (location_of_place values 1) (size_of width) answer.value (all 1) (width_fits width answer.value) may)
    (keep_then (keep_all answer) (keep_finish_binary operation first instr.after fits.after)))

pub keep_three_operands : {pages : Pages} (instr : Instr) (operation : BinaryOperation) (width : Width) (values : List Evaluated) → FitsInstr instr → FitsValues values
    → Keeps pages false true Any (three_operands instr operation width values)
unfolding three_operands
keep_three_operands instr operation width values fits all =
    let first = value_of_place values 0 (size_of width) in
    keep_bind any_carry (λ carry _.
    let answer = binary_of operation (bytes_of (size_of width)) first (value_of_place values 1 (size_of width)) carry in
    keep_then (keep_store (location_of_place values 2) (size_of width) answer.value (all 2) (width_fits width answer.value))
    (keep_then (keep_all answer) (keep_finish_binary operation first instr.after fits.after)))

pub keep_increment : {pages : Pages} (instr : Instr) (width : Width) (values : List Evaluated) → FitsInstr instr → FitsValues values
    → Writable pages (location_of_place values 0) (size_of width) → Keeps pages false true Any (increment instr width values)
keep_increment instr width values fits all may =
    keep_replace instr 0 (size_of width) (sum_of (bytes_of (size_of width)) (value_of_place values 0 (size_of width)) 1 false) values fits all (width_fits width _) may

pub keep_decrement : {pages : Pages} (instr : Instr) (width : Width) (values : List Evaluated) → FitsInstr instr → FitsValues values
    → Writable pages (location_of_place values 0) (size_of width) → Keeps pages false true Any (decrement instr width values)
keep_decrement instr width values fits all may =
    keep_replace instr 0 (size_of width) (difference_of (bytes_of (size_of width)) (value_of_place values 0 (size_of width)) 1 false) values fits all (width_fits width _) may

pub keep_move_negated : {pages : Pages} (instr : Instr) (width : Width) (values : List Evaluated) → FitsInstr instr → FitsValues values → Keeps pages false true Any (move_negated instr width values)
keep_move_negated instr width values fits all =
    keep_give_coded instr 1 (size_of width) (negation_of (bytes_of (size_of width)) (value_of_place values 0 (size_of width))) values fits all (width_fits width _)

pub keep_convert : {pages : Pages} (instr : Instr) (from to : Width) (values : List Evaluated) → FitsInstr instr → FitsValues values → Keeps pages false true Any (convert instr from to values)
keep_convert instr from to values fits all =
    keep_give_coded instr 1 (size_of to) (conversion_of (bytes_of (size_of from)) (bytes_of (size_of to)) (value_of_place values 0 (size_of from))) values fits all (width_fits to _)

pub keep_add_with_carry : {pages : Pages} (instr : Instr) (values : List Evaluated) → FitsInstr instr → FitsValues values
    → Writable pages (location_of_place values 1) Long → Keeps pages false true Any (add_with_carry instr values)
unfolding add_with_carry
keep_add_with_carry instr values fits all may =
    keep_bind any_carry (λ carry _. keep_replace instr 1 Long (sum_of 4 (value_of_place values 1 Long) (value_of_place values 0 Long) carry) values fits all tt may)

pub keep_subtract_with_carry : {pages : Pages} (instr : Instr) (values : List Evaluated) → FitsInstr instr → FitsValues values
    → Writable pages (location_of_place values 1) Long → Keeps pages false true Any (subtract_with_carry instr values)
unfolding subtract_with_carry
keep_subtract_with_carry instr values fits all may =
    keep_bind any_carry (λ carry _. keep_replace instr 1 Long (difference_of 4 (value_of_place values 1 Long) (value_of_place values 0 Long) carry) values fits all tt may)

-- a word at an even address lies within a quadword
even_fits : (address : ℕ) → (address % 2 == 1) ≡ false → address % 8 + 2 ≤ 8
even_fits address even = let other = eqb-false (address % 2) 1 even in omega arith

is_even : (address : ℕ) → (address % 2 == 1) ≡ false → address % 2 ≡ 0
is_even address even = let other = eqb-false (address % 2) 1 even in omega arith

low_word : (value : ℕ) → value % 2 ^ 16 < 2 ^ 16
low_word value = omega arith

-- the interlocked reference to a word that was checked
aligned_fits : (pages : Pages) (address addend : ℕ) → IsLongword address → (address % 2 == 1) ≡ false → addend < 2 ^ 16 → is_allowed pages address true ≡ true
    → FitsPage pages (record { address = address; count = 2; kind = references.Add addend })
aligned_fits pages address addend small even few may = record {
  quadword = record { longword = small; within = even_fits address even; bit = tt };
  allowed = may;
  value = (is_even address even, few);
}

keep_add_aligned : {pages : Pages} (location : Location) (addend : ℕ) → FitsLocation location → addend < 2 ^ 16 → Keeps pages false true Any (add_aligned location addend)
unfolding add_aligned
keep_add_aligned (InRegister n) addend fits few = keep_written (keep_get (λ state is. tt))
keep_add_aligned {pages = pages} (InMemory address) addend fits few =
    keep_choice (λ _. keep_fail tt) (λ even.
    keep_bind (kept (stay_check_write address 2 fits)) (λ _ all.
    keep_lock address 2 (references.Add addend) (aligned_fits pages address addend fits even few (first_allowed pages true address 2 fits (omega arith) all))))

keep_leave_aligned : {pages : Pages} (location : Location) (value : ℕ) → FitsLocation location → Keeps pages true true Any (leave_aligned location value)
unfolding leave_aligned
keep_leave_aligned (InRegister n) value fits = keep_put (InRegister n) Word value fits tt tt
keep_leave_aligned (InMemory address) value fits = keep_pure tt

pub keep_add_aligned_word : {pages : Pages} (instr : Instr) (values : List Evaluated) → FitsInstr instr → FitsValues values → Keeps pages false true Any (add_aligned_word instr values)
unfolding add_aligned_word
keep_add_aligned_word instr values fits all =
    let addend = value_of_place values 0 Word in
    keep_bind (keep_add_aligned (location_of_place values 1) addend (all 1) (low_word _)) (λ found _.
    let sum = sum_of 2 found addend false in
    keep_then (keep_leave_aligned (location_of_place values 1) sum.value (all 1)) (keep_then (keep_all sum) (keep_finish instr.after fits.after)))

value_below : (number : ℤ) → value_of 8 number < 2 ^ 64
value_below (pos n) = omega arith
value_below (negsuc n) = omega arith

product_below : (a b addend : ℕ) → extended_product_of a b addend < 2 ^ 64
unfolding extended_product_of
product_below a b addend = value_below _

pub keep_extended_multiply : {pages : Pages} (instr : Instr) (values : List Evaluated) → FitsInstr instr → FitsValues values → Keeps pages false true Any (extended_multiply instr values)
unfolding extended_multiply
keep_extended_multiply instr values fits all =
    let product = extended_product_of (value_of_place values 0 Long) (value_of_place values 1 Long) (value_of_place values 2 Long) in
    keep_then (keep_store (location_of_place values 3) Quad product (all 3) (product_below (value_of_place values 0 Long) (value_of_place values 1 Long) (value_of_place values 2 Long)))
    (keep_then (keep_codes (sign_of Quad product) (product == 0) false false) (keep_go_to instr.after fits.after))

pub keep_arithmetic_shift : {pages : Pages} (instr : Instr) (values : List Evaluated) → FitsInstr instr → FitsValues values → Keeps pages false true Any (arithmetic_shift instr values)
keep_arithmetic_shift instr values fits all = keep_give_coded instr 2 Long (shift_of (value_of_place values 1 Long) (value_of_place values 0 Byte)) values fits all tt

pub keep_rotate : {pages : Pages} (instr : Instr) (values : List Evaluated) → FitsInstr instr → FitsValues values → Keeps pages false true Any (rotate instr values)
keep_rotate instr values fits all = keep_give instr 2 Long (rotation_of (value_of_place values 1 Long) (value_of_place values 0 Byte % 32)) values fits all tt
