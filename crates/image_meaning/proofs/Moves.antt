-- Moves, tests and the processor status.
use Rattle.std.proofs.Common.{ℕ, ◌<◌, ◌-◌, ◌+◌, ◌%◌, ◌^◌, ◌==◌, Bool, true, false, arith, List, bit_and, bit_or, if◌then◌else◌}
use Rattle.std.proofs.lemmas.Bool.{ltb-false}
use Rattle.std.proofs.lemmas.Nat.{or_of_8, and_le_l}
use Rattle.vax_form.specs.Size.{bytes_of, size_of}
use Rattle.vax_form.specs.declared.instr.Size.{Size}
use Rattle.vax_form.specs.declared.instr.Size.TheVariants.{Word, Long}
use Rattle.vax_form.specs.declared.instr.Width.{Width}
use Rattle.vax_form.specs.declared.instr.Instr.{Instr}
use Rattle.vax_meaning.specs.declared.evaluation.Evaluated.{Evaluated}
use Rattle.vax_meaning.specs.Evaluation.{value_of_place, location_of_place}
use Rattle.vax_meaning.specs.Codes.{carry_of, sign_of}
use Rattle.vax_meaning.specs.Moves.{give, move_value, clear, move_address, move_complemented, move_zero_extended, push, push_value, compare, test_value, bit_test, move_psl, change_psw}
use Rattle.vt_words.specs.Shifts.{complement_of}
use Rattle.vax_form.specs.declared.pages.Pages.{Pages}
use Rattle.image_meaning.proofs.Keeping.{Keeps, Any, keep_bind, keep_then, keep_choice, keep_get, keep_change, keep_fail, kept, stay_check_write}
use Rattle.image_meaning.proofs.States.{IsLongword, low_longword, with_codes_is, with_psw_is}
use Rattle.image_meaning.proofs.Memory.{keep_write}
use Rattle.image_meaning.proofs.Operands.{FitsSize, low_fits, zero_fits, width_fits, keep_get_register, keep_set_register, keep_store}
use Rattle.image_meaning.proofs.Evaluations.{FitsValues}
use Rattle.image_meaning.proofs.Codes.{FitsInstr, keep_codes, keep_result, keep_comparison, keep_go_to}

pub keep_give : {pages : Pages} (instr : Instr) (place : ℕ) (size : Size) (value : ℕ) (values : List Evaluated) → FitsInstr instr → FitsValues values → FitsSize size value
    → Keeps pages false true Any (give instr place size value values)
unfolding give
keep_give instr place size value values fits all sized =
    keep_then (keep_store (location_of_place values place) size value (all place) sized) (keep_then (keep_result size value) (keep_go_to instr.after fits.after))

pub keep_move_value : {pages : Pages} (instr : Instr) (size : Size) (values : List Evaluated) → FitsInstr instr → FitsValues values → Keeps pages false true Any (move_value instr size values)
keep_move_value instr size values fits all = keep_give instr 1 size (value_of_place values 0 size) values fits all (low_fits size _)

pub keep_clear : {pages : Pages} (instr : Instr) (size : Size) (values : List Evaluated) → FitsInstr instr → FitsValues values → Keeps pages false true Any (clear instr size values)
keep_clear instr size values fits all = keep_give instr 0 size 0 values fits all (zero_fits size)

pub keep_move_address : {pages : Pages} (instr : Instr) (values : List Evaluated) → FitsInstr instr → FitsValues values → Keeps pages false true Any (move_address instr values)
keep_move_address instr values fits all = keep_give instr 1 Long (value_of_place values 0 Long) values fits all tt

pub keep_move_complemented : {pages : Pages} (instr : Instr) (width : Width) (values : List Evaluated) → FitsInstr instr → FitsValues values → Keeps pages false true Any (move_complemented instr width values)
keep_move_complemented instr width values fits all =
    keep_give instr 1 (size_of width) (complement_of (bytes_of (size_of width)) (value_of_place values 0 (size_of width))) values fits all (width_fits width _)

pub keep_move_zero_extended : {pages : Pages} (instr : Instr) (from to : Width) (values : List Evaluated) → FitsInstr instr → FitsValues values → Keeps pages false true Any (move_zero_extended instr from to values)
unfolding move_zero_extended
keep_move_zero_extended instr from to values fits all =
    let value = value_of_place values 0 (size_of from) in
    keep_then (keep_store (location_of_place values 1) (size_of to) value (all 1) (width_fits to value))
    (keep_then (keep_change (λ state is. with_codes_is false (value == 0) false (carry_of state) state is)) (keep_go_to instr.after fits.after))

pub keep_push : {pages : Pages} (value : ℕ) → Keeps pages false true Any (push value)
unfolding push
keep_push value =
    keep_bind (keep_get_register 14) (λ stack _.
    let top = (stack + (2 ^ 32 - 4)) % 2 ^ 32 in
    let small : IsLongword top = low_longword (stack + (2 ^ 32 - 4)) in
    keep_bind (kept (stay_check_write top 4 small)) (λ _ all.
    keep_then (keep_write top 4 value small (omega arith) (omega arith) all) (keep_set_register 14 top small)))

pub keep_push_value : {pages : Pages} (instr : Instr) (values : List Evaluated) → FitsInstr instr → Keeps pages false true Any (push_value instr values)
unfolding push_value
keep_push_value instr values fits = keep_then (keep_push (value_of_place values 0 Long)) (keep_then (keep_result Long (value_of_place values 0 Long)) (keep_go_to instr.after fits.after))

pub keep_compare : {pages : Pages} {w : Bool} (instr : Instr) (width : Width) (values : List Evaluated) → FitsInstr instr → Keeps pages w w Any (compare instr width values)
unfolding compare
keep_compare instr width values fits =
    keep_then (keep_comparison width (value_of_place values 0 (size_of width)) (value_of_place values 1 (size_of width))) (keep_go_to instr.after fits.after)

pub keep_test : {pages : Pages} {w : Bool} (instr : Instr) (width : Width) (values : List Evaluated) → FitsInstr instr → Keeps pages w w Any (test_value instr width values)
unfolding test_value
keep_test instr width values fits =
    let value = value_of_place values 0 (size_of width) in
    keep_then (keep_codes (sign_of (size_of width) value) (value == 0) false false) (keep_go_to instr.after fits.after)

pub keep_bit_test : {pages : Pages} {w : Bool} (instr : Instr) (width : Width) (values : List Evaluated) → FitsInstr instr → Keeps pages w w Any (bit_test instr width values)
unfolding bit_test
keep_bit_test instr width values fits =
    keep_then (keep_result (size_of width) (bit_and (value_of_place values 0 (size_of width)) (value_of_place values 1 (size_of width)))) (keep_go_to instr.after fits.after)

pub keep_move_psl : {pages : Pages} (instr : Instr) (values : List Evaluated) → FitsInstr instr → FitsValues values → Keeps pages false true Any (move_psl instr values)
unfolding move_psl
keep_move_psl instr values fits all =
    keep_bind {P = Any} (keep_get (λ state is. tt)) (λ psl _. keep_then (keep_store (location_of_place values 0) Long psl (all 0) tt) (keep_go_to instr.after fits.after))

psw_changed : (set : Bool) (psw mask : ℕ) → psw < 256 → mask < 256 → (if set then bit_or psw mask else bit_and psw (65535 - mask)) < 256
psw_changed true psw mask small few = or_of_8 psw mask small few
psw_changed false psw mask small few = omega (arith, and_le_l psw (65535 - mask))

pub keep_change_psw : {pages : Pages} {w : Bool} (instr : Instr) (set : Bool) (values : List Evaluated) → FitsInstr instr → Keeps pages w w Any (change_psw instr set values)
unfolding change_psw
keep_change_psw instr set values fits =
    let mask = value_of_place values 0 Word in
    keep_choice (λ _. keep_fail tt) (λ few.
    let most : mask < 256 = omega (arith, ltb-false 255 mask few) in
    keep_then (keep_change (λ state is. with_psw_is _ state (psw_changed set state.psw mask is.psw most) is)) (keep_go_to instr.after fits.after))
