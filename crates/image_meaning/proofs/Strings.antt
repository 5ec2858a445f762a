-- Character strings, byte by byte, and INDEX.
use Rattle.std.proofs.Common.{ℕ, zero, suc, ◌+◌, ◌-◌, ◌≤◌, ◌^◌, ◌==◌, min, Bool, true, false, not, arith, lit<, List}
use Rattle.std.specs.Prelude.{nat_le}
use Rattle.vax_form.specs.Script.{change}
use Rattle.vax_form.specs.State.{IsState, with_register}
use Rattle.vax_form.specs.declared.instr.Size.TheVariants.{Byte, Word, Long}
use Rattle.vax_form.specs.declared.instr.Width.TheVariants as widths
use Rattle.vax_form.specs.declared.instr.Instr.{Instr}
use Rattle.vax_form.specs.declared.state.VaxState.{VaxState}
use Rattle.vax_meaning.specs.declared.evaluation.Evaluated.{Evaluated}
use Rattle.vax_meaning.specs.Evaluation.{value_of_place, location_of_place}
use Rattle.vax_meaning.specs.Codes.{sign_of}
use Rattle.vax_long.specs.Index.{index_of, index}
use Rattle.vax_long.specs.Strings.{beyond, beside, beginning, move_bytes, move_string, fill_bytes, with_moved, move_characters, move_characters_filled, fetch_byte, compare_bytes, compare_characters, scan_bytes, scan_characters}
use Rattle.vax_form.specs.declared.pages.Pages.{Pages}
use Rattle.image_meaning.proofs.Keeping.{Keeps, Any, keep_pure, keep_bind, keep_then, keep_either, keep_change, keep_written, kept, stay_bind, stay_check_read, stay_check_write}
use Rattle.image_meaning.proofs.Allowed.{Allows, Walk, first_allowed, walk_up, walk_string}
use Rattle.image_meaning.proofs.States.{IsLongword, low_longword, with_register_is}
use Rattle.image_meaning.proofs.Memory.{byte_fits, stay_read_part, stay_write_part}
use Rattle.image_meaning.proofs.Operands.{keep_set_register, keep_store}
use Rattle.image_meaning.proofs.Evaluations.{FitsValues}
use Rattle.image_meaning.proofs.Codes.{FitsInstr, keep_codes, keep_comparison, keep_pc, keep_go_to}

-- ---- addresses and counts

beyond_is : (address count : ℕ) → IsLongword (beyond address count)
beyond_is address count = low_longword (address + count)

beside_is : (down : Bool) (address : ℕ) → IsLongword (beside down address)
beside_is true address = low_longword (address + (2 ^ 32 - 1))
beside_is false address = low_longword (address + 1)

beginning_is : (down : Bool) (address count : ℕ) → IsLongword address → IsLongword (beginning down address count)
beginning_is true address count small = beside_is true (beyond address count)
beginning_is false address count small = small

word_is : (values : List Evaluated) (place : ℕ) → IsLongword (value_of_place values place Word)
word_is values place = omega arith

address_is : (values : List Evaluated) (place : ℕ) → IsLongword (value_of_place values place Long)
address_is values place = low_longword _

less_is : (a b : ℕ) → IsLongword a → IsLongword (a - b)
less_is a b small = omega arith

min_right : (a b : ℕ) → min a b ≤ b
min_right a b = omega arith

rest_fits : (a b : ℕ) → min a b + (b - min a b) ≤ b
rest_fits a b = omega arith

-- ---- moves

keep_move_bytes : {pages : Pages} {w : Bool} (down : Bool) (count from to : ℕ) → IsLongword from → IsLongword to
    → Walk pages false down count from → Walk pages true down count to → Keeps pages w true Any (move_bytes down count from to)
unfolding move_bytes
keep_move_bytes down zero from to source target reads writes = keep_written (keep_pure tt)
keep_move_bytes down (suc count) from to source target reads writes =
    keep_bind (kept (stay_read_part from 1 source (byte_fits from) reads.0)) (λ byte _.
    keep_then (kept (stay_write_part to 1 byte target (byte_fits to) writes.0))
    (keep_move_bytes down count (beside down from) (beside down to) (beside_is down from) (beside_is down to) reads.1 writes.1))

keep_move_string : {pages : Pages} {w : Bool} (count whole room source destination : ℕ) → IsLongword source → IsLongword destination
    → count ≤ whole → Allows pages false source whole → count ≤ room → Allows pages true destination room → Keeps pages w true Any (move_string count source destination)
unfolding move_string
keep_move_string {pages = pages} count whole room source destination from to less reads fits writes =
    let down = not (nat_le destination source) in
    keep_move_bytes down count (beginning down source count) (beginning down destination count) (beginning_is down source count from) (beginning_is down destination count to)
    (walk_string pages false down source whole count from less reads) (walk_string pages true down destination room count to fits writes)

keep_fill_bytes : {pages : Pages} {w : Bool} (count to byte : ℕ) → IsLongword to → Walk pages true false count to → Keeps pages w true Any (fill_bytes count to byte)
unfolding fill_bytes
keep_fill_bytes zero to byte target writes = keep_written (keep_pure tt)
keep_fill_bytes (suc count) to byte target writes =
    keep_then (kept (stay_write_part to 1 byte target (byte_fits to) writes.0)) (keep_fill_bytes count (beside false to) byte (beside_is false to) writes.1)

with_moved_is : (left source destination : ℕ) (state : VaxState) → IsLongword left → IsLongword source → IsLongword destination → IsState state
    → IsState (with_moved left source destination state)
with_moved_is left source destination state few from to is =
    let s0 = with_register 0 left state in
    let s1 = with_register 1 source s0 in
    let s2 = with_register 2 0 s1 in
    let s3 = with_register 3 destination s2 in
    let s4 = with_register 4 0 s3 in
    with_register_is 5 0 s4 (lit< tt) (with_register_is 4 0 s3 (lit< tt) (with_register_is 3 destination s2 to
    (with_register_is 2 0 s1 (lit< tt) (with_register_is 1 source s0 from (with_register_is 0 left state few is)))))

keep_moved : {pages : Pages} {w : Bool} (left source destination : ℕ) → IsLongword left → IsLongword source → IsLongword destination → Keeps pages w w Any (change (with_moved left source destination))
keep_moved left source destination few from to = keep_change (λ state is. with_moved_is left source destination state few from to is)

pub keep_move_characters : {pages : Pages} (instr : Instr) (values : List Evaluated) → FitsInstr instr → Keeps pages false true Any (move_characters instr values)
unfolding move_characters
keep_move_characters instr values fits =
    let count = value_of_place values 0 Word in
    let source = value_of_place values 1 Long in
    let destination = value_of_place values 2 Long in
    keep_bind (kept (stay_check_read source count (address_is values 1))) (λ _ reads. keep_bind (kept (stay_check_write destination count (address_is values 2))) (λ _ writes.
    keep_then (keep_move_string count count count source destination (address_is values 1) (address_is values 2) (omega arith) reads (omega arith) writes)
    (keep_then (keep_moved 0 (beyond source count) (beyond destination count) (lit< tt) (beyond_is source count) (beyond_is destination count))
    (keep_then (keep_codes false true false false) (keep_go_to instr.after fits.after)))))

pub keep_move_characters_filled : {pages : Pages} (instr : Instr) (values : List Evaluated) → FitsInstr instr → Keeps pages false true Any (move_characters_filled instr values)
unfolding move_characters_filled
keep_move_characters_filled {pages = pages} instr values fits =
    let length = value_of_place values 0 Word in
    let source = value_of_place values 1 Long in
    let fill = value_of_place values 2 Byte in
    let room = value_of_place values 3 Word in
    let destination = value_of_place values 4 Long in
    let count = min length room in
    keep_bind (kept (stay_check_read source count (address_is values 1))) (λ _ reads. keep_bind (kept (stay_check_write destination room (address_is values 4))) (λ _ writes.
    keep_then (keep_move_string count count room source destination (address_is values 1) (address_is values 4) (omega arith) reads (min_right length room) writes)
    (keep_then (keep_fill_bytes (room - count) (beyond destination count) fill (beyond_is destination count) (walk_up pages true destination room writes (room - count) count (rest_fits length room)))
    (keep_then (keep_moved (length - count) (beyond source count) (beyond destination room) (less_is length count (word_is values 0)) (beyond_is source count) (beyond_is destination room))
    (keep_then (keep_comparison widths.Word length room) (keep_go_to instr.after fits.after))))))

-- ---- comparing and searching

keep_fetch_byte : {pages : Pages} {w : Bool} (address : ℕ) → IsLongword address → Keeps pages w w Any (fetch_byte address)
unfolding fetch_byte
keep_fetch_byte {pages = pages} address small =
    kept (stay_bind (stay_check_read address 1 small) (λ _ all. stay_read_part address 1 small (byte_fits address) (first_allowed pages false address 1 small (omega arith) all)))

one_less : (count : ℕ) → IsLongword (suc count) → IsLongword count
one_less count small = omega arith

keep_compare_bytes : {pages : Pages} {w : Bool} (count first second : ℕ) → IsLongword count → IsLongword first → IsLongword second → Keeps pages w w IsLongword (compare_bytes count first second)
unfolding compare_bytes
keep_compare_bytes zero first second few one other = keep_then (keep_codes false true false false) (keep_pure (lit< tt))
keep_compare_bytes (suc count) first second few one other =
    keep_bind (keep_fetch_byte first one) (λ a _. keep_bind (keep_fetch_byte second other) (λ b _.
    keep_either
    (keep_compare_bytes count (beside false first) (beside false second) (one_less count few) (beside_is false first) (beside_is false second))
    (keep_then (keep_comparison widths.Byte a b) (keep_pure few))))

pub keep_compare_characters : {pages : Pages} {w : Bool} (instr : Instr) (values : List Evaluated) → FitsInstr instr → Keeps pages w w Any (compare_characters instr values)
unfolding compare_characters
keep_compare_characters instr values fits =
    let count = value_of_place values 0 Word in
    let first = value_of_place values 1 Long in
    let second = value_of_place values 2 Long in
    keep_bind (keep_compare_bytes count first second (word_is values 0) (address_is values 1) (address_is values 2)) (λ left is.
    keep_then (keep_set_register 0 left is)
    (keep_then (keep_set_register 1 (beyond first (count - left)) (beyond_is first (count - left)))
    (keep_then (keep_set_register 2 left is)
    (keep_then (keep_set_register 3 (beyond second (count - left)) (beyond_is second (count - left))) (keep_go_to instr.after fits.after)))))

keep_scan_bytes : {pages : Pages} {w : Bool} (locates : Bool) (character count address : ℕ) → IsLongword count → IsLongword address → Keeps pages w w IsLongword (scan_bytes locates character count address)
unfolding scan_bytes
keep_scan_bytes locates character zero address few small = keep_pure (lit< tt)
keep_scan_bytes locates character (suc count) address few small =
    keep_bind (keep_fetch_byte address small) (λ byte _.
    keep_either (keep_pure few) (keep_scan_bytes locates character count (beside false address) (one_less count few) (beside_is false address)))

pub keep_scan_characters : {pages : Pages} {w : Bool} (instr : Instr) (locates : Bool) (values : List Evaluated) → FitsInstr instr → Keeps pages w w Any (scan_characters instr locates values)
unfolding scan_characters
keep_scan_characters instr locates values fits =
    let count = value_of_place values 1 Word in
    let address = value_of_place values 2 Long in
    keep_bind (keep_scan_bytes locates (value_of_place values 0 Byte) count address (word_is values 1) (address_is values 2)) (λ left is.
    keep_then (keep_set_register 0 left is)
    (keep_then (keep_set_register 1 (beyond address (count - left)) (beyond_is address (count - left)))
    (keep_then (keep_codes false (left == 0) false false) (keep_go_to instr.after fits.after))))

-- ---- INDEX

pub keep_index : {pages : Pages} (instr : Instr) (values : List Evaluated) → FitsInstr instr → FitsValues values → Keeps pages false true Any (index instr values)
unfolding index
keep_index instr values fits all =
    let result = index_of (value_of_place values 4 Long) (value_of_place values 0 Long) (value_of_place values 3 Long) in
    keep_then (keep_store (location_of_place values 5) Long result (all 5) tt)
    (keep_then (keep_codes (sign_of Long result) (result == 0) false false)
    (keep_then (keep_pc instr.after fits.after) (keep_either (keep_pure tt) (keep_pure tt))))
