-- Bit fields.
use Rattle.std.proofs.Common.{◌≡◌, ℕ, ◌<◌, ◌≤◌, ◌+◌, ◌%◌, ◌^◌, ◌==◌, Bool, true, false, arith, List, refl}
use Rattle.std.specs.Prelude.{nat_lt, ◌||◌}
use Rattle.std.proofs.lemmas.Bool.{ltb-false, eqb-false}
use Rattle.vax_form.specs.declared.instr.Size.TheVariants.{Byte, Long, Quad}
use Rattle.vax_form.specs.declared.instr.Instr.{Instr}
use Rattle.vax_form.specs.declared.operation.BitBranch.{BitBranch}
use Rattle.vax_form.specs.declared.operation.BitStore.{BitStore}
use Rattle.vax_form.specs.declared.operation.BitStore.TheVariants.{Nothing, Plain, Interlocked}
use Rattle.vax_form.specs.declared.state.RefKind.TheVariants.{SetBit, ClearBit}
use Rattle.vt_words.specs.Values.{bit}
use Rattle.vax_meaning.specs.declared.evaluation.Evaluated.{Evaluated}
use Rattle.vax_meaning.specs.declared.operands.Location.{Location}
use Rattle.vax_meaning.specs.declared.operands.Location.TheVariants.{InRegister, InMemory}
use Rattle.vax_meaning.specs.Evaluation.{value_of_place, location_of_place}
use Rattle.vax_meaning.specs.Branches.{pc_after}
use Rattle.vax_meaning.specs.Fields.{with_bits, field_address, field_bytes, is_outside, field_value, extended, extract_field, put_bytes, put_field, insert_field, leave_bit, byte_found, bit_found, branch_on_bit}
use Rattle.vax_meaning.proofs.Bits.{with_bits_below}
use Rattle.vax_form.specs.declared.pages.Pages.{Pages}
use Rattle.image_meaning.proofs.Keeping.{Keeps, Any, keep_pure, keep_bind, keep_then, keep_choice, keep_fail, keep_written, kept, stay_check_write}
use Rattle.image_meaning.proofs.Allowed.{first_allowed, read_allowed}
use Rattle.image_meaning.proofs.States.{IsLongword, low_longword}
use Rattle.image_meaning.proofs.Memory.{byte_fits, keep_read, keep_write, keep_fetch, keep_lock}
use Rattle.image_meaning.proofs.Operands.{FitsLocation, low_fits, keep_put}
use Rattle.image_meaning.proofs.Evaluations.{FitsValues}
use Rattle.image_meaning.proofs.Codes.{FitsInstr, keep_go_to, pc_after_is}
use Rattle.image_meaning.proofs.Moves.{keep_give}

-- a field of at most 32 bits has bits of at most eight bytes
field_few : (position size : ℕ) → size ≤ 32 → field_bytes position size ≤ 8
field_few position size small = omega arith

-- and one that has a bit has one of at least one byte
field_some : (position size : ℕ) → (size == 0) ≡ false → 1 ≤ field_bytes position size
field_some position size some = let other = eqb-false size 0 some in omega arith

address_is : (base position : ℕ) → IsLongword (field_address base position)
address_is base position = low_longword _

keep_field_value : {pages : Pages} {w : Bool} (location : Location) (registers position size : ℕ) → size ≤ 32 → Keeps pages w w Any (field_value location registers position size)
unfolding field_value
keep_field_value (InRegister n) registers position size small = keep_pure tt
keep_field_value (InMemory base) registers position size small =
    keep_choice (λ _. keep_pure tt) (λ some.
    keep_bind (keep_fetch (field_address base position) (field_bytes position size) (address_is base position) (field_some position size some) (field_few position size small))
    (λ bytes _. keep_pure tt))

-- where the sum of the tests is false, the first is false
first_false : (a b : Bool) → (a || b) ≡ false → a ≡ false
first_false true b is = is
first_false false b is = refl

pub keep_extract_field : {pages : Pages} (instr : Instr) (signed : Bool) (values : List Evaluated) → FitsInstr instr → FitsValues values → Keeps pages false true Any (extract_field instr signed values)
unfolding extract_field
keep_extract_field instr signed values fits all =
    let position = value_of_place values 0 Long in
    let size = value_of_place values 1 Byte in
    let location = location_of_place values 2 in
    keep_choice (λ _. keep_fail tt) (λ fine.
    keep_bind (keep_field_value location (value_of_place values 2 Quad) position size (ltb-false 32 size (first_false (nat_lt 32 size) (is_outside location position size) fine)))
    (λ value _. keep_give instr 3 Long (extended signed value size) values fits all tt))

keep_put_bytes : {pages : Pages} (address count position size value : ℕ) → IsLongword address → 1 ≤ count → count ≤ 8 → Keeps pages false true Any (put_bytes address count position size value)
keep_put_bytes {pages = pages} address count position size value small some few =
    keep_bind (kept (stay_check_write address count small)) (λ _ all.
    keep_bind (keep_read address count small some few (read_allowed pages address count all))
    (λ bytes _. keep_write address count (with_bits bytes position size value) small some few all))

room : (position size : ℕ) → size ≤ 32 → position % 32 + size < 64
room position size small = omega arith

bits_below : (whole position size value : ℕ) → position + size < 64 → whole < 2 ^ 64 → with_bits whole position size value < 2 ^ 64
bits_below whole position size value fits small =
    with_bits_below whole position size value (2 ^ position) (2 ^ (position + size)) (2 ^ size) refl refl refl fits small

keep_put_field : {pages : Pages} (location : Location) (registers position size value : ℕ) → FitsLocation location → registers < 2 ^ 64 → size ≤ 32
    → Keeps pages false true Any (put_field location registers position size value)
unfolding put_field
keep_put_field (InRegister n) registers position size value fits whole small =
    keep_put (InRegister n) Quad (with_bits registers (position % 32) size value) fits (bits_below registers (position % 32) size value (room position size small) whole) tt
keep_put_field (InMemory base) registers position size value fits whole small =
    keep_choice (λ _. keep_written (keep_pure tt)) (λ some.
    keep_put_bytes (field_address base position) (field_bytes position size) (position % 8) size value (address_is base position) (field_some position size some) (field_few position size small))

pub keep_insert_field : {pages : Pages} (instr : Instr) (values : List Evaluated) → FitsInstr instr → FitsValues values → Keeps pages false true Any (insert_field instr values)
unfolding insert_field
keep_insert_field instr values fits all =
    let position = value_of_place values 1 Long in
    let size = value_of_place values 2 Byte in
    let location = location_of_place values 3 in
    keep_choice (λ _. keep_fail tt) (λ fine.
    keep_then (keep_put_field location (value_of_place values 3 Quad) position size (value_of_place values 0 Long) (all 3) (low_fits Quad _) (ltb-false 32 size (first_false (nat_lt 32 size) (is_outside location position size) fine)))
    (keep_go_to instr.after fits.after))

keep_leave_bit : {pages : Pages} {w : Bool} (n registers position : ℕ) (store : BitStore) → Keeps pages w true Any (leave_bit n registers position store)
unfolding leave_bit
keep_leave_bit n registers position Nothing = keep_written (keep_pure tt)
keep_leave_bit n registers position (Plain value) = keep_put (InRegister n) Long (with_bits registers (position % 32) 1 (bit value)) tt tt tt
keep_leave_bit n registers position (Interlocked value) = keep_put (InRegister n) Long (with_bits registers (position % 32) 1 (bit value)) tt tt tt

keep_byte_found : {pages : Pages} (address number : ℕ) (store : BitStore) → IsLongword address → number < 8 → Keeps pages false true Any (byte_found address number store)
unfolding byte_found
keep_byte_found address number Nothing small low = keep_written (keep_fetch address 1 small (omega arith) (omega arith))
keep_byte_found {pages = pages} address number (Plain value) small low =
    keep_bind (kept (stay_check_write address 1 small)) (λ _ all.
    keep_bind (keep_read address 1 small (omega arith) (omega arith) (read_allowed pages address 1 all)) (λ byte _.
    keep_then (keep_write address 1 (with_bits byte number 1 (bit value)) small (omega arith) (omega arith) all) (keep_pure tt)))
keep_byte_found {pages = pages} address number (Interlocked true) small low =
    keep_bind (kept (stay_check_write address 1 small)) (λ _ all.
    keep_lock address 1 (SetBit number) (record {
      quadword = record { longword = small; within = byte_fits address; bit = low };
      allowed = first_allowed pages true address 1 small (omega arith) all;
      value = tt;
    }))
keep_byte_found {pages = pages} address number (Interlocked false) small low =
    keep_bind (kept (stay_check_write address 1 small)) (λ _ all.
    keep_lock address 1 (ClearBit number) (record {
      quadword = record { longword = small; within = byte_fits address; bit = low };
      allowed = first_allowed pages true address 1 small (omega arith) all;
      value = tt;
    }))

bit_number : (position : ℕ) → position % 8 < 8
bit_number position = omega arith

keep_bit_found : {pages : Pages} (location : Location) (registers position : ℕ) (store : BitStore) → Keeps pages false true Any (bit_found location registers position store)
unfolding bit_found
keep_bit_found (InRegister n) registers position store = keep_then (keep_leave_bit n registers position store) (keep_pure tt)
keep_bit_found (InMemory base) registers position store =
    keep_bind (keep_byte_found (field_address base position) (position % 8) store (address_is base position) (bit_number position)) (λ byte _. keep_pure tt)

pub keep_branch_on_bit : {pages : Pages} (instr : Instr) (branch : BitBranch) (values : List Evaluated) → FitsInstr instr → Keeps pages false true Any (branch_on_bit instr branch values)
unfolding branch_on_bit
keep_branch_on_bit instr branch values fits =
    keep_choice (λ _. keep_fail tt) (λ _.
    keep_bind (keep_bit_found (location_of_place values 1) (value_of_place values 1 Quad) (value_of_place values 0 Long) branch.store) (λ found _.
    let taken = found == bit branch.state in keep_go_to (pc_after instr 2 taken) (pc_after_is instr 2 taken fits)))
