-- What references make of memory, byte by byte.
use Rattle.std.proofs.Common.{◌≡◌, ℕ, zero, suc, ◌<◌, ◌≤◌, ◌+◌, ◌-◌, ◌/◌, ◌%◌, ◌^◌, ◌==◌, Bool, true, false, if◌then◌else◌, refl, ◌∙◌, arith, lit<, ◌⊎◌, inl, inr, ⊎_elim, bit_and, bit_or}
use Rattle.std.proofs.lemmas.Bool.Decides.{nat_tests}
use Rattle.std.proofs.lemmas.Nat.{or_of_8, and_le_l, mod_below, pow_below}
use Rattle.vax_form.specs.declared.state.RefKind.{RefKind}
use Rattle.vax_form.specs.declared.state.RefKind.TheVariants.{Read, Write, Add, SetBit, ClearBit, Put, Get}
use Rattle.vax_form.specs.References.{value_at, with_byte, with_value, changed_by, AreBytes, byte_count_of, byte_count, FitsKind}
use Rattle.vax_driven.specs.Laws.{BytesStay, OthersStay}

chosen_byte : (b : Bool) (x y : ℕ) → x < 256 → y < 256 → (if b then x else y) < 256
chosen_byte true x y h k = h
chosen_byte false x y h k = k

with_byte_stays : (byte : ℕ → ℕ) (address value : ℕ) → value < 256 → AreBytes byte → AreBytes (with_byte byte address value)
with_byte_stays byte address value small are at = chosen_byte (at == address) value (byte at) small (are at)

with_value_stays : (byte : ℕ → ℕ) (address count value : ℕ) → AreBytes byte → AreBytes (with_value byte address count value)
with_value_stays byte address zero value are = are
with_value_stays byte address (suc count) value are =
    with_value_stays (with_byte byte (address % 2 ^ 32) (value % 256)) (address + 1) count (value / 256)
    (with_byte_stays byte (address % 2 ^ 32) (value % 256) (mod_below value 256 (lit< tt)) are)

kept_by : (kind : RefKind) (byte : ℕ → ℕ) (address count : ℕ) → FitsKind kind → AreBytes byte → AreBytes (changed_by kind byte address count)
kept_by Read byte address count fits are = are
kept_by (Write value) byte address count fits are = with_value_stays byte address count value are
kept_by (Add value) byte address count fits are = with_value_stays byte address 2 ((value_at byte address 2 + value) % 2 ^ 16) are
kept_by (SetBit bit) byte address count fits are =
    with_byte_stays byte (address % 2 ^ 32) (bit_or (byte (address % 2 ^ 32)) (2 ^ (bit % 8))) (or_of_8 (byte (address % 2 ^ 32)) (2 ^ (bit % 8)) (are (address % 2 ^ 32)) (pow_below (bit % 8) 8 (mod_below bit 8 (lit< tt)))) are
kept_by (ClearBit bit) byte address count fits are =
    let small = are (address % 2 ^ 32) in
    let less = and_le_l (byte (address % 2 ^ 32)) (255 - 2 ^ (bit % 8)) in
    with_byte_stays byte (address % 2 ^ 32) (bit_and (byte (address % 2 ^ 32)) (255 - 2 ^ (bit % 8))) (omega arith) are
kept_by (Put value) byte address count fits are = are
kept_by Get byte address count fits are = are

pub bytes_stay : BytesStay
bytes_stay reference byte fits are = kept_by reference.kind byte reference.address reference.count fits.bit are

-- an address that is another
pub elsewhere : (byte : ℕ → ℕ) (address value at : ℕ) → (at < address) ⊎ (address < at) → with_byte byte address value at ≡ byte at
elsewhere byte address value at apart = ⊎_elim (λ (l : at < address). grind (arith, nat_tests)) (λ (l : address < at). grind (arith, nat_tests)) apart

later_part : (address count at : ℕ) → (at < address) ⊎ (address + suc count ≤ at) → (at < address + 1) ⊎ (address + 1 + count ≤ at)
later_part address count at apart = ⊎_elim (λ (l : at < address). inl (omega arith)) (λ (l : address + suc count ≤ at). inr (omega arith)) apart

first_part : (address count at : ℕ) → address < 2 ^ 32 → (at < address) ⊎ (address + suc count ≤ at) → (at < address % 2 ^ 32) ⊎ (address % 2 ^ 32 < at)
first_part address count at small apart = ⊎_elim (λ (l : at < address). inl (omega arith)) (λ (l : address + suc count ≤ at). inr (omega arith)) apart

pub with_value_elsewhere : (byte : ℕ → ℕ) (address count value at : ℕ) → address + count ≤ 2 ^ 32 → (at < address) ⊎ (address + count ≤ at) → with_value byte address count value at ≡ byte at
with_value_elsewhere byte address zero value at small apart = refl
with_value_elsewhere byte address (suc count) value at small apart =
    with_value_elsewhere (with_byte byte (address % 2 ^ 32) (value % 256)) (address + 1) count (value / 256) at (omega arith) (later_part address count at apart)
    ∙ elsewhere byte (address % 2 ^ 32) (value % 256) at (first_part address count at (omega arith) apart)

others_kept : (kind : RefKind) (byte : ℕ → ℕ) (address count at : ℕ) → address < 2 ^ 32 → address + byte_count_of kind count ≤ 2 ^ 32
    → (at < address) ⊎ (address + byte_count_of kind count ≤ at) → changed_by kind byte address count at ≡ byte at
others_kept Read byte address count at small within apart = refl
others_kept (Write value) byte address count at small within apart = with_value_elsewhere byte address count value at within apart
others_kept (Add value) byte address count at small within apart = with_value_elsewhere byte address 2 ((value_at byte address 2 + value) % 2 ^ 16) at within apart
others_kept (SetBit bit) byte address count at small within apart = elsewhere byte (address % 2 ^ 32) (bit_or (byte (address % 2 ^ 32)) (2 ^ (bit % 8))) at (first_part address 0 at small apart)
others_kept (ClearBit bit) byte address count at small within apart = elsewhere byte (address % 2 ^ 32) (bit_and (byte (address % 2 ^ 32)) (255 - 2 ^ (bit % 8))) at (first_part address 0 at small apart)
others_kept (Put value) byte address count at small within apart = refl
others_kept Get byte address count at small within apart = refl

-- the bytes of an aligned quadword end below 2^32
pub ends_below : (address count : ℕ) → address < 2 ^ 32 → address % 8 + count ≤ 8 → address + count ≤ 2 ^ 32
ends_below address count small within = omega arith

pub others_stay : OthersStay
others_stay reference byte at fits apart =
    others_kept reference.kind byte reference.address reference.count at fits.longword
    (ends_below reference.address (byte_count reference) fits.longword fits.within) apart
