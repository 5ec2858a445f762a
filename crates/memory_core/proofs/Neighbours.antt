-- The bytes that a change doesn't name stand.
use Rattle.std.proofs.Common.{◌≡◌, ℕ, zero, suc, ◌<◌, ◌≤◌, ◌+◌, ◌-◌, ◌*◌, ◌/◌, ◌%◌, ◌^◌, ◌==◌, ◌||◌, false, if◌then◌else◌, refl, sym, ap, ◌∙◌, arith, lit<, ⊎_elim, bit_and, bit_or}
use Rattle.std.proofs.lemmas.Bool.{cases_lt}
use Rattle.std.proofs.lemmas.Bool.Decides.{nat_tests}
use Rattle.std.proofs.lemmas.Nat.{or_shr, or_mod, and_shr, and_mod, and_mask, pow-add, pow_pos, shl-shr, pow_below, mod_below}
use Rattle.std.proofs.lemmas.Nat.Bits.{bit_at_cat_low, bit_at-zero, bit_at_above}
use Rattle.std.proofs.Math.Nat.{div-eq_of_lt, mul-mod_left}
use Rattle.std.specs.Int.Bits.{or_zero_r}
use Rattle.std.specs.Int.{bit_at, byte_at}
use Rattle.vt_words.proofs.Tests.{chosen_below}
pub use Rattle.vt_words.proofs.Spreads.{below_8}
use Rattle.memory_core.proofs.Choices.{if_false}
use Rattle.memory_core.specs.declared.entry.Change.TheVariants.{Nothing, Bytes, AddWord, SetBit, ClearBit, Byte}
use Rattle.memory_core.specs.Bytes.{quad_of, with_bytes, word_at}
use Rattle.memory_core.specs.Laws.{OthersStay}

pub byte_at-lt : (at n : ℕ) → byte_at at n < 256
byte_at-lt zero n = mod_below n 256 (lit< tt)
byte_at-lt (suc at) n = mod_below (n / 256 ^ suc at) 256 (lit< tt)

-- a byte of a quadword made of bytes
pub byte_at-quad_of : (f : ℕ → ℕ) → ((k : ℕ) → k < 8 → f k < 256) → (at : ℕ) → at < 8 → byte_at at (quad_of f) ≡ f at
byte_at-quad_of f h at l =
    let a0 : f 0 < 256 = h 0 (lit< tt) in
    let a1 : f 1 < 256 = h 1 (lit< tt) in
    let a2 : f 2 < 256 = h 2 (lit< tt) in
    let a3 : f 3 < 256 = h 3 (lit< tt) in
    let a4 : f 4 < 256 = h 4 (lit< tt) in
    let a5 : f 5 < 256 = h 5 (lit< tt) in
    let a6 : f 6 < 256 = h 6 (lit< tt) in
    let a7 : f 7 < 256 = h 7 (lit< tt) in
    below_8 (λ at. byte_at at (quad_of f) ≡ f at) (omega arith) (omega arith) (omega arith) (omega arith) (omega arith) (omega arith) (omega arith) (omega arith) at l

-- the bytes of a masked store
pub byte_at-with_bytes : (mask value before at : ℕ) → at < 8 → byte_at at (with_bytes mask value before) ≡ (if bit_at mask at == 1 then byte_at at value else byte_at at before)
unfolding with_bytes
byte_at-with_bytes mask value before at l =
    byte_at-quad_of (λ k. if bit_at mask k == 1 then byte_at k value else byte_at k before)
    (λ k _. chosen_below (bit_at mask k == 1) (byte_at k value) (byte_at k before) 256 (byte_at-lt k value) (byte_at-lt k before)) at l

pub not_one : (b : ℕ) (x y : ℕ) → b ≡ 0 → (if b == 1 then x else y) ≡ y
not_one b x y h = rw h refl

-- the mask of the two bytes of a word
word_mask : (place at : ℕ) → ((at == place) || (at == place + 1)) ≡ false → bit_at (3 * 2 ^ place) at ≡ 0
word_mask place at t =
    ⊎_elim
    (λ (h : at < place).
    let e : 3 * 2 ^ place ≡ 3 * 2 ^ place + 0 = omega arith in
    ap (λ n. bit_at n at) e ∙ bit_at_cat_low 3 place 0 at h ∙ bit_at-zero at)
    (λ (h : place ≤ at).
    let high : place + 2 ≤ at = grind (arith, nat_tests) in
    let p = pow-add 2 place 2 in
    let small : 3 * 2 ^ place < 2 ^ (place + 2) = rw p (omega (arith, pow_pos place)) in
    bit_at_above (3 * 2 ^ place) (place + 2) at small high)
    (cases_lt at place)

-- byte `at`, by powers of two
pub byte_is : (at n : ℕ) → at < 8 → byte_at at n ≡ n / 2 ^ (8 * at) % 2 ^ 8
byte_is at n l = below_8 (λ at. byte_at at n ≡ n / 2 ^ (8 * at) % 2 ^ 8) (omega arith) refl refl refl refl refl refl refl at l

-- a bit in another byte
bit_apart : (n at : ℕ) → (at == n / 8) ≡ false → 2 ^ n / 2 ^ (8 * at) % 2 ^ 8 ≡ 0
bit_apart n at t =
    ⊎_elim
    (λ (h : n < 8 * at).
    let small : 2 ^ n < 2 ^ (8 * at) = pow_below n (8 * at) h in
    ap (λ q. q % 2 ^ 8) (div-eq_of_lt small))
    (λ (h : 8 * at ≤ n).
    let high : 8 * at + 8 ≤ n = grind (arith, nat_tests) in
    let m = n - 8 * at - 8 in
    let e : n ≡ m + 8 + 8 * at = omega arith in
    ap (λ k. 2 ^ k / 2 ^ (8 * at) % 2 ^ 8) e
    ∙ ap (λ q. q / 2 ^ (8 * at) % 2 ^ 8) (pow-add 2 (m + 8) (8 * at) ∙ ap (λ q. q * 2 ^ (8 * at)) (pow-add 2 m 8))
    ∙ ap (λ q. q % 2 ^ 8) (shl-shr (2 ^ m * 2 ^ 8) (8 * at))
    ∙ mul-mod_left (2 ^ m) (2 ^ 8))
    (cases_lt n (8 * at))

-- the byte of the complement
complement : (m at : ℕ) → m < 2 ^ 64 → at < 8 → m / 2 ^ (8 * at) % 2 ^ 8 ≡ 0 → (2 ^ 64 - 1 - m) / 2 ^ (8 * at) % 2 ^ 8 ≡ 255
complement m at s l =
    below_8 (λ at. m / 2 ^ (8 * at) % 2 ^ 8 ≡ 0 → (2 ^ 64 - 1 - m) / 2 ^ (8 * at) % 2 ^ 8 ≡ 255)
    (λ h. omega arith) (λ h. omega arith) (λ h. omega arith) (λ h. omega arith) (λ h. omega arith) (λ h. omega arith) (λ h. omega arith) (λ h. omega arith) at l

set_bit_stays : (n before at : ℕ) → at < 8 → (at == n / 8) ≡ false → byte_at at (bit_or before (2 ^ n)) ≡ byte_at at before
set_bit_stays n before at l t =
    byte_is at (bit_or before (2 ^ n)) l
    ∙ ap (λ q. q % 2 ^ 8) (or_shr before (2 ^ n) (8 * at))
    ∙ or_mod (before / 2 ^ (8 * at)) (2 ^ n / 2 ^ (8 * at)) 8
    ∙ ap (bit_or (before / 2 ^ (8 * at) % 2 ^ 8)) (bit_apart n at t)
    ∙ or_zero_r (before / 2 ^ (8 * at) % 2 ^ 8)
    ∙ sym (byte_is at before l)

clear_bit_stays : (n before at : ℕ) → n < 64 → at < 8 → (at == n / 8) ≡ false → byte_at at (bit_and before (2 ^ 64 - 1 - 2 ^ n)) ≡ byte_at at before
clear_bit_stays n before at r l t =
    let mask = 2 ^ 64 - 1 - 2 ^ n in
    let byte = before / 2 ^ (8 * at) % 2 ^ 8 in
    let small : byte < 2 ^ 8 = mod_below (before / 2 ^ (8 * at)) (2 ^ 8) (lit< tt) in
    let same : byte % 2 ^ 8 ≡ byte = omega arith in
    byte_is at (bit_and before mask) l
    ∙ ap (λ q. q % 2 ^ 8) (and_shr before mask (8 * at))
    ∙ and_mod (before / 2 ^ (8 * at)) (mask / 2 ^ (8 * at)) 8
    ∙ ap (bit_and byte) (complement (2 ^ n) at (pow_below n 64 r) l (bit_apart n at t))
    ∙ and_mask byte 8
    ∙ same
    ∙ sym (byte_is at before l)

pub others_stay : OthersStay
others_stay Nothing before at r l t = refl
others_stay (Bytes mask value) before at r l t =
    byte_at-with_bytes mask value before at l ∙ if_false (bit_at mask at == 1) (byte_at at value) (byte_at at before) t
others_stay (AddWord place value) before at r l t =
    byte_at-with_bytes (3 * 2 ^ place) ((word_at place before + value) % 2 ^ 16 * 2 ^ (8 * place)) before at l
    ∙ not_one (bit_at (3 * 2 ^ place) at) (byte_at at ((word_at place before + value) % 2 ^ 16 * 2 ^ (8 * place))) (byte_at at before) (word_mask place at t)
others_stay (SetBit n) before at r l t = set_bit_stays n before at l t
others_stay (ClearBit n) before at r l t = clear_bit_stays n before at r l t
others_stay (Byte b) before at r l t = absurd (cc t)
