-- The bytes of a store within its quadword.
use Rattle.std.proofs.Common.{◌≡◌, ℕ, ◌+◌, ◌-◌, ◌*◌, ◌/◌, ◌%◌, ◌^◌, ◌<◌, ◌≤◌, Bool, true, false, refl, sym, arith}
use Rattle.std.specs.Prelude.{nat_le}
use Rattle.std.proofs.Math.Nat.{div-le_self, mod-eq_of_lt}
use Rattle.std.proofs.Math.Pow.{pow_mono}
use Rattle.std.proofs.lemmas.Bool.Decides.{nat_tests}
use Rattle.vt_words.specs.Quad.{IsCount, one, two, four, eight}
use Rattle.vt_words.proofs.Spreads.{below_8}

-- the lowest bytes of a mask
pub power_is : (n : ℕ) → n ≤ 8 → 1 * 2 ^ n % 4294967296 ≡ 2 ^ n
power_is n h = wrapped (1 * 2 ^ n) (2 ^ n) (omega arith) (omega (arith, pow_mono {i = n} {j = 8} h))
  where
    wrapped : (x y : ℕ) → x ≡ y → y < 4294967296 → x % 4294967296 ≡ y
    wrapped x y e lt = omega (arith, e, lt)

pub powers_rise : (place count : ℕ) → place + count ≤ 8 → 1 * 2 ^ place % 4294967296 ≤ 1 * 2 ^ (place + count) % 4294967296
powers_rise place count h =
    omega (arith, power_is place (omega (arith, h)), power_is (place + count) h, pow_mono {i = place} {j = place + count} (omega arith))

pub mask_is : (place count : ℕ) → place + count ≤ 8 → 1 * 2 ^ (place + count) % 4294967296 - 1 * 2 ^ place % 4294967296 ≡ 2 ^ (place + count) - 2 ^ place
mask_is place count h = omega (arith, power_is place (omega (arith, h)), power_is (place + count) h)

-- a mask of eight bits names no byte outside the quadword
pub mask_within : (place count : ℕ) → place < 8 → 2 ^ (place + count) - 2 ^ place < 256 → place + count ≤ 8
mask_within place count lt small = by (nat_le (place + count) 8) refl
  where
    by : (b : Bool) → nat_le (place + count) 8 ≡ b → place + count ≤ 8
    by true e = grind (arith, nat_tests)
    by false e =
        let past : 9 ≤ place + count = grind (arith, nat_tests) in
        absurd (omega (arith, small, pow_mono {i = 9} {j = place + count} past, pow_mono {i = place} {j = 7} (omega (arith, lt))))

-- a quadword has no more than eight bytes
pub all_bytes : (quad at count : ℕ) → quad < 2 ^ 64 → 8 ≤ count → quad / 2 ^ (8 * at) ≡ quad / 2 ^ (8 * at) % 2 ^ (8 * count)
all_bytes quad at count fits many =
    let few : quad / 2 ^ (8 * at) < 2 ^ (8 * count) = omega (arith, fits, div-le_self quad (2 ^ (8 * at)), pow_mono {i = 64} {j = 8 * count} (omega (arith, many))) in
    same (quad / 2 ^ (8 * at)) (2 ^ (8 * count)) few
  where
    same : (n m : ℕ) → n < m → n ≡ n % m
    same n m lt = sym (mod-eq_of_lt lt)

abbrev IsShifted : (bytes value at : ℕ) → Type 0
IsShifted bytes value at = at + bytes ≤ 8 → value * 2 ^ (8 * at) < 2 ^ 64

-- the value's bytes stay within the quadword
pub value_fits : {bytes : ℕ} → IsCount bytes → (value at : ℕ) → at < 8 → value < 2 ^ (8 * bytes) → IsShifted bytes value at
value_fits one value at lt small =
    below_8 (IsShifted 1 value) (λ _. omega arith) (λ _. omega arith) (λ _. omega arith) (λ _. omega arith) (λ _. omega arith) (λ _. omega arith) (λ _. omega arith) (λ _. omega arith) at lt
value_fits two value at lt small =
    below_8 (IsShifted 2 value) (λ _. omega arith) (λ _. omega arith) (λ _. omega arith) (λ _. omega arith) (λ _. omega arith) (λ _. omega arith) (λ _. omega arith) (λ le. absurd (omega arith)) at lt
value_fits four value at lt small =
    below_8 (IsShifted 4 value) (λ _. omega arith) (λ _. omega arith) (λ _. omega arith) (λ _. omega arith) (λ _. omega arith) (λ le. absurd (omega arith)) (λ le. absurd (omega arith)) (λ le. absurd (omega arith)) at lt
value_fits eight value at lt small =
    below_8 (IsShifted 8 value) (λ _. omega arith) (λ le. absurd (omega arith)) (λ le. absurd (omega arith)) (λ le. absurd (omega arith)) (λ le. absurd (omega arith)) (λ le. absurd (omega arith)) (λ le. absurd (omega arith)) (λ le. absurd (omega arith)) at lt
