-- Numbers from signed halves: LDAH and LDA.
use Rattle.std.proofs.Common.{◌≡◌, ℕ, suc, ◌+◌, ◌-◌, ◌*◌, ◌/◌, ◌%◌, ◌^◌, ◌<◌, ◌≤◌, refl, ap, ◌∙◌, arith, inl, inr, Bool, true, false}
use Rattle.std.specs.Prelude.{◌⊎◌, nat_lt}
use Rattle.std.specs.Int.{cast_signed, cast_unsigned, w16, w64}
use Rattle.std.proofs.lemmas.Int.{to_z_pos}
use Rattle.std.proofs.Math.Facts.{to_z-neg}
use Rattle.std.proofs.lemmas.Bool.Decides.{nat_tests}
use Rattle.vt_words.specs.Quad.{left}
use Rattle.alpha_meaning.specs.Result.{plus, times}
use Rattle.alpha_encode.specs.Halves.{high_half, low_half}
use Rattle.compute_sequences.specs.Constants.{high_long, low_long}

half_low : (l : ℕ) → l < 2 ^ 15 → cast_unsigned w64 (cast_signed w16 l) ≡ l
half_low l lt = ap (cast_unsigned w64) (to_z_pos w16 l lt)

half_high : (l : ℕ) → 2 ^ 15 ≤ l → l < 2 ^ 16 → cast_unsigned w64 (cast_signed w16 l) ≡ 2 ^ 64 - 2 ^ 16 + l
half_high l le lt =
    let is : l ≡ 2 ^ 16 - suc (2 ^ 16 - 1 - l) = omega arith in
    let few : 2 ^ 16 - 1 - l < 2 ^ 15 = omega arith in
    ap (λ x. cast_unsigned w64 (cast_signed w16 x)) is ∙ ap (cast_unsigned w64) (to_z-neg w16 (2 ^ 16 - 1 - l) few) ∙ omega arith

-- a half as the quadword of the number that it spells
abbrev pub Half : ℕ → ℕ → Type 0
Half l x = ((l < 2 ^ 15) × (x ≡ l)) ⊎ ((2 ^ 15 ≤ l) × (x ≡ 2 ^ 64 - 2 ^ 16 + l))

pub half : (l : ℕ) → l < 2 ^ 16 → Half l (cast_unsigned w64 (cast_signed w16 l))
half l lt = by (nat_lt l (2 ^ 15)) refl
  where
    by : (b : Bool) → nat_lt l (2 ^ 15) ≡ b → Half l (cast_unsigned w64 (cast_signed w16 l))
    by true e = let low : l < 2 ^ 15 = grind (arith, nat_tests, e) in inl (low, half_low l low)
    by false e = let high : 2 ^ 15 ≤ l = grind (arith, nat_tests, e) in inr (high, half_high l high lt)

-- the sum of both halves of a longword, at a base
abbrev pub with_halves : (base value : ℕ) → ℕ
with_halves base value = plus (plus base (times (cast_unsigned w64 (high_half value)) 65536)) (times (cast_unsigned w64 (low_half value)) 1)

-- it is the longword with the sign of the two halves
abbrev Sum : (base value : ℕ) → ℕ → Type 0
Sum base value sum = (value < 0x7fff8000 → sum ≡ (base + value) % 2 ^ 64) × (0x7fff8000 ≤ value → sum ≡ (base + value + (2 ^ 64 - 2 ^ 32)) % 2 ^ 64)

sums : (base v hi lo x y : ℕ) → v < 2 ^ 32 → hi ≡ (v + 2 ^ 15) / 2 ^ 16 % 2 ^ 16 → lo ≡ v % 2 ^ 16 → Half hi x → Half lo y
    → Sum base v (plus (plus base (times x 65536)) (times y 1))
sums base v hi lo x y lt h l (inl a) (inl b) = let a0 = a.0 in let a1 = a.1 in let b1 = b.1 in let b0 = b.0 in (λ s. omega arith, λ s. omega arith)
sums base v hi lo x y lt h l (inl a) (inr b) = let a0 = a.0 in let a1 = a.1 in let b1 = b.1 in let b0 = b.0 in (λ s. omega arith, λ s. omega arith)
sums base v hi lo x y lt h l (inr a) (inl b) = let a0 = a.0 in let a1 = a.1 in let b1 = b.1 in let b0 = b.0 in (λ s. omega arith, λ s. omega arith)
sums base v hi lo x y lt h l (inr a) (inr b) = let a0 = a.0 in let a1 = a.1 in let b1 = b.1 in let b0 = b.0 in (λ s. omega arith, λ s. omega arith)

pub halves_sum : (base v : ℕ) → v < 2 ^ 32 → Sum base v (with_halves base v)
halves_sum base v lt =
    let hi = (v + 2 ^ 15) / 2 ^ 16 % 2 ^ 16 in
    let lo = v % 2 ^ 16 in
    sums base v hi lo (cast_unsigned w64 (cast_signed w16 hi)) (cast_unsigned w64 (cast_signed w16 lo)) lt refl refl (half hi (omega arith)) (half lo (omega arith))

-- ---- the constants of each size
pub short_low : (v : ℕ) → plus 0 (times (cast_unsigned w64 (low_half v)) 1) % 2 ^ 16 ≡ v % 2 ^ 16
short_low v = by (half (v % 2 ^ 16) (omega arith))
  where
    by : Half (v % 2 ^ 16) (cast_unsigned w64 (low_half v)) → plus 0 (times (cast_unsigned w64 (low_half v)) 1) % 2 ^ 16 ≡ v % 2 ^ 16
    by (inl a) = let e = a.1 in omega arith
    by (inr a) = let e = a.1 in omega arith

pub short_exact : (v value : ℕ) → v ≡ value → value < 2 ^ 15 → plus 0 (times (cast_unsigned w64 (low_half v)) 1) ≡ value
short_exact v value same lt = by (half (v % 2 ^ 16) (omega arith))
  where
    by : Half (v % 2 ^ 16) (cast_unsigned w64 (low_half v)) → plus 0 (times (cast_unsigned w64 (low_half v)) 1) ≡ value
    by (inl a) = let e = a.1 in omega arith
    by (inr a) = let e = a.0 in absurd (omega (arith, e, same, lt))

by_sign : (v : ℕ) (P : Type 0) → (v < 0x7fff8000 → P) → (0x7fff8000 ≤ v → P) → P
by_sign v P below above = by (nat_lt v 0x7fff8000) refl
  where
    by : (b : Bool) → nat_lt v 0x7fff8000 ≡ b → P
    by true e = below (grind (arith, nat_tests, e))
    by false e = above (grind (arith, nat_tests, e))

pub long_low : (v : ℕ) → v < 2 ^ 32 → with_halves 0 v % 2 ^ 32 ≡ v
long_low v lt =
    let sum = halves_sum 0 v lt in
    by_sign v (with_halves 0 v % 2 ^ 32 ≡ v) (λ s. let e = sum.0 s in ap (λ x. x % 2 ^ 32) e ∙ omega arith) (λ s. let e = sum.1 s in ap (λ x. x % 2 ^ 32) e ∙ omega arith)

pub quad_is : (v : ℕ) → v < 2 ^ 64 → with_halves (left (with_halves 0 (high_long v)) 32) (low_long v) ≡ v
quad_is v lt =
    let high = long_low (high_long v) (omega arith) in
    let base = left (with_halves 0 (high_long v)) 32 in
    let is : base ≡ high_long v * 2 ^ 32 = shifted (with_halves 0 (high_long v)) (high_long v) high in
    let sum = halves_sum base (low_long v) (omega arith) in
    by_sign (low_long v) (with_halves base (low_long v) ≡ v) (λ s. sum.0 s ∙ ap (λ x. (x + low_long v) % 2 ^ 64) is ∙ omega arith) (λ s. sum.1 s ∙ ap (λ x. (x + low_long v + (2 ^ 64 - 2 ^ 32)) % 2 ^ 64) is ∙ omega arith)
  where
    shifted : (x h : ℕ) → x % 2 ^ 32 ≡ h → left x 32 ≡ h * 2 ^ 32
    shifted x h e = omega arith
