-- Laws of bytes.
use Rattle.std.proofs.Common.{◌≡◌, ℕ, zero, suc, ◌+◌, ◌*◌, ◌%◌, ◌^◌, ◌<◌, refl, ap, ◌∙◌, sym, subst, arith, inl, inr, ⊎_elim}
use Rattle.std.proofs.Math.Nat.{eq-or-lt_of_le}
use Rattle.std.proofs.lemmas.Bool.{and_parts, eqb-true}
use Rattle.std.specs.Prelude.{◌⊎◌, ◌==◌, ◌&&◌, ◌/◌, Bool, true, bit_and}
use Rattle.std.specs.Int.{bit_at}
use Rattle.std.proofs.lemmas.Nat.{pow-add}
use Rattle.std.proofs.lemmas.Nat.Bits.{bit_at-lt}
use Rattle.vt_words.specs.Quad.{spread_below}

-- what holds of each number below 8
pub below_8 : (P : ℕ → Type 0) → P 0 → P 1 → P 2 → P 3 → P 4 → P 5 → P 6 → P 7 → (k : ℕ) → k < 8 → P k
below_8 P a b c d e f g h zero l = a
below_8 P a b c d e f g h (suc zero) l = b
below_8 P a b c d e f g h (suc (suc zero)) l = c
below_8 P a b c d e f g h (suc (suc (suc zero))) l = d
below_8 P a b c d e f g h (suc (suc (suc (suc zero)))) l = e
below_8 P a b c d e f g h (suc (suc (suc (suc (suc zero))))) l = f
below_8 P a b c d e f g h (suc (suc (suc (suc (suc (suc zero)))))) l = g
below_8 P a b c d e f g h (suc (suc (suc (suc (suc (suc (suc zero))))))) l = h
below_8 P a b c d e f g h (suc (suc (suc (suc (suc (suc (suc (suc k)))))))) l = absurd (omega arith)

-- the power of the next byte
pub pow_byte : (at : ℕ) → 2 ^ (8 * suc at) ≡ 256 * 2 ^ (8 * at)
pow_byte at = let e : 8 * suc at ≡ 8 + 8 * at = omega arith in ap (λ k. 2 ^ k) e ∙ pow-add 2 8 (8 * at)

pub bit_cases : (b : ℕ) → b < 2 → (b ≡ 0) ⊎ (b ≡ 1)
bit_cases zero h = inl refl
bit_cases (suc zero) h = inr refl
bit_cases (suc (suc b)) h = absurd (omega arith)

pub spread_step_lt : (b p s : ℕ) → b < 2 → s < p → b * 255 * p + s < 256 * p
spread_step_lt b p s hb hs =
    ⊎_elim (λ (e : b ≡ 0). rw e (omega arith)) (λ (e : b ≡ 1). rw e (omega arith)) (bit_cases b hb)

pub spread_lt : (at mask : ℕ) → spread_below at mask < 2 ^ (8 * at)
spread_lt zero mask = omega arith
spread_lt (suc at) mask =
    rw (pow_byte at) (spread_step_lt (bit_at mask at) (2 ^ (8 * at)) (spread_below at mask) (bit_at-lt mask at) (spread_lt at mask))

-- ---- by a product
-- what is so of each number below another
abbrev all_below : (n : ℕ) → (ℕ → Bool) → Bool
all_below zero p = true
all_below (suc n) p = p n && all_below n p

below_all : (n : ℕ) (p : ℕ → Bool) → all_below n p ≡ true → (k : ℕ) → k < n → p k ≡ true
below_all zero p all k l = absurd (omega (arith, l))
below_all (suc n) p all k l =
    let parts = and_parts (p n) (all_below n p) all in
    ⊎_elim (λ (is : k ≡ n). subst (λ j. p j ≡ true) (sym is) parts.0) (λ (below : k < n). below_all n p parts.1 k below) (eq-or-lt_of_le (omega (arith, l)))

abbrev pub product : (mask : ℕ) → ℕ
product mask = (bit_and (mask % 128 * 0x2040810204081) 0x101010101010101 + mask / 128 * 2 ^ 56 % 2 ^ 64) * 255

pub product_spreads : (mask : ℕ) → mask < 256 → product mask ≡ spread_below 8 mask
product_spreads mask below =
    eqb-true (product mask) (spread_below 8 mask) (below_all 256 (λ m. product m == spread_below 8 m) refl mask below)

pub product_fits : (mask : ℕ) → mask < 256 → product mask < 2 ^ 64
product_fits mask below = rw (product_spreads mask below) (spread_lt 8 mask)
