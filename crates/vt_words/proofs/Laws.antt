-- Each byte of what an operation gives, and numbers by their bytes.
use Rattle.std.proofs.Common.{◌≡◌, ℕ, ◌-◌, ◌*◌, ◌/◌, ◌^◌, ◌<◌, ap, ◌∙◌, arith, ⊎_elim, lit<}
use Rattle.std.specs.Prelude.{bit_and, bit_or}
use Rattle.std.specs.Int.{bit_at}
use Rattle.std.specs.Int.Bits.{and_zero_r}
use Rattle.std.proofs.lemmas.Nat.{and_shr, and_mod, and_mask, or_shr, or_mod}
use Rattle.std.proofs.lemmas.Nat.Bits.{bit_at-lt}
use Rattle.std.proofs.Math.Nat.{mod-eq_of_lt}
use Rattle.vt_words.specs.Quad.{byte_of, spread, spread_below, kept, cleared}
use Rattle.vt_words.proofs.Spreads.{below_8, bit_cases}

-- a byte, all or none of whose bits are kept
pub and_all : (b x : ℕ) → b < 2 → x < 256 → bit_and x (b * 255) ≡ b * x
and_all b x hb hx =
    ⊎_elim
    (λ (e : b ≡ 0). rw (e, and_zero_r x) (omega arith))
    (λ (e : b ≡ 1). rw (e, and_mask x 8, mod-eq_of_lt hx) (omega arith))
    (bit_cases b hb)

pub byte_of_and : (k a b : ℕ) → byte_of k (bit_and a b) ≡ bit_and (byte_of k a) (byte_of k b)
byte_of_and k a b = rw (and_shr a b (8 * k)) (and_mod (a / 2 ^ (8 * k)) (b / 2 ^ (8 * k)) 8)

pub byte_of_or : (k a b : ℕ) → byte_of k (bit_or a b) ≡ bit_or (byte_of k a) (byte_of k b)
byte_of_or k a b = rw (or_shr a b (8 * k)) (or_mod (a / 2 ^ (8 * k)) (b / 2 ^ (8 * k)) 8)

pub byte_of-lt : (k n : ℕ) → byte_of k n < 256
byte_of-lt k n = omega arith

pub byte_of_spread : (mask k : ℕ) → k < 8 → byte_of k (spread mask) ≡ bit_at mask k * 255
unfolding spread
byte_of_spread mask k =
    let b0 = bit_at-lt mask 0 in let b1 = bit_at-lt mask 1 in let b2 = bit_at-lt mask 2 in let b3 = bit_at-lt mask 3 in
    let b4 = bit_at-lt mask 4 in let b5 = bit_at-lt mask 5 in let b6 = bit_at-lt mask 6 in let b7 = bit_at-lt mask 7 in
    below_8 (λ k. byte_of k (spread_below 8 mask) ≡ bit_at mask k * 255) (omega arith) (omega arith) (omega arith) (omega arith) (omega arith) (omega arith) (omega arith) (omega arith) k

pub same_from_bytes : (a b : ℕ) → a < 2 ^ 64 → b < 2 ^ 64 → ((k : ℕ) → k < 8 → byte_of k a ≡ byte_of k b) → a ≡ b
same_from_bytes a b ha hb h =
    let e0 = h 0 (lit< tt) in let e1 = h 1 (lit< tt) in let e2 = h 2 (lit< tt) in let e3 = h 3 (lit< tt) in
    let e4 = h 4 (lit< tt) in let e5 = h 5 (lit< tt) in let e6 = h 6 (lit< tt) in let e7 = h 7 (lit< tt) in
    omega arith

-- each byte of what is kept, cleared, shifted
pub byte_of_kept : (mask n k : ℕ) → k < 8 → byte_of k (kept mask n) ≡ bit_at mask k * byte_of k n
byte_of_kept mask n k h =
    byte_of_and k n (spread mask) ∙ ap (λ x. bit_and (byte_of k n) x) (byte_of_spread mask k h) ∙ and_all (bit_at mask k) (byte_of k n) (bit_at-lt mask k) (byte_of-lt k n)

pub byte_of_not_spread : (mask k : ℕ) → k < 8 → byte_of k (2 ^ 64 - 1 - spread mask) ≡ (1 - bit_at mask k) * 255
unfolding spread
byte_of_not_spread mask k =
    let b0 = bit_at-lt mask 0 in let b1 = bit_at-lt mask 1 in let b2 = bit_at-lt mask 2 in let b3 = bit_at-lt mask 3 in
    let b4 = bit_at-lt mask 4 in let b5 = bit_at-lt mask 5 in let b6 = bit_at-lt mask 6 in let b7 = bit_at-lt mask 7 in
    below_8 (λ k. byte_of k (2 ^ 64 - 1 - spread_below 8 mask) ≡ (1 - bit_at mask k) * 255) (omega arith) (omega arith) (omega arith) (omega arith) (omega arith) (omega arith) (omega arith) (omega arith) k

pub byte_of_cleared : (mask n k : ℕ) → k < 8 → byte_of k (cleared mask n) ≡ (1 - bit_at mask k) * byte_of k n
byte_of_cleared mask n k h =
    byte_of_and k n (2 ^ 64 - 1 - spread mask) ∙ ap (λ x. bit_and (byte_of k n) x) (byte_of_not_spread mask k h) ∙ and_all (1 - bit_at mask k) (byte_of k n) (omega arith) (byte_of-lt k n)
