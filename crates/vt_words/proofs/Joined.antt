-- EXTxL | EXTxH of two neighbouring quadwords is the operand that crosses.
use Rattle.std.proofs.Common.{◌≡◌, ℕ, ◌+◌, ◌-◌, ◌*◌, ◌/◌, ◌%◌, ◌^◌, ◌<◌, ◌∙◌, arith}
use Rattle.std.specs.Prelude.{bit_or}
use Rattle.std.specs.Int.Bits.{or_shifted_r}
use Rattle.std.proofs.lemmas.Nat.{and_mask}
use Rattle.vt_words.specs.Quad.{IsCount, one, two, four, eight, spread, kept, left, right, ext_low, ext_high, crossing}
use Rattle.vt_words.proofs.Spreads.{below_8}

kept_count : {c : ℕ} → IsCount c → (n : ℕ) → kept (2 ^ c - 1) n ≡ n % 2 ^ (8 * c)
unfolding spread
kept_count one n = and_mask n 8
kept_count two n = and_mask n 16
kept_count four n = and_mask n 32
kept_count eight n = and_mask n 64

abbrev Joins : ℕ → ℕ → ℕ → ℕ → Type 0
Joins p q c o = 8 < o + c → bit_or (right p (8 * o) % 2 ^ (8 * c)) (left q ((64 - 8 * o) % 64) % 2 ^ (8 * c)) ≡ crossing p q o c

joins_at : (p q : ℕ) → p < 2 ^ 64 → {c : ℕ} → IsCount c → (o : ℕ) → o < 8 → Joins p q c o
joins_at p q hp one = below_8 (Joins p q 1)
    (λ h. absurd (omega arith))
    (λ h. absurd (omega arith))
    (λ h. absurd (omega arith))
    (λ h. absurd (omega arith))
    (λ h. absurd (omega arith))
    (λ h. absurd (omega arith))
    (λ h. absurd (omega arith))
    (λ h. absurd (omega arith))
joins_at p q hp two = below_8 (Joins p q 2)
    (λ h. absurd (omega arith))
    (λ h. absurd (omega arith))
    (λ h. absurd (omega arith))
    (λ h. absurd (omega arith))
    (λ h. absurd (omega arith))
    (λ h. absurd (omega arith))
    (λ h. absurd (omega arith))
    (λ h. let e : q * 2 ^ 8 % 2 ^ 64 % 2 ^ 16 ≡ q % 2 ^ 8 * 2 ^ 8 = omega arith in rw e (or_shifted_r (q % 2 ^ 8) 8 (p / 2 ^ 56 % 2 ^ 16) (omega arith) ∙ omega arith))
joins_at p q hp four = below_8 (Joins p q 4)
    (λ h. absurd (omega arith))
    (λ h. absurd (omega arith))
    (λ h. absurd (omega arith))
    (λ h. absurd (omega arith))
    (λ h. absurd (omega arith))
    (λ h. let e : q * 2 ^ 24 % 2 ^ 64 % 2 ^ 32 ≡ q % 2 ^ 8 * 2 ^ 24 = omega arith in rw e (or_shifted_r (q % 2 ^ 8) 24 (p / 2 ^ 40 % 2 ^ 32) (omega arith) ∙ omega arith))
    (λ h. let e : q * 2 ^ 16 % 2 ^ 64 % 2 ^ 32 ≡ q % 2 ^ 16 * 2 ^ 16 = omega arith in rw e (or_shifted_r (q % 2 ^ 16) 16 (p / 2 ^ 48 % 2 ^ 32) (omega arith) ∙ omega arith))
    (λ h. let e : q * 2 ^ 8 % 2 ^ 64 % 2 ^ 32 ≡ q % 2 ^ 24 * 2 ^ 8 = omega arith in rw e (or_shifted_r (q % 2 ^ 24) 8 (p / 2 ^ 56 % 2 ^ 32) (omega arith) ∙ omega arith))
joins_at p q hp eight = below_8 (Joins p q 8)
    (λ h. absurd (omega arith))
    (λ h. let e : q * 2 ^ 56 % 2 ^ 64 % 2 ^ 64 ≡ q % 2 ^ 8 * 2 ^ 56 = omega arith in rw e (or_shifted_r (q % 2 ^ 8) 56 (p / 2 ^ 8 % 2 ^ 64) (omega arith) ∙ omega arith))
    (λ h. let e : q * 2 ^ 48 % 2 ^ 64 % 2 ^ 64 ≡ q % 2 ^ 16 * 2 ^ 48 = omega arith in rw e (or_shifted_r (q % 2 ^ 16) 48 (p / 2 ^ 16 % 2 ^ 64) (omega arith) ∙ omega arith))
    (λ h. let e : q * 2 ^ 40 % 2 ^ 64 % 2 ^ 64 ≡ q % 2 ^ 24 * 2 ^ 40 = omega arith in rw e (or_shifted_r (q % 2 ^ 24) 40 (p / 2 ^ 24 % 2 ^ 64) (omega arith) ∙ omega arith))
    (λ h. let e : q * 2 ^ 32 % 2 ^ 64 % 2 ^ 64 ≡ q % 2 ^ 32 * 2 ^ 32 = omega arith in rw e (or_shifted_r (q % 2 ^ 32) 32 (p / 2 ^ 32 % 2 ^ 64) (omega arith) ∙ omega arith))
    (λ h. let e : q * 2 ^ 24 % 2 ^ 64 % 2 ^ 64 ≡ q % 2 ^ 40 * 2 ^ 24 = omega arith in rw e (or_shifted_r (q % 2 ^ 40) 24 (p / 2 ^ 40 % 2 ^ 64) (omega arith) ∙ omega arith))
    (λ h. let e : q * 2 ^ 16 % 2 ^ 64 % 2 ^ 64 ≡ q % 2 ^ 48 * 2 ^ 16 = omega arith in rw e (or_shifted_r (q % 2 ^ 48) 16 (p / 2 ^ 48 % 2 ^ 64) (omega arith) ∙ omega arith))
    (λ h. let e : q * 2 ^ 8 % 2 ^ 64 % 2 ^ 64 ≡ q % 2 ^ 56 * 2 ^ 8 = omega arith in rw e (or_shifted_r (q % 2 ^ 56) 8 (p / 2 ^ 56 % 2 ^ 64) (omega arith) ∙ omega arith))

pub joined : (p q a : ℕ) → p < 2 ^ 64 → {c : ℕ} → IsCount c → 8 < a % 8 + c → bit_or (ext_low (2 ^ c - 1) p a) (ext_high (2 ^ c - 1) q a) ≡ crossing p q (a % 8) c
joined p q a hp {c} is_count h =
    let o = a % 8 in
    rw (kept_count is_count (right p (8 * o)), kept_count is_count (left q ((64 - 8 * o) % 64))) (joins_at p q hp is_count o (omega arith) h)
