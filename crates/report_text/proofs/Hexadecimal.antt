-- Hexadecimal digits.
use Rattle.std.proofs.Common.{◌≡◌, ◌<◌, ◌^◌, ℕ, zero, suc, List, [], ◌∷◌, ◌++◌, lit<, sym, ap, ◌∙◌, append_assoc, arith}
use Rattle.report_text.specs.Digits.{digit_at, digits_from}

-- powers of 16 that fit a longword
pub power_fits : (k : ℕ) → k < 8 → 16 ^ k < 2 ^ 32
power_fits zero h = lit< tt
power_fits (suc zero) h = lit< tt
power_fits (suc (suc zero)) h = lit< tt
power_fits (suc (suc (suc zero))) h = lit< tt
power_fits (suc (suc (suc (suc zero)))) h = lit< tt
power_fits (suc (suc (suc (suc (suc zero))))) h = lit< tt
power_fits (suc (suc (suc (suc (suc (suc zero)))))) h = lit< tt
power_fits (suc (suc (suc (suc (suc (suc (suc zero))))))) h = lit< tt
power_fits (suc (suc (suc (suc (suc (suc (suc (suc k)))))))) h = absurd (omega arith)

pub power_positive : (k : ℕ) → k < 8 → 0 < 16 ^ k
power_positive zero h = lit< tt
power_positive (suc zero) h = lit< tt
power_positive (suc (suc zero)) h = lit< tt
power_positive (suc (suc (suc zero))) h = lit< tt
power_positive (suc (suc (suc (suc zero)))) h = lit< tt
power_positive (suc (suc (suc (suc (suc zero))))) h = lit< tt
power_positive (suc (suc (suc (suc (suc (suc zero)))))) h = lit< tt
power_positive (suc (suc (suc (suc (suc (suc (suc zero))))))) h = lit< tt
power_positive (suc (suc (suc (suc (suc (suc (suc (suc k)))))))) h = absurd (omega arith)

-- so many digits are written, and the others stand behind
pub next_digit : (front whole : List ℕ) (k place n : ℕ) → k ≡ suc place → front ++ digits_from k n ≡ whole
    → (front ++ digit_at place n ∷ []) ++ digits_from place n ≡ whole
unfolding digits_from
next_digit front whole k place n e h =
    append_assoc front (digit_at place n ∷ []) (digits_from place n) ∙ ap (λ j. front ++ digits_from j n) (sym e) ∙ h
