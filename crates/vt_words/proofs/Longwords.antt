-- Longwords, sign extended to quadwords.
use Rattle.std.proofs.Common.{◌≡◌, ℕ, ◌+◌, ◌-◌, ◌%◌, ◌^◌, ◌<◌, refl, ap, arith, Bool, true, false}
use Rattle.std.specs.Prelude.{nat_lt, if◌then◌else◌}
use Rattle.vt_words.specs.Quad.{sign_extended}

low_by : (v : ℕ) (b : Bool) → (if b then v % 2 ^ 32 else v % 2 ^ 32 + (2 ^ 64 - 2 ^ 32)) % 2 ^ 32 ≡ v % 2 ^ 32
low_by v true = omega arith
low_by v false = omega arith

pub extended_low : (v : ℕ) → sign_extended v 32 % 2 ^ 32 ≡ v % 2 ^ 32
extended_low v = low_by v (nat_lt (v % 2 ^ 32) (2 ^ 31))

pub same_extended : (a b : ℕ) → a % 2 ^ 32 ≡ b % 2 ^ 32 → sign_extended a 32 ≡ sign_extended b 32
same_extended a b e = ap (λ low. if nat_lt low (2 ^ 31) then low else low + (2 ^ 64 - 2 ^ 32)) e

pub extended_again : (v : ℕ) → sign_extended (sign_extended v 32) 32 ≡ sign_extended v 32
extended_again v = same_extended (sign_extended v 32) v (extended_low v)

fits_by : (v : ℕ) (b : Bool) → nat_lt (v % 2 ^ 32) (2 ^ 31) ≡ b → (if b then v % 2 ^ 32 else v % 2 ^ 32 + (2 ^ 64 - 2 ^ 32)) < 2 ^ 64
fits_by v true e = omega arith
fits_by v false e = omega arith

pub extended_fits : (v : ℕ) → sign_extended v 32 < 2 ^ 64
extended_fits v = fits_by v (nat_lt (v % 2 ^ 32) (2 ^ 31)) refl
