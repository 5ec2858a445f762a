-- Tests of numbers, and choices.
use Rattle.std.proofs.Common.{◌≡◌, ◌==◌, ◌<◌, ◌≤◌, ℕ, Bool, true, false, if◌then◌else◌, refl, arith}
use Rattle.std.proofs.lemmas.Bool.Decides.{nat_tests}
use Rattle.vt_words.specs.Values.{bit}

pub less_differs : (a b : ℕ) → a < b → (a == b) ≡ false
less_differs a b h = grind (arith, nat_tests)

pub greater_differs : (a b : ℕ) → b < a → (a == b) ≡ false
greater_differs a b h = grind (arith, nat_tests)

pub chosen_below : (b : Bool) (x y n : ℕ) → x < n → y < n → (if b then x else y) < n
chosen_below true x y n h k = h
chosen_below false x y n h k = k

-- ---- bits
pub bit_tells : (b : Bool) → (bit b == 1) ≡ b
bit_tells true = refl
bit_tells false = refl

pub bit_most : (b : Bool) → bit b ≤ 1
bit_most true = omega arith
bit_most false = omega arith
