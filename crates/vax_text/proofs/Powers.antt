-- One more byte before a number of at most seven.
use Rattle.std.proofs.Common.{ℕ, zero, suc, ◌+◌, ◌*◌, ◌^◌, ◌<◌, arith}

pub record OneMore (k low n : ℕ) : Type 0 where
  pub below : low + 256 * n < 256 ^ suc k
  pub fits : low + 256 * n < 2 ^ 64

pub one_more : (k low n : ℕ) → k < 8 → low < 256 → n < 256 ^ k → OneMore k low n
one_more zero low n h l b = record { below = omega arith; fits = omega arith }
one_more (suc zero) low n h l b = record { below = omega arith; fits = omega arith }
one_more (suc (suc zero)) low n h l b = record { below = omega arith; fits = omega arith }
one_more (suc (suc (suc zero))) low n h l b = record { below = omega arith; fits = omega arith }
one_more (suc (suc (suc (suc zero)))) low n h l b = record { below = omega arith; fits = omega arith }
one_more (suc (suc (suc (suc (suc zero))))) low n h l b = record { below = omega arith; fits = omega arith }
one_more (suc (suc (suc (suc (suc (suc zero)))))) low n h l b = record { below = omega arith; fits = omega arith }
one_more (suc (suc (suc (suc (suc (suc (suc zero))))))) low n h l b = record { below = omega arith; fits = omega arith }
one_more (suc (suc (suc (suc (suc (suc (suc (suc k)))))))) low n h l b = absurd (omega arith)

pub positive : (k : ℕ) → k < 9 → 0 < 256 ^ k
positive zero h = omega arith
positive (suc k) h = omega (arith, positive k (omega arith))
