-- Sums over lists.
use Rattle.std.specs.Prelude.{ℕ, ◌+◌, List, [], ◌∷◌, ◌==◌, cond}

abbrev pub total : {A : Type 0} → (A → ℕ) → List A → ℕ
total f [] = 0
total f (x ∷ xs) = f x + total f xs

-- 1 at k, and else 0
abbrev pub only : ℕ → ℕ → ℕ
only k x = cond (x == k) 1 0

-- how often the number stands in the list
abbrev pub times : ℕ → List ℕ → ℕ
times k xs = total (only k) xs
