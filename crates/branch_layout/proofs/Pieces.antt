-- The first words of a list, and others behind them.
use Rattle.std.proofs.Common.{◌≡◌, ℕ, zero, suc, ◌+◌, ◌<◌, ◌≤◌, ◌++◌, refl, ◌∙◌, ap, arith, List, [], ◌∷◌, length, take, None}
use Rattle.std.specs.Prelude.{slice_get}

module _ {X : Type 0} where
  pub taken_front : (n : ℕ) (xs ys : List X) (k : ℕ) → k < n → n ≤ length xs → slice_get (take n xs ++ ys) k ≡ slice_get xs k
  taken_front zero xs ys k lt le = absurd (omega arith)
  taken_front (suc n) [] ys k lt le = absurd (omega arith)
  taken_front (suc n) (x ∷ xs) ys zero lt le = refl
  taken_front (suc n) (x ∷ xs) ys (suc k) lt le = taken_front n xs ys k (omega arith) (omega arith)

  pub taken_back : (n : ℕ) (xs ys : List X) (k : ℕ) → n ≤ length xs → slice_get (take n xs ++ ys) (n + k) ≡ slice_get ys k
  taken_back zero xs ys k le = let e : 0 + k ≡ k = omega arith in ap (slice_get ys) e
  taken_back (suc n) [] ys k le = absurd (omega arith)
  taken_back (suc n) (x ∷ xs) ys k le = let e : suc n + k ≡ suc (n + k) = omega arith in ap (slice_get (x ∷ (take n xs ++ ys))) e ∙ taken_back n xs ys k (omega arith)

  pub taken_length : (n : ℕ) (xs ys : List X) → n ≤ length xs → length (take n xs ++ ys) ≡ n + length ys
  taken_length zero xs ys le = let e : length ys ≡ 0 + length ys = omega arith in e
  taken_length (suc n) [] ys le = absurd (omega arith)
  taken_length (suc n) (x ∷ xs) ys le = let more = taken_length n xs ys (omega arith) in omega arith

  pub none_past : (xs : List X) (k : ℕ) → length xs ≤ k → slice_get xs k ≡ None
  none_past [] k le = refl
  none_past (x ∷ xs) zero le = absurd (omega arith)
  none_past (x ∷ xs) (suc k) le = none_past xs k (omega arith)
