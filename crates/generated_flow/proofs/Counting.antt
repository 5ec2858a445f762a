-- Rising numbers that are all among the values of a function that does not fall.
use Rattle.std.proofs.Common.{◌≡◌, ℕ, zero, suc, ◌+◌, ◌-◌, ◌<◌, ◌≤◌, List, length, get_or, subst, arith, inl, inr, add-one}
use Rattle.std.specs.List.Sorted.{IsStrictlyIncreasing}
use Rattle.std.proofs.lemmas.Bool.{cases_lt}

module _ (f : ℕ → ℕ) (grows : (j k : ℕ) → j ≤ k → f j ≤ f k) where
  later : (j k x y : ℕ) → x ≡ f j → y ≡ f k → x < y → j < k
  later j k x y is_j is_k less =
      elim (cases_lt j k) [ inl lt ↦ lt | inr le ↦ absurd (let falls = grows k j le in omega (arith, falls, is_j, is_k, less)) ]

  -- the number at an index is the value of no smaller number
  value_at : (most : ℕ) (xs : List ℕ) → IsStrictlyIncreasing xs
      → ((i : ℕ) → i < length xs → (j : ℕ) × (j < most) × (get_or xs i 0 ≡ f j))
      → (i : ℕ) → i < length xs → (j : ℕ) × (i ≤ j) × (j < most) × (get_or xs i 0 ≡ f j)
  value_at most xs rising all zero inside = let first = all 0 inside in (first.0, omega arith, first.1, first.2)
  value_at most xs rising all (suc i) inside =
      let before = value_at most xs rising all i (omega arith) in
      let here = all (suc i) inside in
      let rises : get_or xs i 0 < get_or xs (i + 1) 0 = rising i (omega arith) in
      let less : get_or xs i 0 < get_or xs (suc i) 0 = subst (λ k. get_or xs i 0 < get_or xs k 0) (add-one i) rises in
      let up = later before.0 here.0 _ _ before.3 here.2 less in
      let low = before.1 in
      (here.0, omega (arith, low, up), here.1, here.2)

  pub not_more : (most : ℕ) (xs : List ℕ) → IsStrictlyIncreasing xs
      → ((i : ℕ) → i < length xs → (j : ℕ) × (j < most) × (get_or xs i 0 ≡ f j)) → length xs ≤ most
  not_more most xs rising all =
      elim (cases_lt 0 (length xs)) [
        | inl some ↦
            let last = value_at most xs rising all (length xs - 1) (omega arith) in
            let low = last.1 in
            let high = last.2 in
            omega (arith, low, high, some)
        | inr none ↦ omega (arith, none)
      ]
