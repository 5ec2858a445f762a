-- What is found by a number in a list in which that number rises.
use Rattle.std.proofs.Common.{◌≡◌, ◌≢◌, ◌<◌, ◌≤◌, ℕ, Bool, true, false, zero, suc, refl, sym, ap, arith, List, [], ◌∷◌, length, get_or, eqb, nat_lt, ltb-true, ltb-false, Option, Some, None, Ok, Err}
use Rattle.std.specs.Prelude.{find}
use Rattle.std.specs.List.Sorted.{IsBinarySearchResult, IsNonDecreasingBy, IsPartitionPoint}
use Rattle.std.specs.declared.cmp.Ordering.TheVariants.{Greater, Less}
use Rattle.std.specs.Ordering.{nat_cmp, ordering_index}
use Rattle.std.proofs.Math.Numerals.{add-one}
use Rattle.std.proofs.lemmas.Bool.{eq-eqb, ne_eqb}
use Rattle.std.proofs.lemmas.Bool.Decides.{nat_tests}
use Rattle.std.proofs.lemmas.Cmp.{ranked}
use Rattle.rising_lists.specs.Rising.{KeysRise}

-- of a list of anything that has such a number
module _ {A : Type 0} (key : A → ℕ) where
  -- a pair further on has a higher number
  pub below_later : (ps : List A) (i j : ℕ) (d : A) → KeysRise key ps → i < j → j < length ps → key (get_or ps i d) < key (get_or ps j d)
  below_later ps i zero d rise lt within = absurd (omega arith)
  below_later ps i (suc j) d rise lt within = go (nat_lt i j) refl (λ h. below_later ps i j d rise h (omega arith))
    where
      step : key (get_or ps j d) < key (get_or ps (suc j) d)
      step = rw add-one at (rise j d (omega arith))

      go : (b : Bool) → nat_lt i j ≡ b → (i < j → key (get_or ps i d) < key (get_or ps j d)) → key (get_or ps i d) < key (get_or ps (suc j) d)
      go true e far = let below = far (ltb-true i j e) in let next = step in omega arith
      go false e far =
          let late : j ≤ i = ltb-false i j e in
          let same : i ≡ j = omega arith in
          rw same step

  tail_rises : (p : A) (ps : List A) → KeysRise key (p ∷ ps) → KeysRise key ps
  tail_rises p ps rise = λ k d h. rw add-one (rw add-one at (rise (suc k) d (omega arith)))

  -- the pair that has the number is found
  pub find_at : (ps : List A) (i x : ℕ) (d : A) → KeysRise key ps → i < length ps → key (get_or ps i d) ≡ x → find (λ p. eqb (key p) x) ps ≡ Some (get_or ps i d)
  find_at [] i x d rise within e = absurd (omega arith)
  find_at (p ∷ ps) zero x d rise within e = let here : eqb (key p) x ≡ true = eq-eqb (key p) x e in rw here refl
  find_at (p ∷ ps) (suc i) x d rise within e =
      let below : key p < key (get_or ps i d) = below_later (p ∷ ps) 0 (suc i) d rise (omega arith) within in
      let other : eqb (key p) x ≡ false = ne_eqb (key p) x (λ same. absurd (omega arith)) in
      rw other (find_at ps i x d (tail_rises p ps rise) (omega arith) e)

  -- a number that no pair has isn't found
  pub find_none : (ps : List A) (x : ℕ) → ((k : ℕ) (d : A) → k < length ps → key (get_or ps k d) ≢ x) → find (λ p. eqb (key p) x) ps ≡ None
  find_none [] x other = refl
  find_none (p ∷ ps) x other =
      let here : eqb (key p) x ≡ false = ne_eqb (key p) x (other 0 p (omega arith)) in
      rw here (find_none ps x (λ k d h. other (suc k) d (omega arith)))

  not_falling : (ps : List A) (x : ℕ) → KeysRise key ps → IsNonDecreasingBy (λ p. ordering_index (nat_cmp (key p) x)) ps
  not_falling ps x rise i j d le within = go (nat_lt i j) refl
    where
      order : (a b : ℕ) → a ≤ b → ordering_index (nat_cmp a x) ≤ ordering_index (nat_cmp b x)
      order a b le = grind (arith, nat_tests)

      go : (b : Bool) → nat_lt i j ≡ b → ordering_index (nat_cmp (key (get_or ps i d)) x) ≤ ordering_index (nat_cmp (key (get_or ps j d)) x)
      go true e = let below = below_later ps i j d rise (ltb-true i j e) within in order _ _ (omega arith)
      go false e =
          let late : j ≤ i = ltb-false i j e in
          let same : i ≡ j = omega arith in
          rw same (omega arith)

  -- where it stands between the pairs below and those above, no pair has the number
  apart : (ps : List A) (x i : ℕ) → IsPartitionPoint (λ p. nat_cmp (key p) x ≡ Less) (λ p. nat_cmp (key p) x ≡ Greater) ps i
      → (k : ℕ) (d : A) → k < length ps → key (get_or ps k d) ≢ x
  apart ps x i point k d h same = go (nat_lt k i) refl
    where
      go : (b : Bool) → nat_lt k i ≡ b → ⊥
      go true e =
          let less : key (get_or ps k d) < x = ranked _ x _ (sym (point.0 k d (omega arith) (ltb-true k i e))) in
          omega arith
      go false e =
          let more : x < key (get_or ps k d) = ranked _ x _ (sym (point.1 k d (ltb-false k i e) h)) in
          omega arith

  -- what a binary search answers, in terms of the list
  pub searched_at : (ps : List A) (x i : ℕ) → KeysRise key ps → i < length ps → IsBinarySearchResult (λ p. nat_cmp (key p) x) ps (Ok i) → (d : A) → find (λ p. eqb (key p) x) ps ≡ Some (get_or ps i d)
  searched_at ps x i rise within found d = find_at ps i x d rise within (ranked _ x _ (sym (found d)))

  pub searched_none : (ps : List A) (x i : ℕ) → KeysRise key ps → IsBinarySearchResult (λ p. nat_cmp (key p) x) ps (Err i) → find (λ p. eqb (key p) x) ps ≡ None
  searched_none ps x i rise parts = find_none ps x (apart ps x i (parts (not_falling ps x rise)))
