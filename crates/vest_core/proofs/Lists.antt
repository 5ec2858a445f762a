-- Two lists side by side, and lists of which one element is changed.
use Rattle.std.proofs.Common.{◌≡◌, ℕ, zero, suc, ◌⊎◌, inl, inr, List, [], ◌∷◌, Some, refl, sym, ap, subst}
use Rattle.std.specs.Prelude.{slice_get, slice_set}
use Rattle.std.specs.List.{AllZip}

module _ {A B : Type 0} (R : A → B → Type 0) where
  -- what stands beside an element
  pub beside : (xs : List A) (ys : List B) (n : ℕ) (x : A) → AllZip R xs ys → slice_get xs n ≡ Some x → (y : B) × (slice_get ys n ≡ Some y) × R x y
  beside [] [] n x all at = absurd (cc at)
  beside [] (y ∷ ys) n x all at = absurd all
  beside (a ∷ xs) [] n x all at = absurd all
  beside (a ∷ xs) (y ∷ ys) zero x all at = let same : a ≡ x = cc at in (y, refl, subst (λ z. R z y) same all.0)
  beside (a ∷ xs) (y ∷ ys) (suc n) x all at = beside xs ys n x all.1 at

  -- one pair of elements changed
  pub changed_beside : (xs : List A) (ys : List B) (n : ℕ) (x : A) (y : B) → AllZip R xs ys → R x y → AllZip R (slice_set xs n x) (slice_set ys n y)
  changed_beside [] [] n x y all r = all
  changed_beside [] (b ∷ ys) n x y all r = absurd all
  changed_beside (a ∷ xs) [] n x y all r = absurd all
  changed_beside (a ∷ xs) (b ∷ ys) zero x y all r = (r, all.1)
  changed_beside (a ∷ xs) (b ∷ ys) (suc n) x y all r = (all.0, changed_beside xs ys n x y all.1 r)

-- an element put where it stands
pub set_same : {A : Type 0} (xs : List A) (n : ℕ) (x : A) → slice_get xs n ≡ Some x → slice_set xs n x ≡ xs
set_same [] n x at = refl
set_same (a ∷ xs) zero x at = let same : a ≡ x = cc at in ap (λ y. y ∷ xs) (sym same)
set_same (a ∷ xs) (suc n) x at = ap (λ ys. a ∷ ys) (set_same xs n x at)

-- what stands at a place where one was changed
pub at_changed : {A : Type 0} (xs : List A) (n m : ℕ) (y x : A) → slice_get (slice_set xs n y) m ≡ Some x
    → ((m ≡ n) × (x ≡ y)) ⊎ (slice_get xs m ≡ Some x)
at_changed [] n m y x at = absurd (cc at)
at_changed (a ∷ xs) zero zero y x at = inl (refl, let same : y ≡ x = cc at in sym same)
at_changed (a ∷ xs) zero (suc m) y x at = inr at
at_changed (a ∷ xs) (suc n) zero y x at = inr at
at_changed (a ∷ xs) (suc n) (suc m) y x at = elim (at_changed xs n m y x at) [ inl h ↦ inl (ap suc h.0, h.1) | inr h ↦ inr h ]
