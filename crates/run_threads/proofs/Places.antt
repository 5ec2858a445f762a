-- What holds at each place of a list.
use Rattle.std.proofs.Common.{◌≡◌, ℕ, zero, suc, ◌<◌, List, [], ◌∷◌, ◌++◌, Some, length, get_or, refl, sym, arith}
use Rattle.std.specs.Prelude.{map, slice_get}
use Rattle.std.specs.List.{AllByRecursion}
use Rattle.std.proofs.lemmas.Option.{same_Some}

-- at each place, and of one behind them
pub each-snoc : {A : Type 0} (P : ℕ → A → Type 0) (l : List A) (a : A) → ((j : ℕ) (d : A) → j < length l → P j (get_or l j d)) → P (length l) a
    → (j : ℕ) (d : A) → j < length (l ++ a ∷ []) → P j (get_or (l ++ a ∷ []) j d)
each-snoc P [] a each last zero d h = last
each-snoc P [] a each last (suc j) d h = absurd (omega arith)
each-snoc P (x ∷ l) a each last zero d h = each zero d (omega arith)
each-snoc P (x ∷ l) a each last (suc j) d h =
    each-snoc (λ i. P (suc i)) l a (λ i e g. each (suc i) e (omega arith)) last j d (omega arith)

pub first_of : {A : Type 0} (l : List A) → 0 < length l → A
first_of [] some = absurd (omega arith)
first_of (x ∷ l) some = x

-- an element of a mapped list
pub record IsMapped {A B : Type 0} (f : A → B) (l : List A) (j : ℕ) (b : B) : Type 0 where
  pub of : A
  pub inside : j < length l
  pub at : get_or l j of ≡ of
  pub is : b ≡ f of

pub mapped_at : {A B : Type 0} (f : A → B) (l : List A) (j : ℕ) (b : B) → slice_get (map f l) j ≡ Some b → IsMapped f l j b
mapped_at f [] j b e = absurd cc
mapped_at f (x ∷ l) zero b e = record { of = x; inside = omega arith; at = refl; is = same_Some b (f x) (sym e) }
mapped_at f (x ∷ l) (suc j) b e =
    let m = mapped_at f l j b e in record { of = m.of; inside = omega (arith, m.inside); at = m.at; is = m.is }

-- of each, as it holds at each place
pub all_mapped : {A B : Type 0} (P : B → Type 0) (f : A → B) (l : List A) → ((j : ℕ) (d : A) → j < length l → P (f (get_or l j d))) → AllByRecursion P (map f l)
all_mapped P f [] each = tt
all_mapped P f (x ∷ l) each = (each 0 x (omega arith), all_mapped P f l (λ j d h. each (suc j) d (omega arith)))
