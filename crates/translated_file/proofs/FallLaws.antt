-- No number falls exactly where all rise.
use Rattle.std.proofs.Common.{◌≡◌, ℕ, zero, suc, ◌+◌, ◌<◌, true, false, cond, List, [], ◌∷◌, Some, None, length, get_or, refl, ap, subst, ◌∙◌, arith, nat_lt}
use Rattle.std.proofs.lemmas.Bool.{lt-ltb, ltb-true}
use Rattle.translated_file.specs.Reading.{fall_behind, first_fall}
use Rattle.translated_file.specs.Whole.{Rise}

rise_tail : (x : ℕ) (xs : List ℕ) → Rise (x ∷ xs) → Rise xs
rise_tail x xs rise = λ k d within.
    let next : suc k + 1 ≡ suc (k + 1) = omega arith in
    subst (λ n. get_or xs k d < get_or (x ∷ xs) n d) next (rise (suc k) d (omega arith))

none_behind : (x place : ℕ) (xs : List ℕ) → Rise (x ∷ xs) → fall_behind x place xs ≡ None
none_behind x place [] rise = refl
none_behind x place (y ∷ ys) rise = ap (λ b. cond b (fall_behind y (place + 1) ys) (Some place)) (lt-ltb x y (rise 0 0 (omega arith))) ∙ none_behind y (place + 1) ys (rise_tail x (y ∷ ys) rise)

pub none_falls : (xs : List ℕ) → Rise xs → first_fall xs ≡ None
none_falls [] rise = refl
none_falls (x ∷ xs) rise = none_behind x 1 xs rise

rise_cons : (x y : ℕ) (ys : List ℕ) → x < y → Rise (y ∷ ys) → (k d : ℕ) → k + 1 < length (x ∷ y ∷ ys) → get_or (x ∷ y ∷ ys) k d < get_or (x ∷ y ∷ ys) (k + 1) d
rise_cons x y ys rises rest zero d within = rises
rise_cons x y ys rises rest (suc k) d within =
    let next : suc (k + 1) ≡ suc k + 1 = omega arith in
    subst (λ n. get_or (y ∷ ys) k d < get_or (x ∷ y ∷ ys) n d) next (rest k d (omega arith))

rises_behind : (x place : ℕ) (xs : List ℕ) → fall_behind x place xs ≡ None → Rise (x ∷ xs)
rises_behind x place [] none = λ k d within. absurd (omega arith)
rises_behind x place (y ∷ ys) none =
    (elim (nat_lt x y) as (λ b. nat_lt x y ≡ b → cond b (fall_behind y (place + 1) ys) (Some place) ≡ None → Rise (x ∷ y ∷ ys)) [
      | true ↦ λ is none. rise_cons x y ys (ltb-true x y is) (rises_behind y (place + 1) ys none)
      | false ↦ λ is none. absurd cc
    ]) refl none

pub rises : (xs : List ℕ) → first_fall xs ≡ None → Rise xs
rises [] none = λ k d within. absurd (omega arith)
rises (x ∷ xs) none = rises_behind x 1 xs none
