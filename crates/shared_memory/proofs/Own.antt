-- The entries of one processor, in histories that grow.
use Rattle.std.proofs.Common.{◌≡◌, ◌≢◌, ℕ, eqb, cond, Bool, List, [], ◌∷◌, ◌++◌, true, false, refl, sym, ap, ◌∙◌, eq-eqb, ne_eqb}
use mathlib.Core.Logic.{dite}
use native.Mathlib.Decide.{ℕ_discrete}
use Rattle.memory_core.specs.declared.entry.Entry.{Entry}
use Rattle.memory_core.specs.Order.{own}

own_step : (b : Bool) (x : Entry) (l m ys : List Entry) → l ≡ m ++ ys → cond b (x ∷ l) l ≡ cond b (x ∷ m) m ++ ys
own_step true x l m ys e = ap (λ (l : List Entry). x ∷ l) e
own_step false x l m ys e = e

pub own-append : (p : ℕ) (xs ys : List Entry) → own p (xs ++ ys) ≡ own p xs ++ own p ys
own-append p [] ys = refl
own-append p (x ∷ xs) ys = own_step (eqb x.processor p) x (own p (xs ++ ys)) (own p xs) (own p ys) (own-append p xs ys)

pub own-push : (p : ℕ) (es : List Entry) (e : Entry) → e.processor ≡ p → own p (es ++ e ∷ []) ≡ own p es ++ e ∷ []
own-push p es e is = own-append p es (e ∷ []) ∙ ap (λ (b : Bool). own p es ++ cond b (e ∷ []) []) (eq-eqb e.processor p is)

pub append_nil : (xs : List Entry) → xs ++ [] ≡ xs
append_nil [] = refl
append_nil (x ∷ xs) = ap (λ (l : List Entry). x ∷ l) (append_nil xs)

-- none of one processor's entries is another's
own_own : (p q : ℕ) (xs : List Entry) → q ≢ p → own q (own p xs) ≡ []
own_own p q [] ne = refl
own_own p q (x ∷ xs) ne = dite (ℕ_discrete x.processor p)
    (λ e. ap (λ (b : Bool). own q (cond b (x ∷ own p xs) (own p xs))) (eq-eqb x.processor p e)
    ∙ (ap (λ (b : Bool). cond b (x ∷ own q (own p xs)) (own q (own p xs))) (ne_eqb x.processor q (λ f. ne (sym f ∙ e))) ∙ own_own p q xs ne))
    (λ n. ap (λ (b : Bool). own q (cond b (x ∷ own p xs) (own p xs))) (ne_eqb x.processor p n) ∙ own_own p q xs ne)

-- entries of one processor add none of another's
pub own-others : (p q : ℕ) (xs news : List Entry) → q ≢ p → own p news ≡ news → own q (xs ++ news) ≡ own q xs
own-others p q xs news ne its =
    own-append q xs news ∙ (ap (λ (l : List Entry). own q xs ++ l) (ap (own q) (sym its) ∙ own_own p q news ne) ∙ append_nil (own q xs))
