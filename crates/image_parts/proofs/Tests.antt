-- Tests that pass alike.
use Rattle.std.proofs.Common.{◌≡◌, ℕ, ◌<◌, ◌≤◌, Bool, true, false, not, ◌||◌, List, [], ◌∷◌, refl, ap, ◌∙◌, nat_lt, nat_le, cond, arith}
use Rattle.std.specs.Prelude.{Result, Ok, Err, OnOk, filter}
use Rattle.std.specs.List.{list_any, AllByRecursion}
use Rattle.std.proofs.lemmas.Bool.{lt-ltb, le-ltb, ltb-true, ltb-false, le-leb, leb-true, leb-false, lt-leb}

pub lt_same : (a b c d : ℕ) → (a < b → c < d) → (c < d → a < b) → nat_lt a b ≡ nat_lt c d
lt_same a b c d on back =
    (elim (nat_lt c d) as (λ t. nat_lt c d ≡ t → nat_lt a b ≡ t) [
      | true ↦ λ is. lt-ltb a b (back (ltb-true c d is))
      | false ↦ λ is. le-ltb _ _ (not_below a b c d on (ltb-false c d is))
    ]) refl
  where
    not_below : (a b c d : ℕ) → (a < b → c < d) → d ≤ c → b ≤ a
    not_below a b c d on above =
        (elim (nat_lt a b) as (λ t. nat_lt a b ≡ t → b ≤ a) [
          | true ↦ λ is. let below : c < d = on (ltb-true a b is) in absurd (omega arith)
          | false ↦ λ is. ltb-false a b is
        ]) refl

pub or_false : (a : Bool) → (a || false) ≡ a
or_false true = refl
or_false false = refl

pub or_true : (a : Bool) → (a || true) ≡ true
or_true true = refl
or_true false = refl

pub or_assoc : (a b c : Bool) → ((a || b) || c) ≡ (a || (b || c))
or_assoc true b c = refl
or_assoc false b c = refl

pub or_swap : (a b c : Bool) → (a || (b || c)) ≡ (b || (a || c))
or_swap true true c = refl
or_swap true false c = refl
or_swap false b c = refl

-- what passes a test and what fails it are all
pub any_split : {X : Type 0} (q p : X → Bool) (xs : List X) → (list_any p (filter q xs) || list_any p (filter (λ x. not (q x)) xs)) ≡ list_any p xs
any_split q p [] = refl
any_split q p (x ∷ xs) =
    let rest = any_split q p xs in
    let passed : List _ = filter q xs in
    let failed : List _ = filter (λ y. not (q y)) xs in
    elim (q x) as (λ b. (list_any p (cond b (x ∷ passed) passed) || list_any p (cond (not b) (x ∷ failed) failed)) ≡ (p x || list_any p xs)) [
      | true ↦ or_assoc (p x) (list_any p passed) (list_any p failed) ∙ ap (λ b. p x || b) rest
      | false ↦ or_swap (list_any p passed) (p x) (list_any p failed) ∙ ap (λ b. p x || b) rest
    ]

pub all_filter : {X : Type 0} (P : X → Type 0) (q : X → Bool) (xs : List X) → AllByRecursion P xs → AllByRecursion P (filter q xs)
all_filter P q [] all = tt
all_filter P q (x ∷ xs) all =
    let rest = all_filter P q xs all.1 in
    elim (q x) as (λ b. AllByRecursion P (cond b (x ∷ filter q xs) (filter q xs))) [ true ↦ (all.0, rest) | false ↦ rest ]

pub all_pass : {X : Type 0} (q : X → Bool) (xs : List X) → AllByRecursion (λ x. q x ≡ true) (filter q xs)
all_pass q [] = tt
all_pass q (x ∷ xs) =
    let rest = all_pass q xs in
    (elim (q x) as (λ b. q x ≡ b → AllByRecursion (λ y. q y ≡ true) (cond b (x ∷ filter q xs) (filter q xs))) [ true ↦ λ is. (is, rest) | false ↦ λ is. rest ]) refl

pub le_same : (a b c d : ℕ) → (a ≤ b → c ≤ d) → (c ≤ d → a ≤ b) → nat_le a b ≡ nat_le c d
le_same a b c d on back =
    (elim (nat_le c d) as (λ t. nat_le c d ≡ t → nat_le a b ≡ t) [
      | true ↦ λ is. le-leb a b (back (leb-true c d is))
      | false ↦ λ is. lt-leb _ _ (not_up a b c d on (leb-false c d is))
    ]) refl
  where
    not_up : (a b c d : ℕ) → (a ≤ b → c ≤ d) → d < c → b < a
    not_up a b c d on above =
        (elim (nat_le a b) as (λ t. nat_le a b ≡ t → b < a) [
          | true ↦ λ is. let below : c ≤ d = on (leb-true a b is) in absurd (omega arith)
          | false ↦ λ is. leb-false a b is
        ]) refl

pub on_ok : {X E P Q : Type 0} (r : Result X E) → (P → Q) → OnOk r P → OnOk r Q
on_ok (Ok x) f p = f p
on_ok (Err e) f p = p
