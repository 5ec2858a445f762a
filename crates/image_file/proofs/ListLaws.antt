-- Small laws about places in lists.
use Rattle.std.proofs.Common.{get_or, drop, add-one, ◌≡◌, ◌≤◌, ◌<◌, ℕ, suc, ◌+◌, Bool, true, false, not, cond, List, [], ◌∷◌, Some, None, length, refl, sym, ap, ◌∙◌, arith, nat_lt}
use Rattle.std.specs.Prelude.{position, find, unwrap_or}
use Rattle.std.proofs.Math.Seq.{drop-cons}
use Rattle.std.proofs.lemmas.List.{drop_all}
use Rattle.std.specs.List.{list_all, AllByRecursion, position_or_len, prefix_len}
use Rattle.std.proofs.lemmas.List.Sums.{prefix_len-le-length}
use Rattle.std.proofs.lemmas.Bool.{and_parts, ltb-false, le-ltb, not-false}

-- where no element passes a test, its first place is none
none_to_len : {X : Type 0} (p : X → Bool) (xs : List X) → position p xs ≡ None → length xs ≤ position_or_len p xs
none_to_len p xs none =
    (elim (nat_lt (position_or_len p xs) (length xs)) as (λ b. nat_lt (position_or_len p xs) (length xs) ≡ b → cond b (Some (position_or_len p xs)) None ≡ None → length xs ≤ position_or_len p xs) [
      | true ↦ λ is none. absurd cc
      | false ↦ λ is none. ltb-false _ _ is
    ]) refl none

len_none : {X : Type 0} (p : X → Bool) (xs : List X) → length xs ≤ position_or_len p xs → AllByRecursion (λ x. p x ≡ false) xs
len_none p [] all = tt
len_none p (x ∷ xs) all =
    (elim (p x) as (λ b. p x ≡ b → suc (length xs) ≤ cond (not b) (1 + prefix_len (λ y. not (p y)) xs) 0 → (p x ≡ false) × AllByRecursion (λ y. p y ≡ false) xs) [
      | true ↦ λ is all. absurd (omega arith)
      | false ↦ λ is all. (is, len_none p xs (omega arith))
    ]) refl all

pub position_none : {X : Type 0} (p : X → Bool) (xs : List X) → position p xs ≡ None → AllByRecursion (λ x. p x ≡ false) xs
position_none p xs none = len_none p xs (none_to_len p xs none)

none_len : {X : Type 0} (p : X → Bool) (xs : List X) → AllByRecursion (λ x. p x ≡ false) xs → position_or_len p xs ≡ length xs
none_len p [] none = refl
none_len p (x ∷ xs) none = ap (λ b. cond (not b) (1 + prefix_len (λ y. not (p y)) xs) 0) none.0 ∙ (let rest = none_len p xs none.1 in omega (arith, rest))

pub none_position : {X : Type 0} (p : X → Bool) (xs : List X) → AllByRecursion (λ x. p x ≡ false) xs → position p xs ≡ None
none_position p xs none = rw (none_len p xs none, le-ltb (length xs) (length xs) (omega arith)) refl

-- no element fails where all pass
pub all_pass : {X : Type 0} (p : X → Bool) (xs : List X) → AllByRecursion (λ x. not (p x) ≡ false) xs → list_all p xs ≡ true
all_pass p [] pass = refl
all_pass p (x ∷ xs) pass = rw (not-false (p x) pass.0) (all_pass p xs pass.1)

pub none_fails : {X : Type 0} (p : X → Bool) (xs : List X) → list_all p xs ≡ true → AllByRecursion (λ x. not (p x) ≡ false) xs
none_fails p [] pass = tt
none_fails p (x ∷ xs) pass = let both = and_parts (p x) (list_all p xs) pass in (ap not both.0, none_fails p xs both.1)

pub each_passes : {X : Type 0} (p : X → Bool) (xs : List X) → list_all p xs ≡ true → AllByRecursion (λ x. p x ≡ true) xs
each_passes p [] pass = tt
each_passes p (x ∷ xs) pass = let both = and_parts (p x) (list_all p xs) pass in (both.0, each_passes p xs both.1)

-- the place that `position` gives, or the end
pub position_or_end : {X : Type 0} (p : X → Bool) (xs : List X) → unwrap_or (position p xs) (length xs) ≡ position_or_len p xs
position_or_end p xs =
    (elim (nat_lt (position_or_len p xs) (length xs)) as (λ b. nat_lt (position_or_len p xs) (length xs) ≡ b → unwrap_or (cond b (Some (position_or_len p xs)) None) (length xs) ≡ position_or_len p xs) [
      | true ↦ λ is. refl
      | false ↦ λ is. omega (arith, ltb-false _ _ is, prefix_len-le-length (λ x. not (p x)) xs)
    ]) refl

-- a search that has come to place k
find_from : {X : Type 0} (p : X → Bool) (xs : List X) (k : ℕ) (x : X) → k < length xs → x ≡ get_or xs k x → find p (drop k xs) ≡ cond (p x) (Some x) (find p (drop (k + 1) xs))
find_from p xs k x within is = ap (find p) (drop-cons xs k x within) ∙ (λ i. find p (sym is i ∷ drop (sym (add-one k) i) xs))

pub found_here : {X : Type 0} (p : X → Bool) (xs : List X) (k : ℕ) (x : X) → k < length xs → x ≡ get_or xs k x → find p (drop k xs) ≡ find p xs → p x ≡ true → find p xs ≡ Some x
found_here p xs k x within is so_far passes = sym so_far ∙ find_from p xs k x within is ∙ ap (λ b. cond b (Some x) (find p (drop (k + 1) xs))) passes

pub found_later : {X : Type 0} (p : X → Bool) (xs : List X) (k : ℕ) (x : X) → k < length xs → x ≡ get_or xs k x → find p (drop k xs) ≡ find p xs → p x ≡ false → find p (drop (k + 1) xs) ≡ find p xs
found_later p xs k x within is so_far fails = sym (find_from p xs k x within is ∙ ap (λ b. cond b (Some x) (find p (drop (k + 1) xs))) fails) ∙ so_far

pub found_nowhere : {X : Type 0} (p : X → Bool) (xs : List X) (k : ℕ) → length xs ≤ k → find p (drop k xs) ≡ find p xs → find p xs ≡ None
found_nowhere p xs k all so_far = sym so_far ∙ ap (find p) (drop_all k xs all)
