-- Rising lists of numbers: two with the same members are one list, and one whose members another has is not longer.
use Rattle.std.proofs.Common.{◌≡◌, ◌<◌, ◌≤◌, ◌+◌, ℕ, suc, true, List, [], ◌∷◌, length, nat_eq, refl, sym, ap, subst, arith, inl, inr}
use Rattle.std.specs.Prelude.{slice_index, ◌⊎◌}
use Rattle.std.specs.List.Sorted.{IsStrictlyIncreasing}
use Rattle.std.proofs.lemmas.Bool.{cases_eq, or_cases, or_left, or_right, eqb-true, eq-eqb}
use Rattle.vax_form.specs.Targets.{has}
use Rattle.flow_discovery.specs.Reach.{AreReached, AreTooMany, most}
use Rattle.translate.specs.Refusal.{AreFew}
use Rattle.vax_form.specs.declared.pages.Pages.{Pages}

-- from a number on
abbrev Rising : ℕ → List ℕ → Type 0
Rising n [] = Unit {0}
Rising n (x ∷ xs) = (n ≤ x) × Rising (x + 1) xs

rising_of : (n : ℕ) (xs : List ℕ) → IsStrictlyIncreasing xs → (0 < length xs → n ≤ slice_index xs 0) → Rising n xs
rising_of n [] h first = tt
rising_of n (x ∷ xs) h first = (
  first (omega arith),
  rising_of (x + 1) xs
      (λ k lt.
      let same : suc k + 1 ≡ suc (k + 1) = omega arith in
      subst (λ m. slice_index xs k < slice_index (x ∷ xs) m) same (h (suc k) (omega arith)))
      (λ some. let up : x < slice_index xs 0 = h 0 (omega arith) in omega (arith, up)),
)

above : (n : ℕ) (xs : List ℕ) (a : ℕ) → Rising n xs → has xs a ≡ true → n ≤ a
above n [] a r h = absurd cc
above n (x ∷ xs) a r h = by (or_cases (nat_eq a x) (has xs a) h) (above (x + 1) xs a r.1)
  where
    by : (nat_eq a x ≡ true) ⊎ (has xs a ≡ true) → (has xs a ≡ true → x + 1 ≤ a) → n ≤ a
    by (inl e) later = let same : a ≡ x = eqb-true a x e in let low : n ≤ x = r.0 in omega (arith, same, low)
    by (inr e) later = let up : x + 1 ≤ a = later e in let low : n ≤ x = r.0 in omega (arith, up, low)

-- the first of a list is not above any other of its numbers
first_least : (x : ℕ) (xs : List ℕ) (a : ℕ) → Rising (x + 1) xs → has (x ∷ xs) a ≡ true → x ≤ a
first_least x xs a r h = above x (x ∷ xs) a (omega arith, r) h

-- and its other numbers are among those of the other list but its first
behind : (x y : ℕ) (xs ys : List ℕ) → x ≡ y → Rising (x + 1) xs → ((a : ℕ) → has (x ∷ xs) a ≡ true → has (y ∷ ys) a ≡ true)
    → (a : ℕ) → has xs a ≡ true → has ys a ≡ true
behind x y xs ys same r in' a h = by (or_cases (nat_eq a y) (has ys a) (in' a (or_right (nat_eq a x) (has xs a) h)))
  where
    by : (nat_eq a y ≡ true) ⊎ (has ys a ≡ true) → has ys a ≡ true
    by (inl e) = absurd (let is : a ≡ y = eqb-true a y e in let up : x + 1 ≤ a = above (x + 1) xs a r h in omega (arith, is, up, same))
    by (inr e) = e

same_rising : (n m : ℕ) (xs ys : List ℕ) → Rising n xs → Rising m ys → ((a : ℕ) → has xs a ≡ true → has ys a ≡ true) → ((a : ℕ) → has ys a ≡ true → has xs a ≡ true) → xs ≡ ys
same_rising n m [] [] r s f g = refl
same_rising n m [] (y ∷ ys) r s f g = absurd (let there = g y (or_left (nat_eq y y) (has ys y) (eq-eqb y y refl)) in cc)
same_rising n m (x ∷ xs) [] r s f g = absurd (let there = f x (or_left (nat_eq x x) (has xs x) (eq-eqb x x refl)) in cc)
same_rising n m (x ∷ xs) (y ∷ ys) r s f g =
    let low : y ≤ x = first_least y ys x s.1 (f x (or_left (nat_eq x x) (has xs x) (eq-eqb x x refl))) in
    let high : x ≤ y = first_least x xs y r.1 (g y (or_left (nat_eq y y) (has ys y) (eq-eqb y y refl))) in
    let same : x ≡ y = omega (arith, low, high) in
    let rest : xs ≡ ys = same_rising (x + 1) (y + 1) xs ys r.1 s.1 (behind x y xs ys same r.1 f) (behind y x ys xs (sym same) s.1 g) in
    cc

pub one_list : (pages : Pages) (starts xs ys : List ℕ) → AreReached pages starts xs → AreReached pages starts ys → xs ≡ ys
one_list pages starts xs ys r s =
    same_rising 0 0 xs ys (rising_of 0 xs r.rising (λ some. omega arith)) (rising_of 0 ys s.rising (λ some. omega arith))
    (λ a h. (s.members a).1 ((r.members a).0 h)) (λ a h. (r.members a).1 ((s.members a).0 h))

-- ---- one of which the other has all members is not longer
contained : (n m : ℕ) (xs ys : List ℕ) → Rising n xs → Rising m ys → ((a : ℕ) → has xs a ≡ true → has ys a ≡ true) → length xs ≤ length ys
contained n m [] ys r s f = omega arith
contained n m (x ∷ xs) [] r s f = absurd (let there = f x (or_left (nat_eq x x) (has xs x) (eq-eqb x x refl)) in cc)
contained n m (x ∷ xs) (y ∷ ys) r s f =
    let low : y ≤ x = first_least y ys x s.1 (f x (or_left (nat_eq x x) (has xs x) (eq-eqb x x refl))) in
    by (cases_eq x y) low (λ same. contained (x + 1) (y + 1) xs ys r.1 s.1 (behind x y xs ys same r.1 f))
    (λ g. contained x (y + 1) (x ∷ xs) ys (omega arith, r.1) s.1 g)
  where
    beyond : y + 1 ≤ x → (a : ℕ) → has (x ∷ xs) a ≡ true → has ys a ≡ true
    beyond more a h = left (or_cases (nat_eq a y) (has ys a) (f a h))
      where
        left : (nat_eq a y ≡ true) ⊎ (has ys a ≡ true) → has ys a ≡ true
        left (inl e) = absurd (let is : a ≡ y = eqb-true a y e in let up : x ≤ a = first_least x xs a r.1 h in omega (arith, is, up, more))
        left (inr e) = e

    by : (x ≡ y) ⊎ (x ≡ y → ⊥) → y ≤ x → (x ≡ y → length xs ≤ length ys) → (((a : ℕ) → has (x ∷ xs) a ≡ true → has ys a ≡ true) → suc (length xs) ≤ length ys)
        → suc (length xs) ≤ suc (length ys)
    by (inl same) low one two = let rest : length xs ≤ length ys = one same in omega (arith, rest)
    by (inr other) low one two =
        let more : y + 1 ≤ x = omega (arith, low, other) in
        let rest : suc (length xs) ≤ length ys = two (beyond more) in
        omega (arith, rest)

pub not_longer : (xs ys : List ℕ) → IsStrictlyIncreasing xs → IsStrictlyIncreasing ys → ((a : ℕ) → has xs a ≡ true → has ys a ≡ true) → length xs ≤ length ys
not_longer xs ys r s f = contained 0 0 xs ys (rising_of 0 xs r (λ some. omega arith)) (rising_of 0 ys s (λ some. omega arith)) f

-- the number of the members, where it is told
pub as_many : (pages : Pages) (starts addresses : List ℕ) (count : ℕ) → AreReached pages starts addresses → AreTooMany pages starts count → most < length addresses
as_many pages starts addresses count r (others, s, is, many) =
    let same = ap length (one_list pages starts addresses others r s) in
    omega (arith, same, is, many)

pub as_few : (pages : Pages) (starts addresses : List ℕ) → AreReached pages starts addresses → AreFew pages starts → length addresses ≤ most
as_few pages starts addresses r few =
    let same = ap length (one_list pages starts addresses few.addresses r few.reached) in
    let within = few.few in
    omega (arith, same, within)
