-- What the work list has found, and what it has still to visit.
use Rattle.std.proofs.Common.{◌≡◌, ◌∙◌, ◌<◌, ◌≤◌, ◌+◌, ◌^◌, ◌||◌, ◌&&◌, ℕ, Bool, cond, true, false, zero, suc, refl, sym, ap, arith, inl, inr, List, [], ◌∷◌, ◌++◌, length, filter, take, nat_eq, eqb-true, nat_lt, ltb-true, ltb-false, slice_index_or, Option, Some, None, true≢false, length-append}
use Rattle.std.specs.Prelude.{slice_get}
use Rattle.std.specs.List.{IsDistinct}
use Rattle.std.specs.Option.{is_some}
use Rattle.vax_form.specs.Pages.{is_code}
use Rattle.std.proofs.Math.ListN.{get_or-append}
use Rattle.std.proofs.lemmas.Bool.{and_parts, or_cases, or_left, or_right, eq-eqb}
use Rattle.std.specs.List.Sorted.{IsSorted}
use Rattle.std.specs.Ordering.{nat_cmp}
use Rattle.std.proofs.lemmas.List.Sorted.{IsNonDecreasingBy-from_sort}
use Rattle.std.proofs.lemmas.Map.Keys.{IsDistinct-from_apart, IsStrictlyIncreasing-from_distinct, apart_from_distinct}
use Rattle.std.proofs.lemmas.List.{get_or-take, length-take, length-take-le}
use Rattle.indexmap.specs.IndexSet.{insert_all, insert_key}
use Rattle.vax_form.specs.PageTable.{code_length}
use Rattle.vax_form.specs.declared.instr.Instr.{Instr}
use Rattle.vax_form.specs.declared.pages.Pages.{Pages}
use Rattle.vax_form.specs.Targets.{has}
use Rattle.flow_discovery.specs.Reach.{AreReached, HasMembers, Member, decodes, instruction_at, start, step, successors}
use Rattle.flow_discovery.proofs.Decoded.{code_at}
use Rattle.flow_discovery.proofs.PageCount.{few_in_pages}

-- ---- adding addresses to a list

has_push : (ks : List ℕ) (k a : ℕ) → has (ks ++ k ∷ []) a ≡ (has ks a || nat_eq a k)
has_push [] k a = go (nat_eq a k)
  where
    go : (b : Bool) → (b || false) ≡ (false || b)
    go true = refl
    go false = refl
has_push (x ∷ xs) k a = go (nat_eq a x) (has_push xs k a)
  where
    go : (b : Bool) → has (xs ++ k ∷ []) a ≡ (has xs a || nat_eq a k) → (b || has (xs ++ k ∷ []) a) ≡ ((b || has xs a) || nat_eq a k)
    go true e = refl
    go false e = e

has_key : (ks : List ℕ) (k a : ℕ) → has (insert_key nat_eq ks k) a ≡ (has ks a || nat_eq a k)
has_key ks k a = go (has ks k) refl
  where
    same : has ks k ≡ true → (b : Bool) → nat_eq a k ≡ b → has ks a ≡ (has ks a || b)
    same h false e = or_false (has ks a)
      where
        or_false : (c : Bool) → c ≡ (c || false)
        or_false true = refl
        or_false false = refl
    same h true e =
        let here : has ks a ≡ true = ap (has ks) (eqb-true a k e) ∙ h in
        rw here refl

    go : (b : Bool) → has ks k ≡ b → has (cond b ks (ks ++ k ∷ [])) a ≡ (has ks a || nat_eq a k)
    go true h = same h (nat_eq a k) refl
    go false h = has_push ks k a

or_assoc : (a b c : Bool) → ((a || b) || c) ≡ (a || (b || c))
or_assoc true b c = refl
or_assoc false b c = refl

-- a list after more addresses has them beside its own
pub has_all : (xs ks : List ℕ) (a : ℕ) → has (insert_all nat_eq ks xs) a ≡ (has ks a || has xs a)
has_all [] ks a = go (has ks a)
  where
    go : (b : Bool) → b ≡ (b || false)
    go true = refl
    go false = refl
has_all (x ∷ xs) ks a =
    has_all xs (insert_key nat_eq ks x) a ∙ ap (λ b. b || has xs a) (has_key ks x a) ∙ or_assoc (has ks a) (nat_eq a x) (has xs a)

has_filter : (p : ℕ → Bool) (xs : List ℕ) (a : ℕ) → has (filter p xs) a ≡ (has xs a && p a)
has_filter p [] a = refl
has_filter p (x ∷ xs) a = go (p x) refl (nat_eq a x) refl (has_filter p xs a)
  where
    and_is : (b c : Bool) → c ≡ false → b ≡ (false || b)
    and_is b c e = refl

    go : (b : Bool) → p x ≡ b → (c : Bool) → nat_eq a x ≡ c → has (filter p xs) a ≡ (has xs a && p a) → has (cond b (x ∷ filter p xs) (filter p xs)) a ≡ ((c || has xs a) && p a)
    go true e true f h = let here : p a ≡ true = ap p (eqb-true a x f) ∙ e in rw (f, here) refl
    go true e false f h = rw f h
    go false e true f h =
        let here : p a ≡ false = ap p (eqb-true a x f) ∙ e in
        h ∙ rw here (none (has xs a))
      where
        none : (b : Bool) → (b && false) ≡ false
        none true = refl
        none false = refl
    go false e false f h = h

-- ---- the addresses that were there keep their places

key_keeps : (ks : List ℕ) (x k d : ℕ) → k < length ks → slice_index_or (insert_key nat_eq ks x) k d ≡ slice_index_or ks k d
key_keeps ks x k d lt = go (has ks x)
  where
    go : (b : Bool) → slice_index_or (cond b ks (ks ++ x ∷ [])) k d ≡ slice_index_or ks k d
    go true = refl
    go false = get_or-append ks (x ∷ []) d k lt

key_longer : (ks : List ℕ) (x : ℕ) → length ks ≤ length (insert_key nat_eq ks x)
key_longer ks x = go (has ks x)
  where
    go : (b : Bool) → length ks ≤ length (cond b ks (ks ++ x ∷ []))
    go true = omega arith
    go false = omega (arith, length-append {A = ℕ})

pub all_longer : (xs ks : List ℕ) → length ks ≤ length (insert_all nat_eq ks xs)
all_longer [] ks = omega arith
all_longer (x ∷ xs) ks =
    let one = key_longer ks x in
    let rest = all_longer xs (insert_key nat_eq ks x) in
    omega arith

pub all_keep : (xs ks : List ℕ) (k d : ℕ) → k < length ks → slice_index_or (insert_all nat_eq ks xs) k d ≡ slice_index_or ks k d
all_keep [] ks k d lt = refl
all_keep (x ∷ xs) ks k d lt =
    let one = key_longer ks x in
    all_keep xs (insert_key nat_eq ks x) k d (omega arith) ∙ key_keeps ks x k d lt

-- ---- places

-- an address of the list has a place
place_of : (ks : List ℕ) (a : ℕ) → has ks a ≡ true → (k : ℕ) × (k < length ks) × (slice_index_or ks k 0 ≡ a)
place_of [] a h = absurd (true≢false (sym h))
place_of (x ∷ xs) a h = go (nat_eq a x) refl h (place_of xs a)
  where
    go : (b : Bool) → nat_eq a x ≡ b → (b || has xs a) ≡ true → (has xs a ≡ true → (k : ℕ) × (k < length xs) × (slice_index_or xs k 0 ≡ a))
        → (k : ℕ) × (k < suc (length xs)) × (slice_index_or (x ∷ xs) k 0 ≡ a)
    go true e h later = (0, omega arith, sym (eqb-true a x e))
    go false e h later = let p = later h in (suc p.0, omega arith, p.2)

at_place : (ks : List ℕ) (k : ℕ) → k < length ks → has ks (slice_index_or ks k 0) ≡ true
at_place [] k lt = absurd (omega arith)
at_place (x ∷ xs) zero lt = rw (eq-eqb x x refl) refl
at_place (x ∷ xs) (suc k) lt = or_right (nat_eq (slice_index_or xs k 0) x) _ (at_place xs k (omega arith))

-- ---- the work list

IsDistinct-take : (n : ℕ) (ks : List ℕ) → IsDistinct nat_eq ks → IsDistinct nat_eq (take n ks)
IsDistinct-take n ks unique = IsDistinct-from_apart nat_eq (take n ks) apart
  where
    apart : (i j d : ℕ) → i < j → j < length (take n ks) → nat_eq (slice_index_or (take n ks) i d) (slice_index_or (take n ks) j d) ≡ false
    apart i j d less within =
        let size = length-take n ks in
        rw (get_or-take n ks i d (omega arith), get_or-take n ks j d (omega arith)) (apart_from_distinct nat_eq ks i j d unique less (omega arith))

module _ (pages : Pages) (starts : List ℕ) where
  -- what holds when the places below `at` are visited
  pub record Found (keys : List ℕ) (at : ℕ) : Type 0 where
    pub sound : (a : ℕ) → has keys a ≡ true → Member pages starts a
    pub started : (a : ℕ) → has starts a ≡ true → decodes pages a ≡ true → has keys a ≡ true
    pub visited : (k b : ℕ) → k < at → has (successors pages (slice_index_or keys k 0)) b ≡ true → decodes pages b ≡ true → has keys b ≡ true
    pub within : at ≤ length keys
    pub small : (k : ℕ) → k < at → slice_index_or keys k 0 < 2 ^ 32

  abbrev pub wanted : List ℕ → List ℕ
  wanted addresses = filter (decodes pages) addresses

  has_wanted : (xs : List ℕ) (a : ℕ) → has xs a ≡ true → decodes pages a ≡ true → has (wanted xs) a ≡ true
  has_wanted xs a h d = has_filter (decodes pages) xs a ∙ rw (h, d) refl

  from_wanted : (xs : List ℕ) (a : ℕ) → has (wanted xs) a ≡ true → (has xs a ≡ true) × (decodes pages a ≡ true)
  from_wanted xs a h = and_parts (has xs a) (decodes pages a) (sym (has_filter (decodes pages) xs a) ∙ h)

  pub begins : (keys : List ℕ) → keys ≡ insert_all nat_eq [] (wanted starts) → Found keys 0
  begins keys is = record {
    sound = λ a h.
        let w = from_wanted starts a (sym (has_all (wanted starts) [] a) ∙ ap (λ ks. has ks a) (sym is) ∙ h) in
        start a w.0 w.1;
    started = λ a h d. ap (λ ks. has ks a) is ∙ has_all (wanted starts) [] a ∙ has_wanted starts a h d;
    visited = λ k b lt h d. absurd (omega arith);
    within = omega arith;
    small = λ k lt. absurd (omega arith);
  }

  pub goes : (keys after : List ℕ) (at address : ℕ) → Found keys at → at < length keys → address < 2 ^ 32 → address ≡ slice_index_or keys at 0
      → after ≡ insert_all nat_eq keys (wanted (successors pages address)) → Found after (at + 1)
  goes keys after at address found lt fits here is =
      let grown : (a : ℕ) → has after a ≡ (has keys a || has (wanted (successors pages address)) a) = λ a. ap (λ ks. has ks a) is ∙ has_all (wanted (successors pages address)) keys a in
      let longer : length keys ≤ length after = rw is (all_longer (wanted (successors pages address)) keys) in
      let stays : (k : ℕ) → k < length keys → slice_index_or after k 0 ≡ slice_index_or keys k 0 = λ k less. ap (λ ks. slice_index_or ks k 0) is ∙ all_keep (wanted (successors pages address)) keys k 0 less in
      let member : Member pages starts address = rw here (found.sound (slice_index_or keys at 0) (at_place keys at lt)) in
      record {
        sound = λ a h. elim (or_cases (has keys a) (has (wanted (successors pages address)) a) (sym (grown a) ∙ h)) [
          | inl old ↦ found.sound a old
          | inr new ↦ step address a member (from_wanted (successors pages address) a new).0 (from_wanted (successors pages address) a new).1
        ];
        started = λ a h d. grown a ∙ or_left (has keys a) _ (found.started a h d);
        visited = λ k b less h d. visited_at found grown stays k b less h d (nat_lt k at) refl;
        within = omega (arith, found.within);
        small = λ k less. small_at found stays k less (nat_lt k at) refl;
      }
    where
      small_at : Found keys at → ((k : ℕ) → k < length keys → slice_index_or after k 0 ≡ slice_index_or keys k 0) → (k : ℕ) → k < at + 1 → (c : Bool) → nat_lt k at ≡ c → slice_index_or after k 0 < 2 ^ 32
      small_at found stays k less true e =
          let before : k < at = ltb-true k at e in
          let same = stays k (omega (arith, found.within)) in
          let old = found.small k before in
          omega arith
      small_at found stays k less false e =
          let late : at ≤ k = ltb-false k at e in
          let now : k ≡ at = omega arith in
          let same = stays k (omega arith) in
          let there = ap (λ j. slice_index_or keys j 0) now in
          omega arith

      visited_at : Found keys at → ((a : ℕ) → has after a ≡ (has keys a || has (wanted (successors pages address)) a))
          → ((k : ℕ) → k < length keys → slice_index_or after k 0 ≡ slice_index_or keys k 0)
          → (k b : ℕ) → k < at + 1 → has (successors pages (slice_index_or after k 0)) b ≡ true → decodes pages b ≡ true
          → (c : Bool) → nat_lt k at ≡ c → has after b ≡ true
      visited_at found grown stays k b less h d true e =
          let before : k < at = ltb-true k at e in
          let same = stays k (omega (arith, found.within)) in
          grown b ∙ or_left (has keys b) _ (found.visited k b before (ap (λ a. has (successors pages a) b) (sym same) ∙ h) d)
      visited_at found grown stays k b less h d false e =
          let late : at ≤ k = ltb-false k at e in
          let now : k ≡ at = omega arith in
          let same : slice_index_or after k 0 ≡ address = stays k (omega arith) ∙ ap (λ j. slice_index_or keys j 0) now ∙ sym here in
          grown b ∙ or_right (has keys b) _ (has_wanted (successors pages address) b (ap (λ a. has (successors pages a) b) (sym same) ∙ h) d)

  closed : (keys : List ℕ) (at : ℕ) → Found keys at → length keys ≤ at → (a : ℕ) → Member pages starts a → has keys a ≡ true
  closed keys at found done _ (start a h d) = found.started a h d
  closed keys at found done _ (step a b m h d) =
      let p = place_of keys a (closed keys at found done a m) in
      found.visited p.0 b (omega arith) (ap (λ x. has (successors pages x) b) p.2 ∙ h) d

  pub ends : (keys : List ℕ) (at : ℕ) → Found keys at → length keys ≤ at → HasMembers pages starts keys
  ends keys at found done a = (found.sound a, closed keys at found done a)

  pub decoded : (a : ℕ) → Member pages starts a → decodes pages a ≡ true
  decoded _ (start a h d) = d
  decoded _ (step a b m h d) = d

  in_code : (a : ℕ) → a < 2 ^ 32 → decodes pages a ≡ true → is_code pages a ≡ true
  in_code a small d = go (instruction_at pages a) refl d
    where
      go : (o : Option Instr) → instruction_at pages a ≡ o → is_some o ≡ true → is_code pages a ≡ true
      go (Some i) e d = code_at pages a i small e
      go None e d = absurd (true≢false (sym d))

  -- fewer addresses are visited than read-only pages have bytes
  pub few : (keys : List ℕ) (at : ℕ) → Found keys at → IsDistinct nat_eq keys → at < length keys → slice_index_or keys at 0 < 2 ^ 32 → at < code_length pages.ranges
  few keys at found unique within fits =
      let front : List ℕ = take (at + 1) keys in
      let size : length front ≡ at + 1 = length-take-le (at + 1) keys (omega arith) in
      let most : length front ≤ code_length pages.ranges = few_in_pages pages.ranges front (IsDistinct-take (at + 1) keys unique) in_front in
      omega arith
    where
      small_at : (k : ℕ) → k < at + 1 → slice_index_or keys k 0 < 2 ^ 32
      small_at k less = go (nat_lt k at) refl
        where
          go : (c : Bool) → nat_lt k at ≡ c → slice_index_or keys k 0 < 2 ^ 32
          go true e = found.small k (ltb-true k at e)
          go false e =
              let late : at ≤ k = ltb-false k at e in
              let now : k ≡ at = omega arith in
              rw now fits

      in_front : (x : ℕ) → has (take (at + 1) keys) x ≡ true → is_code pages x ≡ true
      in_front x h =
          let p = place_of (take (at + 1) keys) x h in
          let below : p.0 < at + 1 = omega (arith, length-take-le (at + 1) keys (omega arith)) in
          let same : slice_index_or keys p.0 0 ≡ x = sym (get_or-take (at + 1) keys p.0 0 below) ∙ p.2 in
          let small = small_at p.0 below in
          let there = at_place keys p.0 (omega arith) in
          in_code x (omega arith) (decoded x (found.sound x (ap (has keys) (sym same) ∙ there)))

  pub some_at : (keys : List ℕ) (i x : ℕ) → slice_get keys i ≡ Some x → x ≡ slice_index_or keys i 0
  some_at [] i x e = cc
  some_at (k ∷ ks) zero x e = cc
  some_at (k ∷ ks) (suc i) x e = some_at ks i x e

  -- the members in rising order, once they are sorted
  pub sorted : (keys ordered : List ℕ) → HasMembers pages starts keys → IsSorted nat_cmp ordered → ((q : ℕ) → has ordered q ≡ has keys q) → IsDistinct nat_eq ordered → AreReached pages starts ordered
  sorted keys ordered members order same unique = record {
    members = λ a. (λ h. (members a).0 (sym (same a) ∙ h), λ m. same a ∙ (members a).1 m);
    rising = IsStrictlyIncreasing-from_distinct ordered (IsNonDecreasingBy-from_sort (λ n. n) ordered order) unique;
  }
