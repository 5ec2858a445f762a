-- Marks, address by address.
use Rattle.std.proofs.Common.{◌≡◌, ◌≢◌, ℕ, zero, suc, ◌<◌, ◌≤◌, ◌+◌, ◌-◌, ◌*◌, ◌/◌, ◌==◌, ◌&&◌, ◌||◌, not, Bool, true, false, List, [], ◌∷◌, ◌++◌, Option, Some, None, cond, if◌then◌else◌, length, take, get_or, slice_get, slice_set, nat_le, nat_lt, refl, sym, ap, ◌∙◌, subst, arith, eq-eqb}
use Rattle.std.specs.Prelude.{option_map, position, replicate}
use Rattle.std.specs.List.{list_any, position_or_len}
use Rattle.std.proofs.Math.Path.{fun_ext}
use Rattle.std.proofs.lemmas.Bool.Decides.{nat_tests}
use Rattle.std.proofs.lemmas.List.{length-set, length-replicate, take_all}
use Rattle.std.proofs.lemmas.List.Folds.{list_any_more}
use Rattle.std.proofs.lemmas.List.Quantifiers.{position-Some}
use Rattle.std.proofs.lemmas.List.Sums.{fails_before_first}
use Rattle.std.proofs.lemmas.Option.{slice_get-get_or}
use Rattle.vax_form.specs.PageTable.{AreRising, code_bytes}
use Rattle.vax_form.specs.Pages.{has_code}
use Rattle.vax_form.specs.declared.pages.PageRange.{PageRange}
use Rattle.stored_runs.specs.Marks.{IsUnmarked, has_place, mark_among, with_mark}
use Rattle.stored_runs.specs.declared.marks.MarkedRange.{MarkedRange}

-- ---- one range
pub starts_before : (address : ℕ) (r : MarkedRange) → has_place address r ≡ true → r.start ≤ address
starts_before address r is = grind (arith, nat_tests, is)

pub ends_behind : (address : ℕ) (r : MarkedRange) → has_place address r ≡ true → address - r.start < length r.marks.items
ends_behind address r is = grind (arith, nat_tests, is)

got_set_other : (xs : List Bool) (n m : ℕ) (b : Bool) → n ≢ m → slice_get (slice_set xs n b) m ≡ slice_get xs m
got_set_other [] n m b apart = refl
got_set_other (x ∷ xs) zero zero b apart = absurd (apart refl)
got_set_other (x ∷ xs) zero (suc m) b apart = refl
got_set_other (x ∷ xs) (suc n) zero b apart = refl
got_set_other (x ∷ xs) (suc n) (suc m) b apart = got_set_other xs n m b (λ e. apart (ap suc e))

got_set_same : (xs : List Bool) (n : ℕ) (b : Bool) → n < length xs → slice_get (slice_set xs n b) n ≡ Some b
got_set_same [] n b below = absurd (omega arith)
got_set_same (x ∷ xs) zero b below = refl
got_set_same (x ∷ xs) (suc n) b below = got_set_same xs n b (omega arith)

set_mark : (o : Option Bool) (b : Bool) → o ≡ Some b → option_map (λ _. true) o ≡ Some true
set_mark None b is = absurd (cc is)
set_mark (Some c) b is = refl

module _ (r new : MarkedRange) (address : ℕ) (has : has_place address r ≡ true) (start : new.start ≡ r.start) (marks : new.marks.items ≡ slice_set r.marks.items (address - r.start) true) where
  alike : (at : ℕ) → has_place at new ≡ has_place at r
  alike at =
      ap (λ s. nat_le s at && nat_lt (at - s) (length new.marks.items)) start
      ∙ ap (λ n. nat_le r.start at && nat_lt (at - r.start) n) (ap length marks ∙ length-set r.marks.items (address - r.start) true)

  slot : (at : ℕ) → slice_get new.marks.items (at - new.start) ≡ slice_get (slice_set r.marks.items (address - r.start) true) (at - r.start)
  slot at = ap (λ l. slice_get l (at - new.start)) marks ∙ ap (λ s. slice_get (slice_set r.marks.items (address - r.start) true) (at - s)) start

  inside : (at : ℕ) (b : Bool) → (at == address) ≡ b → has_place at r ≡ true
      → slice_get new.marks.items (at - new.start) ≡ (if b then option_map (λ _. true) (slice_get r.marks.items (at - r.start)) else slice_get r.marks.items (at - r.start))
  inside at true e is =
      let same : at ≡ address = grind (arith, nat_tests, e) in
      let below = ends_behind address r has in
      slot at ∙ ap (λ a. slice_get (slice_set r.marks.items (address - r.start) true) (a - r.start)) same
      ∙ got_set_same r.marks.items (address - r.start) true below
      ∙ sym (set_mark (slice_get r.marks.items (at - r.start)) (get_or r.marks.items (at - r.start) true) (slice_get-get_or r.marks.items (at - r.start) true (ends_behind at r is)))
  inside at false e is =
      let apart : at ≢ address = λ same. let gone : false ≡ true = sym e ∙ eq-eqb at address same in cc gone in
      let low = starts_before at r is in
      let high = starts_before address r has in
      slot at ∙ got_set_other r.marks.items (address - r.start) (at - r.start) true (λ same. apart (omega (arith, low, high, same)))

  outside : (at : ℕ) (rest : Option Bool) (b : Bool) → (at == address) ≡ b → has_place at r ≡ false → rest ≡ (if b then option_map (λ _. true) rest else rest)
  outside at rest true e none =
      let same : at ≡ address = grind (arith, nat_tests, e) in
      let gone : true ≡ false = sym has ∙ ap (λ a. has_place a r) (sym same) ∙ none in
      absurd (cc gone)
  outside at rest false e none = refl

  pub marked_here : (at : ℕ) (rest : Option Bool) → (if has_place at new then slice_get new.marks.items (at - new.start) else rest)
      ≡ (if at == address then option_map (λ _. true) (if has_place at r then slice_get r.marks.items (at - r.start) else rest)
      else if has_place at r then slice_get r.marks.items (at - r.start) else rest)
  marked_here at rest =
      ap (λ (b : Bool). if b then slice_get new.marks.items (at - new.start) else rest) (alike at) ∙ by (has_place at r) refl
    where
      by : (b : Bool) → has_place at r ≡ b → (if b then slice_get new.marks.items (at - new.start) else rest)
          ≡ (if at == address then option_map (λ _. true) (if b then slice_get r.marks.items (at - r.start) else rest) else if b then slice_get r.marks.items (at - r.start) else rest)
      by true is = inside at (at == address) refl is
      by false none = outside at rest (at == address) refl none

-- ---- all ranges
none_has : {X : Type 0} (p : X → Bool) (xs : List X) (d : X) → position p xs ≡ None → (k : ℕ) → k < length xs → p (get_or xs k d) ≡ false
none_has {X} p xs d is k below = by (nat_lt (position_or_len p xs) (length xs)) refl is
  where
    by : (b : Bool) → nat_lt (position_or_len p xs) (length xs) ≡ b → cond b (Some (position_or_len p xs)) None ≡ None → p (get_or xs k d) ≡ false
    by true e none = absurd (cc none)
    by false e none =
        let all : length xs ≤ position_or_len p xs = grind (arith, nat_tests, e) in
        fails_before_first p xs k d (omega (arith, all, below))

unmarked_among : (ranges : List MarkedRange) (address : ℕ) (d : MarkedRange) → ((k : ℕ) → k < length ranges → has_place address (get_or ranges k d) ≡ false) → mark_among ranges address ≡ None
unmarked_among [] address d none = refl
unmarked_among (r ∷ ranges) address d none =
    ap (λ (b : Bool). if b then slice_get r.marks.items (address - r.start) else mark_among ranges address) (none 0 (omega arith))
    ∙ unmarked_among ranges address d (λ k l. none (suc k) (omega arith))

pub mark_nowhere : (ranges : List MarkedRange) (address : ℕ) → position (has_place address) ranges ≡ None → mark_among ranges address ≡ None
mark_nowhere [] address none = refl
mark_nowhere (r ∷ ranges) address none = unmarked_among (r ∷ ranges) address r (none_has (has_place address) (r ∷ ranges) r none)

-- an address without a mark gets none
pub none_set : (ranges : List MarkedRange) (address : ℕ) → position (has_place address) ranges ≡ None → mark_among ranges ≡ with_mark (mark_among ranges) address
none_set ranges address none = fun_ext (λ at. by at (at == address) refl)
  where
    by : (at : ℕ) (b : Bool) → (at == address) ≡ b → mark_among ranges at ≡ (if b then option_map (λ _. true) (mark_among ranges at) else mark_among ranges at)
    by at true e =
        let same : at ≡ address = grind (arith, nat_tests, e) in
        let gone = ap (mark_among ranges) same ∙ mark_nowhere ranges address none in
        gone ∙ sym (ap (option_map (λ _. true)) gone)
    by at false e = refl

mark_found : (ranges : List MarkedRange) (address i : ℕ) (d new : MarkedRange) → i < length ranges → has_place address (get_or ranges i d) ≡ true
    → ((k : ℕ) → k < i → has_place address (get_or ranges k d) ≡ false) → new.start ≡ (get_or ranges i d).start
    → new.marks.items ≡ slice_set (get_or ranges i d).marks.items (address - (get_or ranges i d).start) true
    → (at : ℕ) → mark_among (slice_set ranges i new) at ≡ with_mark (mark_among ranges) address at
mark_found [] address i d new below is before start marks at = absurd (omega arith)
mark_found (r ∷ ranges) address zero d new below is before start marks at = marked_here r new address is start marks at (mark_among ranges at)
mark_found (r ∷ ranges) address (suc i) d new below is before start marks at =
    ap (λ rest. if has_place at r then slice_get r.marks.items (at - r.start) else rest)
    (mark_found ranges address i d new (omega arith) is (λ k l. before (suc k) (omega arith)) start marks at)
    ∙ by (has_place at r) refl (at == address) refl
  where
    by : (b : Bool) → has_place at r ≡ b → (c : Bool) → (at == address) ≡ c
        → (if b then slice_get r.marks.items (at - r.start) else if c then option_map (λ _. true) (mark_among ranges at) else mark_among ranges at)
        ≡ (if c then option_map (λ _. true) (if b then slice_get r.marks.items (at - r.start) else mark_among ranges at) else if b then slice_get r.marks.items (at - r.start) else mark_among ranges at)
    by true here true e =
        let same : at ≡ address = grind (arith, nat_tests, e) in
        let gone : true ≡ false = sym here ∙ ap (λ a. has_place a r) same ∙ before 0 (omega arith) in
        absurd (cc gone)
    by true here false e = refl
    by false here true e = refl
    by false here false e = refl

-- the first range that has the address marks it
pub marked_in : (ranges : List MarkedRange) (address i : ℕ) (r new : MarkedRange) → position (has_place address) ranges ≡ Some i → r ≡ get_or ranges i r
    → new.start ≡ r.start → new.marks.items ≡ slice_set r.marks.items (address - r.start) true
    → mark_among (slice_set ranges i new) ≡ with_mark (mark_among ranges) address
marked_in ranges address i r new found is start marks =
    let p = position-Some (has_place address) ranges i r found in
    fun_ext (mark_found ranges address i r new p.0 p.1 p.2 (start ∙ ap (λ (r : MarkedRange). r.start) is)
    (marks ∙ ap (λ (r : MarkedRange). slice_set r.marks.items (address - r.start) true) is))

pub has_at_place : (ranges : List MarkedRange) (address i : ℕ) (r : MarkedRange) → position (has_place address) ranges ≡ Some i → r ≡ get_or ranges i r → has_place address r ≡ true
has_at_place ranges address i r found is = ap (has_place address) is ∙ (position-Some (has_place address) ranges i r found).1

mark_at_first : (ranges : List MarkedRange) (address i : ℕ) (d : MarkedRange) → i < length ranges → has_place address (get_or ranges i d) ≡ true
    → ((k : ℕ) → k < i → has_place address (get_or ranges k d) ≡ false)
    → mark_among ranges address ≡ slice_get (get_or ranges i d).marks.items (address - (get_or ranges i d).start)
mark_at_first [] address i d below is before = absurd (omega arith)
mark_at_first (r ∷ ranges) address zero d below is before =
    ap (λ (b : Bool). if b then slice_get r.marks.items (address - r.start) else mark_among ranges address) is
mark_at_first (r ∷ ranges) address (suc i) d below is before =
    ap (λ (b : Bool). if b then slice_get r.marks.items (address - r.start) else mark_among ranges address) (before 0 (omega arith))
    ∙ mark_at_first ranges address i d (omega arith) is (λ k l. before (suc k) (omega arith))

-- the mark that the first range has for the address
pub mark_there : (ranges : List MarkedRange) (address i : ℕ) (r : MarkedRange) (b d : Bool) → position (has_place address) ranges ≡ Some i → r ≡ get_or ranges i r
    → b ≡ get_or r.marks.items (address - r.start) d → mark_among ranges address ≡ Some b
mark_there ranges address i r b d found is at =
    let p = position-Some (has_place address) ranges i r found in
    mark_at_first ranges address i r p.0 p.1 p.2
    ∙ ap (λ (r : MarkedRange). slice_get r.marks.items (address - r.start)) (sym is)
    ∙ slice_get-get_or r.marks.items (address - r.start) d (ends_behind address r (has_at_place ranges address i r found is)) ∙ ap (λ b. Some b) (sym at)

-- ---- the marks of code
gone_false : (count n : ℕ) → n < count → slice_get (replicate count false) n ≡ Some false
gone_false zero n below = absurd (omega arith)
gone_false (suc count) zero below = refl
gone_false (suc count) (suc n) below = gone_false count n (omega arith)

and_true : (b : Bool) → b ≡ (b && true)
and_true true = refl
and_true false = refl

and_false : (b : Bool) → false ≡ (b && false)
and_false true = refl
and_false false = refl

paged : (first at pages : ℕ) → (nat_le (512 * first) at && nat_lt (at - 512 * first) (512 * pages)) ≡ (nat_le first (at / 512) && nat_lt (at / 512) (first + pages))
paged first at pages = grind (arith, nat_tests)

no_bytes : (first at : ℕ) → (nat_le (512 * first) at && nat_lt (at - 512 * first) 0) ≡ false
no_bytes first at = grind (arith, nat_tests)

of_range : (w : Bool) (first at pages : ℕ) → (nat_le (512 * first) at && nat_lt (at - 512 * first) (if w then 0 else 512 * pages))
    ≡ ((nat_le first (at / 512) && nat_lt (at / 512) (first + pages)) && not w)
of_range true first at pages = no_bytes first at ∙ and_false (nat_le first (at / 512) && nat_lt (at / 512) (first + pages))
of_range false first at pages = paged first at pages ∙ and_true (nat_le first (at / 512) && nat_lt (at / 512) (first + pages))

has_is : (range : PageRange) (r : MarkedRange) (at : ℕ) → IsUnmarked range r → has_place at r ≡ has_code at range
has_is range r at is =
    ap (λ n. nat_le n at && nat_lt (at - n) (length r.marks.items)) is.start
    ∙ ap (λ n. nat_le (512 * range.first) at && nat_lt (at - 512 * range.first) n) (ap length is.marks ∙ length-replicate (code_bytes range) false)
    ∙ of_range range.writable range.first at range.count

alone : (range : PageRange) (r : MarkedRange) (at : ℕ) → IsUnmarked range r → mark_among (r ∷ []) at ≡ (if has_code at range then Some false else None)
alone range r at is = by (has_place at r) refl ∙ ap (λ (b : Bool). if b then Some false else None) (has_is range r at is)
  where
    by : (b : Bool) → has_place at r ≡ b → (if b then slice_get r.marks.items (at - r.start) else None) ≡ (if b then Some false else None)
    by true here =
        let below : at - r.start < code_bytes range = subst (λ n. at - r.start < n) (ap length is.marks ∙ length-replicate (code_bytes range) false) (ends_behind at r here) in
        ap (λ l. slice_get l (at - r.start)) is.marks ∙ gone_false (code_bytes range) (at - r.start) below
    by false here = refl

with_last : (ranges : List MarkedRange) (r : MarkedRange) (at : ℕ) (b : Bool) → mark_among ranges at ≡ (if b then Some false else None)
    → mark_among (ranges ++ r ∷ []) at ≡ (if b then Some false else mark_among (r ∷ []) at)
with_last [] r at true is = absurd (cc is)
with_last [] r at false is = refl
with_last (q ∷ ranges) r at b is = by (has_place at q) refl is (with_last ranges r at b)
  where
    here : (b : Bool) → has_place at q ≡ true → slice_get q.marks.items (at - q.start) ≡ (if b then Some false else None)
        → slice_get q.marks.items (at - q.start) ≡ (if b then Some false else mark_among (r ∷ []) at)
    here true has e = e
    here false has e =
        let gone : None ≡ Some (get_or q.marks.items (at - q.start) true) = sym e ∙ slice_get-get_or q.marks.items (at - q.start) true (ends_behind at q has) in
        absurd (cc gone)

    by : (c : Bool) → has_place at q ≡ c → (if c then slice_get q.marks.items (at - q.start) else mark_among ranges at) ≡ (if b then Some false else None)
        → (mark_among ranges at ≡ (if b then Some false else None) → mark_among (ranges ++ r ∷ []) at ≡ (if b then Some false else mark_among (r ∷ []) at))
        → (if c then slice_get q.marks.items (at - q.start) else mark_among (ranges ++ r ∷ []) at) ≡ (if b then Some false else mark_among (r ∷ []) at)
    by true has e later = here b has e
    by false has e later = later e

-- a mark for each byte of the code of some ranges
abbrev pub AreOf : List PageRange → List MarkedRange → Type 0
AreOf ranges marked = (at : ℕ) → mark_among marked at ≡ (if list_any (has_code at) ranges then Some false else None)

pub none_of : (marked : List MarkedRange) → marked ≡ [] → AreOf [] marked
none_of marked is at = ap (λ l. mark_among l at) is

either : (b c : Bool) → (if b then Some false else if c then Some false else None) ≡ (if b || c then Some false else None)
either true c = refl
either false c = refl

-- a range more
pub one_more : (ranges : List PageRange) (i : ℕ) (d : PageRange) (marked more : List MarkedRange) (r : MarkedRange) → i < length ranges → AreOf (take i ranges) marked
    → IsUnmarked (get_or ranges i d) r → more ≡ marked ++ r ∷ [] → AreOf (take (i + 1) ranges) more
one_more ranges i d marked more r below are is all at =
    let b = list_any (has_code at) (take i ranges) in
    ap (λ l. mark_among l at) all ∙ with_last marked r at b (are at)
    ∙ ap (λ (rest : Option Bool). if b then Some false else rest) (alone (get_or ranges i d) r at is)
    ∙ either b (has_code at (get_or ranges i d))
    ∙ sym (ap (λ (b : Bool). if b then Some false else None) (list_any_more (has_code at) ranges i d below))

pub all_of : (ranges : List PageRange) (i : ℕ) (marked : List MarkedRange) → length ranges ≤ i → AreOf (take i ranges) marked → AreOf ranges marked
all_of ranges i marked ends are = subst (λ l. AreOf l marked) (take_all i ranges ends) are

-- each range ends within 2^31 bytes
pub ends_low : (ranges : List PageRange) (lowest i : ℕ) (d : PageRange) → AreRising lowest ranges → i < length ranges → (get_or ranges i d).first + (get_or ranges i d).count ≤ 4194304
ends_low [] lowest i d rising below = absurd (omega arith)
ends_low (r ∷ ranges) lowest zero d rising below = rising.2
ends_low (r ∷ ranges) lowest (suc i) d rising below = ends_low ranges (r.first + r.count) i d rising.3 (omega arith)
