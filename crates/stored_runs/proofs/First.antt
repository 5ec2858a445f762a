-- The first of the numbers that are kept, and the addresses that were found.
use Rattle.std.proofs.Common.{◌≡◌, ◌⊎◌, inl, inr, ⊎_elim, ℕ, zero, suc, ◌<◌, ◌≤◌, ◌+◌, ◌*◌, ◌/◌, ◌^◌, ◌&&◌, ◌||◌, not, Bool, true, false, List, [], ◌∷◌, ◌++◌, Option, Some, None, length, take, get_or, nat_eq, nat_le, nat_lt, refl, sym, ap, ◌∙◌, subst, arith, eq-eqb}
use Rattle.std.specs.Prelude.{is_some}
use Rattle.std.specs.List.{AllByRecursion, list_any}
use Rattle.std.specs.Option.{option_map_or}
use Rattle.std.proofs.lemmas.Bool.{cases_lt, or_cases, or_left, or_right, eqb-true}
use Rattle.std.proofs.lemmas.Bool.Decides.{nat_tests}
use Rattle.std.proofs.lemmas.List.{get_or_append_left, get_or-append-add, length-append}
use Rattle.std.proofs.lemmas.List.Folds.{list_any-append, list_any_at, list_any_more}
use Rattle.address_map.specs.Pairs.{Pair, word_at}
use Rattle.flow_discovery.proofs.Decoded.{code_at}
use Rattle.flow_discovery.specs.Mapped.{has_block, has_block_at}
use Rattle.flow_discovery.specs.Reach.{instruction_at}
use Rattle.image_file.specs.Values.{ImageValue}
use Rattle.run_files.specs.Values.{OrderValue}
use Rattle.translated_file.specs.Limits.{MOST_HINTS}
use Rattle.translated_file.specs.Whole.{IsLong, Rise}
use Rattle.vax_form.specs.Made.{Made, replies_to}
use Rattle.vax_form.specs.PageTable.{AreRising, has_page}
use Rattle.vax_form.specs.Pages.{has_code, is_code}
use Rattle.vax_form.specs.Targets.{has}
use Rattle.vax_form.specs.declared.instr.Instr.{Instr}
use Rattle.vax_form.specs.declared.pages.PageRange.{PageRange}
use Rattle.vax_form.specs.declared.pages.Pages.{Pages}
use Rattle.vax_run.specs.Values.{threads_of}
use Rattle.stored_runs.specs.Found.{AreFirst, AreFound, AreFoundBy, AreMostBefore, IsFound, is_found}
use Rattle.stored_runs.specs.Marks.{is_marked}
use Rattle.stored_runs.specs.Stood.{AreAllMarks, AreMarksOf, Stood}

-- ---- a number more
has_pushed : (numbers : List ℕ) (n other : ℕ) → has (numbers ++ n ∷ []) other ≡ true → (has numbers other ≡ true) ⊎ (other ≡ n)
has_pushed numbers n other is = by (or_cases (has numbers other) (has (n ∷ []) other) (sym (list_any-append (nat_eq other) numbers (n ∷ [])) ∙ is))
  where
    only : (b : Bool) → nat_eq other n ≡ b → (b || false) ≡ true → other ≡ n
    only true e is = eqb-true other n e
    only false e is = absurd (cc is)

    by : (has numbers other ≡ true) ⊎ (has (n ∷ []) other ≡ true) → (has numbers other ≡ true) ⊎ (other ≡ n)
    by (inl before) = inl before
    by (inr last) = inr (only (nat_eq other n) refl last)

has_still : (numbers : List ℕ) (n other : ℕ) → has numbers other ≡ true → has (numbers ++ n ∷ []) other ≡ true
has_still numbers n other is = list_any-append (nat_eq other) numbers (n ∷ []) ∙ or_left (has numbers other) (has (n ∷ []) other) is

has_last : (numbers : List ℕ) (n : ℕ) → has (numbers ++ n ∷ []) n ≡ true
has_last numbers n = list_any-append (nat_eq n) numbers (n ∷ []) ∙ or_right (has numbers n) (has (n ∷ []) n) (or_left (nat_eq n n) false (eq-eqb n n refl))

has_at : (numbers : List ℕ) (k d : ℕ) → k < length numbers → has numbers (get_or numbers k d) ≡ true
has_at numbers k d below = list_any_at (nat_eq (get_or numbers k d)) numbers k d below (eq-eqb (get_or numbers k d) (get_or numbers k d) refl)

long_pushed : (numbers : List ℕ) (n : ℕ) → AllByRecursion IsLong numbers → n < 2 ^ 32 → AllByRecursion IsLong (numbers ++ n ∷ [])
long_pushed [] n all long = (long, tt)
long_pushed (m ∷ numbers) n all long = (all.0, long_pushed numbers n all.1 long)

rise_pushed : (numbers : List ℕ) (n : ℕ) → Rise numbers → ((other : ℕ) → has numbers other ≡ true → other < n) → Rise (numbers ++ n ∷ [])
rise_pushed numbers n rise below = λ k d more.
    let long = length-append numbers (n ∷ []) in
    let within : k + 1 < length numbers + 1 = omega (arith, more, long) in
    let here : k < length numbers = omega (arith, within) in
    ⊎_elim
    (λ (inside : k + 1 < length numbers).
    subst (λ a. a < get_or (numbers ++ n ∷ []) (k + 1) d) (sym (get_or_append_left numbers (n ∷ []) d k here))
    (subst (λ b. get_or numbers k d < b) (sym (get_or_append_left numbers (n ∷ []) d (k + 1) inside)) (rise k d inside)))
    (λ (outside : length numbers ≤ k + 1).
    let e : length numbers + 0 ≡ k + 1 = omega (arith, outside, here) in
    let last : get_or (numbers ++ n ∷ []) (k + 1) d ≡ n = ap (λ p. get_or (numbers ++ n ∷ []) p d) (sym e) ∙ get_or-append-add numbers (n ∷ []) 0 d in
    subst (λ a. a < get_or (numbers ++ n ∷ []) (k + 1) d) (sym (get_or_append_left numbers (n ∷ []) d k here))
    (subst (λ b. get_or numbers k d < b) (sym last) (below (get_or numbers k d) (has_at numbers k d here))))
    (cases_lt (k + 1) (length numbers))

pub pushed_below : (numbers : List ℕ) (n : ℕ) → ((other : ℕ) → has numbers other ≡ true → other < n) → (other : ℕ) → has (numbers ++ n ∷ []) other ≡ true → other < n + 1
pushed_below numbers n below other is =
    ⊎_elim (λ (before : has numbers other ≡ true). let up = below other before in omega (arith, up)) (λ (last : other ≡ n). omega (arith, last)) (has_pushed numbers n other is)

module _ (keep within more : ℕ → Bool) (numbers : List ℕ) (n : ℕ) (first : AreFirst keep within numbers)
    (split : (other : ℕ) → more other ≡ true → (within other ≡ true) ⊎ (other ≡ n)) (still : (other : ℕ) → within other ≡ true → more other ≡ true)
    (below : (other : ℕ) → has numbers other ≡ true → other < n) where
  pub first_pushed : more n ≡ true → keep n ≡ true → length numbers < MOST_HINTS → n < 2 ^ 32 → AreFirst keep more (numbers ++ n ∷ [])
  first_pushed there kept few long = record {
    hints = record {
      few = let e = length-append numbers (n ∷ []) in omega (arith, e, few);
      fit = long_pushed numbers n first.hints.fit long;
      rise = rise_pushed numbers n first.hints.rise below;
    };
    each = λ other is.
        ⊎_elim
        (λ (before : has numbers other ≡ true). let e = first.each other before in (e.0, still other e.1))
        (λ (last : other ≡ n). (ap keep last ∙ kept, ap more last ∙ there))
        (has_pushed numbers n other is);
    all = λ other in' is.
        ⊎_elim
        (λ (before : within other ≡ true).
        ⊎_elim
        (λ (found : has numbers other ≡ true). inl (has_still numbers n other found))
        (λ (full : AreMostBefore numbers other). absurd (omega (arith, few, full.most)))
        (first.all other before is))
        (λ (last : other ≡ n). inl (ap (has (numbers ++ n ∷ [])) last ∙ has_last numbers n))
        (split other in');
  }

  pub first_passed : (keep n ≡ false) ⊎ (MOST_HINTS ≤ length numbers) → AreFirst keep more numbers
  first_passed passed = record {
    hints = first.hints;
    each = λ other is. let e = first.each other is in (e.0, still other e.1);
    all = λ other in' is.
        ⊎_elim
        (λ (before : within other ≡ true). first.all other before is)
        (λ (last : other ≡ n).
        ⊎_elim
        (λ (unkept : keep n ≡ false). let gone : true ≡ false = sym is ∙ ap keep last ∙ unkept in absurd (cc gone))
        (λ (full : MOST_HINTS ≤ length numbers).
        inr (record {
          most = let few = first.hints.few in omega (arith, full, few);
          behind = λ k found. let up = below k found in omega (arith, up, last);
        }))
        passed)
        (split other in');
  }

pub first_same : (keep within more : ℕ → Bool) (numbers : List ℕ) → ((n : ℕ) → within n ≡ more n) → AreFirst keep within numbers → AreFirst keep more numbers
first_same keep within more numbers same first = record {
  hints = first.hints;
  each = λ n is. let e = first.each n is in (e.0, sym (same n) ∙ e.1);
  all = λ n in' is. first.all n (same n ∙ in') is;
}

-- ---- the numbers of a range
-- those from the start on, below one, beside others
abbrev pub reaches : (within : ℕ → Bool) → (start end n : ℕ) → Bool
reaches within start end n = within n || (nat_le start n && nat_lt n end)

pub reach_split : (within : ℕ → Bool) (start at n : ℕ) → reaches within start (at + 1) n ≡ true → (reaches within start at n ≡ true) ⊎ (n ≡ at)
reach_split within start at n is = by (within n) is
  where
    low : (nat_le start n && nat_lt n (at + 1)) ≡ true → at ≤ n → n ≡ at
    low e later = let up : n < at + 1 = grind (arith, nat_tests, e) in omega (arith, up, later)

    inside : (nat_le start n && nat_lt n (at + 1)) ≡ true → n < at → (nat_le start n && nat_lt n at) ≡ true
    inside e sooner = grind (arith, nat_tests, e, sooner)

    by : (w : Bool) → (w || (nat_le start n && nat_lt n (at + 1))) ≡ true → ((w || (nat_le start n && nat_lt n at)) ≡ true) ⊎ (n ≡ at)
    by true e = inl refl
    by false e = ⊎_elim (λ (sooner : n < at). inl (inside e sooner)) (λ (later : at ≤ n). inr (low e later)) (cases_lt n at)

pub reach_still : (within : ℕ → Bool) (start at n : ℕ) → reaches within start at n ≡ true → reaches within start (at + 1) n ≡ true
reach_still within start at n is = by (within n) is
  where
    by : (w : Bool) → (w || (nat_le start n && nat_lt n at)) ≡ true → (w || (nat_le start n && nat_lt n (at + 1))) ≡ true
    by true e = refl
    by false e = grind (arith, nat_tests, e)

pub reach_here : (within : ℕ → Bool) (start at : ℕ) → start ≤ at → reaches within start (at + 1) at ≡ true
reach_here within start at from = or_right (within at) (nat_le start at && nat_lt at (at + 1)) (grind (arith, nat_tests, from))

pages_reached : (first count n : ℕ) → (nat_le (512 * first) n && nat_lt n (512 * first + 512 * count)) ≡ (nat_le first (n / 512) && nat_lt (n / 512) (first + count))
pages_reached first count n = grind (arith, nat_tests)

pub reach_ends : (keep within : ℕ → Bool) (numbers : List ℕ) (range : PageRange) (end : ℕ) → end ≡ 512 * range.first + 512 * range.count
    → AreFirst keep (reaches within (512 * range.first) end) numbers → AreFirst keep (λ n. within n || has_page (n / 512) range) numbers
reach_ends keep within numbers range end is =
    first_same keep (reaches within (512 * range.first) end) (λ n. within n || has_page (n / 512) range) numbers
    (λ n. ap (λ e. within n || (nat_le (512 * range.first) n && nat_lt n e)) is ∙ ap (λ b. within n || b) (pages_reached range.first range.count n))

-- ---- the ranges of pages
starts_above : (ranges : List PageRange) (lowest i : ℕ) (d : PageRange) → AreRising lowest ranges → i < length ranges → lowest ≤ (get_or ranges i d).first
starts_above [] lowest i d rising below = absurd (omega arith)
starts_above (r ∷ ranges) lowest zero d rising below = rising.0
starts_above (r ∷ ranges) lowest (suc i) d rising below =
    let low = starts_above ranges (r.first + r.count) i d rising.3 (omega arith) in
    let first = rising.0 in
    omega (arith, low, first)

-- what lies in a range before lies below
before_rising : (ranges : List PageRange) (lowest i page : ℕ) (d : PageRange) → AreRising lowest ranges → i < length ranges → list_any (has_page page) (take i ranges) ≡ true → page < (get_or ranges i d).first
before_rising [] lowest i page d rising below is = absurd (omega arith)
before_rising (r ∷ ranges) lowest zero page d rising below is = absurd (cc is)
before_rising (r ∷ ranges) lowest (suc i) page d rising below is =
    ⊎_elim
    (λ (here : has_page page r ≡ true).
    let up : page < r.first + r.count = grind (arith, nat_tests, here) in
    let low = starts_above ranges (r.first + r.count) i d rising.3 (omega arith) in
    omega (arith, up, low))
    (λ (later : list_any (has_page page) (take i ranges) ≡ true). before_rising ranges (r.first + r.count) i page d rising.3 (omega arith) later)
    (or_cases (has_page page r) (list_any (has_page page) (take i ranges)) is)

pub all_before : (keep : ℕ → Bool) (ranges : List PageRange) (i : ℕ) (d : PageRange) (numbers : List ℕ) → AreRising 0 ranges → i < length ranges
    → AreFirst keep (λ n. list_any (has_page (n / 512)) (take i ranges)) numbers → (n : ℕ) → has numbers n ≡ true → n < 512 * (get_or ranges i d).first
all_before keep ranges i d numbers rising below first n is =
    let page = before_rising ranges 0 i (n / 512) d rising below (first.each n is).1 in
    omega (arith, page)

pub range_more : (keep : ℕ → Bool) (ranges : List PageRange) (i : ℕ) (d : PageRange) (numbers : List ℕ) → i < length ranges
    → AreFirst keep (λ n. list_any (has_page (n / 512)) (take i ranges) || has_page (n / 512) (get_or ranges i d)) numbers
    → AreFirst keep (λ n. list_any (has_page (n / 512)) (take (i + 1) ranges)) numbers
range_more keep ranges i d numbers below =
    first_same keep _ (λ n. list_any (has_page (n / 512)) (take (i + 1) ranges)) numbers (λ n. sym (list_any_more (has_page (n / 512)) ranges i d below))

-- ---- found addresses
all_three : (a b c : Bool) → (a && b && c) ≡ true → (a ≡ true) × (b ≡ true) × (c ≡ true)
all_three true true true is = (refl, refl, refl)
all_three true true false is = absurd (cc is)
all_three true false c is = absurd (cc is)
all_three false b c is = absurd (cc is)

set_of : (o : Option Bool) → is_marked o ≡ true → o ≡ Some true
set_of None is = absurd (cc is)
set_of (Some true) is = refl
set_of (Some false) is = absurd (cc is)

set_where : (o : Option Bool) → is_some o ≡ true → (o ≡ Some false → ⊥) → is_marked o ≡ true
set_where None there is = absurd (cc there)
set_where (Some true) there is = refl
set_where (Some false) there is = absurd (is refl)

none_where : (o : Option ℕ) → not (is_some o) ≡ true → o ≡ None
none_where None is = refl
none_where (Some word) is = absurd (cc is)

stands_at : (pages : Pages) (o : Option Instr) → option_map_or (λ instr. has_block instr pages) o false ≡ true → (instr : Instr) × (o ≡ Some instr)
stands_at pages None is = absurd (cc is)
stands_at pages (Some instr) is = (instr, refl)

paged_code : (a b : Bool) (rest rest' : Bool) → (rest ≡ true → rest' ≡ true) → ((a && not b) || rest) ≡ true → (a || rest') ≡ true
paged_code true b rest rest' later is = refl
paged_code false b rest rest' later is = later is

code_paged : (ranges : List PageRange) (address : ℕ) → list_any (has_code address) ranges ≡ true → list_any (has_page (address / 512)) ranges ≡ true
code_paged [] address is = is
code_paged (r ∷ ranges) address is =
    paged_code (has_page (address / 512) r) r.writable (list_any (has_code address) ranges) (list_any (has_page (address / 512)) ranges) (code_paged ranges address) is

module _ (image : ImageValue) (counts : List ℕ) (made : List Made) (map : List Pair) (mark : ℕ → Option Bool) (addresses : List ℕ) (marks : AreAllMarks image counts made mark)
    (first : AreFirst (is_found image.pages map mark) (λ n. list_any (has_page (n / 512)) image.pages.ranges) addresses) where
  each_found : (address : ℕ) → has addresses address ≡ true → IsFound (threads_of image) made counts map address
  each_found address is =
      let tests = all_three (is_marked (mark address)) (not (is_some (word_at map address))) (has_block_at image.pages address) (first.each address is).0 in
      let s = marks.placed.only address (set_of (mark address) tests.0) in
      record {
        thread = s.thread;
        before = s.stood.before;
        count = s.count;
        counted = s.counted;
        within = s.stood.within;
        here = s.stood.stood.here;
        stood = s.stood.stood.came;
        at = (s.stood.stood.pc, s.stood.stood.nothing);
        block = tests.2;
        lacks = none_where (word_at map address) tests.1;
      }

  all_found : (address : ℕ) → IsFound (threads_of image) made counts map address → (has addresses address ≡ true) ⊎ AreMostBefore addresses address
  all_found address is =
      let stood : Stood image is.thread (replies_to is.thread made) is.before address = record { here = is.here; came = is.stood; pc = is.at.0; nothing = is.at.1 } in
      let marked = marks.all is.thread is.count is.counted is.before address (omega arith) is.within is.within stood in
      let instr = stands_at image.pages (instruction_at image.pages address) is.block in
      let code : is_code image.pages address ≡ true = code_at image.pages address instr.0 marked.0 instr.1 in
      let set : is_marked (mark address) ≡ true = set_where (mark address) (marks.placed.places address ∙ code) marked.1 in
      first.all address (code_paged image.pages.ranges address code)
      (ap (λ b. b && not (is_some (word_at map address)) && has_block_at image.pages address) set
      ∙ ap (λ (o : Option ℕ). not (is_some o) && has_block_at image.pages address) is.lacks ∙ is.block)

  found_by : AreFoundBy (threads_of image) made counts map addresses
  found_by = record { hints = first.hints; each = each_found; all = all_found }

pub found_are : (image : ImageValue) (order : OrderValue) (map : List Pair) (mark : ℕ → Option Bool) (addresses : List ℕ) → AreMarksOf image order mark
    → AreFirst (is_found image.pages map mark) (λ n. list_any (has_page (n / 512)) image.pages.ranges) addresses → AreFound image order map addresses
found_are image order map mark addresses of first = record {
  went = of.went;
  goes = of.goes;
  found = found_by image order.counts of.went.made map mark addresses of.marks first;
}
