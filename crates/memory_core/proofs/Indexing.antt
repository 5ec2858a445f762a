-- The index of an image's pages.
use Rattle.std.proofs.Common.{◌≡◌, ℕ, suc, ◌<◌, ◌≤◌, ◌+◌, ◌-◌, ◌*◌, ◌%◌, ◌||◌, Bool, true, false, cond, List, [], ◌∷◌, length, Option, Some, None, option_map, is_some, IfSome, SomeIff, get_or, drop, drop-cons, add-one, refl, sym, ap, ◌∙◌, subst, arith, nat_lt, ltb-true, ltb-false}
use Rattle.std.proofs.lemmas.Bool.Decides.{nat_tests}
use Rattle.std.proofs.lemmas.List.{get_or_past}
use Rattle.vax_form.specs.declared.pages.PageRange.{PageRange}
use Rattle.vax_form.specs.PageTable.{has_page, AreRising}
use Rattle.memory_core.specs.Places.{page_count, is_page, page_number, page_place, above, index_word, IsIndexOf}
use Rattle.memory_core.proofs.Placing.{has_page_tells, placed, page_of_place, rising_few}

-- ---- a number from its word

pub number_of_word : (o r : Option ℕ) (w : ℕ) → w ≡ above o → SomeIff r (1 ≤ w) (w - 1) → r ≡ o
number_of_word None None w e h = refl
number_of_word None (Some x) w e h = let l = h.0 in absurd (omega arith)
number_of_word (Some n) None w e h = absurd (h (omega arith))
number_of_word (Some n) (Some x) w e h = let l = h.1 in let i : x ≡ n = omega arith in ap (λ (v : ℕ). Some v) i

low_step : (b : Bool) (x count behind : ℕ) (o : Option ℕ) (n : ℕ) → (b ≡ true → x < count) → ((m : ℕ) → o ≡ Some m → m < behind) → placed b x count o ≡ Some n → n < count + behind
low_step true x count behind o n here there e = let i : x ≡ n = cc e in let l = here refl in omega arith
low_step false x count behind None n here there e = absurd (cc e)
low_step false x count behind (Some m) n here there e = let i : count + m ≡ n = cc e in let l = there m refl in omega arith

number_low : (rs : List PageRange) (page n : ℕ) → page_number rs page ≡ Some n → n < page_count rs
number_low [] page n e = absurd (cc e)
number_low (r ∷ rs) page n e =
    low_step (has_page page r) (page - r.first) r.count (page_count rs) (page_number rs page) n
    (λ h. let t = has_page_tells page r h in omega arith) (λ m h. number_low rs page m h) e

above_low : (rs : List PageRange) (page : ℕ) (o : Option ℕ) → page_number rs page ≡ o → above o ≤ page_count rs
above_low rs page None e = omega arith
above_low rs page (Some n) e = let l = number_low rs page n e in omega arith

pub word_low : (rs : List PageRange) (page : ℕ) → index_word rs page ≤ page_count rs
word_low rs page = above_low rs page (page_number rs page) refl

-- ---- one range more

none_step : (b : Bool) (x count : ℕ) (o : Option ℕ) → b ≡ false → o ≡ None → placed b x count o ≡ None
none_step true x count o n h = absurd (cc n)
none_step false x count o n h = ap (option_map (λ m. count + m)) h

none_below : (lowest : ℕ) (rs : List PageRange) (page : ℕ) → AreRising lowest rs → page < lowest → page_number rs page ≡ None
none_below lowest [] page h l = refl
none_below lowest (r ∷ rs) page h l =
    let first = h.0 in
    let no : has_page page r ≡ false = grind (arith, nat_tests) in
    none_step (has_page page r) (page - r.first) r.count (page_number rs page) no (none_below (r.first + r.count) rs page h.3 (omega arith))

-- the words of the first ranges, of which the pages before have the lower numbers; the ranges that are left stand behind
pub record IsBegun (ranges left : List PageRange) (words : List ℕ) (before : ℕ) : Type 0 where
  pub rising : AreRising (length words) left
  pub few : before + page_count left ≤ 4194304
  pub done : (page : ℕ) → page < length words → get_or words page 0 ≡ index_word ranges page
  pub behind : (page : ℕ) → length words ≤ page → page_number ranges page ≡ option_map (λ n. before + n) (page_number left page)

from_none : (o : Option ℕ) → o ≡ option_map (λ n. 0 + n) o
from_none None = refl
from_none (Some n) = let e : n ≡ 0 + n = omega arith in ap (λ (v : ℕ). Some v) e

pub none_begun : (ranges : List PageRange) → AreRising 0 ranges → IsBegun ranges ranges [] 0
none_begun ranges h = record {
  rising = h;
  few = rising_few 0 ranges (omega arith) h;
  done = λ page l. absurd (omega arith);
  behind = λ page l. from_none (page_number ranges page);
}

module _ (ranges : List PageRange) (r : PageRange) (left : List PageRange) (words new : List ℕ) (before : ℕ) (b : IsBegun ranges (r ∷ left) words before)
    (end : length new ≡ r.first + r.count) (are : (page : ℕ) → get_or new page 0 ≡ cond (has_page page r) (suc (before + (page - r.first))) (get_or words page 0)) where
  here : (page : ℕ) → has_page page r ≡ true → get_or new page 0 ≡ index_word ranges page
  here page h =
      let t = has_page_tells page r h in
      let first = b.rising.0 in
      are page ∙ ap (λ (c : Bool). cond c (suc (before + (page - r.first))) (get_or words page 0)) h
      ∙ sym (ap above (b.behind page (omega (arith, t.0, first)) ∙ ap (λ (c : Bool). option_map (λ n. before + n) (placed c (page - r.first) r.count (page_number left page))) h))

  other : (page : ℕ) → page < length new → has_page page r ≡ false → get_or new page 0 ≡ index_word ranges page
  other page l h = are page ∙ ap (λ (c : Bool). cond c (suc (before + (page - r.first))) (get_or words page 0)) h ∙ go (nat_lt page (length words)) refl
    where
      go : (c : Bool) → nat_lt page (length words) ≡ c → get_or words page 0 ≡ index_word ranges page
      go true e = b.done page (ltb-true page (length words) e)
      go false e =
          let past : length words ≤ page = ltb-false page (length words) e in
          let low : page < r.first + r.count = omega arith in
          let none : page_number (r ∷ left) page ≡ None = none_step (has_page page r) (page - r.first) r.count (page_number left page) h (none_below (r.first + r.count) left page b.rising.3 low) in
          get_or_past words page 0 past ∙ sym (ap above (b.behind page past ∙ ap (option_map (λ n. before + n)) none))

  done_more : (page : ℕ) → page < length new → get_or new page 0 ≡ index_word ranges page
  done_more page l = go (has_page page r) refl
    where
      go : (c : Bool) → has_page page r ≡ c → get_or new page 0 ≡ index_word ranges page
      go true e = here page e
      go false e = other page l e

  joined : (o : Option ℕ) → option_map (λ n. before + n) (option_map (λ n. r.count + n) o) ≡ option_map (λ n. before + r.count + n) o
  joined None = refl
  joined (Some n) = let e : before + (r.count + n) ≡ before + r.count + n = omega arith in ap (λ (v : ℕ). Some v) e

  behind_more : (page : ℕ) → length new ≤ page → page_number ranges page ≡ option_map (λ n. before + r.count + n) (page_number left page)
  behind_more page l =
      let first = b.rising.0 in
      let past : r.first + r.count ≤ page = omega arith in
      let no : has_page page r ≡ false = grind (arith, nat_tests) in
      b.behind page (omega arith) ∙ ap (λ (c : Bool). option_map (λ n. before + n) (placed c (page - r.first) r.count (page_number left page))) no ∙ joined (page_number left page)

  begun_more : IsBegun ranges left new (before + r.count)
  begun_more = record {
    rising = subst (λ (n : ℕ). AreRising n left) (sym end) b.rising.3;
    few = omega (arith, b.few);
    done = done_more;
    behind = behind_more;
  }

pub next_begun : (ranges : List PageRange) (i : ℕ) (d : PageRange) (words new : List ℕ) (before : ℕ) → IsBegun ranges (drop i ranges) words before → i < length ranges
    → length new ≡ (get_or ranges i d).first + (get_or ranges i d).count
    → ((page : ℕ) → get_or new page 0 ≡ cond (has_page page (get_or ranges i d)) (suc (before + (page - (get_or ranges i d).first))) (get_or words page 0))
    → IsBegun ranges (drop (i + 1) ranges) new (before + (get_or ranges i d).count)
next_begun ranges i d words new before b l end are =
    rw add-one
    (begun_more ranges (get_or ranges i d) (drop (suc i) ranges) words new before
    (subst (λ (left : List PageRange). IsBegun ranges left words before) (drop-cons ranges i d l) b) end are)

pub index_done : (ranges : List PageRange) (words : List ℕ) (before : ℕ) → IsBegun ranges [] words before → IsIndexOf words ranges
index_done ranges words before b page = go (nat_lt page (length words)) refl
  where
    go : (c : Bool) → nat_lt page (length words) ≡ c → get_or words page 0 ≡ index_word ranges page
    go true e = b.done page (ltb-true page (length words) e)
    go false e =
        let past : length words ≤ page = ltb-false page (length words) e in
        get_or_past words page 0 past ∙ sym (ap above (b.behind page past))

-- ---- the place of a page

is_some-placed : (b any : Bool) (x count : ℕ) (o : Option ℕ) → is_some (option_map (λ n. 64 * n) o) ≡ any → is_some (option_map (λ n. 64 * n) (placed b x count o)) ≡ (b || any)
is_some-placed true any x count o h = refl
is_some-placed false any x count None h = h
is_some-placed false any x count (Some n) h = h

pub placed_exactly : (rs : List PageRange) (page : ℕ) → is_some (page_place rs page) ≡ is_page rs page
placed_exactly [] page = refl
placed_exactly (r ∷ rs) page = is_some-placed (has_page page r) (is_page rs page) (page - r.first) r.count (page_number rs page) (placed_exactly rs page)

multiple : (o : Option ℕ) → IfSome (option_map (λ n. 64 * n) o) (λ place. place % 64 ≡ 0)
multiple None = tt
multiple (Some n) = omega arith

own : (rs : List PageRange) (page : ℕ) (o : Option ℕ) → page_number rs page ≡ o → IfSome (option_map (λ n. 64 * n) o) (λ place. (other : ℕ) → page_place rs other ≡ Some place → other ≡ page)
own rs page None e = tt
own rs page (Some n) e = λ other h. go other (page_number rs other) refl h
  where
    go : (other : ℕ) (o : Option ℕ) → page_number rs other ≡ o → option_map (λ n. 64 * n) o ≡ Some (64 * n) → other ≡ page
    go other None f h = absurd (cc h)
    go other (Some m) f h =
        let i : 64 * m ≡ 64 * n = cc h in
        let j : m ≡ n = omega arith in
        page_of_place rs other page n (f ∙ ap (λ (v : ℕ). Some v) j) e

pub place_own : (rs : List PageRange) (page : ℕ) → IfSome (page_place rs page) (λ place. (other : ℕ) → page_place rs other ≡ Some place → other ≡ page)
place_own rs page = own rs page (page_number rs page) refl
