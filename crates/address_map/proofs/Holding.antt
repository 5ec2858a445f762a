-- Tables with one page more, and with one number more.
use Rattle.std.proofs.Common.{◌≡◌, ◌≢◌, ℕ, suc, ◌+◌, ◌-◌, ◌*◌, ◌/◌, ◌%◌, ◌<◌, ◌≤◌, Bool, true, false, cond, ◌++◌, Option, Some, None, length, replicate, get_or, set, refl, sym, ap, subst, ◌∙◌, arith, eqb, nat_lt, ltb-true, ltb-false}
use Rattle.std.proofs.lemmas.Bool.{eqb-true, eqb-false}
use Rattle.std.proofs.lemmas.List.{length-set, length-append, length-replicate, get_or-set_same, get_or-set_other, get_or_append_left, get_or-append_right, get_or-replicate}
use Rattle.address_map.specs.Tables.{count_below, TablesValue, tables, IsInside, Holds}
use Rattle.address_map.proofs.Counting.{count_same, count_past, count_none, same_page, and_page, and_here, and_other, count_more}

abbrev upper_of : (ℕ → Bool) → ℕ → ℕ
upper_of has page = cond (has page) (suc (count_below has page)) 0

-- what holds depends on the pages and the numbers alone
pub holds_same : (t : TablesValue) (has has' : ℕ → Bool) (word word' : ℕ → Option ℕ) → ((page : ℕ) → has page ≡ has' page) → ((number : ℕ) → word number ≡ word' number) → Holds t has word → Holds t has' word'
holds_same t has has' word word' pages words h =
    let counts : (page : ℕ) → count_below has page ≡ count_below has' page = λ page. count_same has has' page (λ q below. pages q) in
    record {
      inside = λ page is. h.inside page (pages page ∙ is);
      upper = λ page inside. h.upper page inside ∙ (λ i. cond (pages page i) (suc (counts page i)) 0);
      tables = h.tables ∙ ap (λ n. 512 * n) (counts (t.first + length t.upper));
      lower = λ number is.
          ap (λ n. get_or t.lower (512 * n + number % 512) None) (sym (counts (number / 512))) ∙ h.lower number (pages (number / 512) ∙ is) ∙ words number;
    }

-- a page that has a number has a table
pub within : (t : TablesValue) (has : ℕ → Bool) (word : ℕ → Option ℕ) → Holds t has word → (number : ℕ) → has (number / 512) ≡ true → 512 * count_below has (number / 512) + number % 512 < length t.lower
within t has word h number is =
    let inside = h.inside (number / 512) is in
    let less = count_past has (number / 512) (t.first + length t.upper) is inside.1 in
    let long = h.tables in
    omega arith

-- ---- a table more
module _ (t : TablesValue) (has : ℕ → Bool) (word : ℕ → Option ℕ) (page : ℕ) (h : Holds t has word) (inside : IsInside t page) (not : has page ≡ false)
    (highest : (q : ℕ) → page ≤ q → has q ≡ false) (none : (number : ℕ) → number / 512 ≡ page → word number ≡ None) where
  abbrev end : ℕ
  end = t.first + length t.upper

  abbrev more : TablesValue
  more = tables t.first (set t.upper (page - t.first) (length t.lower / 512 + 1)) (t.lower ++ replicate 512 None)

  same_length : length more.upper ≡ length t.upper
  same_length = length-set t.upper (page - t.first) (length t.lower / 512 + 1)

  -- the page's number is the number of tables so far
  pub count_here : count_below has end ≡ count_below has page
  count_here = count_none has page end (let below = inside.1 in omega arith) highest

  count_below_page : (q : ℕ) → q ≤ page → count_below (and_page has page) q ≡ count_below has q
  count_below_page q le = count_same (and_page has page) has q (λ p below. and_other has page p (λ e. absurd (omega arith)))

  new_number : length t.lower / 512 + 1 ≡ suc (count_below (and_page has page) page)
  new_number =
      let long = h.tables in
      let here = count_here in
      let same = count_below_page page (omega arith) in
      omega arith

  more_inside : (q : ℕ) → and_page has page q ≡ true → IsInside more q
  more_inside q is = go (eqb q page) refl
    where
      wide : IsInside t q → IsInside more q
      wide i = (i.0, subst (λ n. q < t.first + n) (sym same_length) i.1)

      go : (b : Bool) → eqb q page ≡ b → IsInside more q
      go true e = wide (subst (IsInside t) (sym (eqb-true q page e)) inside)
      go false e = wide (h.inside q (sym (ap (λ b. cond b true (has q)) e) ∙ is))

  other_upper : (q : ℕ) → q ≢ page → upper_of has q ≡ upper_of (and_page has page) q
  other_upper q other = go (nat_lt q page) refl
    where
      go : (b : Bool) → nat_lt q page ≡ b → upper_of has q ≡ upper_of (and_page has page) q
      go true e =
          let below : q < page = ltb-true q page e in
          let count = count_below_page q (omega arith) in
          let here = and_other has page q other in
          λ i. cond (sym here i) (suc (sym count i)) 0
      go false e =
          let no : has q ≡ false = highest q (ltb-false q page e) in
          ap (λ b. cond b (suc (count_below has q)) 0) no
          ∙ sym (ap (λ b. cond b (suc (count_below (and_page has page) q)) 0) (and_other has page q other ∙ no))

  more_upper : (q : ℕ) → IsInside more q → get_or more.upper (q - t.first) 0 ≡ upper_of (and_page has page) q
  more_upper q i = go (eqb q page) refl
    where
      value : ℕ
      value = length t.lower / 512 + 1

      high : q < end
      high = subst (λ n. q < t.first + n) same_length i.1

      go : (b : Bool) → eqb q page ≡ b → get_or more.upper (q - t.first) 0 ≡ upper_of (and_page has page) q
      go true e =
          let same : q ≡ page = eqb-true q page e in
          let low = inside.0 in
          let top = inside.1 in
          let at : page - t.first < length t.upper = omega arith in
          ap (λ p. get_or more.upper (p - t.first) 0) same
          ∙ get_or-set_same t.upper (page - t.first) value 0 at
          ∙ new_number
          ∙ sym (ap (λ b. cond b (suc (count_below (and_page has page) page)) 0) (and_here has page))
          ∙ ap (upper_of (and_page has page)) (sym same)
      go false e =
          let other : q ≢ page = eqb-false q page e in
          let low = inside.0 in
          let low' = i.0 in
          let apart : q - t.first ≢ page - t.first = λ same. other (omega arith) in
          get_or-set_other t.upper (page - t.first) (q - t.first) value 0 apart ∙ h.upper q (i.0, high) ∙ other_upper q other

  more_tables : length more.lower ≡ 512 * count_below (and_page has page) (t.first + length more.upper)
  more_tables =
      let long = h.tables in
      let counted = count_more has page end not inside.1 in
      let both = length-append t.lower (replicate 512 None) in
      let new = length-replicate {A = Option ℕ} 512 None in
      let grown : length more.lower ≡ 512 * count_below (and_page has page) end = omega arith in
      grown ∙ ap (λ n. 512 * count_below (and_page has page) (t.first + n)) (sym same_length)

  more_lower : (number : ℕ) → and_page has page (number / 512) ≡ true → get_or more.lower (512 * count_below (and_page has page) (number / 512) + number % 512) None ≡ word number
  more_lower number is = go (eqb (number / 512) page) refl
    where
      go : (b : Bool) → eqb (number / 512) page ≡ b → get_or more.lower (512 * count_below (and_page has page) (number / 512) + number % 512) None ≡ word number
      go true e =
          let same : number / 512 ≡ page = eqb-true (number / 512) page e in
          let count = count_below_page (number / 512) (omega arith) in
          let number_is : count_below has (number / 512) ≡ count_below has page = ap (count_below has) same in
          let here = count_here in
          let long = h.tables in
          let place : ℕ = 512 * count_below (and_page has page) (number / 512) + number % 512 in
          let behind : length t.lower ≤ place = omega arith in
          let offset : place - length t.lower < 512 = omega arith in
          get_or-append_right t.lower (replicate 512 None) (length t.lower) place None refl behind ∙ get_or-replicate 512 (place - length t.lower) None None offset ∙ sym (none number same)
      go false e =
          let other : number / 512 ≢ page = eqb-false (number / 512) page e in
          let was : has (number / 512) ≡ true = sym (and_other has page (number / 512) other) ∙ is in
          let count = count_below_page (number / 512) (below was) in
          let inside_old = within t has word h number was in
          ap (λ n. get_or more.lower (512 * n + number % 512) None) count
          ∙ get_or_append_left t.lower (replicate 512 None) None (512 * count_below has (number / 512) + number % 512) inside_old
          ∙ h.lower number was
        where
          below : has (number / 512) ≡ true → number / 512 ≤ page
          below was = decide (nat_lt page (number / 512)) refl
            where
              decide : (b : Bool) → nat_lt page (number / 512) ≡ b → number / 512 ≤ page
              decide true e =
                  let above : page < number / 512 = ltb-true page (number / 512) e in
                  let no : has (number / 512) ≡ false = highest (number / 512) (omega arith) in
                  absurd (cc (was, no))
              decide false e = ltb-false page (number / 512) e

  pub holds_more : Holds more (and_page has page) word
  holds_more = record { inside = more_inside; upper = more_upper; tables = more_tables; lower = more_lower }

-- ---- a number more
module _ (t : TablesValue) (has : ℕ → Bool) (word : ℕ → Option ℕ) (number value : ℕ) (h : Holds t has word) (is : has (number / 512) ≡ true) where
  abbrev place_of : ℕ → ℕ
  place_of a = 512 * count_below has (a / 512) + a % 512

  abbrev pub and_number : ℕ → Option ℕ
  and_number a = cond (eqb a number) (Some value) (word a)

  same_place : (a : ℕ) → has (a / 512) ≡ true → place_of a ≡ place_of number → a ≡ number
  same_place a had same =
      let counts : count_below has (a / 512) ≡ count_below has (number / 512) = omega arith in
      let pages : a / 512 ≡ number / 512 = same_page has (a / 512) (number / 512) had is counts in
      omega arith

  put_lower : (a : ℕ) → has (a / 512) ≡ true → get_or (set t.lower (place_of number) (Some value)) (place_of a) None ≡ and_number a
  put_lower a had = go (eqb a number) refl
    where
      go : (b : Bool) → eqb a number ≡ b → get_or (set t.lower (place_of number) (Some value)) (place_of a) None ≡ and_number a
      go true e =
          let same : a ≡ number = eqb-true a number e in
          ap (λ n. get_or (set t.lower (place_of number) (Some value)) (place_of n) None) same
          ∙ get_or-set_same t.lower (place_of number) (Some value) None (within t has word h number is)
          ∙ sym (ap (λ b. cond b (Some value) (word a)) e)
      go false e =
          let other : place_of a ≢ place_of number = λ same. eqb-false a number e (same_place a had same) in
          get_or-set_other t.lower (place_of number) (place_of a) (Some value) None other ∙ h.lower a had ∙ sym (ap (λ b. cond b (Some value) (word a)) e)

  pub holds_put : Holds (record { first = t.first; upper = t.upper; lower = set t.lower (place_of number) (Some value) }) has and_number
  holds_put = record { inside = h.inside; upper = h.upper; tables = length-set t.lower (place_of number) (Some value) ∙ h.tables; lower = put_lower }
