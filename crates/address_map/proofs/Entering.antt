-- The pages and numbers of a list with one pair more.
use Rattle.std.proofs.Common.{◌≡◌, ◌≢◌, ℕ, zero, suc, ◌+◌, ◌-◌, ◌*◌, ◌/◌, ◌%◌, ◌<◌, ◌≤◌, Bool, true, false, cond, List, [], ◌∷◌, ◌++◌, Option, Some, None, length, take, replicate, get_or, set, refl, subst, sym, ap, ◌∙◌, arith, eqb, nat_lt, ltb-true, ltb-false}
use Rattle.std.specs.Prelude.{find, option_map, ◌||◌, ◌==◌}
use Rattle.std.proofs.lemmas.Bool.{eq-eqb, ne_eqb, eqb-true, eqb-false}
use Rattle.std.proofs.lemmas.List.{length-take-le, get_or-take, get_or_default, length-set, get_or-replicate, length-replicate, take_more}
use Rattle.address_map.specs.Pairs.{Pair, word_at}
use Rattle.address_map.specs.Tables.{has_page, count_below, first_page, end_page, page_span, TablesValue, tables, opened, IsInside, Holds, HasTables, AreTablesOf}
use Rattle.rising_lists.specs.Rising.{KeysRise}
use Rattle.address_map.proofs.Counting.{and_page, and_here, count_nothing, count_small}
use Rattle.address_map.proofs.Holding.{holds_same, within, holds_more, holds_put}
use Rattle.rising_lists.proofs.Lookups.{below_later}

abbrev number : Pair → ℕ
number p = p.0

-- ---- a pair behind the others

any_push : (ps : List Pair) (p : Pair) (page : ℕ) → has_page (ps ++ p ∷ []) page ≡ and_page (has_page ps) (p.0 / 512) page
any_push [] p page = flip (p.0 / 512) page
  where
    flip : (a b : ℕ) → (eqb a b || false) ≡ cond (eqb b a) true false
    flip a b = go (eqb b a) refl
      where
        go : (c : Bool) → eqb b a ≡ c → (eqb a b || false) ≡ cond c true false
        go true e = ap (λ c. c || false) (eq-eqb a b (sym (eqb-true b a e)))
        go false e = ap (λ c. c || false) (ne_eqb a b (λ same. eqb-false b a e (sym same)))
any_push (q ∷ qs) p page = ap (λ b. (q.0 / 512 == page) || b) (any_push qs p page) ∙ both (q.0 / 512 == page) (eqb page (p.0 / 512)) (has_page qs page)
  where
    both : (a b c : Bool) → (a || cond b true c) ≡ cond b true (a || c)
    both true true c = refl
    both true false c = refl
    both false true c = refl
    both false false c = refl

pub page_push : (ps : List Pair) (p : Pair) (page : ℕ) → and_page (has_page ps) (p.0 / 512) page ≡ has_page (ps ++ p ∷ []) page
page_push ps p page = sym (any_push ps p page)

-- a number that no pair has is not found
abbrev IsApart : List Pair → ℕ → Type 0
IsApart ps x = (k : ℕ) (d : Pair) → k < length ps → (get_or ps k d).0 ≢ x

pub word_push : (ps : List Pair) (p : Pair) → IsApart ps p.0 → (x : ℕ) → cond (eqb x p.0) (Some p.1) (word_at ps x) ≡ word_at (ps ++ p ∷ []) x
word_push [] p apart x = go (eqb x p.0) refl
  where
    go : (b : Bool) → eqb x p.0 ≡ b → cond b (Some p.1) None ≡ word_at (p ∷ []) x
    go true e = sym (ap (λ b. option_map (λ (q : Pair). q.1) (cond b (Some p) None)) (eq-eqb p.0 x (sym (eqb-true x p.0 e))))
    go false e = sym (ap (λ b. option_map (λ (q : Pair). q.1) (cond b (Some p) None)) (ne_eqb p.0 x (λ same. eqb-false x p.0 e (sym same))))
word_push (q ∷ qs) p apart x = go (eqb q.0 x) refl (word_push qs p (λ k d h. apart (suc k) d (omega arith)) x)
  where
    go : (b : Bool) → eqb q.0 x ≡ b → cond (eqb x p.0) (Some p.1) (word_at qs x) ≡ word_at (qs ++ p ∷ []) x → cond (eqb x p.0) (Some p.1) (word_at (q ∷ qs) x) ≡ word_at (q ∷ qs ++ p ∷ []) x
    go true e rest =
        let other : eqb x p.0 ≡ false = ne_eqb x p.0 (λ same. apart 0 q (omega arith) (eqb-true q.0 x e ∙ same)) in
        ap (λ b. cond b (Some p.1) (word_at (q ∷ qs) x)) other
        ∙ ap (λ b. option_map (λ (r : Pair). r.1) (cond b (Some q) (find (λ (r : Pair). eqb r.0 x) qs))) e
        ∙ sym (ap (λ b. option_map (λ (r : Pair). r.1) (cond b (Some q) (find (λ (r : Pair). eqb r.0 x) (qs ++ p ∷ [])))) e)
    go false e rest =
        ap (λ b. cond (eqb x p.0) (Some p.1) (option_map (λ (r : Pair). r.1) (cond b (Some q) (find (λ (r : Pair). eqb r.0 x) qs)))) e
        ∙ rest
        ∙ sym (ap (λ b. option_map (λ (r : Pair). r.1) (cond b (Some q) (find (λ (r : Pair). eqb r.0 x) (qs ++ p ∷ [])))) e)

-- ---- pages and numbers of pairs

-- where all pairs are below a number, so are their pages
pub no_page : (ps : List Pair) (page : ℕ) → ((k : ℕ) (d : Pair) → k < length ps → (get_or ps k d).0 / 512 ≢ page) → has_page ps page ≡ false
no_page [] page apart = refl
no_page (q ∷ qs) page apart =
    let here : eqb (q.0 / 512) page ≡ false = ne_eqb (q.0 / 512) page (apart 0 q (omega arith)) in
    ap (λ b. b || has_page qs page) here ∙ no_page qs page (λ k d h. apart (suc k) d (omega arith))

-- a number in a page without numbers is not found
pub no_word : (ps : List Pair) (x : ℕ) → has_page ps (x / 512) ≡ false → word_at ps x ≡ None
no_word [] x none = refl
no_word (q ∷ qs) x none = go (eqb (q.0 / 512) (x / 512)) refl none (no_word qs x)
  where
    go : (b : Bool) → eqb (q.0 / 512) (x / 512) ≡ b → (b || has_page qs (x / 512)) ≡ false → (has_page qs (x / 512) ≡ false → word_at qs x ≡ None) → word_at (q ∷ qs) x ≡ None
    go true e none rest = absurd cc
    go false e none rest =
        let other : eqb q.0 x ≡ false = ne_eqb q.0 x (λ same. eqb-false (q.0 / 512) (x / 512) e (ap (λ n. n / 512) same)) in
        ap (λ b. option_map (λ (r : Pair). r.1) (cond b (Some q) (find (λ (r : Pair). eqb r.0 x) qs))) other ∙ rest none

-- ---- the first and the last page

pub end_at : (ps : List Pair) (d : Pair) → 0 < length ps → end_page ps ≡ (get_or ps (length ps - 1) d).0 / 512 + 1
end_at [] d some = absurd (omega arith)
end_at (p ∷ []) d some = refl
end_at (p ∷ q ∷ ps) d some = end_at (q ∷ ps) d (omega arith) ∙ ap (λ k. (get_or (p ∷ q ∷ ps) k d).0 / 512 + 1) (let e : suc (length (q ∷ ps) - 1) ≡ length (p ∷ q ∷ ps) - 1 = omega arith in e)

pub first_low : (ps : List Pair) (k : ℕ) (d : Pair) → KeysRise number ps → k < length ps → first_page ps ≤ (get_or ps k d).0 / 512
first_low [] k d rise h = absurd (omega arith)
first_low (p ∷ ps) zero d rise h = omega arith
first_low (p ∷ ps) (suc k) d rise h = let later = below_later number (p ∷ ps) 0 (suc k) d rise (omega arith) h in omega arith

pub end_high : (ps : List Pair) (k : ℕ) (d : Pair) → KeysRise number ps → k < length ps → (get_or ps k d).0 / 512 < end_page ps
end_high ps k d rise h = go (nat_lt k (length ps - 1)) refl
  where
    end : end_page ps ≡ (get_or ps (length ps - 1) d).0 / 512 + 1
    end = end_at ps d (omega arith)

    go : (b : Bool) → nat_lt k (length ps - 1) ≡ b → (get_or ps k d).0 / 512 < end_page ps
    go true e = let later = below_later number ps k (length ps - 1) d rise (ltb-true k (length ps - 1) e) (omega arith) in omega (arith, end)
    go false e =
        let past = ltb-false k (length ps - 1) e in
        let same : k ≡ length ps - 1 = omega arith in
        rw same (omega (arith, end))

pub span_is : (ps : List Pair) → KeysRise number ps → first_page ps + page_span ps ≡ end_page ps
span_is [] rise = refl
span_is (p ∷ ps) rise = let high = end_high (p ∷ ps) 0 p rise (omega arith) in omega arith

-- ---- the next pair

module _ (pairs : List Pair) (place : ℕ) (d : Pair) (rise : KeysRise number pairs) (here : place < length pairs) where
  abbrev before : List Pair
  before = take place pairs

  abbrev pair : Pair
  pair = get_or pairs place d

  abbrev page : ℕ
  page = pair.0 / 512

  pub inside_page : (t : TablesValue) → t.first ≡ first_page pairs → length t.upper ≡ page_span pairs → IsInside t page
  inside_page t first span =
      let low = first_low pairs place d rise here in
      let high = end_high pairs place d rise here in
      let whole = span_is pairs rise in
      (omega arith, omega arith)

  before_long : length before ≡ place
  before_long = length-take-le place pairs (omega arith)

  lower_before : (k : ℕ) (e : Pair) → k < length before → (get_or before k e).0 < pair.0
  lower_before k e h =
      let k_low : k < place = omega (arith, before_long) in
      let later = below_later number pairs k place e rise k_low here in
      let same : get_or pairs place e ≡ pair = same_default in
      let value : (get_or pairs place e).0 ≡ pair.0 = ap (λ (p : Pair). p.0) same in
      let taken : (get_or before k e).0 ≡ (get_or pairs k e).0 = ap (λ (p : Pair). p.0) (get_or-take place pairs k e k_low) in
      omega arith
    where
      same_default : get_or pairs place e ≡ pair
      same_default = get_or_default pairs place e d here

  apart : (k : ℕ) (e : Pair) → k < length before → (get_or before k e).0 ≢ pair.0
  apart k e h same = let less = lower_before k e h in omega arith

  above_page : (q : ℕ) → page < q → has_page before q ≡ false
  above_page q above = no_page before q (λ k e h same. let less = lower_before k e h in omega arith)

  -- ---- with its page
  module _ (t : TablesValue) (first : t.first ≡ first_page pairs) (span : length t.upper ≡ page_span pairs) (has : HasTables t before) where
    abbrev word : ℕ
    word = get_or t.upper (page - t.first) 0

    word_is : word ≡ cond (has_page before page) (suc (count_below (has_page before) page)) 0
    word_is = has.upper page (inside_page t first span)

    abbrev next : List ℕ × List (Option ℕ)
    next = opened (page - t.first) t.upper t.lower

    abbrev grown : TablesValue
    grown = tables t.first next.0 next.1

    none_had : word ≡ 0 → has_page before page ≡ false
    none_had zero_is = go (has_page before page) refl
      where
        go : (b : Bool) → has_page before page ≡ b → has_page before page ≡ false
        go true e =
            let some : word ≡ suc (count_below (has_page before) page) = word_is ∙ ap (λ b. cond b (suc (count_below (has_page before) page)) 0) e in
            absurd (omega arith)
        go false e = e

    some_had : word ≢ 0 → has_page before page ≡ true
    some_had other = go (has_page before page) refl
      where
        go : (b : Bool) → has_page before page ≡ b → has_page before page ≡ true
        go true e = e
        go false e = absurd (other (word_is ∙ ap (λ b. cond b (suc (count_below (has_page before) page)) 0) e))

    pub holds_open : Holds grown (and_page (has_page before) page) (word_at before)
    holds_open = go (eqb word 0) refl
      where
        go : (b : Bool) → eqb word 0 ≡ b → Holds grown (and_page (has_page before) page) (word_at before)
        go true e =
            let not = none_had (eqb-true word 0 e) in
            let highest : (q : ℕ) → page ≤ q → has_page before q ≡ false = λ q le. at q le (eqb q page) refl in
            let none : (n : ℕ) → n / 512 ≡ page → word_at before n ≡ None = λ n same. no_word before n (ap (has_page before) same ∙ not) in
            subst (λ (n : List ℕ × List (Option ℕ)). Holds (tables t.first n.0 n.1) (and_page (has_page before) page) (word_at before))
            (sym (ap (λ b. cond b (set t.upper (page - t.first) (length t.lower / 512 + 1), t.lower ++ replicate 512 None) (t.upper, t.lower)) e))
            (holds_more t (has_page before) (word_at before) page has (inside_page t first span) not highest none)
          where
            at : (q : ℕ) → page ≤ q → (b : Bool) → eqb q page ≡ b → has_page before q ≡ false
            at q le true e' = ap (has_page before) (eqb-true q page e') ∙ none_had (eqb-true word 0 e)
            at q le false e' = let other = eqb-false q page e' in above_page q (omega arith)
        go false e =
            let had = some_had (eqb-false word 0 e) in
            subst (λ (n : List ℕ × List (Option ℕ)). Holds (tables t.first n.0 n.1) (and_page (has_page before) page) (word_at before))
            (sym (ap (λ b. cond b (set t.upper (page - t.first) (length t.lower / 512 + 1), t.lower ++ replicate 512 None) (t.upper, t.lower)) e))
            (holds_same t (has_page before) (and_page (has_page before) page) (word_at before) (word_at before) (λ q. same q had (eqb q page) refl) (λ n. refl) has)
          where
            same : (q : ℕ) → has_page before page ≡ true → (b : Bool) → eqb q page ≡ b → has_page before q ≡ and_page (has_page before) page q
            same q had true e' = ap (has_page before) (eqb-true q page e') ∙ had ∙ sym (ap (λ b. cond b true (has_page before q)) e')
            same q had false e' = sym (ap (λ b. cond b true (has_page before q)) e')

    abbrev either : Bool → List ℕ × List (Option ℕ)
    either b = cond b (set t.upper (page - t.first) (length t.lower / 512 + 1), t.lower ++ replicate 512 None) (t.upper, t.lower)

    open_length : length next.0 ≡ length t.upper
    open_length = go (eqb word 0) refl
      where
        go : (b : Bool) → eqb word 0 ≡ b → length next.0 ≡ length t.upper
        go true e = ap (λ (b : Bool). length (either b).0) e ∙ length-set t.upper (page - t.first) (length t.lower / 512 + 1)
        go false e = ap (λ (b : Bool). length (either b).0) e

    pub open_word : get_or next.0 (page - t.first) 0 ≡ suc (count_below (and_page (has_page before) page) page)
    open_word =
        let i = inside_page t first span in
        let h = holds_open in
        let wide : IsInside grown page = (i.0, subst (λ n. page < t.first + n) (sym open_length) i.1) in
        h.upper page wide ∙ ap (λ b. cond b (suc (count_below (and_page (has_page before) page) page)) 0) (and_here (has_page before) page)

    -- the place of the pair's number, by its page's upper word
    abbrev pub spot : ℕ
    spot = 512 * (get_or next.0 (page - t.first) 0 - 1) + pair.0 % 512

    spot_is : spot ≡ 512 * count_below (and_page (has_page before) page) page + pair.0 % 512
    spot_is = let w = open_word in omega arith

    pub spot_within : spot < length next.1
    spot_within =
        let in_table = within grown (and_page (has_page before) page) (word_at before) holds_open pair.0 (and_here (has_page before) page) in
        let is = spot_is in
        omega arith

    pub entered : HasTables (tables t.first next.0 (set next.1 spot (Some pair.1))) (take (place + 1) pairs)
    entered =
        let put = holds_put grown (and_page (has_page before) page) (word_at before) pair.0 pair.1 holds_open (and_here (has_page before) page) in
        let more : HasTables (tables t.first next.0 (set next.1 (512 * count_below (and_page (has_page before) page) page + pair.0 % 512) (Some pair.1))) (before ++ pair ∷ []) =
        holds_same _ _ (has_page (before ++ pair ∷ [])) _ (word_at (before ++ pair ∷ [])) (λ q. page_push before pair q) (λ x. word_push before pair apart x) put in
        subst (HasTables (tables t.first next.0 (set next.1 spot (Some pair.1)))) (sym (take_more pairs place d here))
        (subst (λ n. HasTables (tables t.first next.0 (set next.1 n (Some pair.1))) (before ++ pair ∷ [])) (sym spot_is) more)

-- ---- no pair yet, and few tables

pub none_yet : (first span : ℕ) → HasTables (tables first (replicate span 0) []) []
none_yet first span = record {
  inside = λ page is. absurd cc;
  upper = λ page i. let low = i.0 in let high : page - first < span = omega (arith, i.1, length-replicate {A = ℕ} span 0) in get_or-replicate span (page - first) 0 0 high;
  tables = let none = count_nothing (λ page. false) (first + length (replicate {A = ℕ} span 0)) (λ q. refl) in omega arith;
  lower = λ n is. absurd cc;
}

pub few_tables : (t : TablesValue) (ps : List Pair) → HasTables t ps → t.first + length t.upper ≤ 8388608 → length t.lower ≤ 4294967296
few_tables t ps has few = let count = count_small (has_page ps) (t.first + length t.upper) in let long = has.tables in omega arith

-- ---- what is found in the tables of pairs

module _ (t : TablesValue) (pairs : List Pair) (x : ℕ) (are : AreTablesOf t pairs) where
  pub found_outside : ¬ IsInside t (x / 512) → word_at pairs x ≡ None
  found_outside outside = go (has_page pairs (x / 512)) refl
    where
      go : (b : Bool) → has_page pairs (x / 512) ≡ b → word_at pairs x ≡ None
      go true e = absurd (outside (are.tables.inside (x / 512) e))
      go false e = no_word pairs x e

  pub found_empty : IsInside t (x / 512) → get_or t.upper (x / 512 - t.first) 0 ≡ 0 → word_at pairs x ≡ None
  found_empty inside zero_is = go (has_page pairs (x / 512)) refl
    where
      go : (b : Bool) → has_page pairs (x / 512) ≡ b → word_at pairs x ≡ None
      go true e =
          let some = are.tables.upper (x / 512) inside ∙ ap (λ b. cond b (suc (count_below (has_page pairs) (x / 512))) 0) e in
          absurd (omega arith)
      go false e = no_word pairs x e

  had : IsInside t (x / 512) → get_or t.upper (x / 512 - t.first) 0 ≢ 0 → has_page pairs (x / 512) ≡ true
  had inside some = go (has_page pairs (x / 512)) refl
    where
      go : (b : Bool) → has_page pairs (x / 512) ≡ b → has_page pairs (x / 512) ≡ true
      go true e = e
      go false e = absurd (some (are.tables.upper (x / 512) inside ∙ ap (λ b. cond b (suc (count_below (has_page pairs) (x / 512))) 0) e))

  abbrev at : ℕ
  at = 512 * (get_or t.upper (x / 512 - t.first) 0 - 1) + x % 512

  at_is : (inside : IsInside t (x / 512)) → has_page pairs (x / 512) ≡ true → at ≡ 512 * count_below (has_page pairs) (x / 512) + x % 512
  at_is inside h =
      let word = are.tables.upper (x / 512) inside ∙ ap (λ b. cond b (suc (count_below (has_page pairs) (x / 512))) 0) h in
      omega arith

  pub found_within : IsInside t (x / 512) → get_or t.upper (x / 512 - t.first) 0 ≢ 0 → at < length t.lower
  found_within inside some =
      let h = had inside some in
      let low = within t (has_page pairs) (word_at pairs) are.tables x h in
      let is = at_is inside h in
      omega arith

  pub found_there : IsInside t (x / 512) → get_or t.upper (x / 512 - t.first) 0 ≢ 0 → get_or t.lower at None ≡ word_at pairs x
  found_there inside some =
      let h = had inside some in
      ap (λ n. get_or t.lower n None) (at_is inside h) ∙ are.tables.lower x h
