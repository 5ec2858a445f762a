-- How many pages there are below a page.
use Rattle.std.proofs.Common.{◌≡◌, ℕ, zero, suc, ◌<◌, ◌≤◌, Bool, true, false, cond, refl, sym, ap, ◌∙◌, arith, eqb, nat_lt, ltb-true, ltb-false}
use Rattle.std.proofs.lemmas.Bool.{eq-eqb, ne_eqb}
use Rattle.address_map.specs.Tables.{count_below}

-- the same pages below an end
pub count_same : (has has' : ℕ → Bool) (end : ℕ) → ((page : ℕ) → page < end → has page ≡ has' page) → count_below has end ≡ count_below has' end
count_same has has' zero same = refl
count_same has has' (suc end) same =
    let here = same end (omega arith) in
    let rest = count_same has has' end (λ page below. same page (omega arith)) in
    λ i. cond (here i) (suc (rest i)) (rest i)

step_up : (b : Bool) (n : ℕ) → n ≤ cond b (suc n) n
step_up true n = omega arith
step_up false n = omega arith

pub count_rises : (has : ℕ → Bool) (page end : ℕ) → page ≤ end → count_below has page ≤ count_below has end
count_rises has zero zero le = omega arith
count_rises has (suc page) zero le = absurd (omega arith)
count_rises has page (suc end) le = go (nat_lt page (suc end)) refl (count_rises has page end)
  where
    go : (b : Bool) → nat_lt page (suc end) ≡ b → (page ≤ end → count_below has page ≤ count_below has end) → count_below has page ≤ count_below has (suc end)
    go true is rest =
        let below : page < suc end = ltb-true page (suc end) is in
        let before = rest (omega arith) in
        let here = step_up (has end) (count_below has end) in
        omega arith
    go false is rest =
        let past : suc end ≤ page = ltb-false page (suc end) is in
        let same : page ≡ suc end = omega arith in
        rw same (omega arith)

-- a page that is had counts for all above it
pub count_past : (has : ℕ → Bool) (page end : ℕ) → has page ≡ true → page < end → count_below has page < count_below has end
count_past has page end is below =
    let here : count_below has (suc page) ≡ suc (count_below has page) = ap (λ b. cond b (suc (count_below has page)) (count_below has page)) is in
    let more = count_rises has (suc page) end (omega arith) in
    omega arith

-- none from a page on
pub count_none : (has : ℕ → Bool) (page end : ℕ) → page ≤ end → ((q : ℕ) → page ≤ q → has q ≡ false) → count_below has end ≡ count_below has page
count_none has zero zero le none = refl
count_none has (suc page) zero le none = absurd (omega arith)
count_none has page (suc end) le none = go (nat_lt page (suc end)) refl (λ below. count_none has page end below none)
  where
    go : (b : Bool) → nat_lt page (suc end) ≡ b → (page ≤ end → count_below has end ≡ count_below has page) → count_below has (suc end) ≡ count_below has page
    go true is rest =
        let below : page < suc end = ltb-true page (suc end) is in
        ap (λ b. cond b (suc (count_below has end)) (count_below has end)) (none end (omega arith)) ∙ rest (omega arith)
    go false is rest =
        let past : suc end ≤ page = ltb-false page (suc end) is in
        let same : suc end ≡ page = omega arith in
        ap (count_below has) same

pub count_small : (has : ℕ → Bool) (end : ℕ) → count_below has end ≤ end
count_small has zero = omega arith
count_small has (suc end) = let before = count_small has end in go (has end) before
  where
    go : (b : Bool) → count_below has end ≤ end → cond b (suc (count_below has end)) (count_below has end) ≤ suc end
    go true before = omega arith
    go false before = omega arith

pub count_nothing : (has : ℕ → Bool) (end : ℕ) → ((q : ℕ) → has q ≡ false) → count_below has end ≡ 0
count_nothing has end none = count_none has 0 end (omega arith) (λ q le. none q)

-- different pages that are had have different numbers
pub same_page : (has : ℕ → Bool) (p q : ℕ) → has p ≡ true → has q ≡ true → count_below has p ≡ count_below has q → p ≡ q
same_page has p q hp hq same = go (nat_lt p q) (nat_lt q p) refl refl
  where
    go : (a b : Bool) → nat_lt p q ≡ a → nat_lt q p ≡ b → p ≡ q
    go true b e f = let less = count_past has p q hp (ltb-true p q e) in absurd (omega arith)
    go false true e f = let less = count_past has q p hq (ltb-true q p f) in absurd (omega arith)
    go false false e f = let a = ltb-false p q e in let b = ltb-false q p f in omega arith

-- with one page more
abbrev pub and_page : (ℕ → Bool) → ℕ → ℕ → Bool
and_page has page q = cond (eqb q page) true (has q)

pub and_here : (has : ℕ → Bool) (page : ℕ) → and_page has page page ≡ true
and_here has page = ap (λ b. cond b true (has page)) (eq-eqb page page refl)

pub and_other : (has : ℕ → Bool) (page q : ℕ) → (q ≡ page → ⊥) → and_page has page q ≡ has q
and_other has page q other = ap (λ b. cond b true (has q)) (ne_eqb q page other)

pub count_more : (has : ℕ → Bool) (page end : ℕ) → has page ≡ false → page < end → count_below (and_page has page) end ≡ suc (count_below has end)
count_more has page zero not below = absurd (omega arith)
count_more has page (suc end) not below = go (nat_lt page end) refl (count_more has page end not)
  where
    go : (b : Bool) → nat_lt page end ≡ b → (page < end → count_below (and_page has page) end ≡ suc (count_below has end)) → count_below (and_page has page) (suc end) ≡ suc (count_below has (suc end))
    go true is rest =
        let lower : page < end = ltb-true page end is in
        let before = rest lower in
        let here = and_other has page end (λ same. absurd (omega arith)) in
        (λ i. cond (here i) (suc (before i)) (before i)) ∙ both (has end) (count_below has end)
      where
        both : (b : Bool) (n : ℕ) → cond b (suc (suc n)) (suc n) ≡ suc (cond b (suc n) n)
        both true n = refl
        both false n = refl
    go false is rest =
        let past : end ≤ page = ltb-false page end is in
        let same : end ≡ page = omega arith in
        let here : and_page has page end ≡ true = ap (and_page has page) same ∙ and_here has page in
        let none : has end ≡ false = ap has same ∙ not in
        let before : count_below (and_page has page) end ≡ count_below has end = count_same (and_page has page) has end (λ q below. and_other has page q (λ e. absurd (omega arith))) in
        ap (λ b. cond b (suc (count_below (and_page has page) end)) (count_below (and_page has page) end)) here
        ∙ ap suc before
        ∙ ap (λ b. suc (cond b (suc (count_below has end)) (count_below has end))) (sym none)
