-- What temporaries hold behind a write and behind a reference.
use Rattle.std.proofs.Common.{◌≡◌, ℕ, ◌<◌, ◌≤◌, eqb, Bool, true, false, List, length, set, refl, sym, ap, ◌∙◌, arith, inl, inr, length-set}
use Rattle.std.specs.Prelude.{if◌then◌else◌}
use Rattle.std.proofs.lemmas.Bool.{ne_eqb, cases_eq, cases_lt, both_ways}
use Rattle.std.proofs.lemmas.List.{get_or-set_same, get_or-set_other, get_or-replicate, get_or_past, length-replicate}
use Rattle.vt_words.proofs.Spreads.{below_8}
use Rattle.micro_ops.specs.Known.{held, with_held, has_flag, no_high, behind_access}
use Rattle.micro_ops.specs.declared.known.Holding.{Holding}
use Rattle.micro_ops.specs.declared.known.Holding.TheVariants.{Nothing, Wide}
use Rattle.micro_ops.specs.declared.known.Known.{Known}
use Rattle.micro_ops.proofs.Tables.{at_index}

-- ---- flags
pub flag_set : (flags : List Bool) (number : ℕ) → number < length flags → has_flag (set flags number true) number ≡ true
flag_set flags number lt = at_index (set flags number true) number ∙ get_or-set_same flags number true false lt

pub flag_other : (flags : List Bool) (number other : ℕ) → (other ≡ number → ⊥) → has_flag (set flags number true) other ≡ has_flag flags other
flag_other flags number other ne = at_index (set flags number true) other ∙ get_or-set_other flags number other true false ne ∙ sym (at_index flags other)

pub flag_past : (flags : List Bool) (number : ℕ) → length flags ≤ number → has_flag flags number ≡ false
flag_past flags number past = at_index flags number ∙ get_or_past flags number false past

-- what implies of flags implies of them with one more
pub flag_more : (fewer more : List Bool) (at number : ℕ) → length fewer ≡ length more → (has_flag fewer number ≡ true → has_flag more number ≡ true)
    → has_flag (set fewer at true) number ≡ true → has_flag (set more at true) number ≡ true
flag_more fewer more at number same implies is = elim (cases_eq number at) [
  | inl e ↦ elim (cases_lt at (length fewer)) [
    | inl lt ↦ ap (has_flag (set more at true)) e ∙ flag_set more at (omega (arith, lt, same))
    | inr past ↦ absurd (both_ways (has_flag (set fewer at true) number) (flag_past (set fewer at true) number (omega (arith, e, past, length-set fewer at true))) is)
  ]
  | inr ne ↦ flag_other more at number ne ∙ implies (sym (flag_other fewer at number ne) ∙ is)
]

no_high_flag : (number : ℕ) → has_flag no_high number ≡ false
no_high_flag number = elim (cases_lt number 64) [ inl lt ↦ at_index no_high number ∙ get_or-replicate 64 number false false lt | inr past ↦ flag_past no_high number (omega (arith, past, length-replicate 64 false)) ]

-- ---- temporaries
-- what holds of each number below 6
pub by_six : (P : ℕ → Type 0) → P 0 → P 1 → P 2 → P 3 → P 4 → P 5 → (n : ℕ) → n < 6 → P n
by_six P a b c d e f n lt = below_8 (λ n. n < 6 → P n) (λ _. a) (λ _. b) (λ _. c) (λ _. d) (λ _. e) (λ _. f) (λ lt. absurd (omega arith)) (λ lt. absurd (omega arith)) n (omega (arith, lt)) lt

-- a temporary above 5
pub high_held : (known : Known) (temp : ℕ) → 6 ≤ temp → held known temp ≡ (if has_flag known.high temp then Wide else Nothing)
high_held known temp high =
    rw (ne_eqb temp 0 (λ e. omega (arith, e)), ne_eqb temp 1 (λ e. omega (arith, e)), ne_eqb temp 2 (λ e. omega (arith, e)), ne_eqb temp 3 (λ e. omega (arith, e)), ne_eqb temp 4 (λ e. omega (arith, e)), ne_eqb temp 5 (λ e. omega (arith, e))) refl

with_high : (holding : Holding) (known : Known) (temp : ℕ) → 6 ≤ temp → with_held temp holding known ≡ record known { high = set known.high temp true }
with_high holding known temp high =
    rw (ne_eqb temp 0 (λ e. omega (arith, e)), ne_eqb temp 1 (λ e. omega (arith, e)), ne_eqb temp 2 (λ e. omega (arith, e)), ne_eqb temp 3 (λ e. omega (arith, e)), ne_eqb temp 4 (λ e. omega (arith, e)), ne_eqb temp 5 (λ e. omega (arith, e))) refl

pub held_set : (holding : Holding) (known : Known) (temp : ℕ) → 6 ≤ temp → held (with_held temp holding known) temp ≡ (if has_flag (set known.high temp true) temp then Wide else Nothing)
held_set holding known temp high = ap (λ (k : Known). held k temp) (with_high holding known temp high) ∙ high_held (record known { high = set known.high temp true }) temp high

module _ (holding : Holding) (known : Known) (temp : ℕ) where
  pub held_same : temp < 6 → held (with_held temp holding known) temp ≡ holding
  held_same = by_six (λ n. held (with_held n holding known) n ≡ holding) refl refl refl refl refl refl temp

  pub held_other : (other : ℕ) → (other ≡ temp → ⊥) → held (with_held temp holding known) other ≡ held known other
  held_other other ne = elim (cases_lt temp 6) [
    | inl low ↦
        by_six (λ n. (other ≡ n → ⊥) → held (with_held n holding known) other ≡ held known other)
        (λ ne. rw (ne_eqb other 0 ne) refl) (λ ne. rw (ne_eqb other 1 ne) refl) (λ ne. rw (ne_eqb other 2 ne) refl)
        (λ ne. rw (ne_eqb other 3 ne) refl) (λ ne. rw (ne_eqb other 4 ne) refl) (λ ne. rw (ne_eqb other 5 ne) refl) temp low ne
    | inr high ↦ ap (λ (k : Known). held k other) (with_high holding known temp high) ∙ rw (flag_other known.high temp other ne) refl
  ]

-- ---- references
pub held_behind : (known : Known) (temp : ℕ) → temp < 4 → held (behind_access known) temp ≡ held known temp
held_behind known temp low =
    by_six (λ n. n < 4 → held (behind_access known) n ≡ held known n) (λ _. refl) (λ _. refl) (λ _. refl) (λ _. refl) (λ lt. absurd (omega arith)) (λ lt. absurd (omega arith))
    temp (omega (arith, low)) low

pub lost_behind : (known : Known) (temp : ℕ) → 4 ≤ temp → held (behind_access known) temp ≡ Nothing
lost_behind known temp high =
    rw (ne_eqb temp 0 (λ e. omega (arith, e)), ne_eqb temp 1 (λ e. omega (arith, e)), ne_eqb temp 2 (λ e. omega (arith, e)), ne_eqb temp 3 (λ e. omega (arith, e)), no_high_flag temp) (by (eqb temp 4) (eqb temp 5))
  where
    by : (a b : Bool) → (if a then Nothing else if b then Nothing else Nothing) ≡ Nothing
    by true b = refl
    by false true = refl
    by false false = refl

-- ---- all but the temporaries
pub record SameRest (known other : Known) : Type 0 where
  pub high : length known.high ≡ length other.high
  pub changed : known.changed ≡ other.changed
  pub committed : known.committed ≡ other.committed
  pub codes : known.codes ≡ other.codes
  pub psw : known.psw ≡ other.psw
  pub ended : known.ended ≡ other.ended

pick : (b : Bool) (x y known : Known) → SameRest x known → SameRest y known → SameRest (if b then x else y) known
pick true x y known p q = p
pick false x y known p q = q

same_rest : (known : Known) (a b c d e f : Holding) → SameRest (record known { temp0 = a; temp1 = b; temp2 = c; temp3 = d; temp4 = e; temp5 = f }) known
same_rest known a b c d e f = record { high = refl; changed = refl; committed = refl; codes = refl; psw = refl; ended = refl }

pub rest_kept : (temp : ℕ) (holding : Holding) (known : Known) → SameRest (with_held temp holding known) known
rest_kept temp h known =
    pick (eqb temp 0) _ _ known (same_rest known h known.temp1 known.temp2 known.temp3 known.temp4 known.temp5)
    (pick (eqb temp 1) _ _ known (same_rest known known.temp0 h known.temp2 known.temp3 known.temp4 known.temp5)
    (pick (eqb temp 2) _ _ known (same_rest known known.temp0 known.temp1 h known.temp3 known.temp4 known.temp5)
    (pick (eqb temp 3) _ _ known (same_rest known known.temp0 known.temp1 known.temp2 h known.temp4 known.temp5)
    (pick (eqb temp 4) _ _ known (same_rest known known.temp0 known.temp1 known.temp2 known.temp3 h known.temp5)
    (pick (eqb temp 5) _ _ known (same_rest known known.temp0 known.temp1 known.temp2 known.temp3 known.temp4 h)
    (record { high = length-set known.high temp true; changed = refl; committed = refl; codes = refl; psw = refl; ended = refl }))))))
