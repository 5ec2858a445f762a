-- The places of points.
use Rattle.std.proofs.Common.{◌≡◌, ◌≢◌, ℕ, zero, suc, ◌+◌, ◌<◌, ◌≤◌, Bool, true, false, List, Option, Some, None, length, get_or, refl, sym, ap, ◌∙◌, arith, add-one, eqb-true, length-set}
use Rattle.std.specs.Prelude.{◌==◌, option_map, slice_get, slice_set}
use Rattle.std.proofs.lemmas.Bool.{eqb-false}
use Rattle.std.proofs.lemmas.List.{get_or_default, get_or-set_same, get_or-set_other}
use Rattle.std.proofs.lemmas.Option.{get_or_from_slice_get, slice_get-get_or, slice_get_read, slice_get_within}
use Rattle.rising_lists.proofs.Lookups.{find_at, find_none}
use Rattle.exception_records.specs.declared.rules.CodeRule.TheVariants.{Ready}
use Rattle.exception_records.specs.Points.{ArePlacesOf, Entry, WordsRise, point_at}

abbrev pub no_entry : Entry
no_entry = (0, record { vax_pc = 0; done = 0; count = 0; write = false; raises = 0; rules = record { n = Ready; z = Ready; v = Ready; c = Ready } })

-- what is told of words by the first so many points
pub record AreEntered (places : List (Option ℕ)) (points : List Entry) (count : ℕ) : Type 0 where
  pub there : (word place : ℕ) → slice_get places word ≡ Some (Some place) → (place < count) × ((d : Entry) → (get_or points place d).0 ≡ word)
  pub none : (word : ℕ) → slice_get places word ≡ Some None → (k : ℕ) (d : Entry) → k < count → (get_or points k d).0 ≢ word

-- once all points are, they are told
pub all_entered : (places : List (Option ℕ)) (points : List Entry) → WordsRise points → AreEntered places points (length points) → ArePlacesOf places points
all_entered places points rise e = record {
  there = e.there;
  none = λ word told. ap (λ (o : Option Entry). option_map (λ (p : Entry). p.1) o) (find_none (λ (p : Entry). p.0) points word (e.none word told));
}

-- the point at a place that is told
pub point_there : (places : List (Option ℕ)) (points : List Entry) (word place : ℕ) → WordsRise points → ArePlacesOf places points → slice_get places word ≡ Some (Some place)
    → Some (get_or points place no_entry).1 ≡ point_at points word
point_there places points word place rise are told =
    let found = are.there word place told in
    sym (ap (λ (o : Option Entry). option_map (λ (p : Entry). p.1) o) (find_at (λ (p : Entry). p.0) points place word no_entry rise found.0 (found.1 no_entry)))

pub few_words : (ps : List Entry) (k : ℕ) (d : Entry) → WordsRise ps → k < length ps → k ≤ (get_or ps k d).0
few_words ps zero d rise h = omega arith
few_words ps (suc k) d rise h =
    let before = few_words ps k d rise (omega arith) in
    let rises = rw add-one at (rise k d (omega arith)) in
    omega arith

-- ---- one point more
module _ (places : List (Option ℕ)) (points : List Entry) (count : ℕ) (e : AreEntered places points count) where
  -- a point whose word is told of
  pub one_told : count < length points → (get_or points count no_entry).0 < length places → AreEntered (slice_set places (get_or points count no_entry).0 (Some count)) points (count + 1)
  one_told more within = record {
    there = λ word place told. theres word place told (word == point.0) refl;
    none = λ word told k d h. nones word told k d h (word == point.0) refl;
  }
    where
      point : Entry
      point = get_or points count no_entry

      is : (d : Entry) → get_or points count d ≡ point
      is d = get_or_default points count d no_entry more

      now : List (Option ℕ)
      now = slice_set places point.0 (Some count)

      here : (word : ℕ) → (word == point.0) ≡ true → slice_get now word ≡ Some (Some count)
      here word same =
          let long : length now ≡ length places = length-set places point.0 (Some count) in
          let at = eqb-true word point.0 same in
          slice_get-get_or now word None (omega arith) ∙ ap Some (ap (λ w. get_or now w None) at ∙ get_or-set_same places point.0 (Some count) None within)

      other : (word : ℕ) (told : Option ℕ) → (word == point.0) ≡ false → slice_get now word ≡ Some told → slice_get places word ≡ Some told
      other word told apart e =
          let long : length now ≡ length places = length-set places point.0 (Some count) in
          let in_now = slice_get_within now word told e in
          slice_get_read places (length places) word told refl (omega arith)
          (sym (get_or_from_slice_get now word told told e) ∙ get_or-set_other places point.0 word (Some count) told (eqb-false word point.0 apart))

      theres : (word place : ℕ) → slice_get now word ≡ Some (Some place) → (b : Bool) → (word == point.0) ≡ b → (place < count + 1) × ((d : Entry) → (get_or points place d).0 ≡ word)
      theres word place told true same =
          let it : count ≡ place = cc (here word same, told) in
          (omega arith, λ d. ap (λ i. (get_or points i d).0) (sym it) ∙ (ap (λ (p : Entry). p.0) (is d) ∙ sym (eqb-true word point.0 same)))
      theres word place told false apart =
          let before = e.there word place (other word (Some place) apart told) in
          let low = before.0 in
          (omega arith, before.1)

      nones : (word : ℕ) → slice_get now word ≡ Some None → (k : ℕ) (d : Entry) → k < count + 1 → (b : Bool) → (word == point.0) ≡ b → (get_or points k d).0 ≢ word
      nones word told k d h true same = absurd (cc (here word same, told))
      nones word told k d h false apart = later (k == count) refl
        where
          later : (b : Bool) → (k == count) ≡ b → (get_or points k d).0 ≡ word → ⊥
          later true at e' = eqb-false word point.0 apart (sym e' ∙ (ap (λ i. (get_or points i d).0) (eqb-true k count at) ∙ ap (λ (p : Entry). p.0) (is d)))
          later false at e' = e.none word (other word None apart told) k d (let off = eqb-false k count at in omega arith) e'

  -- one behind the words that are told of
  pub one_past : count < length points → length places ≤ (get_or points count no_entry).0 → AreEntered places points (count + 1)
  one_past more past = record {
    there = λ word place told.
        let before = e.there word place told in
        let low = before.0 in
        (omega arith, before.1);
    none = λ word told k d h. nones word told k d h (k == count) refl;
  }
    where
      nones : (word : ℕ) → slice_get places word ≡ Some None → (k : ℕ) (d : Entry) → k < count + 1 → (b : Bool) → (k == count) ≡ b → (get_or points k d).0 ≡ word → ⊥
      nones word told k d h true at e' =
          let within = slice_get_within places word None told in
          let word_is : (get_or points count no_entry).0 ≡ word = ap (λ (p : Entry). p.0) (get_or_default points count no_entry d more) ∙ (ap (λ i. (get_or points i d).0) (sym (eqb-true k count at)) ∙ e') in
          omega arith
      nones word told k d h false at e' = e.none word told k d (let off = eqb-false k count at in omega arith) e'
