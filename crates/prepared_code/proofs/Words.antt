-- Words beside the pairs of their map.
use Rattle.std.proofs.Common.{◌≡◌, ◌≢◌, ℕ, zero, suc, ◌+◌, ◌-◌, ◌<◌, ◌==◌, if◌then◌else◌, Bool, true, false, nat_lt, ltb-true, ltb-false, List, ◌++◌, ◌∷◌, [], length, get_or, Option, Some, None, refl, sym, ap, ◌∙◌, subst, inl, inr, ◌⊎◌, arith}
use Rattle.std.specs.Prelude.{map, not, slice_get, option_map, is_some}
use Rattle.std.proofs.lemmas.Bool.{eq-eqb, ne_eqb}
use Rattle.std.proofs.lemmas.List.{length-append}
use Rattle.std.proofs.lemmas.Option.{slice_get-map, slice_get-get_or, slice_get_read}
use Rattle.rising_lists.proofs.Lookups.{below_later, find_none}
use Rattle.address_map.proofs.Lookups.{words_rise, address_at-pair}
use Rattle.address_map.specs.Pairs.{Pair, AllRise, address_at}
use Rattle.prepared_code.specs.Prepared.{IsNext, IsNumber, IsReady, AreReady, begun}
use Rattle.prepared_code.specs.Sources.{Source, block_by, block_of, block_at}
use Rattle.prepared_code.specs.declared.prepared.Word.{Word}

same_pair : (p q : Pair) → Some p ≡ Some q → p ≡ q
same_pair p q e = cc e

any_default : (pairs : List Pair) (k : ℕ) (d e : Pair) → k < length pairs → get_or pairs k d ≡ get_or pairs k e
any_default pairs k d e h = same_pair (get_or pairs k d) (get_or pairs k e) (sym (slice_get-get_or pairs k d h) ∙ slice_get-get_or pairs k e h)

-- ---- the next pair
-- no pair has the place as its word, where the next one has another
other_words : (pairs : List Pair) (next place : ℕ) → AllRise pairs → IsNext pairs next place → (next < length pairs → (get_or pairs next (0, 0)).1 ≢ place)
    → (k : ℕ) (d : Pair) → k < length pairs → (get_or pairs k d).1 ≢ place
other_words pairs next place rise is other k d h e = by (nat_lt k next) refl (nat_lt next k) refl
  where
    by : (a : Bool) → nat_lt k next ≡ a → (b : Bool) → nat_lt next k ≡ b → ⊥
    by true l b m = let low = is.passed k d (ltb-true k next l) in omega (arith, low, e)
    by false l true m =
        let ahead = is.ahead next d (omega arith) (omega (arith, ltb-true next k m, h)) in
        let far = below_later (λ (p : Pair). p.1) pairs next k d (words_rise pairs rise) (ltb-true next k m) h in
        omega (arith, ahead, far, e)
    by false l false m =
        let same : k ≡ next = omega (arith, ltb-false k next l, ltb-false next k m) in
        let within : next < length pairs = omega (arith, same, h) in
        other within (ap (λ (p : Pair). p.1) (any_default pairs next (0, 0) d within) ∙ ap (λ i. (get_or pairs i d).1) (sym same) ∙ e)

pub no_number : (pairs : List Pair) (next place : ℕ) → AllRise pairs → IsNext pairs next place → (next < length pairs → (get_or pairs next (0, 0)).1 ≢ place)
    → address_at pairs place ≡ None
no_number pairs next place rise is other =
    ap (λ (o : Option Pair). option_map (λ (p : Pair). p.0) o) (find_none (λ (p : Pair). p.1) pairs place (other_words pairs next place rise is other))

pub no_next : (pairs : List Pair) (next place : ℕ) → AllRise pairs → IsNext pairs next place → (next < length pairs → (get_or pairs next (0, 0)).1 ≢ place)
    → IsNext pairs next (place + 1)
no_next pairs next place rise is other = record {
  within = is.within;
  few = omega (arith, is.few);
  passed = λ k d h. let low = is.passed k d h in omega (arith, low);
  ahead = λ k d h l. let low = is.ahead k d h l in let apart = other_words pairs next place rise is other k d l in omega (arith, low, apart);
}

pub one_number : (pairs : List Pair) (next place : ℕ) → AllRise pairs → next < length pairs → (get_or pairs next (0, 0)).1 ≡ place → IsNumber pairs place (suc next)
one_number pairs next place rise h here =
    (get_or pairs next (0, 0), slice_get-get_or pairs next (0, 0) h, here, ap (address_at pairs) (sym here) ∙ address_at-pair pairs next (0, 0) rise h)

pub one_next : (pairs : List Pair) (next place : ℕ) → AllRise pairs → IsNext pairs next place → next < length pairs → (get_or pairs next (0, 0)).1 ≡ place
    → IsNext pairs (next + 1) (place + 1)
one_next pairs next place rise is h here = record {
  within = omega (arith, h);
  few = omega (arith, is.few);
  passed = λ k d l. low k d l (nat_lt k next) refl;
  ahead = λ k d l m. let far = below_later (λ (p : Pair). p.1) pairs next k d (words_rise pairs rise) (omega (arith, l)) m in let here = same d in omega (arith, far, here);
}
  where
    same : (d : Pair) → (get_or pairs next d).1 ≡ place
    same d = ap (λ (p : Pair). p.1) (any_default pairs next d (0, 0) h) ∙ here

    low : (k : ℕ) (d : Pair) → k < next + 1 → (b : Bool) → nat_lt k next ≡ b → (get_or pairs k d).1 < place + 1
    low k d l true e = let before = is.passed k d (ltb-true k next e) in omega (arith, before)
    low k d l false e =
        let at : k ≡ next = omega (arith, l, ltb-false k next e) in
        let here = ap (λ i. (get_or pairs i d).1) at ∙ same d in
        omega (arith, here)

pub behind_number : (pairs : List Pair) (number next m place : ℕ) → IsNext pairs (if number == 0 then next else next + 1) place → ((number ≡ 0) × (m ≡ next)) ⊎ ((number ≢ 0) × (m ≡ next + 1))
    → IsNext pairs m place
behind_number pairs number next m place is (inl (e, same)) =
    subst (λ k. IsNext pairs k place) (sym same) (subst (λ b. IsNext pairs (if b then next else next + 1) place) (eq-eqb number 0 e) is)
behind_number pairs number next m place is (inr (other, same)) =
    subst (λ k. IsNext pairs k place) (sym same) (subst (λ b. IsNext pairs (if b then next else next + 1) place) (ne_eqb number 0 other) is)

-- ---- one more word
pub one_more_word : (words : List ℕ) (pairs : List Pair) (ready new : List Word) (n : ℕ) (w : Word) → AreReady words pairs ready n → IsReady words pairs n w → new ≡ ready ++ w ∷ []
    → AreReady words pairs new (n + 1)
one_more_word words pairs ready new n w are is e = record {
  counted = omega (arith, ap length e, length-append ready (w ∷ []), are.counted);
  each = λ k v h g. at k v h (ap (λ (xs : List Word). slice_get xs k) (sym e) ∙ g) (nat_lt k n) refl;
}
  where
    before : (xs : List Word) (k : ℕ) → k < length xs → slice_get (xs ++ w ∷ []) k ≡ slice_get xs k
    before [] k h = absurd (omega (arith, h))
    before (x ∷ xs) zero h = refl
    before (x ∷ xs) (suc k) h = before xs k (omega (arith, h))

    last : (xs : List Word) → slice_get (xs ++ w ∷ []) (length xs) ≡ Some w
    last [] = refl
    last (x ∷ xs) = last xs

    same : (u v : Word) → Some u ≡ Some v → u ≡ v
    same u v q = cc q

    at : (k : ℕ) (v : Word) → k < n + 1 → slice_get (ready ++ w ∷ []) k ≡ Some v → (b : Bool) → nat_lt k n ≡ b → IsReady words pairs k v
    at k v h g true q = are.each k v (ltb-true k n q) (sym (before ready k (omega (arith, ltb-true k n q, are.counted))) ∙ g)
    at k v h g false q =
        let here : k ≡ n = omega (arith, h, ltb-false k n q) in
        let found : w ≡ v = same w v (sym (last ready) ∙ ap (slice_get (ready ++ w ∷ [])) (are.counted ∙ sym here) ∙ g) in
        subst (λ (u : Word). IsReady words pairs k u) found (subst (λ (i : ℕ). IsReady words pairs i w) (sym here) is)

-- ---- a word that is looked up
pub ready_at : (words : List ℕ) (pairs : List Pair) (ready : List Word) (k : ℕ) (w : Word) → AreReady words pairs ready (length words) → k < length ready → w ≡ get_or ready k w
    → IsReady words pairs k w
ready_at words pairs ready k w are h e = are.each k w (omega (arith, h, are.counted)) (slice_get_read ready (length ready) k w refl h e)

pub is_mark : (pairs : List Pair) (word number : ℕ) → IsNumber pairs word number → not (number == 0) ≡ is_some (address_at pairs word)
is_mark pairs word zero none = ap is_some (sym none)
is_mark pairs word (suc k) (p, here, same, address) = rw (ne_eqb (suc k) 0 (λ e. omega (arith, e))) (ap is_some (sym address))

-- ---- the block with a number
pub begun_is : (source : Source) (word number : ℕ) → IsNumber source.code.map word number
    → begun (map (block_of source.code.points source.pages) source.code.map) number ≡ block_at source word
begun_is source word zero none = ap (option_map (λ address. block_by source.code.points source.pages address word)) (sym none)
begun_is source word (suc k) (p, here, same, address) =
    let back : suc k - 1 ≡ k = omega arith in
    let make = block_by source.code.points source.pages in
    rw (ne_eqb (suc k) 0 (λ e. omega (arith, e))) (rw back (slice_get-map (block_of source.code.points source.pages) source.code.map k
    ∙ ap (option_map (block_of source.code.points source.pages)) here
    ∙ ap (λ w. Some (make p.0 w)) same
    ∙ ap (option_map (λ a. make a word)) (sym address)))
