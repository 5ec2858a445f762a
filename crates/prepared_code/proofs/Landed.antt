-- The word to which a block's address leads back.
use Rattle.std.proofs.Common.{◌≡◌, ℕ, ◌==◌, Bool, true, false, if◌then◌else◌, List, [], ◌∷◌, Option, Some, None, refl, sym, ap, ◌∙◌, subst}
use Rattle.std.specs.Prelude.{find, is_some, option_map, slice_get}
use Rattle.std.proofs.lemmas.Bool.{eqb-true}
use Rattle.std.specs.List.{position_or_len}
use Rattle.std.proofs.lemmas.List.Folds.{find_at}
use Rattle.std.proofs.lemmas.Option.{get_or_from_slice_get, slice_get_within}
use Rattle.address_map.specs.Pairs.{Pair, AllRise, address_at, word_at}
use Rattle.address_map.proofs.Lookups.{word_at-pair}

-- what is found has the word
has_word : (word : ℕ) (pairs : List Pair) (p : Pair) → find (λ (q : Pair). q.1 == word) pairs ≡ Some p → p.1 ≡ word
has_word word [] p found = absurd (cc found)
has_word word (q ∷ pairs) p found = by (q.1 == word) refl found (has_word word pairs p)
  where
    by : (b : Bool) → (q.1 == word) ≡ b → (if b then Some q else find (λ (r : Pair). r.1 == word) pairs) ≡ Some p
        → (find (λ (r : Pair). r.1 == word) pairs ≡ Some p → p.1 ≡ word) → p.1 ≡ word
    by true e same later = let one : q ≡ p = cc same in subst (λ (r : Pair). r.1 ≡ word) one (eqb-true q.1 word e)
    by false e same later = later same

leads_back : (pairs : List Pair) (word : ℕ) (p : Pair) → AllRise pairs → find (λ (q : Pair). q.1 == word) pairs ≡ Some p → word_at pairs p.0 ≡ Some word
leads_back pairs word p rise found =
    let place = position_or_len (λ (q : Pair). q.1 == word) pairs in
    let at : slice_get pairs place ≡ Some p = sym (find_at (λ (q : Pair). q.1 == word) pairs) ∙ found in
    subst (λ (q : Pair). word_at pairs q.0 ≡ Some q.1) (get_or_from_slice_get pairs place p p at) (word_at-pair pairs place p rise (slice_get_within pairs place p at))
    ∙ ap Some (has_word word pairs p found)

pub record IsOf (pairs : List Pair) (word : ℕ) : Type 0 where
  pub address : ℕ
  pub there : address_at pairs word ≡ Some address
  pub back : word_at pairs address ≡ Some word

pub has_address : (pairs : List Pair) (word : ℕ) → AllRise pairs → is_some (address_at pairs word) ≡ true → IsOf pairs word
has_address pairs word rise some = by (find (λ (q : Pair). q.1 == word) pairs) refl some
  where
    by : (o : Option Pair) → find (λ (q : Pair). q.1 == word) pairs ≡ o → is_some (option_map (λ (q : Pair). q.0) o) ≡ true → IsOf pairs word
    by None e is = absurd (cc is)
    by (Some p) e is = record { address = p.0; there = ap (option_map (λ (q : Pair). q.0)) e; back = leads_back pairs word p rise e }
