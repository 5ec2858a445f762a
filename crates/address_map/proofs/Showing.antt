-- What the tables of a map show of its pairs.
use Rattle.std.proofs.Common.{◌≡◌, ℕ, ◌+◌, ◌-◌, ◌*◌, ◌/◌, ◌<◌, Bool, true, false, List, [], ◌∷◌, Option, Some, None, length, get_or, map, refl, ap, ◌∙◌, arith, eqb}
use Rattle.std.specs.Prelude.{slice_get, slice_index}
use Rattle.std.proofs.lemmas.List.{get_or-map, length-map}
use Rattle.std.proofs.lemmas.Option.{slice_get-get_or}
use Rattle.address_map.specs.Pairs.{Pair, AllRise, swap, word_at, address_at}
use Rattle.address_map.specs.Tables.{has_page, count_below, table_number, upper_word, lower_place, first_page, end_page, page_span, TablesValue, IsInside, AreTablesOf}
use Rattle.rising_lists.specs.Rising.{KeysRise}
use Rattle.address_map.proofs.Holding.{within}
use Rattle.address_map.proofs.Lookups.{addresses_rise}
use Rattle.address_map.proofs.Entering.{span_is}

module _ (t : TablesValue) (pairs : List Pair) (are : AreTablesOf t pairs) where
  pub upper_shown : (page : ℕ) → page < page_span pairs → slice_index t.upper page ≡ upper_word pairs (first_page pairs + page)
  upper_shown page below =
      let first = are.first in
      let span = are.span in
      let inside : IsInside t (first_page pairs + page) = (omega arith, omega arith) in
      let place : page ≡ first_page pairs + page - t.first = omega arith in
      ap (slice_index t.upper) place ∙ are.tables.upper (first_page pairs + page) inside

  pub tables_shown : AllRise pairs → length t.lower ≡ 512 * table_number pairs (end_page pairs)
  tables_shown rise =
      let first = are.first in
      let span = are.span in
      let whole = span_is pairs (addresses_rise pairs rise) in
      let end : t.first + length t.upper ≡ end_page pairs = omega arith in
      are.tables.tables ∙ ap (λ n. 512 * count_below (has_page pairs) n) end

  pub places_shown : (address : ℕ) → has_page pairs (address / 512) ≡ true → slice_get t.lower (lower_place pairs address) ≡ Some (word_at pairs address)
  places_shown address had =
      slice_get-get_or t.lower (lower_place pairs address) None (within t (has_page pairs) (word_at pairs) are.tables address had) ∙ ap (λ (o : Option ℕ). Some o) (are.tables.lower address had)

-- ---- the pairs with the word in front

pub swapped_word : (pairs : List Pair) (word : ℕ) → word_at (map swap pairs) word ≡ address_at pairs word
swapped_word [] word = refl
swapped_word (p ∷ ps) word = go (eqb p.1 word) refl (swapped_word ps word)
  where
    go : (b : Bool) → eqb p.1 word ≡ b → word_at (map swap ps) word ≡ address_at ps word → word_at (map swap (p ∷ ps)) word ≡ address_at (p ∷ ps) word
    go true e rest = rw e refl
    go false e rest = rw e rest

pub swapped_rise : (pairs : List Pair) → AllRise pairs → KeysRise (λ (p : Pair). p.0) (map swap pairs)
swapped_rise pairs rise = λ k d h.
    let long = length-map pairs swap in
    let here : get_or (map swap pairs) k d ≡ swap (get_or pairs k d) = get_or-map swap pairs k d d (omega arith) in
    let next : get_or (map swap pairs) (k + 1) d ≡ swap (get_or pairs (k + 1) d) = get_or-map swap pairs (k + 1) d d (omega arith) in
    let rises = (rise k d (omega arith)).1 in
    let a = ap (λ (p : Pair). p.0) here in
    let b = ap (λ (p : Pair). p.0) next in
    omega arith
