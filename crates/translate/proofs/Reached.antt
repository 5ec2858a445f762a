-- The reached instructions that have blocks, and their addresses.
use Rattle.std.proofs.Common.{◌≡◌, ◌+◌, ◌<◌, ◌≤◌, ◌^◌, ◌&&◌, ◌||◌, ℕ, suc, Bool, true, false, cond, List, [], ◌∷◌, length, map, count_by, Some, get_or, nat_eq, refl, sym, ap, ◌∙◌, subst, arith}
use Rattle.std.specs.Prelude.{All, find, ◌==◌}
use Rattle.std.specs.List.{filter}
use Rattle.std.specs.Option.{option_map, option_map_or, is_some}
use Rattle.std.specs.List.Sorted.{IsStrictlyIncreasing}
use Rattle.std.proofs.lemmas.Bool.Decides.{nat_tests}
use Rattle.std.proofs.lemmas.List.{get_or-map, length-map}
use Rattle.std.proofs.lemmas.List.Elements.{All-filter, filter_passes}
use Rattle.std.proofs.lemmas.List.Kept.{IsStrictlyIncreasing-filter}
use Rattle.std.proofs.lemmas.List.Sums.{length-filter, count_by-le-length}
use Rattle.std.proofs.lemmas.Map.Views.{any-filter_same}
use Rattle.std.proofs.lemmas.Bool.{and_parts}
use Rattle.address_map.specs.Pairs.{Pair, word_at}
use Rattle.block_law.specs.Translations.{Code}
use Rattle.vax_form.specs.Targets.{has}
use Rattle.flow_discovery.specs.Reach.{IsReach, instruction_at, instruction_in, most}
use Rattle.vax_form.specs.Grammar.{Found, instruction, past, reserved_instruction, reserved_mode}
use Rattle.vax_form.specs.GrammarFound.{found}
use Rattle.vax_form.specs.declared.instr.Instr.{Instr}
use Rattle.vax_form.specs.declared.pages.Pages.{Pages}
use Rattle.translate.specs.Compiled.{AreFound, InOrder, addresses}
use Rattle.translate.specs.Refusal.{AreFew}
use Rattle.flow_discovery.specs.Mapped.{has_block, has_block_at}
use Rattle.translate.specs.Mapped.{HasMapped}

-- ---- numbers in lists
same_test : (a b : ℕ) → nat_eq a b ≡ true → b ≡ a
same_test a b h = grind (arith, nat_tests)

has_kept : (p : ℕ → Bool) (xs : List ℕ) (a : ℕ) → has (filter p xs) a ≡ (p a && has xs a)
has_kept p xs a = any-filter_same (nat_eq a) p (p a) (λ k e. ap p (same_test a k e)) xs

in_order : (instrs : List Instr) → IsStrictlyIncreasing (addresses instrs) → InOrder instrs
in_order instrs rising k d lt =
    let count = length-map instrs (λ (i : Instr). i.at) in
    rw (← get_or-map (λ (i : Instr). i.at) instrs k d 0 (omega arith), ← get_or-map (λ (i : Instr). i.at) instrs (k + 1) d 0 lt) (rising k (omega arith))

-- an address is in the map just where it is among the map's addresses
pub is_mapped : (pairs : List Pair) (a : ℕ) → is_some (word_at pairs a) ≡ has (map (λ (p : Pair). p.0) pairs) a
is_mapped [] a = refl
is_mapped (p ∷ pairs) a = by (nat_eq a p.0) (p.0 == a) (grind (arith, nat_tests)) (is_mapped pairs a)
  where
    by : (b c : Bool) → b ≡ c → is_some (word_at pairs a) ≡ has (map (λ (q : Pair). q.0) pairs) a
        → is_some (option_map (λ (q : Pair). q.1) (cond c (Some p) (find (λ (q : Pair). q.0 == a) pairs))) ≡ (b || has (map (λ (q : Pair). q.0) pairs) a)
    by true true e h = refl
    by true false e h = absurd (cc e)
    by false true e h = absurd (cc e)
    by false false e h = h

-- ---- instructions
module _ (pages : Pages) where
  abbrev built : Instr → Bool
  built i = has_block i pages

  abbrev Decoded : Instr → Type 0
  Decoded i = instruction_at pages i.at ≡ Some i

  in_found : (f : Found) (i : Instr) → instruction_in f ≡ Some i → f ≡ instruction i
  in_found (instruction other) i e = let same : other ≡ i = cc in ap instruction same
  in_found reserved_instruction i e = absurd cc
  in_found reserved_mode i e = absurd cc
  in_found (past address) i e = absurd cc

  is_found : (i : Instr) → Decoded i → found pages i.at ≡ instruction i
  unfolding instruction_at
  is_found i e = in_found (found pages i.at) i e

  kept_addresses : (instrs : List Instr) → All Decoded instrs → addresses (filter built instrs) ≡ filter (has_block_at pages) (addresses instrs)
  kept_addresses [] all = refl
  kept_addresses (i ∷ instrs) all =
      by (built i) (has_block_at pages i.at) (sym (ap (λ o. option_map_or built o false) (all 0 i (omega arith)))) (kept_addresses instrs (λ k d lt. all (suc k) d (omega arith)))
    where
      by : (b c : Bool) → b ≡ c → addresses (filter built instrs) ≡ filter (has_block_at pages) (addresses instrs)
          → addresses (cond b (i ∷ filter built instrs) (filter built instrs)) ≡ cond c (i.at ∷ filter (has_block_at pages) (addresses instrs)) (filter (has_block_at pages) (addresses instrs))
      by true true e h = ap (λ (xs : List ℕ). i.at ∷ xs) h
      by true false e h = absurd (cc e)
      by false true e h = absurd (cc e)
      by false false e h = h

  module _ (starts : List ℕ) (instrs kept : List Instr) (reach : IsReach pages starts instrs) (is : kept ≡ filter built instrs) where
    same_addresses : addresses kept ≡ filter (has_block_at pages) (addresses instrs)
    same_addresses = ap addresses is ∙ kept_addresses instrs reach.decoded

    pub kept_few : length instrs ≤ most → length kept ≤ most
    kept_few few =
        let count : length kept ≡ count_by built instrs = ap length is ∙ length-filter built instrs in
        let within : count_by built instrs ≤ length instrs = count_by-le-length built instrs in
        omega (arith, count, within, few)

    pub reached_few : length instrs ≤ most → AreFew pages starts
    reached_few few =
        let count = length-map instrs (λ (i : Instr). i.at) in
        record { addresses = addresses instrs; reached = reach.reached; few = omega (arith, count, few) }

    pub kept_found : AreFound pages kept
    kept_found = subst (λ (xs : List Instr). AreFound pages xs) (sym is)
        (All-filter built (λ i. found pages i.at ≡ instruction i) instrs (λ k d lt. is_found (get_or instrs k d) (reach.decoded k d lt)))

    pub kept_longwords : All (λ i. i.at < 2 ^ 32) instrs → All (λ i. i.at < 2 ^ 32) kept
    kept_longwords all = subst (λ (xs : List Instr). All (λ i. i.at < 2 ^ 32) xs) (sym is) (All-filter built (λ i. i.at < 2 ^ 32) instrs all)

    pub kept_rise : InOrder kept
    kept_rise = in_order kept (subst (λ (xs : List ℕ). IsStrictlyIncreasing xs) (sym same_addresses)
        (IsStrictlyIncreasing-filter (has_block_at pages) (addresses instrs) reach.reached.rising))

    pub kept_built : All (λ i. has_block i pages ≡ true) kept
    kept_built = subst (λ (xs : List Instr). All (λ i. has_block i pages ≡ true) xs) (sym is) (filter_passes built instrs)

    -- whether the map has an address
    map_has : (code : Code) (address : ℕ) → map (λ (p : Pair). p.0) code.map ≡ addresses kept
        → is_some (word_at code.map address) ≡ (has_block_at pages address && has (addresses instrs) address)
    map_has code address e =
        is_mapped code.map address ∙ ap (λ (xs : List ℕ). has xs address) (e ∙ same_addresses) ∙ has_kept (has_block_at pages) (addresses instrs) address

    pub kept_mapped : (code : Code) → map (λ (p : Pair). p.0) code.map ≡ addresses kept → HasMapped pages starts code
    kept_mapped code e address = (
      λ some.
          let both = and_parts (has_block_at pages address) (has (addresses instrs) address) (sym (map_has code address e) ∙ some) in
          record { member = (reach.reached.members address).0 both.1; built = both.0 },
      λ m.
          let there : has (addresses instrs) address ≡ true = (reach.reached.members address).1 m.member in
          map_has code address e ∙ ap (λ b. b && has (addresses instrs) address) m.built ∙ there,
    )
