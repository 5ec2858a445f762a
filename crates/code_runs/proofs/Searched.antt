-- What a search by the address finds.
use Rattle.std.proofs.Common.{◌≡◌, ◌<◌, ◌≤◌, ℕ, Bool, true, false, refl, sym, arith, List, length, get_or, nat_lt, ltb-true, ltb-false, Result, Ok, Err}
use Rattle.std.specs.Prelude.{IfNone, IfSome}
use Rattle.std.specs.List.Sorted.{IsBinarySearchResult, IsNonDecreasingBy, IsPartitionPoint, IsSearchInRange}
use Rattle.std.specs.Ordering.{nat_cmp, ordering_index}
use Rattle.std.specs.Result.{result_ok}
use Rattle.std.specs.declared.cmp.Ordering.TheVariants.{Greater, Less}
use Rattle.std.proofs.lemmas.Bool.Decides.{nat_tests}
use Rattle.std.proofs.lemmas.Cmp.{ranked}
use Rattle.std.proofs.lemmas.List.{get_or_default}
use Rattle.vax_form.specs.declared.instr.Instr.{Instr}
use Rattle.code_runs.specs.Entrances.{NoneStandsAt, StandsAt}
use Rattle.code_runs.specs.Runs.{AreInOrder, instr_at, no_instr}
use Rattle.code_runs.proofs.Places.{rises}

in_order : (a b x : ℕ) → a ≤ b → ordering_index (nat_cmp a x) ≤ ordering_index (nat_cmp b x)
in_order a b x le = grind (arith, nat_tests)

module _ (instrs : List Instr) (order : AreInOrder instrs) (address : ℕ) where
  not_falling : IsNonDecreasingBy (λ (i : Instr). ordering_index (nat_cmp i.at address)) instrs
  not_falling i j d le within = in_order (get_or instrs i d).at (get_or instrs j d).at address addresses
    where
      go : (b : Bool) → nat_lt i j ≡ b → (instr_at instrs i).at ≤ (instr_at instrs j).at
      go true e = let below = rises instrs order i j (ltb-true i j e) within in omega arith
      go false e =
          let late : j ≤ i = ltb-false i j e in
          let same : i ≡ j = omega arith in
          rw same (omega arith)

      addresses : (get_or instrs i d).at ≤ (get_or instrs j d).at
      addresses = rw (get_or_default instrs i d no_instr (omega arith), get_or_default instrs j d no_instr within) (go (nat_lt i j) refl)

  pub place_found : (r : Result ℕ ℕ) → IsSearchInRange r (length instrs) → IsBinarySearchResult (λ (i : Instr). nat_cmp i.at address) instrs r → IfSome (result_ok r) (StandsAt instrs address)
  place_found (Ok place) bound found = record { within = bound; at = ranked _ address _ (sym (found no_instr)) }
  place_found (Err place) bound found = tt

  apart : (i : ℕ) → IsPartitionPoint (λ (k : Instr). nat_cmp k.at address ≡ Less) (λ (k : Instr). nat_cmp k.at address ≡ Greater) instrs i → NoneStandsAt instrs address
  apart i point place stands = go (nat_lt place i) refl
    where
      go : (b : Bool) → nat_lt place i ≡ b → ⊥
      go true e =
          let less : (instr_at instrs place).at < address = ranked _ address _ (sym (point.0 place no_instr (omega arith) (ltb-true place i e))) in
          let same = stands.at in
          omega arith
      go false e =
          let more : address < (instr_at instrs place).at = ranked _ address _ (sym (point.1 place no_instr (ltb-false place i e) stands.within)) in
          let same = stands.at in
          omega arith

  pub no_place_found : (r : Result ℕ ℕ) → IsBinarySearchResult (λ (i : Instr). nat_cmp i.at address) instrs r → IfNone (result_ok r) (NoneStandsAt instrs address)
  no_place_found (Ok place) found = tt
  no_place_found (Err place) parts = apart place (parts not_falling)
