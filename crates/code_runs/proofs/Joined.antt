-- The instructions that are joined to others.
use Rattle.std.proofs.Common.{◌≡◌, ◌≢◌, ◌<◌, ◌≤◌, ◌+◌, ◌-◌, ℕ, Bool, true, false, zero, suc, refl, sym, ap, ◌∙◌, subst, arith, cond, eqb, List, [], ◌∷◌, length, nat_lt, ltb-true, ltb-false, Option, Some, None}
use Rattle.std.specs.List.{find, range_with_len}
use Rattle.std.specs.Option.{option_map_or}
use Rattle.std.proofs.lemmas.Bool.{eqb-true, eq-eqb}
use Rattle.std.proofs.lemmas.List.{get_or_past}
use Rattle.vax_form.specs.declared.instr.Instr.{Instr}
use Rattle.code_runs.specs.Runs.{AreInOrder, ending_at, instr_at, is_target, joined_at, joined_to, no_instr, only}
use Rattle.code_runs.specs.Entrances.{NoneStandsAt, StandsAt}
use Rattle.code_runs.specs.Codes.{is_joined, joined_behind}
use Rattle.code_runs.proofs.Places.{EndsAt, ends_above, ends_alone, ends_first, higher_place, only_is, same_place}

joined_ends : (instrs : List Instr) (address place : ℕ) → joined_at instrs address ≡ Some place → ending_at address 0 instrs ≡ place ∷ []
unfolding joined_at
joined_ends instrs address place e = go (is_target instrs address) e
  where
    go : (b : Bool) → cond b None (only (ending_at address 0 instrs)) ≡ Some place → ending_at address 0 instrs ≡ place ∷ []
    go true e = absurd cc
    go false e = only_is (ending_at address 0 instrs) place e

-- ---- the first number of a range that passes
pub record IsFirst (test : ℕ → Bool) (first count found : ℕ) : Type 0 where
  pub low : first ≤ found
  pub high : found < first + count
  pub passes : test found ≡ true

found_in : (test : ℕ → Bool) (first count k : ℕ) → find test (range_with_len first count) ≡ Some k → IsFirst test first count k
found_in test first zero k e = absurd cc
found_in test first (suc count) k e = go (test first) refl e (found_in test (first + 1) count k)
  where
    go : (b : Bool) → test first ≡ b → cond b (Some first) (find test (range_with_len (first + 1) count)) ≡ Some k
        → (find test (range_with_len (first + 1) count) ≡ Some k → IsFirst test (first + 1) count k) → IsFirst test first (suc count) k
    go true t e later =
        let same : first ≡ k = cc in
        record { low = omega arith; high = omega arith; passes = subst (λ n. test n ≡ true) same t }
    go false t e later =
        let r = later e in
        let low = r.low in
        let high = r.high in
        record { low = omega arith; high = omega arith; passes = r.passes }

not_in : (test : ℕ → Bool) (first count k : ℕ) → find test (range_with_len first count) ≡ None → first ≤ k → k < first + count → test k ≡ false
not_in test first zero k e low high = absurd (omega arith)
not_in test first (suc count) k e low high = go (test first) refl e (nat_lt first k) refl (not_in test (first + 1) count k)
  where
    go : (b : Bool) → test first ≡ b → cond b (Some first) (find test (range_with_len (first + 1) count)) ≡ None → (c : Bool) → nat_lt first k ≡ c
        → (find test (range_with_len (first + 1) count) ≡ None → first + 1 ≤ k → k < first + 1 + count → test k ≡ false) → test k ≡ false
    go true t e c lt later = absurd cc
    go false t e true lt later = let above = ltb-true first k lt in later e (omega arith) (omega arith)
    go false t e false lt later =
        let below : k ≤ first = ltb-false first k lt in
        let same : first ≡ k = omega arith in
        subst (λ n. test n ≡ false) same t

passes_is : (place : ℕ) (o : Option ℕ) → option_map_or (λ before. eqb before place) o false ≡ true → o ≡ Some place
passes_is place None e = absurd cc
passes_is place (Some before) e = ap (λ (k : ℕ). Some k) (eqb-true before place e)

module _ (instrs : List Instr) (order : AreInOrder instrs) where
  -- an instruction is joined to one that ends where it begins, at a lower place
  pub record IsJoined (place next : ℕ) : Type 0 where
    pub within : next < length instrs
    pub before : place < next
    pub ends : (instr_at instrs place).after ≡ (instr_at instrs next).at

  pub joined : (place next : ℕ) → joined_to instrs next ≡ Some place → IsJoined place next
  joined place next e = by (nat_lt next (length instrs)) refl
    where
      end : EndsAt (instr_at instrs next).at 0 instrs place
      end = ends_first (instr_at instrs next).at 0 instrs place [] (joined_ends instrs (instr_at instrs next).at place e)

      ends : (instr_at instrs place).after ≡ (instr_at instrs next).at
      ends = let same : place - 0 ≡ place = omega arith in subst (λ k. (instr_at instrs k).after ≡ (instr_at instrs next).at) same end.ends

      by : (b : Bool) → nat_lt next (length instrs) ≡ b → IsJoined place next
      by true t =
          let within = ltb-true next (length instrs) t in
          let high = end.high in
          let up = ends_above instrs order place (omega arith) in
          let its = ends in
          record {
            within = within;
            before = higher_place instrs order place next (omega arith) within (omega arith);
            ends = ends;
          }
      by false t =
          let past : (instr_at instrs next).at ≡ 0 = ap (λ (i : Instr). i.at) (get_or_past instrs next no_instr (ltb-false next (length instrs) t)) in
          let high = end.high in
          let up = ends_above instrs order place (omega arith) in
          let its = ends in
          absurd (omega arith)

  -- one that ends where a joined one begins is the one to which that is joined
  pub joined_alone : (place next other : ℕ) → joined_to instrs next ≡ Some place → other < length instrs → (instr_at instrs other).after ≡ (instr_at instrs next).at → other ≡ place
  joined_alone place next other e lt ends =
      let same = ends_alone (instr_at instrs next).at 0 instrs place other (joined_ends instrs (instr_at instrs next).at place e) lt ends in
      omega arith

  -- ---- the one that is joined to a place
  pub record IsBehind (place next : ℕ) : Type 0 where
    pub within : next < length instrs
    pub joined : joined_to instrs next ≡ Some place

  pub behind_is_joined : (place next : ℕ) → joined_behind instrs place ≡ Some next → IsBehind place next
  unfolding joined_behind
  behind_is_joined place next e =
      let found = found_in (is_joined instrs place) 0 (length instrs) next e in
      let high = found.high in
      record { within = omega arith; joined = passes_is place (joined_to instrs next) found.passes }

  pub none_behind : (place : ℕ) → joined_behind instrs place ≡ None → (next : ℕ) → next < length instrs → joined_to instrs next ≢ Some place
  unfolding joined_behind
  none_behind place e next lt is =
      let fails : option_map_or (λ before. eqb before place) (joined_to instrs next) false ≡ false = not_in (is_joined instrs place) 0 (length instrs) next e (omega arith) (omega arith) in
      let test : eqb place place ≡ false = rw is at fails in
      let same : eqb place place ≡ true = eq-eqb place place refl in
      cc

  pub joined_is_behind : (place next : ℕ) → joined_to instrs next ≡ Some place → joined_behind instrs place ≡ Some next
  joined_is_behind place next e = by (joined_behind instrs place) refl
    where
      j : IsJoined place next
      j = joined place next e

      by : (o : Option ℕ) → joined_behind instrs place ≡ o → joined_behind instrs place ≡ Some next
      by None f = absurd (none_behind place f next j.within e)
      by (Some other) f =
          let r = behind_is_joined place other f in
          let k = joined place other r.joined in
          let same : other ≡ next = same_place instrs order other next r.within j.within (sym k.ends ∙ j.ends) in
          f ∙ ap (λ (n : ℕ). Some n) same

  pub none_is_behind : (place : ℕ) → ((next : ℕ) → next < length instrs → joined_to instrs next ≢ Some place) → joined_behind instrs place ≡ None
  none_is_behind place none = by (joined_behind instrs place) refl
    where
      by : (o : Option ℕ) → joined_behind instrs place ≡ o → joined_behind instrs place ≡ None
      by None f = f
      by (Some next) f = let r = behind_is_joined place next f in absurd (none next r.within r.joined)

  -- where no instruction begins behind the place, or another than one that is joined to it
  pub none_where_none : (place : ℕ) → NoneStandsAt instrs (instr_at instrs place).after → joined_behind instrs place ≡ None
  none_where_none place none = none_is_behind place (λ next lt e. let j = joined place next e in none next (record { within = lt; at = sym j.ends }))

  pub none_where_other : (place next : ℕ) → StandsAt instrs (instr_at instrs place).after next → joined_to instrs next ≢ Some place → joined_behind instrs place ≡ None
  none_where_other place next stands other = none_is_behind place (λ k lt e.
      let j = joined place k e in
      let same : k ≡ next = same_place instrs order k next lt stands.within (sym j.ends ∙ sym stands.at) in
      other (subst (λ n. joined_to instrs n ≡ Some place) same e))
