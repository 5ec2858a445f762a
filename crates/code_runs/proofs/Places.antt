-- Instructions by their places, and the places at which some end.
use Rattle.std.proofs.Common.{◌≡◌, ◌<◌, ◌≤◌, ◌+◌, ◌-◌, ℕ, Bool, true, false, zero, suc, refl, ap, subst, arith, cond, eqb, List, [], ◌∷◌, length, nat_lt, ltb-true, ltb-false, Some, add-one}
use Rattle.std.proofs.lemmas.Bool.{eqb-true, eq-eqb}
use Rattle.vax_form.specs.declared.instr.Instr.{Instr}
use Rattle.code_runs.specs.Runs.{AreInOrder, ending_at, instr_at, no_instr, only}

module _ (instrs : List Instr) (order : AreInOrder instrs) where
  -- an instruction further on has a higher address
  pub rises : (p q : ℕ) → p < q → q < length instrs → (instr_at instrs p).at < (instr_at instrs q).at
  rises p zero lt within = absurd (omega arith)
  rises p (suc q) lt within = go (nat_lt p q) refl (λ h. rises p q h (omega arith))
    where
      step : (instr_at instrs q).at < (instr_at instrs (suc q)).at
      step = rw add-one at (order.rising q no_instr (omega arith))

      go : (b : Bool) → nat_lt p q ≡ b → (p < q → (instr_at instrs p).at < (instr_at instrs q).at) → (instr_at instrs p).at < (instr_at instrs (suc q)).at
      go true e far = let below = far (ltb-true p q e) in let next = step in omega arith
      go false e far =
          let late : q ≤ p = ltb-false p q e in
          let same : p ≡ q = omega arith in
          rw same step

  pub ends_above : (p : ℕ) → p < length instrs → (instr_at instrs p).at < (instr_at instrs p).after
  ends_above p within = order.onward p no_instr within

  -- at one address stands one instruction
  pub same_place : (p q : ℕ) → p < length instrs → q < length instrs → (instr_at instrs p).at ≡ (instr_at instrs q).at → p ≡ q
  same_place p q lp lq e = by (nat_lt p q) refl (nat_lt q p) refl
    where
      by : (b : Bool) → nat_lt p q ≡ b → (c : Bool) → nat_lt q p ≡ c → p ≡ q
      by true s c t = let above = rises p q (ltb-true p q s) lq in absurd (omega arith)
      by false s true t = let below = rises q p (ltb-true q p t) lp in absurd (omega arith)
      by false s false t =
          let late : q ≤ p = ltb-false p q s in
          let early : p ≤ q = ltb-false q p t in
          omega arith

  pub higher_place : (p q : ℕ) → p < length instrs → q < length instrs → (instr_at instrs p).at < (instr_at instrs q).at → p < q
  higher_place p q lp lq lt = go (nat_lt p q) refl
    where
      go : (b : Bool) → nat_lt p q ≡ b → p < q
      go true e = ltb-true p q e
      go false e = by (nat_lt q p) refl
        where
          by : (c : Bool) → nat_lt q p ≡ c → p < q
          by true f = let below = rises q p (ltb-true q p f) lp in omega arith
          by false f =
              let late : q ≤ p = ltb-false p q e in
              let early : p ≤ q = ltb-false q p f in
              let same : p ≡ q = omega arith in
              let one = ap (λ k. (instr_at instrs k).at) same in
              omega arith

-- ---- the places at which instructions end where an address is
pub record EndsAt (address first : ℕ) (instrs : List Instr) (place : ℕ) : Type 0 where
  pub low : first ≤ place
  pub high : place < first + length instrs
  pub ends : (instr_at instrs (place - first)).after ≡ address

pub ends_first : (address first : ℕ) (instrs : List Instr) (place : ℕ) (rest : List ℕ) → ending_at address first instrs ≡ place ∷ rest → EndsAt address first instrs place
ends_first address first [] place rest e = absurd cc
ends_first address first (x ∷ xs) place rest e = go (eqb x.after address) refl e (ends_first address (suc first) xs place rest)
  where
    go : (b : Bool) → eqb x.after address ≡ b → cond b (first ∷ ending_at address (suc first) xs) (ending_at address (suc first) xs) ≡ place ∷ rest
        → (ending_at address (suc first) xs ≡ place ∷ rest → EndsAt address (suc first) xs place) → EndsAt address first (x ∷ xs) place
    go true t e later =
        let same : first ≡ place = cc in
        let none : 0 ≡ place - first = omega arith in
        record {
          low = omega arith;
          high = omega arith;
          ends = subst (λ k. (instr_at (x ∷ xs) k).after ≡ address) none (eqb-true x.after address t);
        }
    go false t e later =
        let r = later e in
        let low = r.low in
        let high = r.high in
        let next : suc (place - suc first) ≡ place - first = omega arith in
        record {
          low = omega arith;
          high = omega arith;
          ends = subst (λ k. (instr_at (x ∷ xs) k).after ≡ address) next r.ends;
        }

some_end : (address first : ℕ) (instrs : List Instr) (k : ℕ) → k < length instrs → (instr_at instrs k).after ≡ address → ending_at address first instrs ≡ [] → ⊥
some_end address first [] k lt e is = absurd (omega arith)
some_end address first (x ∷ xs) zero lt e is = let found : first ∷ ending_at address (suc first) xs ≡ [] = rw (eq-eqb x.after address e) at is in cc
some_end address first (x ∷ xs) (suc k) lt e is = go (eqb x.after address) refl is (some_end address (suc first) xs k (omega arith) e)
  where
    go : (b : Bool) → eqb x.after address ≡ b → cond b (first ∷ ending_at address (suc first) xs) (ending_at address (suc first) xs) ≡ []
        → (ending_at address (suc first) xs ≡ [] → ⊥) → ⊥
    go true t is later = cc
    go false t is later = later is

-- where one alone ends there, each that does is that one
pub ends_alone : (address first : ℕ) (instrs : List Instr) (place k : ℕ) → ending_at address first instrs ≡ place ∷ [] → k < length instrs → (instr_at instrs k).after ≡ address → first + k ≡ place
ends_alone address first [] place k is lt e = absurd (omega arith)
ends_alone address first (x ∷ xs) place zero is lt e =
    let found : first ∷ ending_at address (suc first) xs ≡ place ∷ [] = rw (eq-eqb x.after address e) at is in
    let same : first ≡ place = cc in
    omega arith
ends_alone address first (x ∷ xs) place (suc k) is lt e = go (eqb x.after address) refl is (λ h. ends_alone address (suc first) xs place k h (omega arith) e)
  where
    go : (b : Bool) → eqb x.after address ≡ b → cond b (first ∷ ending_at address (suc first) xs) (ending_at address (suc first) xs) ≡ place ∷ []
        → (ending_at address (suc first) xs ≡ place ∷ [] → suc first + k ≡ place) → first + suc k ≡ place
    go true t is later =
        let none : ending_at address (suc first) xs ≡ [] = cc in
        absurd (some_end address (suc first) xs k (omega arith) e none)
    go false t is later = let same = later is in omega arith

pub only_is : (places : List ℕ) (place : ℕ) → only places ≡ Some place → places ≡ place ∷ []
only_is [] place e = absurd cc
only_is (p ∷ []) place e = let same : p ≡ place = cc in ap (λ (k : ℕ). k ∷ []) same
only_is (p ∷ q ∷ more) place e = absurd cc
