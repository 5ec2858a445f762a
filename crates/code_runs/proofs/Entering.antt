-- How the entrances of instructions are noted.
use Rattle.std.proofs.Common.{◌≡◌, ◌≢◌, ◌<◌, ◌+◌, ◌++◌, ◌||◌, ℕ, Bool, true, false, suc, refl, sym, ap, ◌∙◌, arith, cond, eqb, nat_eq, List, [], ◌∷◌, length, get_or, set, take, Option, Some, None, append-nil}
use Rattle.std.specs.List.{filter_map}
use Rattle.std.specs.Option.{option_to_list}
use Rattle.std.proofs.lemmas.Bool.{eqb-true, eq-eqb}
use Rattle.std.proofs.lemmas.Bool.Decides.{nat_tests}
use Rattle.std.proofs.lemmas.List.{get_or-set_other, get_or-set_same, length-set, take_more}
use Rattle.std.proofs.lemmas.List.Elements.{filter_map-append}
use Rattle.std.proofs.lemmas.List.Folds.{list_any-append}
use Rattle.vax_form.specs.declared.instr.Instr.{Instr}
use Rattle.vax_form.specs.declared.instr.Operand.{Operand}
use Rattle.code_runs.specs.declared.entrances.Entrance.{Entrance}
use Rattle.code_runs.specs.declared.entrances.Entrance.TheVariants.{Nowhere, Elsewhere}
use Rattle.code_runs.specs.Entrances.{AreChanged, AreEntrances, NoneStandsAt, StandsAt, also_behind, also_target, entrance, entrance_at, entrance_of, joined_by}
use Rattle.code_runs.specs.Runs.{AreInOrder, ending_at, instr_at, is_target, joined_at, only}
use Rattle.code_runs.proofs.Places.{same_place}
use Rattle.vax_form.specs.Targets.{branch_target, fixed_targets, call_of, jump_of, has}

same_address : (a b : ℕ) → a ≡ b → nat_eq a b ≡ true
same_address a b e = grind (arith, nat_tests)

other_address : (a b : ℕ) → (a ≡ b → ⊥) → nat_eq a b ≡ false
other_address a b other = grind (arith, nat_tests)

-- ---- one change
module _ (instrs : List Instr) (order : AreInOrder instrs) (old : List Entrance) (count : length old ≡ length instrs) where
  pub changed_at : (address place : ℕ) (change : Entrance → Entrance) → StandsAt instrs address place
      → AreChanged instrs (nat_eq address) change old (set old place (change (entrance_at old place)))
  changed_at address place change stands = record { count = length-set old place (change (entrance_at old place)); each = λ other lt. by other lt (eqb other place) refl }
    where
      by : (other : ℕ) → other < length instrs → (b : Bool) → eqb other place ≡ b
          → entrance_at (set old place (change (entrance_at old place))) other ≡ cond (nat_eq address (instr_at instrs other).at) (change (entrance_at old other)) (entrance_at old other)
      by other lt true e =
          let same : other ≡ place = eqb-true other place e in
          let within = stands.within in
          let here : nat_eq address (instr_at instrs other).at ≡ true = same_address address (instr_at instrs other).at (sym (ap (λ k. (instr_at instrs k).at) same ∙ stands.at)) in
          ap (λ k. entrance_at (set old place (change (entrance_at old place))) k) same
          ∙ get_or-set_same old place (change (entrance_at old place)) Nowhere (omega arith)
          ∙ ap (λ k. change (entrance_at old k)) (sym same)
          ∙ sym (ap (λ b. cond b (change (entrance_at old other)) (entrance_at old other)) here)
      by other lt false e =
          let apart : other ≢ place = λ same. (let is = eq-eqb other place same in cc) in
          let there : nat_eq address (instr_at instrs other).at ≡ false = other_address address (instr_at instrs other).at (λ is. apart (same_place instrs order other place lt stands.within (sym is ∙ sym stands.at))) in
          get_or-set_other old place other (change (entrance_at old place)) Nowhere apart
          ∙ sym (ap (λ b. cond b (change (entrance_at old other)) (entrance_at old other)) there)

  pub unchanged_at : (address : ℕ) (change : Entrance → Entrance) → NoneStandsAt instrs address → AreChanged instrs (nat_eq address) change old old
  unchanged_at address change none = record {
    count = refl;
    each = λ place lt.
        let there : nat_eq address (instr_at instrs place).at ≡ false = other_address address (instr_at instrs place).at (λ is. none place (record { within = lt; at = sym is })) in
        sym (ap (λ b. cond b (change (entrance_at old place)) (entrance_at old place)) there);
  }

-- at no address
pub unchanged : (instrs : List Instr) (old : List Entrance) → AreChanged instrs (has []) also_target old old
unchanged instrs old = record { count = refl; each = λ place lt. refl }

-- by another test that tells the same
pub changed_by : (instrs : List Instr) (old new : List Entrance) (p q : ℕ → Bool) (change : Entrance → Entrance) → ((a : ℕ) → p a ≡ q a) → AreChanged instrs p change old new → AreChanged instrs q change old new
changed_by instrs old new p q change same h = record {
  count = h.count;
  each = λ place lt. h.each place lt ∙ ap (λ b. cond b (change (entrance_at old place)) (entrance_at old place)) (same (instr_at instrs place).at);
}

target_alone : (address a : ℕ) → nat_eq address a ≡ has (address ∷ []) a
target_alone address a = grind (arith, nat_tests)

pub changed_target : (instrs : List Instr) (old new : List Entrance) (address : ℕ) → AreChanged instrs (nat_eq address) also_target old new → AreChanged instrs (has (address ∷ [])) also_target old new
changed_target instrs old new address h = changed_by instrs old new (nat_eq address) (has (address ∷ [])) also_target (target_alone address) h

-- ---- one change behind the other
either : (p q : Bool) (e : Entrance) → cond q Elsewhere (cond p Elsewhere e) ≡ cond (p || q) Elsewhere e
either true true e = refl
either true false e = refl
either false true e = refl
either false false e = refl

pub changed_both : (instrs : List Instr) (a b c : List Entrance) (xs ys : List ℕ) → AreChanged instrs (has xs) also_target a b → AreChanged instrs (has ys) also_target b c → AreChanged instrs (has (xs ++ ys)) also_target a c
changed_both instrs a b c xs ys g h = record {
  count = h.count ∙ g.count;
  each = λ place lt.
      let at = (instr_at instrs place).at in
      h.each place lt
      ∙ ap (λ e. cond (has ys at) Elsewhere e) (g.each place lt)
      ∙ either (has xs at) (has ys at) (entrance_at a place)
      ∙ ap (λ t. cond t Elsewhere (entrance_at a place)) (sym (list_any-append (nat_eq at) xs ys));
}

some_target : (operand : Operand) (o : Option ℕ) → branch_target operand ≡ o → filter_map branch_target (operand ∷ []) ≡ option_to_list o
some_target operand None e = rw e refl
some_target operand (Some address) e = rw e refl

pub branches_more : (operands : List Operand) (count : ℕ) (d : Operand) → count < length operands
    → filter_map branch_target (take (count + 1) operands) ≡ filter_map branch_target (take count operands) ++ option_to_list (branch_target (get_or operands count d))
branches_more operands count d lt =
    ap (filter_map branch_target) (take_more operands count d lt)
    ∙ filter_map-append branch_target (take count operands) (get_or operands count d ∷ [])
    ∙ ap (λ (xs : List ℕ). filter_map branch_target (take count operands) ++ xs) (some_target (get_or operands count d) (branch_target (get_or operands count d)) refl)

pub changed_targets : (instrs : List Instr) (a b c d : List Entrance) (instr : Instr) → AreChanged instrs (has (filter_map branch_target instr.operands)) also_target a b → AreChanged instrs (has (option_to_list (jump_of instr))) also_target b c
    → AreChanged instrs (has (option_to_list (call_of instr))) also_target c d → AreChanged instrs (has (fixed_targets instr)) also_target a d
unfolding fixed_targets
changed_targets instrs a b c d instr g h k =
    changed_both instrs a c d (filter_map branch_target instr.operands ++ option_to_list (jump_of instr)) (option_to_list (call_of instr))
    (changed_both instrs a b c (filter_map branch_target instr.operands) (option_to_list (jump_of instr)) g h) k

-- ---- one instruction more
ending_more : (address first : ℕ) (xs : List Instr) (x : Instr) → ending_at address first (xs ++ x ∷ []) ≡ ending_at address first xs ++ cond (eqb x.after address) ((first + length xs) ∷ []) []
ending_more address first [] x = by (eqb x.after address)
  where
    by : (b : Bool) → cond b (first ∷ []) [] ≡ cond b ((first + 0) ∷ []) []
    by true = let same : first ≡ first + 0 = omega arith in ap (λ (k : ℕ). k ∷ []) same
    by false = refl
ending_more address first (y ∷ xs) x = by (eqb y.after address) (ending_more address (suc first) xs x ∙ ap (λ k. ending_at address (suc first) xs ++ cond (eqb x.after address) (k ∷ []) []) next)
  where
    next : suc first + length xs ≡ first + suc (length xs)
    next = omega arith

    by : (b : Bool) → ending_at address (suc first) (xs ++ x ∷ []) ≡ ending_at address (suc first) xs ++ cond (eqb x.after address) ((first + suc (length xs)) ∷ []) []
        → cond b (first ∷ ending_at address (suc first) (xs ++ x ∷ [])) (ending_at address (suc first) (xs ++ x ∷ [])) ≡ (cond b (first ∷ ending_at address (suc first) xs) (ending_at address (suc first) xs)) ++ cond (eqb x.after address) ((first + suc (length xs)) ∷ []) []
    by true e = ap (λ (ps : List ℕ). first ∷ ps) e
    by false e = e

entrance_more : (target ends targets : Bool) (places : List ℕ) (place : ℕ)
    → cond targets Elsewhere (cond ends (also_behind place (entrance target places)) (entrance target places)) ≡ entrance (target || targets) (places ++ cond ends (place ∷ []) [])
entrance_more true true true places place = refl
entrance_more true true false places place = refl
entrance_more true false true places place = refl
entrance_more true false false places place = refl
entrance_more false ends true places place = refl
entrance_more false true false [] place = refl
entrance_more false true false (p ∷ []) place = refl
entrance_more false true false (p ∷ q ∷ places) place = refl
entrance_more false false false places place = ap (entrance false) (sym (append-nil places))

pub entrances_more : (instrs among : List Instr) (instr : Instr) (a b c : List Entrance) (place : ℕ) → place ≡ length among → AreEntrances instrs among a → AreChanged instrs (nat_eq instr.after) (also_behind place) a b → AreChanged instrs (has (fixed_targets instr)) also_target b c
    → AreEntrances instrs (among ++ instr ∷ []) c
entrances_more instrs among instr a b c place is h g k = record {
  count = k.count ∙ g.count ∙ h.count;
  each = λ n lt. one n lt;
}
  where
    one : (n : ℕ) → n < length instrs → entrance_at c n ≡ entrance_of (among ++ instr ∷ []) (instr_at instrs n).at
    one n lt =
        let at = (instr_at instrs n).at in
        let ends = eqb instr.after at in
        let targets = has (fixed_targets instr) at in
        let target = is_target among at in
        let places = ending_at at 0 among in
        let grown : is_target (among ++ instr ∷ []) at ≡ (target || targets) = list_any-append (λ (i : Instr). has (fixed_targets i) at) among (instr ∷ []) ∙ ap (λ t. target || t) (last targets) in
        let more : ending_at at 0 (among ++ instr ∷ []) ≡ places ++ cond ends (place ∷ []) [] = ending_more at 0 among instr ∙ ap (λ p. places ++ cond ends (p ∷ []) []) first in
        k.each n lt
        ∙ ap (λ e. cond targets Elsewhere e) (g.each n lt ∙ ap (λ e. cond ends (also_behind place e) e) (h.each n lt))
        ∙ entrance_more target ends targets places place
        ∙ sym (ap (λ t. entrance t (ending_at at 0 (among ++ instr ∷ []))) grown ∙ ap (λ (ps : List ℕ). entrance (target || targets) ps) more)
      where
        first : 0 + length among ≡ place
        first = omega arith

        last : (t : Bool) → (t || false) ≡ t
        last true = refl
        last false = refl

-- ---- to which an instruction is joined
pub joined_is : (instrs : List Instr) (address : ℕ) → joined_by (entrance_of instrs address) ≡ joined_at instrs address
unfolding joined_at
joined_is instrs address = by (is_target instrs address) (ending_at address 0 instrs)
  where
    by : (b : Bool) (ps : List ℕ) → joined_by (entrance b ps) ≡ cond b None (only ps)
    by true ps = refl
    by false [] = refl
    by false (p ∷ []) = refl
    by false (p ∷ q ∷ ps) = refl
