-- An image and its starts have one translation.
use Rattle.std.proofs.Common.{◌≡◌, ℕ, suc, ◌+◌, ◌<◌, ◌≤◌, ◌||◌, refl, sym, ap, ◌∙◌, subst, arith, List, [], ◌∷◌, length, get_or, Bool, true, false, nat_eq}
use Rattle.std.proofs.lemmas.Bool.Decides.{nat_tests}
use Rattle.std.proofs.lemmas.List.{get_or-map, length-map, same_lists}
use Rattle.vax_form.specs.Grammar.{instruction}
use Rattle.vax_form.specs.GrammarFound.{found}
use Rattle.vax_form.specs.declared.instr.Instr.{Instr}
use Rattle.vax_form.specs.declared.pages.Pages.{Pages}
use Rattle.branch_layout.specs.Layouts.{layout}
use Rattle.vax_form.specs.Targets.{has}
use Rattle.code_runs.specs.Runs.{AreInOrder}
use Rattle.translate.specs.Compiled.{AreFound, AreMappedAlike, IsFunction, addresses, blocks_of}

-- ---- rising lists
-- from that number on
abbrev Rises : (low : ℕ) → List ℕ → Type 0
Rises low [] = Unit {0}
Rises low (x ∷ xs) = (low ≤ x) × Rises (x + 1) xs

rises : (low : ℕ) (xs : List ℕ) → ((d : ℕ) → 0 < length xs → low ≤ get_or xs 0 d) → ((k d : ℕ) → k + 1 < length xs → get_or xs k d < get_or xs (k + 1) d) → Rises low xs
rises low [] least rise = tt
rises low (x ∷ xs) least rise = (
  least 0 (omega arith),
  rises (x + 1) xs (λ d lt. let step : x < get_or xs 0 d = rise 0 d (omega arith) in omega arith)
      (λ k d lt. let next : suc k + 1 ≡ suc (k + 1) = omega arith in subst (λ n. get_or xs k d < get_or (x ∷ xs) n d) next (rise (suc k) d (omega arith))),
)

or_true : (a b : Bool) → (a || b) ≡ true → a ≡ false → b ≡ true
or_true true b h e = absurd (cc e)
or_true false b h e = h

has_low : (low : ℕ) (xs : List ℕ) (a : ℕ) → Rises low xs → has xs a ≡ true → low ≤ a
has_low low [] a rise h = absurd (cc h)
has_low low (x ∷ xs) a rise h = by (nat_eq a x) refl (λ rest. has_low (x + 1) xs a rise.1 rest)
  where
    by : (b : Bool) → nat_eq a x ≡ b → (has xs a ≡ true → x + 1 ≤ a) → low ≤ a
    by true e later = let same : a ≡ x = grind (arith, nat_tests) in let le = rise.0 in omega arith
    by false e later = let le = later (or_true (nat_eq a x) (has xs a) h e) in let first = rise.0 in omega arith

has_first : (x : ℕ) (xs : List ℕ) → has (x ∷ xs) x ≡ true
has_first x xs = let e : nat_eq x x ≡ true = grind (arith, nat_tests) in rw e refl

-- they have the same numbers
abbrev Agree : (xs ys : List ℕ) → Type 0
Agree xs ys = (a : ℕ) → (has xs a ≡ true → has ys a ≡ true) × (has ys a ≡ true → has xs a ≡ true)

first_least : (low x : ℕ) (xs : List ℕ) (a : ℕ) → Rises low (x ∷ xs) → has (x ∷ xs) a ≡ true → x ≤ a
first_least low x xs a rise h = has_low x (x ∷ xs) a (let self : x ≤ x = omega arith in (self, rise.1)) h

-- those behind the first
rest_has : (x : ℕ) (xs ys : List ℕ) (a : ℕ) → Rises (x + 1) xs → (has (x ∷ xs) a ≡ true → has (x ∷ ys) a ≡ true) → has xs a ≡ true → has ys a ≡ true
rest_has x xs ys a rise all h =
    let above = has_low (x + 1) xs a rise h in
    let other : nat_eq a x ≡ false = grind (arith, nat_tests) in
    or_true (nat_eq a x) (has ys a) (all (later (nat_eq a x) h)) other
  where
    later : (b : Bool) → has xs a ≡ true → (b || has xs a) ≡ true
    later true e = refl
    later false e = e

same_rising : (low low' : ℕ) (xs ys : List ℕ) → Rises low xs → Rises low' ys → Agree xs ys → xs ≡ ys
same_rising low low' [] [] rise rise' agree = refl
same_rising low low' [] (y ∷ ys) rise rise' agree = let h = (agree y).1 (has_first y ys) in absurd (cc h)
same_rising low low' (x ∷ xs) [] rise rise' agree = let h = (agree x).0 (has_first x xs) in absurd (cc h)
same_rising low low' (x ∷ xs) (y ∷ ys) rise rise' agree =
    let up = first_least low' y ys x rise' ((agree x).0 (has_first x xs)) in
    let down = first_least low x xs y rise ((agree y).1 (has_first y ys)) in
    let same : y ≡ x = omega arith in
    let rise'' : Rises (x + 1) ys = subst (λ n. Rises (n + 1) ys) same rise'.1 in
    let agree' : Agree (x ∷ xs) (x ∷ ys) = subst (λ n. Agree (x ∷ xs) (n ∷ ys)) same agree in
    let rest = same_rising (x + 1) (x + 1) xs ys rise.1 rise'' (λ a. (rest_has x xs ys a rise.1 (agree' a).0, rest_has x ys xs a rise'' (agree' a).1)) in
    ap (λ zs. x ∷ zs) rest ∙ ap (λ n. n ∷ ys) (sym same)

-- ---- instructions
rises_by : (instrs : List Instr) → AreInOrder instrs → Rises 0 (addresses instrs)
rises_by instrs order =
    let count = length-map instrs (λ (i : Instr). i.at) in
    rises 0 (addresses instrs) (λ d lt. omega arith)
    (λ k d lt.
    let none : Instr = record { at = 0; opcode = 0; count = 0; operands = []; after = 0 } in
    rw (get_or-map (λ (i : Instr). i.at) instrs k none d (omega arith), get_or-map (λ (i : Instr). i.at) instrs (k + 1) none d (omega arith)) (order.rising k none (omega arith)))

same_instr : (i j : Instr) → instruction i ≡ instruction j → i ≡ j
same_instr i j e = cc

same_instrs : (pages : Pages) (xs ys : List Instr) → AreFound pages xs → AreFound pages ys → addresses xs ≡ addresses ys → xs ≡ ys
same_instrs pages xs ys found_x found_y same =
    let count_x = length-map xs (λ (i : Instr). i.at) in
    let count_y = length-map ys (λ (i : Instr). i.at) in
    let counts = ap length same in
    same_lists xs ys (omega arith)
    (λ k d lt.
    let at : (get_or xs k d).at ≡ (get_or ys k d).at =
    sym (get_or-map (λ (i : Instr). i.at) xs k d 0 lt) ∙ ap (λ ns. get_or ns k 0) same ∙ get_or-map (λ (i : Instr). i.at) ys k d 0 (omega arith) in
    same_instr (get_or xs k d) (get_or ys k d) (sym (found_x k d lt) ∙ ap (found pages) at ∙ found_y k d (omega arith)))

-- ---- translations
pub same_mapped : AreMappedAlike
same_mapped target other pages starts a b is is' =
    let agree : Agree (addresses is.instrs) (addresses is'.instrs) =
    λ address. (λ h. (is'.mapped address).1 ((is.mapped address).0 h), λ h. (is.mapped address).1 ((is'.mapped address).0 h)) in
    same_instrs pages is.instrs is'.instrs is.found is'.found
    (same_rising 0 0 (addresses is.instrs) (addresses is'.instrs) (rises_by is.instrs is.made.order) (rises_by is'.instrs is'.made.order) agree)

pub is_function : IsFunction
is_function target pages starts a b is is' =
    is.made.laid ∙ ap (λ (instrs : List Instr). layout (blocks_of target pages instrs)) (same_mapped target target pages starts a b is is') ∙ sym is'.made.laid
