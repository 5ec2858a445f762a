-- EMUL does what its instruction does: the product is made behind the second operand.
use Rattle.std.proofs.Common.{◌≡◌, ℕ, ◌+◌, ◌-◌, ◌*◌, ◌%◌, ◌^◌, ◌<◌, ◌≤◌, false, List, [], ◌∷◌, ◌++◌, length, Some, refl, sym, ap, ◌∙◌, subst, arith, inl, inr, lit≤}
use Rattle.std.specs.Prelude.{ℤ, pos, negsuc, ◌+ℤ◌, ◌*ℤ◌}
use Rattle.std.proofs.Math.Nat.{mod-eq_of_lt}
use Rattle.std.proofs.lemmas.Bool.{cases_lt}
use Rattle.std.proofs.lemmas.Int.{ints}
use Rattle.vax_form.specs.Operation.{operation_at}
use Rattle.vax_form.specs.Row.{filled}
use Rattle.vax_form.specs.State.{IsState}
use Rattle.vax_form.specs.Tree.{Tree, tree_of, ends_with}
use Rattle.vax_form.specs.declared.instr.Access.TheVariants.{Read, Write}
use Rattle.vax_form.specs.declared.instr.Instr.{Instr}
use Rattle.vax_form.specs.declared.instr.Size.TheVariants.{Long, Quad}
use Rattle.vax_form.specs.declared.operation.Operation.TheVariants as operations
use Rattle.vax_form.specs.declared.pages.Pages.{Pages}
use Rattle.vax_form.specs.declared.state.VaxState.{VaxState}
use Rattle.vax_meaning.specs.Arithmetic.{extended_multiply}
use Rattle.vax_meaning.specs.Evaluation.{nothing, operand, evaluated_row}
use Rattle.vax_meaning.specs.Instructions.{operation_script, body}
use Rattle.vax_meaning.specs.declared.evaluation.Evaluated.{Evaluated}
use Rattle.vax_meaning.specs.declared.operands.Location.{Location}
use Rattle.vt_words.specs.Arithmetic.{coded_value, extended_product_of}
use Rattle.vt_words.specs.Quad.{sign_extended}
use Rattle.vt_words.specs.Values.{signed_value, value_of}
use Rattle.vt_words.specs.declared.arithmetic.Coded.{Coded}
use Rattle.micro_ops.specs.Leaving.{CodesComeFrom}
use Rattle.micro_ops.specs.Meaning.{Temps, course_of, started}
use Rattle.micro_ops.specs.Sources.{from}
use Rattle.micro_ops.specs.Values.{value_from}
use Rattle.micro_ops.specs.declared.codes.CodeSource.TheVariants.{Result, Zero}
use Rattle.micro_ops.specs.declared.codes.CodeSources.{CodeSources}
use Rattle.micro_ops.specs.declared.program.Exit.TheVariants.{Next}
use Rattle.micro_ops.specs.declared.program.Micro.{Micro}
use Rattle.micro_ops.proofs.Sizes.{low_below}
use Rattle.operand_programs.specs.InOrder.{AreOperandsOf, ArePlaced, evaluate_all, operands_program, steps_behind_all, no_steps}
use Rattle.operand_programs.specs.Operands.{IsAt}
use Rattle.operand_programs.specs.Pieces.{Agrees, leaving}
use Rattle.operand_programs.specs.Results.{IsGivable}
use Rattle.operand_programs.specs.Specifiers.{stepped}
use Rattle.operand_programs.specs.declared.operands.Specifier.{Specifier}
use Rattle.operand_programs.proofs.Ordered.{in_order, of_instruction, all_steps_length}
use Rattle.operand_programs.proofs.Stepped.{nothing_added}
use Rattle.micro_lower.specs.Plans.{rest_program}
use Rattle.micro_lower.specs.Rows.{product_program, extended_multiply_plan}
use Rattle.micro_lower.proofs.Coding.{plain_end}
use Rattle.micro_lower.proofs.Endings.{found_at, with, DoesSo}
use Rattle.micro_lower.proofs.Fitting.{product_wide, value_below}
use Rattle.micro_lower.proofs.Overflow.{signed_wide}
use Rattle.micro_lower.proofs.Given.{gives_as}
use Rattle.micro_lower.proofs.Overflow.{extended_below}
use Rattle.micro_lower.proofs.Plain.{Does}
use Rattle.micro_lower.proofs.Planned.{read_twice, read_and_write, specifier, value, place}
use Rattle.micro_lower.proofs.Ready.{effect}
use Rattle.micro_lower.proofs.TestRows.{test_end}

-- ---- the value
up : (n : ℕ) → value_of 8 (pos n) ≡ n % 2 ^ 64
up n = omega arith

down : (n : ℕ) → value_of 8 (negsuc n) ≡ 2 ^ 64 - 1 - n % 2 ^ 64
down n = omega arith

both_up : (m n : ℕ) → (m + n) % 2 ^ 64 ≡ (m % 2 ^ 64 + n % 2 ^ 64) % 2 ^ 64
both_up m n = omega arith

both_down : (m n : ℕ) → 2 ^ 64 - 1 - (m + n + 1) % 2 ^ 64 ≡ (2 ^ 64 - 1 - m % 2 ^ 64 + (2 ^ 64 - 1 - n % 2 ^ 64)) % 2 ^ 64
both_down m n = omega arith

less_up : (m n : ℕ) → n < m → (m - (n + 1)) % 2 ^ 64 ≡ (m % 2 ^ 64 + (2 ^ 64 - 1 - n % 2 ^ 64)) % 2 ^ 64
less_up m n lt = omega (arith, lt)

less_down : (m n : ℕ) → m ≤ n → 2 ^ 64 - 1 - (n - m) % 2 ^ 64 ≡ (m % 2 ^ 64 + (2 ^ 64 - 1 - n % 2 ^ 64)) % 2 ^ 64
less_down m n le = omega (arith, le)

mixed : (m n : ℕ) → value_of 8 (pos m +ℤ negsuc n) ≡ (m % 2 ^ 64 + (2 ^ 64 - 1 - n % 2 ^ 64)) % 2 ^ 64
mixed m n = elim (cases_lt n m) [
  | inl lt ↦ (let e : pos m +ℤ negsuc n ≡ pos (m - (n + 1)) = omega (arith, ints, lt) in ap (value_of 8) e ∙ up (m - (n + 1)) ∙ less_up m n lt)
  | inr le ↦ (let e : pos m +ℤ negsuc n ≡ negsuc (n - m) = omega (arith, ints, le) in ap (value_of 8) e ∙ down (n - m) ∙ less_down m n le)
]

sum_wide : (p q : ℤ) → value_of 8 (p +ℤ q) ≡ (value_of 8 p + value_of 8 q) % 2 ^ 64
sum_wide (pos m) (pos n) =
    let e : pos m +ℤ pos n ≡ pos (m + n) = omega (arith, ints) in
    ap (value_of 8) e ∙ up (m + n) ∙ both_up m n ∙ sym (ap (λ k. (k + value_of 8 (pos n)) % 2 ^ 64) (up m) ∙ ap (λ k. (m % 2 ^ 64 + k) % 2 ^ 64) (up n))
sum_wide (pos m) (negsuc n) = mixed m n ∙ sym (ap (λ k. (k + value_of 8 (negsuc n)) % 2 ^ 64) (up m) ∙ ap (λ k. (m % 2 ^ 64 + k) % 2 ^ 64) (down n))
sum_wide (negsuc m) (pos n) =
    let e : negsuc m +ℤ pos n ≡ pos n +ℤ negsuc m = omega (arith, ints) in
    ap (value_of 8) e ∙ mixed n m ∙ ap (λ k. k % 2 ^ 64) (swapped (n % 2 ^ 64) (2 ^ 64 - 1 - m % 2 ^ 64))
    ∙ sym (ap (λ k. (k + value_of 8 (pos n)) % 2 ^ 64) (down m) ∙ ap (λ k. (2 ^ 64 - 1 - m % 2 ^ 64 + k) % 2 ^ 64) (up n))
  where
    swapped : (a b : ℕ) → a + b ≡ b + a
    swapped a b = omega arith
sum_wide (negsuc m) (negsuc n) =
    let e : negsuc m +ℤ negsuc n ≡ negsuc (m + n + 1) = omega (arith, ints) in
    ap (value_of 8) e ∙ down (m + n + 1) ∙ both_down m n ∙ sym (ap (λ k. (k + value_of 8 (negsuc n)) % 2 ^ 64) (down m) ∙ ap (λ k. (2 ^ 64 - 1 - m % 2 ^ 64 + k) % 2 ^ 64) (down n))

-- the product, as a quadword
product_made : (x y : ℕ) → x < 2 ^ 32 → y < 2 ^ 32 → sign_extended x 32 % 2 ^ 64 * (sign_extended y 32 % 2 ^ 64) % 2 ^ 64 ≡ value_of 8 (signed_value 4 x *ℤ signed_value 4 y)
product_made x y lt lt' =
    rw (mod-eq_of_lt (extended_below Long x lt), mod-eq_of_lt (extended_below Long y lt')) (sym (product_wide Long x y lt lt'))

sum_made : (x y z product : ℕ) → product ≡ value_of 8 (signed_value 4 x *ℤ signed_value 4 y) → z < 2 ^ 32
    → (product % 2 ^ 64 + sign_extended z 32 % 2 ^ 64) % 2 ^ 64 ≡ extended_product_of x y z
unfolding extended_product_of
sum_made x y z product is lt =
    let p = signed_value 4 x *ℤ signed_value 4 y in
    let below : value_of 8 p < 2 ^ 64 = value_below Quad p in
    ap (λ n. (n % 2 ^ 64 + sign_extended z 32 % 2 ^ 64) % 2 ^ 64) is
    ∙ ap (λ n. (n + sign_extended z 32 % 2 ^ 64) % 2 ^ 64) (mod-eq_of_lt below)
    ∙ ap (λ n. (value_of 8 p + n) % 2 ^ 64) (mod-eq_of_lt (extended_below Long z lt) ∙ sym (signed_wide Long z lt))
    ∙ sym (sum_wide p (signed_value 4 z))

product_below : (x y z : ℕ) → extended_product_of x y z < 2 ^ 64
unfolding extended_product_of
product_below x y z = value_below Quad (signed_value 4 x *ℤ signed_value 4 y +ℤ signed_value 4 z)

-- ---- the instruction
module _ (instr : Instr) where
  abbrev pub factors_of : List Specifier
  factors_of = specifier Read Long (operand instr 0) 0 1 ∷ specifier Read Long (operand instr 1) 1 2 ∷ []

  abbrev pub others_of : List Specifier
  others_of = specifier Read Long (operand instr 2) 1 2 ∷ specifier Write Quad (operand instr 3) 2 3 ∷ []

  abbrev pub all_of : List Specifier
  all_of = specifier Read Long (operand instr 0) 0 1 ∷ specifier Read Long (operand instr 1) 1 2 ∷ others_of

  abbrev pub product_codes : CodeSources
  product_codes = from (Result Quad) Zero

  abbrev steps_first : List ℕ
  steps_first = steps_behind_all factors_of no_steps

  abbrev steps_all : List ℕ
  steps_all = steps_behind_all others_of steps_first

  abbrev last : List Micro
  last = rest_program product_codes (extended_multiply_plan instr) steps_all

  abbrev middle : List Micro
  middle = product_program ++ (operands_program others_of steps_first ++ last)

  abbrev ending_at : Pages → (thread : ℕ) → List Evaluated → VaxState → Tree
  ending_at pages thread values after = tree_of pages (body operations.ExtendedMultiply instr thread (filled nothing 6 values)) after ends_with

  module _ (state : VaxState) (pages : Pages) (thread : ℕ) (ok : IsState state) (same : length steps_all ≡ length state.r) (givable : IsGivable (operand instr 3) Quad) where
    sum_body : (first second : ℕ) (temps : Temps) (location : Location) → first < 2 ^ 32 → second < 2 ^ 32 → temps 0 ≡ value_of 8 (signed_value 4 (first % 2 ^ 32) *ℤ signed_value 4 (second % 2 ^ 32)) → temps 1 < 2 ^ 32
        → IsAt (operand instr 3) location (temps 3)
        → DoesSo product_codes state pages thread instr.after last (with state temps) (ending_at pages thread (value first ∷ value second ∷ value (temps 1) ∷ place location ∷ []) (stepped steps_all state))
    unfolding body extended_multiply value_from
    sum_body first second temps location lt lt' zero fits at =
        let plan = extended_multiply_plan instr in
        let found = found_at state instr.after in
        let after = effect plan.before found temps in
        let v = extended_product_of (first % 2 ^ 32) (second % 2 ^ 32) (temps 1 % 2 ^ 32) in
        let coded : Coded = coded_value 8 v false false in
        let made : after 2 ≡ v = sum_made (first % 2 ^ 32) (second % 2 ^ 32) (temps 1 % 2 ^ 32) (temps 0) zero (low_below Long (temps 1)) in
        let below : v < 2 ^ 64 = product_below (first % 2 ^ 32) (second % 2 ^ 32) (temps 1 % 2 ^ 32) in
        gives_as (Result Quad) Zero state pages thread instr.after ok Quad (operand instr 3) steps_all same location coded after plan.behind refl
        at givable made below refl (((rw made below, rw made refl, rw made refl), refl), refl) Next tt instr.after refl
        (test_end pages Quad v instr.after) (λ s e. plain_end pages coded.n coded.z false instr.after s)

  pub product_does : operation_at instr.opcode ≡ Some operations.ExtendedMultiply → AreOperandsOf all_of (evaluated_row operations.ExtendedMultiply) instr → ArePlaced factors_of → ArePlaced others_of
      → IsGivable (operand instr 3) Quad → Does product_codes instr (operands_program factors_of no_steps ++ middle)
  unfolding operation_script value_from
  product_does is are placed placed' givable state pages thread ok =
      let found = found_at state instr.after in
      let k = ending_at pages thread in
      let behind : List Evaluated → VaxState → Tree = λ values after. tree_of pages (evaluate_all others_of) after (λ more final. k (values ++ more) final) in
      let P = CodesComeFrom product_codes state in
      let end = leaving pages thread in
      let same : length steps_first ≡ length state.r = all_steps_length factors_of no_steps ∙ sym ok.registers in
      let same' : length steps_all ≡ length state.r = all_steps_length others_of steps_first ∙ same in
      let plain : List Evaluated → VaxState → Tree = λ values after. tree_of pages (body operations.ExtendedMultiply instr thread values) after ends_with in
      rw (is, of_instruction all_of (evaluated_row operations.ExtendedMultiply) instr pages state plain (lit≤ tt) are)
      (subst (λ (s : VaxState). Agrees P end (course_of (operands_program factors_of no_steps ++ middle) found (started state)) (tree_of pages (evaluate_all factors_of) s behind)) (nothing_added state ok)
      (in_order factors_of no_steps placed product_codes state pages thread middle found (started state) behind (sym ok.registers)
      (λ values temps left kept.
      read_twice values temps (λ (values : List Evaluated). DoesSo product_codes state pages thread instr.after middle (with state temps) (behind values (stepped steps_first state)))
      Long (operand instr 0) 0 1 Long (operand instr 1) 1 2 left (λ first second.
      let temps' = effect product_program found temps in
      let zero : temps' 0 ≡ value_of 8 (signed_value 4 (temps 0 % 2 ^ 32) *ℤ signed_value 4 (temps 1 % 2 ^ 32)) = product_made (temps 0 % 2 ^ 32) (temps 1 % 2 ^ 32) (low_below Long (temps 0)) (low_below Long (temps 1)) in
      in_order others_of steps_first placed' product_codes state pages thread last found (with state temps') (λ more final. k (value (temps 0) ∷ value (temps 1) ∷ more) final) same
      (λ more temps'' left' kept'.
      read_and_write more temps'' (λ (more : List Evaluated). DoesSo product_codes state pages thread instr.after last (with state temps'') (k (value (temps 0) ∷ value (temps 1) ∷ more) (stepped steps_all state)))
      Long (operand instr 2) 1 2 Quad (operand instr 3) left' (λ location third at.
      sum_body state pages thread ok same' givable (temps 0) (temps 1) temps'' location first second (kept' 0 ((refl, refl, refl), ((refl, refl, refl), tt)) ∙ zero) third at))))))
