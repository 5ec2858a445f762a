-- ASHL by a literal count does what its instruction does.
use Rattle.std.proofs.Common.{◌≡◌, ℕ, ◌-◌, ◌*◌, ◌/◌, ◌%◌, ◌^◌, ◌<◌, ◌≤◌, ◌==◌, Bool, true, false, List, [], ◌∷◌, ◌++◌, length, Some, refl, sym, ap, ◌∙◌, subst, arith, inl, inr, lit<, lit≤}
use Rattle.std.specs.Prelude.{pos, ◌*ℤ◌, not, nat_lt, min, bit_xor, if◌then◌else◌}
use Rattle.std.specs.Int.{int_div_euclid}
use Rattle.std.proofs.Math.Nat.{mod-eq_of_lt}
use Rattle.std.proofs.lemmas.Bool.{cases_lt, lt-ltb}
use Rattle.std.proofs.lemmas.Bool.Decides.{nat_tests}
use Rattle.std.proofs.lemmas.Nat.{mod_below, mul-mod_first}
use Rattle.vax_form.specs.Operation.{operation_at}
use Rattle.vax_form.specs.Row.{filled}
use Rattle.vax_form.specs.State.{IsState}
use Rattle.vax_form.specs.Tree.{Tree, tree_of, ends_with}
use Rattle.vax_form.specs.declared.instr.Access.TheVariants.{Read}
use Rattle.vax_form.specs.declared.instr.Instr.{Instr}
use Rattle.vax_form.specs.declared.instr.Operand.{Operand}
use Rattle.vax_form.specs.declared.instr.Operand.TheVariants as operands
use Rattle.vax_form.specs.declared.instr.Size.TheVariants.{Byte, Long}
use Rattle.vax_form.specs.declared.operation.Operation.TheVariants as operations
use Rattle.vax_form.specs.declared.pages.Pages.{Pages}
use Rattle.vax_form.specs.declared.state.VaxState.{VaxState}
use Rattle.vax_meaning.specs.Arithmetic.{shift_of, give_coded}
use Rattle.vax_meaning.specs.Evaluation.{nothing, operand, evaluated_row, find, obtain, read_found}
use Rattle.vax_meaning.specs.Instructions.{operation_script, body}
use Rattle.vax_meaning.specs.Operands.{locate}
use Rattle.vax_meaning.specs.declared.evaluation.Evaluated.{Evaluated}
use Rattle.vax_meaning.specs.declared.operands.Location.{Location}
use Rattle.vt_words.specs.Quad.{sign_extended}
use Rattle.vt_words.specs.Shifts.{left_shift_of, right_shift_of}
use Rattle.vt_words.specs.Values.{bit, fits, signed_value, value_of}
use Rattle.micro_ops.specs.Leaving.{CodesComeFrom}
use Rattle.micro_ops.specs.Meaning.{Temps, course_of, started}
use Rattle.micro_ops.specs.Sources.{from}
use Rattle.micro_ops.specs.Values.{value_from}
use Rattle.micro_ops.specs.declared.codes.CodeSource.TheVariants.{Computed, Zero}
use Rattle.micro_ops.specs.declared.codes.CodeSources.{CodeSources}
use Rattle.micro_ops.specs.declared.program.Exit.TheVariants.{Next}
use Rattle.micro_ops.specs.declared.program.Micro.{Micro}
use Rattle.micro_ops.proofs.Sizes.{low_below}
use Rattle.operand_programs.specs.InOrder.{AreOperandsOf, ArePlaced, evaluate_all, operands_program, steps_behind_all, no_steps}
use Rattle.operand_programs.specs.Operands.{IsAt}
use Rattle.operand_programs.specs.Pieces.{Agrees, leaving}
use Rattle.operand_programs.specs.Results.{IsGivable}
use Rattle.operand_programs.specs.Specifiers.{stepped}
use Rattle.operand_programs.specs.declared.operands.Specifier.{Specifier}
use Rattle.operand_programs.proofs.Ordered.{in_order, of_instruction, all_steps_length}
use Rattle.operand_programs.proofs.Stepped.{nothing_added}
use Rattle.micro_lower.specs.Plans.{rest_program, specifiers_from}
use Rattle.micro_lower.specs.Rows.{later_slots, literal_shift_plan}
use Rattle.micro_lower.proofs.Endings.{found_at, with, DoesSo}
use Rattle.micro_lower.proofs.Fitting.{value_below}
use Rattle.micro_lower.proofs.Given.{coded_end_of, gives_as}
use Rattle.micro_lower.proofs.Overflow.{extended_below, extended_low}
use Rattle.micro_lower.proofs.Plain.{Does}
use Rattle.micro_lower.proofs.Planned.{read_and_write, specifier, value, place}
use Rattle.micro_lower.proofs.Ready.{effect}
use Rattle.micro_lower.proofs.ShiftRows.{sign_left, low_none, fits_so, either_coded}

-- ---- to the left
narrowed : (n : ℕ) → n % 2 ^ 64 % 2 ^ 32 ≡ n % 2 ^ 32
narrowed n = omega arith

-- the low longword of the shifted quadword
low_product : (x p : ℕ) → x < 2 ^ 32 → sign_extended x 32 * p % 2 ^ 64 % 2 ^ 32 ≡ x * p % 2 ^ 32
low_product x p lt =
    let s = sign_extended x 32 in
    narrowed (s * p) ∙ sym (mul-mod_first s p (2 ^ 32)) ∙ ap (λ n. n * p % 2 ^ 32) (extended_low Long x lt)

at_most : (x c : ℕ) → x * 2 ^ min c 32 % 2 ^ 32 ≡ (left_shift_of x c).value
unfolding left_shift_of
at_most x c = elim (cases_lt c 32) [
  | inl below ↦ (let m : min c 32 ≡ c = omega (arith, below) in
      let u : nat_lt 31 c ≡ false = grind (arith, nat_tests) in
      rw (m, u) refl)
  | inr above ↦ (let m : min c 32 ≡ 32 = omega (arith, above) in
      let u : nat_lt 31 c ≡ true = grind (arith, nat_tests) in
      rw (m, u) (low_none x))
]

-- the source as a signed quadword, shifted
abbrev shifted_quad : (x c : ℕ) → ℕ
shifted_quad x c = let m = min c 32 % 2 ^ 64 in if nat_lt m 64 then sign_extended x 32 % 2 ^ 64 * 2 ^ m % 2 ^ 64 else 0

quad_is : (x c : ℕ) → x < 2 ^ 32 → shifted_quad x c ≡ sign_extended x 32 * 2 ^ min c 32 % 2 ^ 64
quad_is x c lt =
    let below : sign_extended x 32 % 2 ^ 64 ≡ sign_extended x 32 = mod-eq_of_lt (extended_below Long x lt) in
    let m : min c 32 ≤ 32 = omega arith in
    let same : min c 32 % 2 ^ 64 ≡ min c 32 = omega (arith, m) in
    let t : nat_lt (min c 32) 64 ≡ true = lt-ltb (min c 32) 64 (omega (arith, m)) in
    rw (same, t, below) refl

left_made : (x c : ℕ) → x < 2 ^ 32 → nat_lt c 128 ≡ true → shifted_quad x c % 2 ^ 32 ≡ (shift_of x c).value
left_made x c lt is =
    let chosen : (left_shift_of x c).value ≡ (shift_of x c).value = rw is refl in
    ap (λ n. n % 2 ^ 32) (quad_is x c lt) ∙ low_product x (2 ^ min c 32) lt ∙ at_most x c ∙ chosen

flipped_quad : (b : Bool) → bit_xor (bit b % 2 ^ 64) 1 ≡ bit (not b)
flipped_quad true = refl
flipped_quad false = refl

overflow_left : (x c : ℕ) → x < 2 ^ 32 → nat_lt c 128 ≡ true
    → bit_xor (bit (shifted_quad x c % 2 ^ 64 == sign_extended (shifted_quad x c % 2 ^ 32 % 2 ^ 32) 32 % 2 ^ 64) % 2 ^ 64) 1 ≡ bit (shift_of x c).v
unfolding left_shift_of
overflow_left x c lt is =
    let y = sign_extended x 32 * 2 ^ min c 32 % 2 ^ 64 in
    let quad : shifted_quad x c ≡ y = quad_is x c lt in
    let once : y % 2 ^ 64 ≡ y = mod-eq_of_lt (mod_below (sign_extended x 32 * 2 ^ min c 32) (2 ^ 64) (lit< tt)) in
    let low : y % 2 ^ 32 % 2 ^ 32 ≡ y % 2 ^ 32 = mod-eq_of_lt (low_below Long y) in
    let again : sign_extended (y % 2 ^ 32) 32 % 2 ^ 64 ≡ sign_extended (y % 2 ^ 32) 32 = mod-eq_of_lt (extended_below Long (y % 2 ^ 32) (low_below Long y)) in
    rw (quad, once, low, again, fits_so x c lt, is) (flipped_quad (fits 4 (signed_value 4 x *ℤ pos (2 ^ c))))

-- ---- to the right
to_right : (x n : ℕ) → x < 2 ^ 32
    → (if nat_lt n 32 then value_of 4 (int_div_euclid (signed_value 4 x) (pos (2 ^ n))) else (if nat_lt x (2 ^ 32 / 2) then 0 else 2 ^ 32 - 1)) ≡ right_shift_of x n
to_right x n lt = elim (cases_lt n 32) [
  | inl below ↦ (let t : nat_lt n 32 ≡ true = grind (arith, nat_tests) in
      let m : min n 31 ≡ n = omega (arith, below) in
      rw (t, m) refl)
  | inr above ↦ (let t : nat_lt n 32 ≡ false = grind (arith, nat_tests) in
      let m : min n 31 ≡ 31 = omega (arith, above) in
      rw (t, m) (sign_left x lt))
]

right_made : (x c : ℕ) → x < 2 ^ 32 → c < 256 → nat_lt c 128 ≡ false
    → (if nat_lt ((256 - c) % 2 ^ 32) 32 then value_of 4 (int_div_euclid (signed_value 4 x) (pos (2 ^ ((256 - c) % 2 ^ 32)))) else (if nat_lt x (2 ^ 32 / 2) then 0 else 2 ^ 32 - 1)) ≡ (shift_of x c).value
right_made x c lt small is = let same : (256 - c) % 2 ^ 32 ≡ 256 - c = omega (arith, small) in rw (same, is) (to_right x (256 - c) lt)

-- ---- the instruction
module _ (instr : Instr) (literal : ℕ) (here : operand instr 0 ≡ operands.Value literal) where
  abbrev count : ℕ
  count = literal % 256

  abbrev pub later_of : List Specifier
  later_of = specifiers_from 1 later_slots instr

  abbrev all_of : List Specifier
  all_of = specifier Read Byte (operand instr 0) 0 1 ∷ later_of

  abbrev pub steps_later : List ℕ
  steps_later = steps_behind_all later_of no_steps

  abbrev pub shift_codes : CodeSources
  shift_codes = from (Computed Long) Zero

  abbrev last : (left : Bool) → List Micro
  last left = rest_program shift_codes (literal_shift_plan left count instr) steps_later

  abbrev ending_at : Pages → (thread : ℕ) → List Evaluated → VaxState → Tree
  ending_at pages thread values after = tree_of pages (body operations.ArithmeticShift instr thread (filled nothing 6 values)) after ends_with

  -- a literal is nothing to evaluate
  passed : (pages : Pages) (from : Operand) → from ≡ operands.Value literal → (state : VaxState) (rest : List Evaluated → VaxState → Tree)
      → tree_of pages (evaluate_all (specifier Read Byte from 0 1 ∷ later_of)) state rest ≡ tree_of pages (evaluate_all later_of) state (λ more after. rest (value count ∷ more) after)
  unfolding find obtain read_found locate
  passed pages from is state rest =
      subst (λ (o : Operand). tree_of pages (evaluate_all (specifier Read Byte o 0 1 ∷ later_of)) state rest ≡ tree_of pages (evaluate_all later_of) state (λ more after. rest (value count ∷ more) after)) (sym is) refl

  module _ (state : VaxState) (pages : Pages) (thread : ℕ) (ok : IsState state) (same : length steps_later ≡ length state.r) (givable : IsGivable (operand instr 2) Long) where
    shift_body : (left : Bool) → nat_lt count 128 ≡ left → (temps : Temps) (location : Location) → IsAt (operand instr 2) location (temps 3)
        → DoesSo shift_codes state pages thread instr.after (last left) (with state temps) (ending_at pages thread (value count ∷ value (temps 1) ∷ place location ∷ []) (stepped steps_later state))
    unfolding body give_coded value_from
    shift_body true is temps location at =
        let plan = literal_shift_plan true count instr in
        let found = found_at state instr.after in
        let after = effect plan.before found temps in
        let x = temps 1 % 2 ^ 32 in
        let coded = shift_of x (count % 2 ^ 8) in
        let lt : x < 2 ^ 32 = low_below Long (temps 1) in
        let whole : count ≡ count % 2 ^ 8 = sym (mod-eq_of_lt (mod_below literal 256 (lit< tt))) in
        let codes = either_coded (nat_lt (count % 2 ^ 8) 128) x (count % 2 ^ 8) in
        let made : after 2 ≡ coded.value = left_made x count lt is ∙ ap (λ n. (shift_of x n).value) whole in
        let fits : coded.value < 2 ^ 32 = subst (λ n. n < 2 ^ 32) made (low_below Long (after 0)) in
        let v : effect plan.behind found after 3 ≡ bit coded.v = overflow_left x count lt is ∙ ap (λ n. bit (shift_of x n).v) whole in
        gives_as (Computed Long) Zero state pages thread instr.after ok Long (operand instr 2) steps_later same location coded after plan.behind refl
        at givable made fits refl
        ((((rw made fits, rw made codes.0, rw made codes.1), v)), codes.2) Next tt instr.after refl
        (coded_end_of pages coded instr.after) (λ s e. refl)
    shift_body false is temps location at =
        let plan = literal_shift_plan false count instr in
        let found = found_at state instr.after in
        let after = effect plan.before found temps in
        let x = temps 1 % 2 ^ 32 in
        let coded = shift_of x (count % 2 ^ 8) in
        let lt : x < 2 ^ 32 = low_below Long (temps 1) in
        let small : count < 256 = mod_below literal 256 (lit< tt) in
        let whole : count ≡ count % 2 ^ 8 = sym (mod-eq_of_lt small) in
        let codes = either_coded (nat_lt (count % 2 ^ 8) 128) x (count % 2 ^ 8) in
        let made : after 2 ≡ coded.value = right_made x count lt small is ∙ ap (λ n. (shift_of x n).value) whole in
        let fits : coded.value < 2 ^ 32 = subst (λ n. n < 2 ^ 32) (ap (λ n. (shift_of x n).value) whole) (rw is (value_below Long (int_div_euclid (signed_value 4 x) (pos (2 ^ min (256 - count) 31))))) in
        let none : (shift_of x count).v ≡ false = rw is refl in
        let v : 0 ≡ bit coded.v = ap bit (sym none) ∙ ap (λ n. bit (shift_of x n).v) whole in
        gives_as (Computed Long) Zero state pages thread instr.after ok Long (operand instr 2) steps_later same location coded after plan.behind refl
        at givable made fits refl
        ((((rw made fits, rw made codes.0, rw made codes.1), v)), codes.2) Next tt instr.after refl
        (coded_end_of pages coded instr.after) (λ s e. refl)

  pub shift_does : (left : Bool) → nat_lt count 128 ≡ left → operation_at instr.opcode ≡ Some operations.ArithmeticShift → AreOperandsOf all_of (evaluated_row operations.ArithmeticShift) instr → ArePlaced later_of
      → IsGivable (operand instr 2) Long → Does shift_codes instr (operands_program later_of no_steps ++ last left)
  unfolding operation_script
  shift_does left way is are placed givable state pages thread ok =
      let found = found_at state instr.after in
      let behind : List Evaluated → VaxState → Tree = λ more after. ending_at pages thread (value count ∷ more) after in
      let P = CodesComeFrom shift_codes state in
      let end = leaving pages thread in
      let same : length steps_later ≡ length state.r = all_steps_length later_of no_steps ∙ sym ok.registers in
      let plain : List Evaluated → VaxState → Tree = λ values after. tree_of pages (body operations.ArithmeticShift instr thread values) after ends_with in
      rw (is, of_instruction all_of (evaluated_row operations.ArithmeticShift) instr pages state plain (lit≤ tt) are ∙ passed pages (operand instr 0) here state (λ values after. plain (filled nothing 6 values) after))
      (subst (λ (s : VaxState). Agrees P end (course_of (operands_program later_of no_steps ++ last left) found (started state)) (tree_of pages (evaluate_all later_of) s behind)) (nothing_added state ok)
      (in_order later_of no_steps placed shift_codes state pages thread (last left) found (started state) behind (sym ok.registers)
      (λ values temps are_left kept.
      read_and_write values temps (λ (more : List Evaluated). DoesSo shift_codes state pages thread instr.after (last left) (with state temps) (behind more (stepped steps_later state)))
      Long (operand instr 1) 1 2 Long (operand instr 2) are_left (λ location source at. shift_body state pages thread ok same givable left way temps location at))))
