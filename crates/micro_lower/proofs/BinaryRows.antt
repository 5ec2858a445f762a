-- Arithmetic and logical instructions.
use Rattle.std.proofs.Common.{◌≡◌, ℕ, ◌%◌, ◌^◌, ◌<◌, ◌≤◌, true, false, refl, sym, ap, ◌∙◌, arith}
use Rattle.std.proofs.Math.Nat.{mod-eq_of_lt}
use Rattle.vax_form.specs.Size.{bytes_of}
use Rattle.vax_form.specs.Script.{◌>>◌, change}
use Rattle.vax_form.specs.Tree.{Tree, tree_of, ends_with}
use Rattle.vax_form.specs.declared.instr.Instr.{Instr}
use Rattle.vax_form.specs.declared.instr.Size.{Size}
use Rattle.vax_form.specs.declared.instr.Size.TheVariants.{Byte, Word, Long, Quad}
use Rattle.vax_form.specs.declared.operation.Operation.TheVariants as operations
use Rattle.vax_form.specs.declared.pages.Pages.{Pages}
use Rattle.vax_form.specs.declared.state.VaxState.{VaxState}
use Rattle.vax_meaning.specs.Codes.{carry_of}
use Rattle.vax_meaning.specs.Evaluation.{operand}
use Rattle.vax_meaning.specs.Instructions.{body}
use Rattle.vt_words.specs.Values.{bit, fits}
use Rattle.vt_words.specs.declared.arithmetic.Coded.{Coded}
use Rattle.micro_ops.specs.Sources.{sources_of, from}
use Rattle.micro_ops.specs.Values.{limit_of, value_from, computed}
use Rattle.micro_ops.specs.declared.codes.CodeSource.TheVariants.{Result, Kept}
use Rattle.micro_ops.specs.declared.program.Exit.TheVariants.{Next}
use Rattle.micro_lower.proofs.Endings.{found_at, is_computation}
use Rattle.micro_lower.proofs.Planned.{AllDo, BodyDoes, read_and_write}
use Rattle.micro_ops.specs.Meaning.{Temps}
use Rattle.operand_programs.specs.Results.{IsGivable}
use Rattle.std.specs.List.{list_all}
use Rattle.micro_lower.specs.Plans.{steps_of}
use Rattle.micro_lower.proofs.Ready.{effect, ReadyFor}
use Rattle.std.specs.Prelude.{◌+◌, ◌-◌, ◌*◌, bit_and}
use Rattle.vax_form.specs.Size.{size_of}
use Rattle.vax_form.specs.declared.instr.Width.{Width}
use Rattle.vax_meaning.specs.Arithmetic.{give_coded}
use Rattle.vt_words.specs.Arithmetic.{difference_of}
use Rattle.micro_ops.specs.declared.codes.CodeSource.TheVariants.{Sub}
use Rattle.micro_lower.proofs.Given.{value_coded, coded_end_of, gives_as, result_ready}
use Rattle.micro_lower.proofs.Overflow.{IsNarrow}
use Rattle.std.specs.Prelude.{◌*ℤ◌, Bool, List, not}
use Rattle.std.proofs.lemmas.Bool.Decides.{nat_tests}
use Rattle.std.proofs.lemmas.Int.{ints}
use Rattle.micro_ops.specs.declared.program.Micro.{Micro}
use Rattle.vax_form.specs.declared.instr.Width.TheVariants as widths
use Rattle.std.proofs.Common.{add-zero}
use Rattle.std.proofs.lemmas.Nat.{and_le_l, and_mod}
use Rattle.vax_form.specs.declared.operation.BinaryOperation.{BinaryOperation}
use Rattle.vax_form.specs.declared.operation.BinaryOperation.TheVariants as binary
use Rattle.vax_meaning.specs.Arithmetic.{binary_of}
use Rattle.vt_words.specs.Arithmetic.{sum_of, product_of, conversion_of}
use Rattle.vt_words.specs.Quad.{sign_extended}
use Rattle.vt_words.specs.Values.{value_of}
use Rattle.micro_ops.specs.Sources.{sources_of_binary}
use Rattle.micro_ops.specs.Values.{bits_of, signed}
use Rattle.micro_ops.specs.declared.codes.CodeSource.TheVariants.{Add, Computed, Zero}
use Rattle.micro_lower.specs.Rows.{divides, micro_of, made_size, behind_binary, is_extension, behind_conversion, convert_plan, convert_plan_with, two_operands_plan, three_operands_plan, by_one_plan}
use Rattle.micro_lower.proofs.Fitting.{does_differ, value_below, product_wide, product_small, product_low}
use Rattle.micro_lower.proofs.Overflow.{signed_wide, signed_small, low_of, as_quad}
use Rattle.micro_lower.proofs.Given.{replaces_as}
use Rattle.micro_lower.proofs.MoveRows.{narrow_width}
use Rattle.micro_lower.proofs.Planned.{only_modify, read_and_modify, read_twice_and_write}
use Rattle.micro_lower.proofs.Ready.{ReadyFor}
use Rattle.vax_meaning.specs.Arithmetic.{finish_binary, two_operands, three_operands, replace}
use Rattle.vax_meaning.specs.Codes.{with_all}
use Rattle.micro_ops.specs.Meaning.{Found}
use Rattle.micro_ops.specs.declared.program.MicroOp.TheVariants as ops
use Rattle.micro_ops.proofs.Sizes.{low_below, or_fits, xor_fits}
use Rattle.micro_lower.proofs.Overflow.{extended_below}
use Rattle.std.proofs.Common.{lit<}

-- ---- results and codes
-- a value of an extended number
converted : (from to : Size) (v : ℕ) → v < limit_of from → sign_extended v (bits_of from) % limit_of to ≡ value_of (bytes_of to) (signed from v)
converted from to v lt = ap (λ n. n % limit_of to) (sym (signed_wide from v lt)) ∙ sym (low_of to (signed from v))

far_below : (x : ℕ) → x ≤ 2 ^ 31 → x < 2 ^ 63
far_below x le = omega (arith, le)

-- an extension fits
extension_fits : (from to : Width) (x : ℕ) → is_extension from to ≡ true → x < limit_of (size_of from) → fits (bytes_of (size_of to)) (signed (size_of from) x) ≡ true
extension_fits widths.Byte widths.Word x is lt = grind (arith, nat_tests, ints)
extension_fits widths.Byte widths.Long x is lt = grind (arith, nat_tests, ints)
extension_fits widths.Word widths.Long x is lt = grind (arith, nat_tests, ints)
extension_fits from to x is lt = absurd (cc is)

-- the codes of a conversion, by what computes V
convert_with : (behind : List Micro) (from to : Width) (instr : Instr) → IsGivable (operand instr 1) (size_of to) → list_all is_computation behind ≡ true
    → ((found : Found) (temps : Temps) → effect behind found temps 2 ≡ temps 2)
    → ((found : Found) (temps : Temps) → temps 2 ≡ (conversion_of (bytes_of (size_of from)) (bytes_of (size_of to)) (temps 0 % limit_of (size_of from))).value
    → effect behind found temps 3 ≡ bit (conversion_of (bytes_of (size_of from)) (bytes_of (size_of to)) (temps 0 % limit_of (size_of from))).v)
    → AllDo (operations.Convert from to) instr (convert_plan_with behind from to instr)
unfolding body give_coded sources_of value_from conversion_of
convert_with behind from to instr givable all kept overflows state pages thread temps values ok same left =
    let size = size_of to in
    let plan = convert_plan_with behind from to instr in
    let x = temps 0 % limit_of (size_of from) in
    let below = low_below (size_of from) (temps 0) in
    let coded = conversion_of (bytes_of (size_of from)) (bytes_of size) x in
    let found = found_at state instr.after in
    let after = effect plan.before found temps in
    let made : after 2 ≡ coded.value = converted (size_of from) size x below in
    let left_2 : effect behind found after 2 ≡ coded.value = kept found after ∙ made in
    read_and_write values temps (BodyDoes (operations.Convert from to) instr plan state pages thread temps) (size_of from) (operand instr 0) 0 1 size (operand instr 1) left (λ location was at.
    gives_as (Computed size) Zero state pages thread instr.after ok size (operand instr 1) (steps_of plan.slots instr) same location coded after behind all
    at givable made (value_below size _) (kept found after) (((rw left_2 (value_below size _), rw left_2 refl, rw left_2 refl), overflows found after made), refl) Next tt instr.after refl
    (coded_end_of pages coded instr.after) (λ s e. refl))

pub convert_all : (from to : Width) (instr : Instr) → IsGivable (operand instr 1) (size_of to) → AllDo (operations.Convert from to) instr (convert_plan from to instr)
unfolding value_from conversion_of
convert_all from to instr givable = by (is_extension from to) refl
  where
    by : (extension : Bool) → is_extension from to ≡ extension → AllDo (operations.Convert from to) instr (convert_plan_with (behind_conversion extension (size_of from) (size_of to)) from to instr)
    by true is =
        convert_with (behind_conversion true (size_of from) (size_of to)) from to instr givable refl (λ found temps. refl)
        (λ found temps made. sym (ap (λ b. bit (not b)) (extension_fits from to (temps 0 % limit_of (size_of from)) is (low_below (size_of from) (temps 0)))))
    by false is =
        convert_with (behind_conversion false (size_of from) (size_of to)) from to instr givable refl (λ found temps. refl)
        (λ found temps made.
        let x = temps 0 % limit_of (size_of from) in
        let below = low_below (size_of from) (temps 0) in
        let behind = effect (behind_conversion false (size_of from) (size_of to)) found temps in
        does_differ (size_of to) (signed (size_of from) x) (behind 4) (behind 2) (narrow_width to) (far_below _ (signed_small (size_of from) x (narrow_width from) below)) (sym (signed_wide (size_of from) x below)) made)

-- what the codes of an operation come from
abbrev pub binary_ready : BinaryOperation → (size : Size) (start : VaxState) (temps : Temps) → Coded → Type 0
binary_ready operation size start temps coded = ReadyFor (sources_of_binary operation size).nzv (sources_of_binary operation size).c start.psw temps coded

abbrev pub binary_value : BinaryOperation → Size → VaxState → (first second : ℕ) → Coded
binary_value operation size start first second = binary_of operation (bytes_of size) first second (carry_of start)

-- what is made of 0 and 1 is the result
pub binary_made : (operation : BinaryOperation) (size : Size) (start : VaxState) (a b held : ℕ) → IsNarrow size → a < limit_of size → b < limit_of size → divides operation ≡ false
    → value_from (micro_of operation) size a b held ≡ (binary_value operation size start b a).value
unfolding value_from binary_of sum_of difference_of product_of
binary_made binary.Add size start a b held narrow lt lt' none = ap (λ n. n % limit_of size) (sym (add-zero (a + b)))
binary_made binary.Subtract Byte start a b held narrow lt lt' none = omega (arith, lt, lt')
binary_made binary.Subtract Word start a b held narrow lt lt' none = omega (arith, lt, lt')
binary_made binary.Subtract Long start a b held narrow lt lt' none = omega (arith, lt, lt')
binary_made binary.Subtract Quad start a b held narrow lt lt' none = absurd narrow
binary_made binary.Divide size start a b held narrow lt lt' none = cc
binary_made operation size start a b held narrow lt lt' none = refl

pub binary_below : (operation : BinaryOperation) (size : Size) (start : VaxState) (a b : ℕ) → a < limit_of size → b < limit_of size → divides operation ≡ false → (binary_value operation size start b a).value < limit_of size
unfolding binary_of sum_of difference_of product_of
binary_below binary.Add size start a b lt lt' none = low_below size _
binary_below binary.Subtract size start a b lt lt' none = low_below size _
binary_below binary.Multiply size start a b lt lt' none = low_below size _
binary_below binary.Divide size start a b lt lt' none = cc
binary_below binary.BitSet size start a b lt lt' none = or_fits size a b lt lt'
binary_below binary.BitClear size start a b lt lt' none = let le = and_le_l a (limit_of size - 1 - b) in omega (arith, le, lt)
binary_below binary.ExclusiveOr size start a b lt lt' none = xor_fits size a b lt lt'

-- what is cleared in a number does not depend on the bits above it
cleared : (a r s k : ℕ) → a < 2 ^ k → r % 2 ^ k ≡ s → bit_and a r ≡ bit_and a s
cleared a r s k lt same =
    let le = and_le_l a r in
    let below : bit_and a r < 2 ^ k = omega (arith, le, lt) in
    sym (mod-eq_of_lt below) ∙ and_mod a r k ∙ ap (λ x. bit_and x (r % 2 ^ k)) (mod-eq_of_lt lt) ∙ ap (λ x. bit_and a x) same

cleared_by : (size : Size) (a b : ℕ) → a < limit_of size → b < limit_of size → bit_and a (2 ^ 64 - 1 - b) ≡ bit_and a (limit_of size - 1 - b)
cleared_by Byte a b lt lt' = cleared a (2 ^ 64 - 1 - b) (2 ^ 8 - 1 - b) 8 lt (omega (arith, lt'))
cleared_by Word a b lt lt' = cleared a (2 ^ 64 - 1 - b) (2 ^ 16 - 1 - b) 16 lt (omega (arith, lt'))
cleared_by Long a b lt lt' = cleared a (2 ^ 64 - 1 - b) (2 ^ 32 - 1 - b) 32 lt (omega (arith, lt'))
cleared_by Quad a b lt lt' = refl

-- made at its size of two numbers of a size
made_at : (operation : BinaryOperation) (size : Size) (start : VaxState) (x y held : ℕ) → IsNarrow size → x < limit_of size → y < limit_of size → divides operation ≡ false
    → computed (micro_of operation) (made_size operation size) x y held ≡ (binary_value operation size start (y % limit_of size) (x % limit_of size)).value
unfolding value_from binary_of
made_at binary.Add size start x y held narrow lt lt' none = binary_made binary.Add size start (x % limit_of size) (y % limit_of size) held narrow (low_below size x) (low_below size y) none
made_at binary.Subtract size start x y held narrow lt lt' none = binary_made binary.Subtract size start (x % limit_of size) (y % limit_of size) held narrow (low_below size x) (low_below size y) none
made_at binary.Multiply size start x y held narrow lt lt' none = binary_made binary.Multiply size start (x % limit_of size) (y % limit_of size) held narrow (low_below size x) (low_below size y) none
made_at binary.Divide size start x y held narrow lt lt' none = cc
made_at binary.BitSet size start x y held narrow lt lt' none = rw (as_quad size x lt, as_quad size y lt', mod-eq_of_lt lt, mod-eq_of_lt lt') refl
made_at binary.BitClear size start x y held narrow lt lt' none = rw (as_quad size x lt, as_quad size y lt', mod-eq_of_lt lt, mod-eq_of_lt lt') (cleared_by size x y lt lt')
made_at binary.ExclusiveOr size start x y held narrow lt lt' none = rw (as_quad size x lt, as_quad size y lt', mod-eq_of_lt lt, mod-eq_of_lt lt') refl

-- the codes come from what is in 0 and 1, or from the result
module _ (size : Size) (start : VaxState) (found : Found) (temps : Temps) (narrow : IsNarrow size) (lt : temps 0 < limit_of size) (lt' : temps 1 < limit_of size) where
  abbrev pub coded_by : BinaryOperation → Coded
  coded_by operation = binary_value operation size start (temps 1 % limit_of size) (temps 0 % limit_of size)

  logical : (value : ℕ) → value < limit_of size → temps 2 ≡ value → ReadyFor (Result size) Kept start.psw temps (value_coded start size value)
  logical value fits made = result_ready size start value temps fits made

  pub ready : (operation : BinaryOperation) → divides operation ≡ false → temps 2 ≡ (coded_by operation).value
      → binary_ready operation size start (effect (behind_binary operation size) found temps) (coded_by operation)
  unfolding value_from binary_of product_of
  ready binary.Add none made = (refl, (narrow, (lt, lt'), made, rw (mod-eq_of_lt lt, mod-eq_of_lt lt') refl))
  ready binary.Subtract none made = (refl, (narrow, (lt, lt'), made, rw (mod-eq_of_lt lt, mod-eq_of_lt lt') refl))
  ready binary.Multiply none made =
      let a = temps 0 % limit_of size in
      let b = temps 1 % limit_of size in
      let below = low_below size (temps 0) in
      let below' = low_below size (temps 1) in
      let behind = effect (behind_binary binary.Multiply size) found temps in
      let wide : behind 4 ≡ value_of 8 (signed size a *ℤ signed size b) =
      ap (λ n. n * (sign_extended b (bits_of size) % 2 ^ 64) % 2 ^ 64) (mod-eq_of_lt (extended_below size a below))
      ∙ ap (λ n. sign_extended a (bits_of size) * n % 2 ^ 64) (mod-eq_of_lt (extended_below size b below'))
      ∙ sym (product_wide size a b below below') in (
        (
          (rw made (low_below size _), rw made refl, rw made refl),
          does_differ size (signed size a *ℤ signed size b) (behind 4) (behind 2) narrow (product_small size a b below below' narrow) wide (made ∙ sym (product_low size a b below below')),
        ),
        refl,
      )
  ready binary.Divide none made = cc
  ready binary.BitSet none made = logical _ (or_fits size _ _ (low_below size _) (low_below size _)) made
  ready binary.BitClear none made = logical _ (let le = and_le_l (temps 0 % limit_of size) (limit_of size - 1 - temps 1 % limit_of size) in omega (arith, le, low_below size (temps 0))) made
  ready binary.ExclusiveOr none made = logical _ (xor_fits size _ _ (low_below size _) (low_below size _)) made

-- the instruction does not divide by zero
abbrev pub binary_end : Pages → BinaryOperation → (first : ℕ) → Coded → (pc : ℕ) → VaxState → Tree
binary_end pages operation first coded pc state = tree_of pages (change (with_all coded) >> finish_binary operation first pc) state ends_with

binary_ends : (pages : Pages) (operation : BinaryOperation) (first : ℕ) (coded : Coded) (pc : ℕ) → divides operation ≡ false → (state : VaxState)
    → coded_end_of pages coded pc state ≡ binary_end pages operation first coded pc state
unfolding finish_binary
binary_ends pages binary.Divide first coded pc none state = cc
binary_ends pages operation first coded pc none state = refl

kept_result : (operation : BinaryOperation) (size : Size) (found : Found) (temps : Temps) → divides operation ≡ false → effect (behind_binary operation size) found temps 2 ≡ temps 2
kept_result binary.Divide size found temps none = cc
kept_result operation size found temps none = refl

all_compute : (operation : BinaryOperation) (size : Size) → list_all is_computation (behind_binary operation size) ≡ true
all_compute binary.Multiply size = refl
all_compute operation size = refl

pub two_operands_all : (operation : BinaryOperation) (width : Width) (instr : Instr) → divides operation ≡ false → IsGivable (operand instr 1) (size_of width)
    → AllDo (operations.TwoOperands operation width) instr (two_operands_plan operation width instr)
unfolding body two_operands sources_of
two_operands_all operation width instr none givable state pages thread temps values ok same left =
    let size = size_of width in
    let plan = two_operands_plan operation width instr in
    let found = found_at state instr.after in
    let after = effect plan.before found temps in
    let narrow = narrow_width width in
    let source = sources_of_binary operation size in
    read_and_modify values temps (BodyDoes (operations.TwoOperands operation width) instr plan state pages thread temps) size (operand instr 0) 1 2 size (operand instr 1) 0 left (λ location first at second.
    let coded = binary_value operation size state (temps 1 % limit_of size) (temps 0 % limit_of size) in
    let made : after 2 ≡ coded.value = made_at operation size state (temps 0) (temps 1) _ narrow second first none in
    replaces_as source.nzv source.c state pages thread instr.after ok size (operand instr 1) (steps_of plan.slots instr) same location coded after plan.behind (all_compute operation size)
    at givable made (binary_below operation size state _ _ (low_below size _) (low_below size _) none) (kept_result operation size found after none) (ready size state found after narrow second first operation none made) Next tt instr.after refl
    (binary_end pages operation (temps 1 % limit_of size) coded instr.after) (λ s e. binary_ends pages operation (temps 1 % limit_of size) coded instr.after none s))

pub three_operands_all : (operation : BinaryOperation) (width : Width) (instr : Instr) → divides operation ≡ false → IsGivable (operand instr 2) (size_of width)
    → AllDo (operations.ThreeOperands operation width) instr (three_operands_plan operation width instr)
unfolding body three_operands sources_of
three_operands_all operation width instr none givable state pages thread temps values ok same left =
    let size = size_of width in
    let plan = three_operands_plan operation width instr in
    let found = found_at state instr.after in
    let after = effect plan.before found temps in
    let narrow = narrow_width width in
    let source = sources_of_binary operation size in
    read_twice_and_write values temps (BodyDoes (operations.ThreeOperands operation width) instr plan state pages thread temps) size size size (operand instr 0) (operand instr 1) (operand instr 2) 1 2 0 2 left
    (λ location first second at.
    let coded = binary_value operation size state (temps 1 % limit_of size) (temps 0 % limit_of size) in
    let made : after 2 ≡ coded.value = made_at operation size state (temps 0) (temps 1) _ narrow second first none in
    gives_as source.nzv source.c state pages thread instr.after ok size (operand instr 2) (steps_of plan.slots instr) same location coded after plan.behind (all_compute operation size)
    at givable made (binary_below operation size state _ _ (low_below size _) (low_below size _) none) (kept_result operation size found after none) (ready size state found after narrow second first operation none made) Next tt instr.after refl
    (binary_end pages operation (temps 1 % limit_of size) coded instr.after) (λ s e. binary_ends pages operation (temps 1 % limit_of size) coded instr.after none s))

-- ---- by one
one : (size : Size) → 1 < limit_of size
one Byte = lit< tt
one Word = lit< tt
one Long = lit< tt
one Quad = lit< tt

pub increment_all : (width : Width) (instr : Instr) → IsGivable (operand instr 0) (size_of width) → AllDo (operations.Increment width) instr (by_one_plan ops.Add width instr)
unfolding body replace sources_of value_from sum_of
increment_all width instr givable state pages thread temps values ok same left =
    let size = size_of width in
    let plan = by_one_plan ops.Add width instr in
    let after = effect plan.before (found_at state instr.after) temps in
    only_modify values temps (BodyDoes (operations.Increment width) instr plan state pages thread temps) size (operand instr 0) 0 left (λ location at was.
    let x = temps 0 % limit_of size in
    let coded = sum_of (bytes_of size) x 1 false in
    let made : after 2 ≡ coded.value = ap (λ n. (x + n) % limit_of size) (mod-eq_of_lt (one size)) ∙ ap (λ n. n % limit_of size) (sym (add-zero (x + 1))) in
    replaces_as (Add size) (Add size) state pages thread instr.after ok size (operand instr 0) (steps_of plan.slots instr) same location coded after plan.behind refl
    at givable made (low_below size _) refl (refl, (narrow_width width, (was, one size), made, ap (λ n. sum_of (bytes_of size) n 1 false) (sym (mod-eq_of_lt was)))) Next tt instr.after refl
    (coded_end_of pages coded instr.after) (λ s e. refl))

decremented : (size : Size) (x : ℕ) → x < limit_of size → (x + (limit_of size - 1 % limit_of size)) % limit_of size ≡ (x + limit_of size - (1 + 0)) % limit_of size
decremented Byte x lt = omega (arith, lt)
decremented Word x lt = omega (arith, lt)
decremented Long x lt = omega (arith, lt)
decremented Quad x lt = omega (arith, lt)

pub decrement_all : (width : Width) (instr : Instr) → IsGivable (operand instr 0) (size_of width) → AllDo (operations.Decrement width) instr (by_one_plan ops.Sub width instr)
unfolding body replace sources_of value_from difference_of
decrement_all width instr givable state pages thread temps values ok same left =
    let size = size_of width in
    let plan = by_one_plan ops.Sub width instr in
    let after = effect plan.before (found_at state instr.after) temps in
    only_modify values temps (BodyDoes (operations.Decrement width) instr plan state pages thread temps) size (operand instr 0) 0 left (λ location at was.
    let x = temps 0 % limit_of size in
    let coded = difference_of (bytes_of size) x 1 false in
    let made : after 2 ≡ coded.value = decremented size x (low_below size _) in
    replaces_as (Sub size) (Sub size) state pages thread instr.after ok size (operand instr 0) (steps_of plan.slots instr) same location coded after plan.behind refl
    at givable made (low_below size _) refl (refl, (narrow_width width, (was, one size), made, ap (λ n. difference_of (bytes_of size) n 1 false) (sym (mod-eq_of_lt was)))) Next tt instr.after refl
    (coded_end_of pages coded instr.after) (λ s e. refl))
