-- Moves and the like do what their instructions do.
use Rattle.std.proofs.Common.{◌≡◌, ℕ, ◌%◌, ◌^◌, ◌<◌, ◌==◌, true, false, [], refl, sym, ap, ◌∙◌, arith}
use Rattle.std.proofs.Math.Nat.{mod-eq_of_lt}
use Rattle.vax_form.specs.Size.{bytes_of}
use Rattle.vax_form.specs.Script.{◌>>◌, change}
use Rattle.vax_form.specs.Tree.{Tree, tree_of, ends_with}
use Rattle.vax_form.specs.declared.instr.Instr.{Instr}
use Rattle.vax_form.specs.declared.instr.Size.{Size}
use Rattle.vax_form.specs.declared.instr.Size.TheVariants.{Byte, Word, Long, Quad}
use Rattle.vax_form.specs.declared.operation.Operation.TheVariants as operations
use Rattle.vax_form.specs.declared.pages.Pages.{Pages}
use Rattle.vax_form.specs.declared.state.VaxState.{VaxState}
use Rattle.vax_meaning.specs.Codes.{carry_of, go_to}
use Rattle.vax_meaning.specs.Evaluation.{operand}
use Rattle.vax_meaning.specs.Instructions.{body}
use Rattle.vax_meaning.specs.Moves.{give}
use Rattle.micro_ops.specs.Sources.{sources_of, from}
use Rattle.micro_ops.specs.Values.{limit_of, value_from}
use Rattle.micro_ops.specs.declared.codes.CodeSource.TheVariants.{Result, Kept}
use Rattle.micro_ops.specs.declared.program.Exit.TheVariants.{Next}
use Rattle.micro_lower.specs.Rows.{move_plan}
use Rattle.micro_lower.proofs.Coding.{plain_end}
use Rattle.micro_lower.proofs.Endings.{found_at}
use Rattle.micro_lower.proofs.Planned.{AllDo, BodyDoes, read_and_write, read_and_place}
use Rattle.operand_programs.specs.Results.{IsGivable}
use Rattle.micro_lower.specs.Plans.{steps_of}
use Rattle.micro_lower.proofs.Ready.{effect}
use Rattle.std.specs.Prelude.{nat_le, ◌+◌, ◌-◌, ◌/◌}
use Rattle.std.proofs.lemmas.Bool.Decides.{nat_tests}
use Rattle.vax_form.specs.Size.{size_of}
use Rattle.vax_form.specs.declared.instr.Width.{Width}
use Rattle.vax_form.specs.declared.instr.Width.TheVariants as widths
use Rattle.vax_meaning.specs.Codes.{with_codes}
use Rattle.vax_meaning.specs.Moves.{move_zero_extended}
use Rattle.vax_meaning.specs.Arithmetic.{give_coded}
use Rattle.vt_words.specs.Arithmetic.{difference_of}
use Rattle.micro_ops.specs.declared.codes.CodeSource.TheVariants.{Sub}
use Rattle.micro_ops.proofs.Sizes.{low_below}
use Rattle.micro_lower.specs.Rows.{ones, move_zero_extended_plan, clear_plan, move_complemented_plan, move_negated_plan, move_address_plan}
use Rattle.micro_lower.proofs.Given.{value_coded, value_end, value_ends, coded_end_of, gives_as, result_ready}
use Rattle.micro_lower.proofs.Overflow.{IsNarrow, some}
use Rattle.micro_lower.proofs.Planned.{only_write, address_and_place}
use Rattle.micro_lower.proofs.Tabled.{is_narrower}

-- ---- the rows
pub move_all : (size : Size) (instr : Instr) → IsGivable (operand instr 1) size → AllDo (operations.Move size) instr (move_plan size instr)
unfolding body give sources_of value_from
move_all size instr givable state pages thread temps values ok same left =
    let plan = move_plan size instr in
    let v = temps 2 % limit_of size in
    read_and_place values temps (BodyDoes (operations.Move size) instr plan state pages thread temps) size (operand instr 0) 2 1 size (operand instr 1) left (λ location fits at.
    let is : temps 2 ≡ v = sym (mod-eq_of_lt fits) in
    gives_as (Result size) Kept state pages thread instr.after ok size (operand instr 1) (steps_of plan.slots instr) same location (value_coded state size v) temps [] refl
    at givable is (low_below size _) refl (result_ready size state v temps (low_below size _) is) Next tt instr.after refl
    (value_end pages size v instr.after) (value_ends pages state size v instr.after))

-- the value is smaller than half of the size's range
zero_extended : (from to : Width) → is_narrower from to ≡ true → (value : ℕ) → value < limit_of (size_of from) → nat_le (limit_of (size_of to) / 2) value ≡ false
zero_extended widths.Byte widths.Byte narrow value lt = cc
zero_extended widths.Byte widths.Word narrow value lt = grind (arith, nat_tests)
zero_extended widths.Byte widths.Long narrow value lt = grind (arith, nat_tests)
zero_extended widths.Word widths.Byte narrow value lt = cc
zero_extended widths.Word widths.Word narrow value lt = cc
zero_extended widths.Word widths.Long narrow value lt = grind (arith, nat_tests)
zero_extended widths.Long widths.Byte narrow value lt = cc
zero_extended widths.Long widths.Word narrow value lt = cc
zero_extended widths.Long widths.Long narrow value lt = cc

still_fits : (from to : Width) → is_narrower from to ≡ true → (value : ℕ) → value < limit_of (size_of from) → value < limit_of (size_of to)
still_fits widths.Byte widths.Byte narrow value lt = cc
still_fits widths.Byte widths.Word narrow value lt = omega (arith, lt)
still_fits widths.Byte widths.Long narrow value lt = omega (arith, lt)
still_fits widths.Word widths.Byte narrow value lt = cc
still_fits widths.Word widths.Word narrow value lt = cc
still_fits widths.Word widths.Long narrow value lt = omega (arith, lt)
still_fits widths.Long widths.Byte narrow value lt = cc
still_fits widths.Long widths.Word narrow value lt = cc
still_fits widths.Long widths.Long narrow value lt = cc

-- a value that was zero-extended is not negative
abbrev pub zero_extended_end : Pages → (value pc : ℕ) → VaxState → Tree
zero_extended_end pages value pc state = tree_of pages (change (λ (s : VaxState). with_codes false (value == 0) false (carry_of s) s) >> go_to pc) state ends_with

zero_extended_ends : (pages : Pages) (start : VaxState) (size : Size) (value pc : ℕ) → nat_le (limit_of size / 2) value ≡ false → (state : VaxState) → state.psw ≡ start.psw
    → coded_end_of pages (value_coded start size value) pc state ≡ zero_extended_end pages value pc state
zero_extended_ends pages start size value pc positive state same =
    plain_end pages (nat_le (limit_of size / 2) value) (value == 0) (carry_of start) pc state ∙ rw (positive, same) refl

pub move_zero_extended_all : (from to : Width) (instr : Instr) → is_narrower from to ≡ true → IsGivable (operand instr 1) (size_of to) → AllDo (operations.MoveZeroExtended from to) instr (move_zero_extended_plan from to instr)
unfolding body move_zero_extended sources_of value_from
move_zero_extended_all from to instr narrow givable state pages thread temps values ok same left =
    let plan = move_zero_extended_plan from to instr in
    let v = temps 2 % limit_of (size_of from) in
    let fits = still_fits from to narrow v (low_below (size_of from) _) in
    read_and_place values temps (BodyDoes (operations.MoveZeroExtended from to) instr plan state pages thread temps) (size_of from) (operand instr 0) 2 1 (size_of to) (operand instr 1) left (λ location was at.
    let is : temps 2 ≡ v = sym (mod-eq_of_lt was) in
    gives_as (Result (size_of to)) Kept state pages thread instr.after ok (size_of to) (operand instr 1) (steps_of plan.slots instr) same location (value_coded state (size_of to) v) temps [] refl
    at givable is fits refl (result_ready (size_of to) state v temps fits is) Next tt instr.after refl
    (zero_extended_end pages v instr.after) (zero_extended_ends pages state (size_of to) v instr.after (zero_extended from to narrow v (low_below (size_of from) _))))

pub clear_all : (size : Size) (instr : Instr) → IsGivable (operand instr 0) size → AllDo (operations.Clear size) instr (clear_plan size instr)
unfolding body give sources_of value_from
clear_all size instr givable state pages thread temps values ok same left =
    let plan = clear_plan size instr in
    let after = effect plan.before (found_at state instr.after) temps in
    only_write values temps (BodyDoes (operations.Clear size) instr plan state pages thread temps) size (operand instr 0) left (λ location at.
    gives_as (Result size) Kept state pages thread instr.after ok size (operand instr 0) (steps_of plan.slots instr) same location (value_coded state size 0) after plan.behind refl
    at givable refl (some size) refl (result_ready size state 0 after (some size) refl) Next tt instr.after refl
    (value_end pages size 0 instr.after) (value_ends pages state size 0 instr.after))

complemented : (size : Size) (x : ℕ) → x < limit_of size → (ones size % limit_of size + (limit_of size - x)) % limit_of size ≡ limit_of size - 1 - x
complemented Byte x lt = omega (arith, lt)
complemented Word x lt = omega (arith, lt)
complemented Long x lt = omega (arith, lt)
complemented Quad x lt = omega (arith, lt)

complement_fits : (size : Size) (x : ℕ) → limit_of size - 1 - x < limit_of size
complement_fits size x = let positive = some size in omega (arith, positive)

pub move_complemented_all : (width : Width) (instr : Instr) → IsGivable (operand instr 1) (size_of width) → AllDo (operations.MoveComplemented width) instr (move_complemented_plan width instr)
unfolding body give sources_of value_from
move_complemented_all width instr givable state pages thread temps values ok same left =
    let size = size_of width in
    let plan = move_complemented_plan width instr in
    let x = temps 0 % limit_of size in
    let v = limit_of size - 1 - x in
    let after = effect plan.before (found_at state instr.after) temps in
    let made : after 2 ≡ v = complemented size x (low_below size _) in
    let fits : v < limit_of size = complement_fits size x in
    read_and_write values temps (BodyDoes (operations.MoveComplemented width) instr plan state pages thread temps) size (operand instr 0) 0 1 size (operand instr 1) left (λ location was at.
    gives_as (Result size) Kept state pages thread instr.after ok size (operand instr 1) (steps_of plan.slots instr) same location (value_coded state size v) after plan.behind refl
    at givable made fits refl (result_ready size state v after fits made) Next tt instr.after refl
    (value_end pages size v instr.after) (value_ends pages state size v instr.after))

negated : (size : Size) (x : ℕ) → IsNarrow size → x < limit_of size → (0 % limit_of size + (limit_of size - x)) % limit_of size ≡ (0 + limit_of size - (x + 0)) % limit_of size
negated Byte x narrow lt = omega (arith, lt)
negated Word x narrow lt = omega (arith, lt)
negated Long x narrow lt = omega (arith, lt)
negated Quad x narrow lt = absurd narrow

pub narrow_width : (width : Width) → IsNarrow (size_of width)
narrow_width widths.Byte = tt
narrow_width widths.Word = tt
narrow_width widths.Long = tt

pub move_negated_all : (width : Width) (instr : Instr) → IsGivable (operand instr 1) (size_of width) → AllDo (operations.MoveNegated width) instr (move_negated_plan width instr)
unfolding body give_coded sources_of value_from difference_of
move_negated_all width instr givable state pages thread temps values ok same left =
    let size = size_of width in
    let plan = move_negated_plan width instr in
    let x = temps 1 % limit_of size in
    let coded = difference_of (bytes_of size) 0 x false in
    let after = effect plan.before (found_at state instr.after) temps in
    let made : after 2 ≡ coded.value = negated size x (narrow_width width) (low_below size _) in
    read_and_write values temps (BodyDoes (operations.MoveNegated width) instr plan state pages thread temps) size (operand instr 0) 1 0 size (operand instr 1) left (λ location was at.
    gives_as (Sub size) (Sub size) state pages thread instr.after ok size (operand instr 1) (steps_of plan.slots instr) same location coded after plan.behind refl
    at givable made (low_below size _) refl (refl, (narrow_width width, (some size, was), made, ap (λ n. difference_of (bytes_of size) 0 n false) (sym (mod-eq_of_lt was)))) Next tt instr.after refl
    (coded_end_of pages coded instr.after) (λ s e. refl))

pub move_address_all : (size : Size) (instr : Instr) → IsGivable (operand instr 1) Long → AllDo (operations.MoveAddress size) instr (move_address_plan size instr)
unfolding body give sources_of value_from
move_address_all size instr givable state pages thread temps values ok same left =
    let plan = move_address_plan size instr in
    let v = temps 2 % 2 ^ 32 in
    address_and_place values temps (BodyDoes (operations.MoveAddress size) instr plan state pages thread temps) size (operand instr 0) 2 1 Long (operand instr 1) left (λ location fits at.
    let is : temps 2 ≡ v = sym (mod-eq_of_lt fits) in
    gives_as (Result Long) Kept state pages thread instr.after ok Long (operand instr 1) (steps_of plan.slots instr) same location (value_coded state Long v) temps [] refl
    at givable is (low_below Long _) refl (result_ready Long state v temps (low_below Long _) is) Next tt instr.after refl
    (value_end pages Long v instr.after) (value_ends pages state Long v instr.after))
