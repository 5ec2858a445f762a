-- Loops: an index is stepped and compared.
use Rattle.std.proofs.Common.{◌≡◌, ℕ, ◌%◌, ◌^◌, ◌<◌, ◌==◌, Bool, true, false, List, [], ◌∷◌, refl, sym, ap, ◌∙◌, arith}
use Rattle.std.proofs.Math.Nat.{mod-eq_of_lt}
use Rattle.vax_form.specs.Size.{bytes_of}
use Rattle.vax_form.specs.Script.{◌>>◌, change}
use Rattle.vax_form.specs.Tree.{Tree, tree_of, ends_with}
use Rattle.vax_form.specs.declared.instr.Instr.{Instr}
use Rattle.vax_form.specs.declared.instr.Size.{Size}
use Rattle.vax_form.specs.declared.instr.Size.TheVariants.{Byte, Word, Long, Quad}
use Rattle.vax_form.specs.declared.operation.Operation.TheVariants as operations
use Rattle.vax_form.specs.declared.pages.Pages.{Pages}
use Rattle.vax_form.specs.declared.state.VaxState.{VaxState}
use Rattle.vax_meaning.specs.Codes.{carry_of}
use Rattle.vax_meaning.specs.Evaluation.{operand}
use Rattle.vax_meaning.specs.Instructions.{body}
use Rattle.vt_words.specs.Values.{bit}
use Rattle.vt_words.specs.declared.arithmetic.Coded.{Coded}
use Rattle.micro_ops.specs.Sources.{sources_of, from}
use Rattle.micro_ops.specs.Values.{limit_of, value_from}
use Rattle.micro_ops.specs.declared.codes.CodeSource.TheVariants.{Kept}
use Rattle.micro_lower.proofs.Endings.{found_at, is_computation}
use Rattle.micro_lower.proofs.Planned.{AllDo, BodyDoes}
use Rattle.vax_form.specs.declared.instr.Operand.{Operand}
use Rattle.vax_meaning.specs.declared.operands.Location.{Location}
use Rattle.micro_ops.specs.Meaning.{Temps}
use Rattle.operand_programs.specs.Operands.{IsAt}
use Rattle.operand_programs.specs.Results.{IsGivable}
use Rattle.std.specs.List.{list_all}
use Rattle.micro_lower.specs.Plans.{steps_of}
use Rattle.micro_lower.proofs.Ready.{effect, ReadyFor}
use Rattle.std.specs.Prelude.{nat_le, ◌+◌, ◌-◌, ◌/◌}
use Rattle.std.proofs.lemmas.Bool.Decides.{nat_tests}
use Rattle.vax_form.specs.Size.{size_of}
use Rattle.vax_form.specs.declared.instr.Width.{Width}
use Rattle.vt_words.specs.Arithmetic.{difference_of}
use Rattle.micro_lower.proofs.Given.{coded_end_of}
use Rattle.micro_lower.proofs.Overflow.{IsNarrow}
use Rattle.std.proofs.Common.{lit<}
use Rattle.std.specs.Prelude.{int_lt, bit_xor, not}
use Rattle.vax_meaning.specs.Branches.{target, pc_after}
use Rattle.micro_ops.specs.Meaning.{Found}
use Rattle.micro_lower.proofs.MoveRows.{narrow_width}
use Rattle.micro_lower.proofs.Overflow.{flipped}
use Rattle.micro_lower.proofs.Planned.{after_read, after_branch, after_all}
use Rattle.vax_form.specs.declared.instr.Access.TheVariants.{Read, Branch}
use Rattle.vax_meaning.specs.Evaluation.{nothing}
use Rattle.vax_meaning.specs.declared.evaluation.Evaluated.{Evaluated}
use Rattle.operand_programs.specs.InOrder.{AreLeft}
use Rattle.operand_programs.specs.Operands.{IsOfSize}
use Rattle.micro_lower.proofs.Planned.{specifier, value}
use Rattle.std.specs.Prelude.{if◌then◌else◌}
use Rattle.std.specs.Prelude.{ℤ, int_le}
use Rattle.std.proofs.lemmas.Int.{ints}
use Rattle.vax_form.specs.declared.instr.Access.TheVariants.{Modify}
use Rattle.vax_meaning.specs.Branches.{goes_up, goes_down, goes_by, is_at_most, is_less, step_index, add_one_branch, subtract_one_branch, add_compare_branch}
use Rattle.vax_meaning.specs.Codes.{with_three, finish}
use Rattle.vt_words.specs.Arithmetic.{sum_of}
use Rattle.vt_words.specs.Quad.{sign_extended}
use Rattle.micro_ops.specs.Values.{bits_of, signed}
use Rattle.micro_ops.specs.declared.codes.CodeSource.TheVariants.{Computed}
use Rattle.micro_lower.specs.Rows.{down_test, up_test, test_exit, subtract_one_plan, add_one_plan, add_compare_plan}
use Rattle.micro_lower.proofs.Given.{replaces_as}
use Rattle.std.proofs.Common.{add-zero}
use Rattle.std.proofs.lemmas.Nat.{mod_below}
use Rattle.micro_ops.specs.Meaning.{with_temp}
use Rattle.micro_ops.proofs.Sizes.{low_below}
use Rattle.micro_lower.proofs.Given.{carry_is}
use Rattle.micro_lower.proofs.Ready.{ReadyFor}
use Rattle.micro_lower.proofs.Overflow.{extended_below, sum_overflows}
use Rattle.micro_lower.proofs.Planned.{both, after_modify}
use Rattle.micro_lower.proofs.Coding.{GoesTo}
use Rattle.micro_lower.proofs.JumpRows.{test_low}

-- ---- shapes
pub modify_then_branch : (values : List Evaluated) (temps : Temps) (P : List Evaluated → Type 0) (size size' : Size) (a b : Operand) (to to' from' : ℕ)
    → AreLeft (specifier Modify size a to 3 ∷ specifier Branch size' b to' from' ∷ []) values temps
    → ((location : Location) → IsAt a location (temps 3) → IsOfSize size (temps to) → P (both location (temps to) ∷ nothing ∷ [])) → P values
modify_then_branch values temps P size size' a b to to' from' left goes =
    after_modify size a to 3 (specifier Branch size' b to' from' ∷ []) values temps P left (λ others left' location at fits.
    after_branch size' b to' from' [] others temps (λ others. P (both location (temps to) ∷ others)) left' (λ none left''.
    after_all none temps (λ none. P (both location (temps to) ∷ nothing ∷ none)) left'' (goes location at fits)))

pub read_modify_branch : (values : List Evaluated) (temps : Temps) (P : List Evaluated → Type 0) (size size' size'' : Size) (a b c : Operand) (to from to' to'' from'' : ℕ)
    → AreLeft (specifier Read size a to from ∷ specifier Modify size' b to' 3 ∷ specifier Branch size'' c to'' from'' ∷ []) values temps
    → ((location : Location) → IsOfSize size (temps to) → IsAt b location (temps 3) → IsOfSize size' (temps to') → P (value (temps to) ∷ both location (temps to') ∷ nothing ∷ [])) → P values
read_modify_branch values temps P size size' size'' a b c to from to' to'' from'' left goes =
    after_read size a to from (specifier Modify size' b to' 3 ∷ specifier Branch size'' c to'' from'' ∷ []) values temps P left (λ others left' fits.
    modify_then_branch others temps (λ others. P (value (temps to) ∷ others)) size' size'' b c to' to'' from'' left' (λ location at fits'. goes location fits at fits'))

pub read_twice_modify_branch : (values : List Evaluated) (temps : Temps) (P : List Evaluated → Type 0) (size size4 : Size) (a b c d : Operand) (to from to2 from2 to3 to4 from4 : ℕ)
    → AreLeft (specifier Read size a to from ∷ specifier Read size b to2 from2 ∷ specifier Modify size c to3 3 ∷ specifier Branch size4 d to4 from4 ∷ []) values temps
    → ((location : Location) → IsOfSize size (temps to) → IsOfSize size (temps to2) → IsAt c location (temps 3) → IsOfSize size (temps to3) → P (value (temps to) ∷ value (temps to2) ∷ both location (temps to3) ∷ nothing ∷ [])) → P values
read_twice_modify_branch values temps P size size4 a b c d to from to2 from2 to3 to4 from4 left goes =
    after_read size a to from (specifier Read size b to2 from2 ∷ specifier Modify size c to3 3 ∷ specifier Branch size4 d to4 from4 ∷ []) values temps P left (λ others left' fits.
    read_modify_branch others temps (λ others. P (value (temps to) ∷ others)) size size size4 b c d to2 from2 to3 to4 from4 left' (λ location fits' at fits''. goes location fits fits' at fits''))

-- ---- conditions
branches_by : (b : Bool) (taken other : ℕ) → (if bit b == 0 then other else taken) ≡ (if b then taken else other)
branches_by true taken other = refl
branches_by false taken other = refl

branches_unless : (b : Bool) (taken other : ℕ) → (if bit b == 0 then taken else other) ≡ (if not b then taken else other)
branches_unless true taken other = refl
branches_unless false taken other = refl

pub not_less : (x y : ℤ) → not (int_lt x y) ≡ int_le y x
not_less x y = grind (arith, ints)

-- ---- the index
-- N, Z and V by the index, C as it was found
abbrev pub index_coded : VaxState → Coded → Coded
index_coded start coded = record coded { c = carry_of start }

abbrev pub index_end : Pages → Coded → (pc : ℕ) → VaxState → Tree
index_end pages coded pc state = tree_of pages (change (with_three coded) >> finish pc) state ends_with

index_ends : (pages : Pages) (start : VaxState) (coded : Coded) (pc : ℕ) (state : VaxState) → state.psw ≡ start.psw → coded_end_of pages (index_coded start coded) pc state ≡ index_end pages coded pc state
index_ends pages start coded pc state same = rw same refl

down_overflows : (x : ℕ) → x < 2 ^ 32 → (difference_of 4 x 1 false).v ≡ int_lt (signed Long x) (signed Long ((x + 2 ^ 32 - (1 + 0)) % 2 ^ 32))
unfolding difference_of
down_overflows x lt = grind (arith, nat_tests, ints)

up_overflows : (x : ℕ) → x < 2 ^ 32 → (sum_of 4 x 1 false).v ≡ int_lt (signed Long ((x + 1 + 0) % 2 ^ 32)) (signed Long x)
unfolding sum_of
up_overflows x lt = grind (arith, nat_tests, ints)

-- the addend on the other side
moved : (e f g : ℕ) → e < 2 ^ 64 → f < 2 ^ 64 → g < 2 ^ 64 → ((e + f) % 2 ^ 64 == g) ≡ ((g + (2 ^ 64 - f)) % 2 ^ 64 == e)
moved e f g lt lt' lt'' = grind (arith, nat_tests)

by_overflows : (size : Size) (old addend : ℕ) → IsNarrow size → old < limit_of size → addend < limit_of size
    → (sum_of (bytes_of size) old addend false).v ≡ not ((sign_extended ((old + addend + 0) % limit_of size) (bits_of size) + (2 ^ 64 - sign_extended addend (bits_of size))) % 2 ^ 64 == sign_extended old (bits_of size))
by_overflows size old addend narrow lt lt' =
    sum_overflows size old addend narrow lt lt' ∙ ap not (moved _ _ _ (extended_below size old lt) (extended_below size addend lt') (extended_below size _ (low_below size _)))

taken_back : (size : Size) (old addend : ℕ) → old < limit_of size → addend < limit_of size
    → (sign_extended ((old + addend + 0) % limit_of size) (bits_of size) + (2 ^ 64 - sign_extended addend (bits_of size))) % 2 ^ 64 % limit_of size ≡ old
taken_back Byte old addend lt lt' = grind (arith, nat_tests)
taken_back Word old addend lt lt' = grind (arith, nat_tests)
taken_back Long old addend lt lt' = grind (arith, nat_tests)
taken_back Quad old addend lt lt' = grind (arith, nat_tests)

-- ---- the rows
-- what the index takes: it is in 2, with V in 3
index_ready : (size : Size) (start : VaxState) (temps : Temps) (coded : Coded) → coded.value < limit_of size → temps 2 ≡ coded.value
    → coded.n ≡ nat_le (limit_of size / 2) coded.value → coded.z ≡ (coded.value == 0) → temps 3 ≡ bit coded.v
    → ReadyFor (Computed size) Kept start.psw temps (index_coded start coded)
index_ready size start temps coded fits made n z v = (((rw made fits, rw made n, rw made z), v), carry_is start.psw)

decreased : (x : ℕ) → x < 4294967296 → (x + (4294967296 - 1)) % 4294967296 ≡ (x + 4294967296 - (1 + 0)) % 4294967296
decreased x lt = omega (arith, lt)

down_goes : (or_equal : Bool) (instr : Instr) (found : Found) (temps : Temps) (r : ℕ) → r < 2 ^ 32 → temps 2 ≡ r
    → GoesTo (test_exit (not or_equal) instr 1) found (effect (down_test or_equal) found temps) (pc_after instr 1 (goes_down or_equal r))
unfolding value_from
down_goes true instr found temps r lt made =
    rw (made, mod-eq_of_lt lt)
    (branches_unless (int_lt (signed Long r) (signed Long 0)) (target (operand instr 1)) instr.after ∙ ap (λ b. pc_after instr 1 b) (not_less (signed Long r) (signed Long 0)))
down_goes false instr found temps r lt made = rw (made, mod-eq_of_lt lt) (branches_by (is_less 4 0 r) (target (operand instr 1)) instr.after)

down_computes : (or_equal : Bool) → list_all is_computation (down_test or_equal) ≡ true
down_computes true = refl
down_computes false = refl

down_keeps : (or_equal : Bool) (found : Found) (temps : Temps) (temp : ℕ) → (temp == 0) ≡ false → effect (down_test or_equal) found temps temp ≡ temps temp
down_keeps true found temps temp other = rw other refl
down_keeps false found temps temp other = rw other refl

pub subtract_one_all : (or_equal : Bool) (instr : Instr) → IsGivable (operand instr 0) Long → AllDo (operations.SubtractOneBranch or_equal) instr (subtract_one_plan or_equal instr)
unfolding body subtract_one_branch step_index sources_of value_from difference_of
subtract_one_all or_equal instr givable state pages thread temps values ok same left =
    let plan = subtract_one_plan or_equal instr in
    let found = found_at state instr.after in
    let x = temps 0 % 2 ^ 32 in
    let lt = low_below Long (temps 0) in
    let index = difference_of 4 x 1 false in
    let after = effect plan.before found temps in
    let tested = with_temp 3 (bit (int_lt (signed Long x) (signed Long (after 2 % 2 ^ 32)))) after in
    let made : after 2 ≡ index.value = decreased x lt in
    let fits : index.value < 2 ^ 32 = low_below Long _ in
    let v : tested 3 ≡ bit index.v = ap (λ n. bit (int_lt (signed Long x) (signed Long n))) (mod-eq_of_lt (rw made fits) ∙ made) ∙ ap bit (sym (down_overflows x lt)) in
    let pc = pc_after instr 1 (goes_down or_equal index.value) in
    modify_then_branch values temps (BodyDoes (operations.SubtractOneBranch or_equal) instr plan state pages thread temps) Long Byte (operand instr 0) (operand instr 1) 0 0 1 left (λ location at was.
    replaces_as (Computed Long) Kept state pages thread instr.after ok Long (operand instr 0) (steps_of plan.slots instr) same location (index_coded state index) after plan.behind (down_computes or_equal)
    at givable made fits (down_keeps or_equal found tested 2 refl)
    (index_ready Long state (effect plan.behind found after) index fits (down_keeps or_equal found tested 2 refl ∙ made) refl refl (down_keeps or_equal found tested 3 refl ∙ v)) plan.exit (test_low (not or_equal) instr 1) pc
    (down_goes or_equal instr found tested index.value fits made)
    (index_end pages index pc) (index_ends pages state index pc))

increased : (x : ℕ) → (x + 1) % 4294967296 ≡ (x + 1 + 0) % 4294967296
increased x = omega arith

up_goes : (or_equal : Bool) (instr : Instr) (found : Found) (temps : Temps) (r limit : ℕ) → r < 2 ^ 32 → temps 2 ≡ r → temps 1 % 2 ^ 32 ≡ limit
    → GoesTo (test_exit (not or_equal) instr 2) found (effect (up_test or_equal) found temps) (pc_after instr 2 (goes_up or_equal r limit))
unfolding value_from
up_goes true instr found temps r limit lt made is =
    rw (is, made, mod-eq_of_lt lt)
    (branches_unless (int_lt (signed Long limit) (signed Long r)) (target (operand instr 2)) instr.after ∙ ap (λ b. pc_after instr 2 b) (not_less (signed Long limit) (signed Long r)))
up_goes false instr found temps r limit lt made is = rw (is, made, mod-eq_of_lt lt) (branches_by (is_less 4 r limit) (target (operand instr 2)) instr.after)

up_computes : (or_equal : Bool) → list_all is_computation (up_test or_equal) ≡ true
up_computes true = refl
up_computes false = refl

up_keeps : (or_equal : Bool) (found : Found) (temps : Temps) (temp : ℕ) → (temp == 0) ≡ false → effect (up_test or_equal) found temps temp ≡ temps temp
up_keeps true found temps temp other = rw other refl
up_keeps false found temps temp other = rw other refl

pub add_one_all : (or_equal : Bool) (instr : Instr) → IsGivable (operand instr 1) Long → AllDo (operations.AddOneBranch or_equal) instr (add_one_plan or_equal instr)
unfolding body add_one_branch step_index sources_of value_from sum_of
add_one_all or_equal instr givable state pages thread temps values ok same left =
    let plan = add_one_plan or_equal instr in
    let found = found_at state instr.after in
    let x = temps 0 % 2 ^ 32 in
    let lt = low_below Long (temps 0) in
    let index = sum_of 4 x 1 false in
    let after = effect plan.before found temps in
    let tested = with_temp 3 (bit (int_lt (signed Long (after 2 % 2 ^ 32)) (signed Long x))) after in
    let made : after 2 ≡ index.value = increased x in
    let fits : index.value < 2 ^ 32 = low_below Long _ in
    let v : tested 3 ≡ bit index.v = ap (λ n. bit (int_lt (signed Long n) (signed Long x))) (mod-eq_of_lt (rw made fits) ∙ made) ∙ ap bit (sym (up_overflows x lt)) in
    let pc = pc_after instr 2 (goes_up or_equal index.value (temps 1 % 2 ^ 32)) in
    read_modify_branch values temps (BodyDoes (operations.AddOneBranch or_equal) instr plan state pages thread temps) Long Long Byte (operand instr 0) (operand instr 1) (operand instr 2) 1 2 0 0 1 left (λ location limit at was.
    replaces_as (Computed Long) Kept state pages thread instr.after ok Long (operand instr 1) (steps_of plan.slots instr) same location (index_coded state index) after plan.behind (up_computes or_equal)
    at givable made fits (up_keeps or_equal found tested 2 refl)
    (index_ready Long state (effect plan.behind found after) index fits (up_keeps or_equal found tested 2 refl ∙ made) refl refl (up_keeps or_equal found tested 3 refl ∙ v)) plan.exit (test_low (not or_equal) instr 2) pc
    (up_goes or_equal instr found tested index.value (temps 1 % 2 ^ 32) fits made refl)
    (index_end pages index pc) (index_ends pages state index pc))

-- ---- ACB
module _ (size : Size) (narrow : IsNarrow size) (old addend limit : ℕ) (old_fits : old < limit_of size) (addend_fits : addend < limit_of size) (limit_fits : limit < limit_of size) where
  abbrev new : ℕ
  new = (old + addend + 0) % limit_of size

  -- the index less the addend, as a quadword
  abbrev back : ℕ
  back = (sign_extended (new % limit_of size) (bits_of size) % 2 ^ 64 + (2 ^ 64 - sign_extended (addend % limit_of size) (bits_of size) % 2 ^ 64)) % 2 ^ 64

  extension : (x : ℕ) → x < limit_of size → sign_extended (x % limit_of size) (bits_of size) % 2 ^ 64 ≡ sign_extended x (bits_of size)
  extension x lt = ap (λ y. sign_extended y (bits_of size) % 2 ^ 64) (mod-eq_of_lt lt) ∙ mod-eq_of_lt (extended_below size x lt)

  back_is : back ≡ (sign_extended new (bits_of size) + (2 ^ 64 - sign_extended addend (bits_of size))) % 2 ^ 64
  back_is =
      ap (λ x. (x + (2 ^ 64 - sign_extended (addend % limit_of size) (bits_of size) % 2 ^ 64)) % 2 ^ 64) (extension new (low_below size _))
      ∙ ap (λ y. (sign_extended new (bits_of size) + (2 ^ 64 - y)) % 2 ^ 64) (extension addend addend_fits)

  back_low : back % limit_of size ≡ old
  back_low = ap (λ x. x % limit_of size) back_is ∙ taken_back size old addend old_fits addend_fits

  sum_differs_back : bit_xor (bit (back % 2 ^ 64 == sign_extended (back % limit_of size) (bits_of size) % 2 ^ 64) % 2 ^ 8) 1 ≡ bit (sum_of (bytes_of size) old addend false).v
  sum_differs_back =
      ap (λ x. bit_xor (bit (x == sign_extended (back % limit_of size) (bits_of size) % 2 ^ 64) % 2 ^ 8) 1) (mod-eq_of_lt (mod_below _ (2 ^ 64) (lit< tt)) ∙ back_is)
      ∙ ap (λ x. bit_xor (bit ((sign_extended new (bits_of size) + (2 ^ 64 - sign_extended addend (bits_of size))) % 2 ^ 64 == x) % 2 ^ 8) 1)
      (ap (λ x. sign_extended x (bits_of size) % 2 ^ 64) back_low ∙ mod-eq_of_lt (extended_below size old old_fits))
      ∙ flipped _
      ∙ ap bit (sym (by_overflows size old addend narrow old_fits addend_fits))

selected : (neg p q : Bool) (taken other : ℕ)
    → (if bit_xor ((if bit neg % 256 == 0 then bit p % 256 else bit q % 256) % 256) 1 == 0 then other else taken) ≡ (if (if neg then not q else not p) then taken else other)
selected true true true taken other = refl
selected true true false taken other = refl
selected true false true taken other = refl
selected true false false taken other = refl
selected false true true taken other = refl
selected false true false taken other = refl
selected false false true taken other = refl
selected false false false taken other = refl

zero_low : (size : Size) → 0 % limit_of size ≡ 0
zero_low Byte = refl
zero_low Word = refl
zero_low Long = refl
zero_low Quad = refl

by_goes : (size : Size) (found : Found) (temps : Temps) (instr : Instr) (width : Width) (r taken other : ℕ) → size_of width ≡ size → r < limit_of size → temps 2 ≡ r
    → (if effect (add_compare_plan width instr).behind found temps 0 == 0 then other else taken)
    ≡ (if goes_by (bytes_of size) (temps 1 % limit_of size) r (temps 0 % limit_of size) then taken else other)
unfolding value_from
by_goes size found temps instr width r taken other is lt made =
    let limit = temps 0 % limit_of size in
    let addend = temps 1 % limit_of size in
    let p = int_lt (signed size limit) (signed size r) in
    let q = int_lt (signed size r) (signed size limit) in
    let neg = int_lt (signed size addend) (signed size 0) in
    rw (is, made, mod-eq_of_lt lt, zero_low size)
    (selected neg p q taken other ∙ rw (not_less (signed size limit) (signed size r), not_less (signed size r) (signed size limit)) refl)

pub add_compare_all : (width : Width) (instr : Instr) → IsGivable (operand instr 2) (size_of width) → AllDo (operations.AddCompareBranch width) instr (add_compare_plan width instr)
unfolding body add_compare_branch step_index sources_of value_from sum_of
add_compare_all width instr givable state pages thread temps values ok same left =
    let size = size_of width in
    let plan = add_compare_plan width instr in
    let found = found_at state instr.after in
    let old = temps 2 % limit_of size in
    let addend = temps 1 % limit_of size in
    let index = sum_of (bytes_of size) old addend false in
    let after = effect plan.before found temps in
    let made : after 2 ≡ index.value = ap (λ n. n % limit_of size) (sym (add-zero (old + addend))) in
    let fits : index.value < limit_of size = low_below size _ in
    let pc = pc_after instr 3 (goes_by (bytes_of size) addend index.value (temps 0 % limit_of size)) in
    read_twice_modify_branch values temps (BodyDoes (operations.AddCompareBranch width) instr plan state pages thread temps) size Word (operand instr 0) (operand instr 1) (operand instr 2) (operand instr 3) 0 2 1 2 2 0 1 left
    (λ location limit addend_fits at was.
    let made_of : after 2 ≡ (old + temps 1 + 0) % limit_of size = made ∙ ap (λ n. (old + n + 0) % limit_of size) (mod-eq_of_lt addend_fits) in
    let v : effect plan.behind found after 3 ≡ bit index.v =
    rw made_of (sum_differs_back size (narrow_width width) old (temps 1) (temps 0 % limit_of size) (low_below size _) addend_fits (low_below size _) ∙ ap (λ n. bit (sum_of (bytes_of size) old n false).v) (sym (mod-eq_of_lt addend_fits))) in
    replaces_as (Computed size) Kept state pages thread instr.after ok size (operand instr 2) (steps_of plan.slots instr) same location (index_coded state index) after plan.behind refl
    at givable made fits refl (index_ready size state (effect plan.behind found after) index fits made refl refl v) plan.exit (lit< tt) pc
    (by_goes size found after instr width index.value (target (operand instr 3)) instr.after refl fits made)
    (index_end pages index pc) (index_ends pages state index pc))
