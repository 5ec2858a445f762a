-- Sums and differences with carry, shifts and rotation.
use Rattle.std.proofs.Common.{◌≡◌, ℕ, ◌%◌, ◌^◌, ◌<◌, ◌==◌, Bool, true, false, [], refl, sym, ap, ◌∙◌, subst, arith, inl, inr}
use Rattle.std.proofs.Math.Nat.{mod-eq_of_lt}
use Rattle.vax_form.specs.declared.instr.Instr.{Instr}
use Rattle.vax_form.specs.declared.instr.Size.TheVariants.{Byte, Long}
use Rattle.vax_form.specs.declared.operation.Operation.TheVariants as operations
use Rattle.vax_form.specs.declared.pages.Pages.{Pages}
use Rattle.vax_form.specs.declared.state.VaxState.{VaxState}
use Rattle.vax_meaning.specs.Codes.{carry_of}
use Rattle.vax_meaning.specs.Evaluation.{operand}
use Rattle.vax_meaning.specs.Instructions.{body}
use Rattle.vax_meaning.specs.Moves.{give}
use Rattle.vt_words.specs.Values.{bit}
use Rattle.vt_words.specs.declared.arithmetic.Coded.{Coded}
use Rattle.micro_ops.specs.Sources.{sources_of}
use Rattle.micro_ops.specs.Values.{value_from}
use Rattle.micro_ops.specs.declared.codes.CodeSource.TheVariants.{Result, Kept}
use Rattle.micro_ops.specs.declared.program.Exit.TheVariants.{Next}
use Rattle.micro_lower.proofs.Endings.{found_at}
use Rattle.micro_lower.proofs.Planned.{AllDo, BodyDoes}
use Rattle.micro_ops.specs.Meaning.{Temps}
use Rattle.operand_programs.specs.Results.{IsGivable}
use Rattle.micro_lower.specs.Plans.{steps_of}
use Rattle.micro_lower.proofs.Ready.{effect, ReadyFor}
use Rattle.std.specs.Prelude.{nat_le, ◌+◌, ◌-◌, ◌/◌, ◌*◌}
use Rattle.std.proofs.lemmas.Bool.Decides.{nat_tests}
use Rattle.vt_words.specs.Arithmetic.{difference_of}
use Rattle.micro_lower.proofs.Given.{value_coded, value_end, value_ends, coded_end_of, gives_as, result_ready}
use Rattle.std.proofs.Common.{lit<}
use Rattle.std.specs.Prelude.{nat_lt, bit_xor}
use Rattle.std.proofs.lemmas.Nat.{and_mask}
use Rattle.micro_lower.proofs.Overflow.{flipped}
use Rattle.std.specs.Prelude.{if◌then◌else◌}
use Rattle.vt_words.specs.Arithmetic.{sum_of}
use Rattle.vt_words.specs.Quad.{sign_extended}
use Rattle.micro_ops.specs.declared.codes.CodeSource.TheVariants.{Computed}
use Rattle.micro_ops.proofs.Sizes.{low_below}
use Rattle.micro_lower.proofs.Given.{replaces_as}
use Rattle.std.proofs.lemmas.Nat.{mod_below}
use Rattle.micro_lower.proofs.Given.{carry_is}
use Rattle.micro_lower.proofs.Ready.{ReadyFor}
use Rattle.micro_lower.proofs.Overflow.{extended_below, sum_overflows_with, difference_overflows_with}
use Rattle.std.specs.Prelude.{bit_or}
use Rattle.std.proofs.lemmas.Bool.Decides.{eqb_tells}
use Rattle.std.specs.Int.Bits.{or_self, or_zero_r}
use Rattle.std.proofs.lemmas.Nat.{or_lt, shr_le}
use Rattle.micro_lower.proofs.Planned.{read_and_modify, read_twice_and_write}
use Rattle.vax_meaning.specs.Arithmetic.{add_with_carry, subtract_with_carry, replace}
use Rattle.vt_words.specs.Shifts.{rotation_of}
use Rattle.micro_lower.specs.Rows.{rotated as rotated_program, rotated_by, before_rotation, shift_plan_with, add_with_carry_plan, subtract_with_carry_plan, rotate_plan}
use Rattle.operand_programs.specs.Pieces.{IsKnownValue}
use Rattle.vax_form.specs.declared.instr.Operand.{Operand}
use Rattle.vax_form.specs.declared.instr.Operand.TheVariants as operands

-- ---- with carry
-- C as a number
carry_bit : (psw : ℕ) → psw / 1 % 2 ≡ bit (psw % 2 == 1)
carry_bit psw = (omega arith) ∙ carry_is psw

sum_with : (a b : ℕ) (c : Bool) → ((a % 4294967296 + b % 4294967296) % 4294967296 % 4294967296 + bit c % 4294967296) % 4294967296 ≡ (a % 4294967296 + b % 4294967296 + bit c) % 4294967296
sum_with a b true = omega arith
sum_with a b false = omega arith

difference_with : (a b : ℕ) (c : Bool) → ((a % 4294967296 + (4294967296 - b % 4294967296)) % 4294967296 % 4294967296 + (4294967296 - bit c % 4294967296)) % 4294967296 ≡ (a % 4294967296 + 4294967296 - (b % 4294967296 + bit c)) % 4294967296
difference_with a b true = omega arith
difference_with a b false = omega arith

sum_carries_with : (a b : ℕ) (c : Bool) → a < 2 ^ 32 → b < 2 ^ 32 → (a + b + bit c) / 2 ^ 32 ≡ bit (nat_le (2 ^ 32) (a + b + bit c))
sum_carries_with a b true lt lt' = grind (arith, nat_tests)
sum_carries_with a b false lt lt' = grind (arith, nat_tests)

-- the flag as a quadword and a longword
flag_low : (psw m : ℕ) → 1 < m → psw / 1 % 2 % m ≡ bit (psw % 2 == 1)
flag_low psw m two = mod-eq_of_lt (let b : psw / 1 % 2 < 2 = omega arith in omega (arith, b, two)) ∙ carry_bit psw

bit_low : (c : Bool) → bit c % 4294967296 ≡ bit c
bit_low true = refl
bit_low false = refl

sum_beyond : (x y f : ℕ) → x < 4294967296 → y < 4294967296 → f < 2
    → ((x % 18446744073709551616 + y % 18446744073709551616) % 18446744073709551616 % 18446744073709551616 + f % 18446744073709551616) % 18446744073709551616 % 18446744073709551616 / 4294967296 ≡ (x + y + f) / 4294967296
sum_beyond x y f lt lt' small = omega (arith, lt, lt', small)

flag_small : (psw : ℕ) → psw / 1 % 2 < 2
flag_small psw = omega arith

extension_of : (x : ℕ) → sign_extended (x % 4294967296) 32 % 18446744073709551616 ≡ sign_extended (x % 4294967296) 32
extension_of x = mod-eq_of_lt (extended_below Long (x % 4294967296) (low_below Long x))

module _ (instr : Instr) (state : VaxState) (pages : Pages) (thread : ℕ) (temps : Temps) (lt : temps 0 < 2 ^ 32) (lt' : temps 1 < 2 ^ 32) where
  abbrev a : ℕ
  a = temps 0 % 2 ^ 32

  abbrev b : ℕ
  b = temps 1 % 2 ^ 32

  abbrev c : Bool
  c = carry_of state

  abbrev with_sum : Temps
  with_sum = effect (add_with_carry_plan instr).before (found_at state instr.after) temps

  sum_made : with_sum 2 ≡ (sum_of 4 a b c).value
  unfolding value_from sum_of
  sum_made = ap (λ f. ((a + b) % 2 ^ 32 % 2 ^ 32 + f) % 2 ^ 32) (flag_low state.psw (2 ^ 32) (lit< tt) ∙ sym (bit_low c)) ∙ sum_with (temps 0) (temps 1) c

  sum_v : effect (add_with_carry_plan instr).behind (found_at state instr.after) with_sum 3 ≡ bit (sum_of 4 a b c).v
  unfolding value_from sum_of
  sum_v =
      let e = sign_extended a 32 in
      let f = sign_extended b 32 in
      let z = ((e + f) % 2 ^ 64 + bit c) % 2 ^ 64 in
      let r = (a + b + bit c) % 2 ^ 32 in
      let y : ((sign_extended a 32 % 2 ^ 64 + sign_extended b 32 % 2 ^ 64) % 2 ^ 64 % 2 ^ 64 + state.psw / 1 % 2 % 2 ^ 64) % 2 ^ 64 ≡ z =
      ap (λ n. ((n + sign_extended b 32 % 2 ^ 64) % 2 ^ 64 % 2 ^ 64 + state.psw / 1 % 2 % 2 ^ 64) % 2 ^ 64) (extension_of (temps 0))
      ∙ ap (λ n. ((e + n) % 2 ^ 64 % 2 ^ 64 + state.psw / 1 % 2 % 2 ^ 64) % 2 ^ 64) (extension_of (temps 1))
      ∙ ap (λ n. (n + state.psw / 1 % 2 % 2 ^ 64) % 2 ^ 64) (mod-eq_of_lt (mod_below (e + f) (2 ^ 64) (lit< tt)))
      ∙ ap (λ n. ((e + f) % 2 ^ 64 + n) % 2 ^ 64) (flag_low state.psw (2 ^ 64) (lit< tt)) in
      ap (λ n. bit_xor (bit (n % 2 ^ 64 == sign_extended (with_sum 2 % 2 ^ 32) 32 % 2 ^ 64) % 2 ^ 8) 1) y
      ∙ ap (λ n. bit_xor (bit (n == sign_extended (with_sum 2 % 2 ^ 32) 32 % 2 ^ 64) % 2 ^ 8) 1) (mod-eq_of_lt (mod_below _ (2 ^ 64) (lit< tt)))
      ∙ ap (λ n. bit_xor (bit (z == sign_extended (n % 2 ^ 32) 32 % 2 ^ 64) % 2 ^ 8) 1) sum_made
      ∙ ap (λ n. bit_xor (bit (z == n) % 2 ^ 8) 1) (extension_of r)
      ∙ ap (λ n. bit_xor (bit (z == sign_extended n 32) % 2 ^ 8) 1) (mod-eq_of_lt (low_below Long (a + b + bit c)))
      ∙ flipped _
      ∙ ap bit (sym (sum_overflows_with Long a b c tt (low_below Long _) (low_below Long _)))

  sum_c : effect (add_with_carry_plan instr).behind (found_at state instr.after) with_sum 4 ≡ bit (sum_of 4 a b c).c
  unfolding value_from sum_of
  sum_c =
      sum_beyond (temps 0) (temps 1) (state.psw / 1 % 2) lt lt' (flag_small state.psw)
      ∙ ap (λ n. (temps 0 + temps 1 + n) / 2 ^ 32) (carry_bit state.psw)
      ∙ ap (λ n. (n + temps 1 + bit c) / 2 ^ 32) (sym (mod-eq_of_lt lt))
      ∙ ap (λ n. (a + n + bit c) / 2 ^ 32) (sym (mod-eq_of_lt lt'))
      ∙ sum_carries_with a b c (low_below Long _) (low_below Long _)

computed_long : (start : VaxState) (temps : Temps) (coded : Coded) → coded.value < 2 ^ 32 → temps 2 ≡ coded.value → coded.n ≡ nat_le (2 ^ 32 / 2) coded.value → coded.z ≡ (coded.value == 0)
    → temps 3 ≡ bit coded.v → temps 4 ≡ bit coded.c → ReadyFor (Computed Long) (Computed Long) start.psw temps coded
computed_long start temps coded fits made n z v c = (refl, ((rw made fits, rw made n, rw made z), v), c)

pub add_with_carry_all : (instr : Instr) → IsGivable (operand instr 1) Long → AllDo operations.AddWithCarry instr (add_with_carry_plan instr)
unfolding body add_with_carry replace sources_of value_from sum_of
add_with_carry_all instr givable state pages thread temps values ok same left =
    let plan = add_with_carry_plan instr in
    let found = found_at state instr.after in
    let after = effect plan.before found temps in
    let coded = sum_of 4 (temps 0 % 2 ^ 32) (temps 1 % 2 ^ 32) (carry_of state) in
    read_and_modify values temps (BodyDoes operations.AddWithCarry instr plan state pages thread temps) Long (operand instr 0) 1 2 Long (operand instr 1) 0 left (λ location first at second.
    replaces_as (Computed Long) (Computed Long) state pages thread instr.after ok Long (operand instr 1) (steps_of plan.slots instr) same location coded after plan.behind refl
    at givable (sum_made instr state pages thread temps second first) (low_below Long _) refl
    (computed_long state (effect plan.behind found after) coded (low_below Long _) (sum_made instr state pages thread temps second first) refl refl (sum_v instr state pages thread temps second first) (sum_c instr state pages thread temps second first))
    Next tt instr.after refl (coded_end_of pages coded instr.after) (λ s e. refl))

less_beyond : (x y f : ℕ) → x < 4294967296 → y < 4294967296 → f < 2 → nat_lt (x % 18446744073709551616) ((y % 18446744073709551616 + f % 18446744073709551616) % 18446744073709551616 % 18446744073709551616) ≡ nat_lt x (y + f)
less_beyond x y f lt lt' small =
    let left : x % 18446744073709551616 ≡ x = omega (arith, lt) in
    let right : (y % 18446744073709551616 + f % 18446744073709551616) % 18446744073709551616 % 18446744073709551616 ≡ y + f = omega (arith, lt', small) in
    ap (λ n. nat_lt n ((y % 18446744073709551616 + f % 18446744073709551616) % 18446744073709551616 % 18446744073709551616)) left ∙ ap (λ n. nat_lt x n) right

module _ (instr : Instr) (state : VaxState) (pages : Pages) (thread : ℕ) (temps : Temps) (lt : temps 0 < 2 ^ 32) (lt' : temps 1 < 2 ^ 32) where
  abbrev a' : ℕ
  a' = temps 0 % 2 ^ 32

  abbrev b' : ℕ
  b' = temps 1 % 2 ^ 32

  abbrev c' : Bool
  c' = carry_of state

  abbrev with_difference : Temps
  with_difference = effect (subtract_with_carry_plan instr).before (found_at state instr.after) temps

  difference_made : with_difference 2 ≡ (difference_of 4 a' b' c').value
  unfolding value_from difference_of
  difference_made = ap (λ f. ((a' + (2 ^ 32 - b')) % 2 ^ 32 % 2 ^ 32 + (2 ^ 32 - f)) % 2 ^ 32) (flag_low state.psw (2 ^ 32) (lit< tt) ∙ sym (bit_low c')) ∙ difference_with (temps 0) (temps 1) c'

  difference_v : effect (subtract_with_carry_plan instr).behind (found_at state instr.after) with_difference 3 ≡ bit (difference_of 4 a' b' c').v
  unfolding value_from difference_of
  difference_v =
      let e = sign_extended a' 32 in
      let f = sign_extended b' 32 in
      let z = ((e + (2 ^ 64 - f)) % 2 ^ 64 + (2 ^ 64 - bit c')) % 2 ^ 64 in
      let r = (a' + 2 ^ 32 - (b' + bit c')) % 2 ^ 32 in
      let y : ((sign_extended a' 32 % 2 ^ 64 + (2 ^ 64 - sign_extended b' 32 % 2 ^ 64)) % 2 ^ 64 % 2 ^ 64 + (2 ^ 64 - state.psw / 1 % 2 % 2 ^ 64)) % 2 ^ 64 ≡ z =
      ap (λ n. ((n + (2 ^ 64 - sign_extended b' 32 % 2 ^ 64)) % 2 ^ 64 % 2 ^ 64 + (2 ^ 64 - state.psw / 1 % 2 % 2 ^ 64)) % 2 ^ 64) (extension_of (temps 0))
      ∙ ap (λ n. ((e + (2 ^ 64 - n)) % 2 ^ 64 % 2 ^ 64 + (2 ^ 64 - state.psw / 1 % 2 % 2 ^ 64)) % 2 ^ 64) (extension_of (temps 1))
      ∙ ap (λ n. (n + (2 ^ 64 - state.psw / 1 % 2 % 2 ^ 64)) % 2 ^ 64) (mod-eq_of_lt (mod_below (e + (2 ^ 64 - f)) (2 ^ 64) (lit< tt)))
      ∙ ap (λ n. ((e + (2 ^ 64 - f)) % 2 ^ 64 + (2 ^ 64 - n)) % 2 ^ 64) (flag_low state.psw (2 ^ 64) (lit< tt)) in
      ap (λ n. bit_xor (bit (n % 2 ^ 64 == sign_extended (with_difference 2 % 2 ^ 32) 32 % 2 ^ 64) % 2 ^ 8) 1) y
      ∙ ap (λ n. bit_xor (bit (n == sign_extended (with_difference 2 % 2 ^ 32) 32 % 2 ^ 64) % 2 ^ 8) 1) (mod-eq_of_lt (mod_below _ (2 ^ 64) (lit< tt)))
      ∙ ap (λ n. bit_xor (bit (z == sign_extended (n % 2 ^ 32) 32 % 2 ^ 64) % 2 ^ 8) 1) difference_made
      ∙ ap (λ n. bit_xor (bit (z == n) % 2 ^ 8) 1) (extension_of r)
      ∙ ap (λ n. bit_xor (bit (z == sign_extended n 32) % 2 ^ 8) 1) (mod-eq_of_lt (low_below Long (a' + 2 ^ 32 - (b' + bit c'))))
      ∙ flipped _
      ∙ ap bit (sym (difference_overflows_with Long a' b' c' tt (low_below Long _) (low_below Long _)))

  difference_c : effect (subtract_with_carry_plan instr).behind (found_at state instr.after) with_difference 4 ≡ bit (difference_of 4 a' b' c').c
  unfolding value_from difference_of
  difference_c =
      ap bit (less_beyond (temps 0) (temps 1) (state.psw / 1 % 2) lt lt' (flag_small state.psw)
      ∙ ap (λ n. nat_lt (temps 0) (temps 1 + n)) (carry_bit state.psw)
      ∙ ap (λ n. nat_lt n (temps 1 + bit c')) (sym (mod-eq_of_lt lt))
      ∙ ap (λ n. nat_lt a' (n + bit c')) (sym (mod-eq_of_lt lt')))

pub subtract_with_carry_all : (instr : Instr) → IsGivable (operand instr 1) Long → AllDo operations.SubtractWithCarry instr (subtract_with_carry_plan instr)
unfolding body subtract_with_carry replace sources_of value_from difference_of
subtract_with_carry_all instr givable state pages thread temps values ok same left =
    let plan = subtract_with_carry_plan instr in
    let found = found_at state instr.after in
    let after = effect plan.before found temps in
    let coded = difference_of 4 (temps 0 % 2 ^ 32) (temps 1 % 2 ^ 32) (carry_of state) in
    read_and_modify values temps (BodyDoes operations.SubtractWithCarry instr plan state pages thread temps) Long (operand instr 0) 1 2 Long (operand instr 1) 0 left (λ location first at second.
    replaces_as (Computed Long) (Computed Long) state pages thread instr.after ok Long (operand instr 1) (steps_of plan.slots instr) same location coded after plan.behind refl
    at givable (difference_made instr state pages thread temps second first) (low_below Long _) refl
    (computed_long state (effect plan.behind found after) coded (low_below Long _) (difference_made instr state pages thread temps second first) refl refl (difference_v instr state pages thread temps second first) (difference_c instr state pages thread temps second first))
    Next tt instr.after refl (coded_end_of pages coded instr.after) (λ s e. refl))

-- ---- rotation
-- what the right shift is by
abbrev lacking : ℕ → ℕ
lacking k = (32 + (256 - k % 256)) % 256

lacks : (k : ℕ) → k < 32 → lacking k % 4294967296 ≡ 32 - k
lacks k small = omega (arith, small)

lacks_literal : (k : ℕ) → (32 - k) % 4294967296 ≡ 32 - k
lacks_literal k = omega arith

rotated : (x k right : ℕ) → x < 2 ^ 32 → k < 32 → right ≡ 32 - k
    → bit_or ((if nat_lt (k % 4294967296) 32 then x * 2 ^ (k % 4294967296) % 4294967296 else 0) % 18446744073709551616) ((if nat_lt right 32 then x / 2 ^ right else 0) % 18446744073709551616) ≡ rotation_of x k
rotated x k right lt small lack = elim (eqb_tells k 0) [
  | inl is ↦ (let low : x * 1 % 4294967296 ≡ x = omega (arith, lt) in
      let twice : x * 1 % 4294967296 % 18446744073709551616 ≡ x = omega (arith, lt) in
      let whole : x / 1 ≡ x = omega arith in
      rw (lack, is.1) (ap (λ n. bit_or n 0) twice ∙ or_zero_r x ∙ sym (or_self x) ∙ ap (λ n. bit_or n x) (sym low) ∙ ap (λ n. bit_or (x * 1 % 4294967296) n) (sym whole)))
  | inr not ↦ (let some : 0 < k = grind (arith, nat_tests, not.0) in
      let same : k % 4294967296 ≡ k = omega (arith, small) in
      let same' : k % 32 ≡ k = omega (arith, small) in
      let lack' : (32 - k) % 32 ≡ 32 - k = omega (arith, some, small) in
      let test : nat_lt k 32 ≡ true = grind (arith, nat_tests) in
      let test' : nat_lt (32 - k) 32 ≡ true = grind (arith, nat_tests) in
      let le = shr_le x (32 - k) in
      let right : x / 2 ^ (32 - k) % 18446744073709551616 ≡ x / 2 ^ (32 - k) = mod-eq_of_lt (omega (arith, le, lt)) in
      let left : x * 2 ^ k % 4294967296 % 18446744073709551616 ≡ x * 2 ^ k % 4294967296 = let below = low_below Long (x * 2 ^ k) in mod-eq_of_lt (omega (arith, below)) in
      rw (lack, same, same', lack', test, test', right, left) refl)
]

-- what is shifted is a longword
shifted_below : (b : Bool) (y : ℕ) → y < 4294967296 → (if b then y else 0) % 18446744073709551616 < 4294967296
shifted_below true y lt = omega (arith, lt)
shifted_below false y lt = lit< tt

right_below : (x k : ℕ) → x < 4294967296 → x / 2 ^ k < 4294967296
right_below x k lt = let le = shr_le x k in omega (arith, le, lt)

-- by a count that is computed
counted_all : (instr : Instr) → IsGivable (operand instr 2) Long → AllDo operations.Rotate instr (shift_plan_with rotated_program [] instr)
unfolding body give sources_of value_from
counted_all instr givable state pages thread temps values ok same left =
    let plan = shift_plan_with rotated_program [] instr in
    let found = found_at state instr.after in
    let after = effect plan.before found temps in
    let k = temps 0 % 256 % 32 in
    let x = temps 1 % 2 ^ 32 in
    let v = rotation_of x k in
    let made : after 2 ≡ v = rw (and_mask (temps 0 % 256) 5) (rotated x k _ (low_below Long _) (mod_below _ 32 (lit< tt)) (lacks k (mod_below _ 32 (lit< tt)))) in
    let fits : v < 2 ^ 32 = subst (λ n. n < 2 ^ 32) made (or_lt 32 _ _ (shifted_below _ _ (low_below Long _)) (shifted_below _ _ (right_below x _ (low_below Long _)))) in
    read_twice_and_write values temps (BodyDoes operations.Rotate instr plan state pages thread temps) Byte Long Long (operand instr 0) (operand instr 1) (operand instr 2) 0 1 1 2 left (λ location count source at.
    gives_as (Result Long) Kept state pages thread instr.after ok Long (operand instr 2) (steps_of plan.slots instr) same location (value_coded state Long v) after plan.behind refl
    at givable made fits refl (result_ready Long state v after fits made) Next tt instr.after refl
    (value_end pages Long v instr.after) (value_ends pages state Long v instr.after))

-- by a literal count
literal_number : (n : ℕ) → n % 256 % 256 % 32 ≡ n % 32
literal_number n = omega arith

literal_all : (instr : Instr) (literal : ℕ) → operand instr 0 ≡ operands.Value literal → IsGivable (operand instr 2) Long
    → AllDo operations.Rotate instr (shift_plan_with (rotated_by (literal % 32)) [] instr)
unfolding body give sources_of value_from
literal_all instr literal here givable state pages thread temps values ok same left =
    let plan = shift_plan_with (rotated_by (literal % 32)) [] instr in
    let found = found_at state instr.after in
    let after = effect plan.before found temps in
    let k = literal % 32 in
    let x = temps 1 % 2 ^ 32 in
    let v = rotation_of x (temps 0 % 256 % 32) in
    let known : temps 0 ≡ literal % 256 = subst (λ (o : Operand). IsKnownValue o Byte (temps 0)) here left.3.2 in
    let whole : k ≡ temps 0 % 256 % 32 = sym (ap (λ n. n % 256 % 32) known ∙ literal_number literal) in
    let made : after 2 ≡ v = rotated x k _ (low_below Long _) (mod_below _ 32 (lit< tt)) (lacks_literal k) ∙ ap (λ n. rotation_of x n) whole in
    let fits : v < 2 ^ 32 = subst (λ n. n < 2 ^ 32) made (or_lt 32 _ _ (shifted_below _ _ (low_below Long _)) (shifted_below _ _ (right_below x _ (low_below Long _)))) in
    read_twice_and_write values temps (BodyDoes operations.Rotate instr plan state pages thread temps) Byte Long Long (operand instr 0) (operand instr 1) (operand instr 2) 0 1 1 2 left (λ location count source at.
    gives_as (Result Long) Kept state pages thread instr.after ok Long (operand instr 2) (steps_of plan.slots instr) same location (value_coded state Long v) after plan.behind refl
    at givable made fits refl (result_ready Long state v after fits made) Next tt instr.after refl
    (value_end pages Long v instr.after) (value_ends pages state Long v instr.after))

pub rotate_all : (instr : Instr) → IsGivable (operand instr 2) Long → AllDo operations.Rotate instr (rotate_plan instr)
rotate_all instr givable = by_count (operand instr 0) refl
  where
    by_count : (count : Operand) → operand instr 0 ≡ count → AllDo operations.Rotate instr (shift_plan_with (before_rotation count) [] instr)
    by_count (operands.Value literal) is = literal_all instr literal is givable
    by_count operands.Unused is = counted_all instr givable
    by_count (operands.Register n) is = counted_all instr givable
    by_count (operands.Place base index) is = counted_all instr givable
    by_count (operands.Target address) is = counted_all instr givable
