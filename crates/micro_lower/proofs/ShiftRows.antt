-- The arithmetic shift does what its instruction does.
use Rattle.std.proofs.Common.{◌≡◌, ℕ, ◌+◌, ◌-◌, ◌*◌, ◌/◌, ◌%◌, ◌^◌, ◌<◌, ◌≤◌, ◌==◌, Bool, true, false, refl, sym, ap, ◌∙◌, subst, arith, inl, inr, lit<}
use Rattle.std.specs.Prelude.{ℤ, pos, ◌*ℤ◌, ◌&&◌, not, nat_lt, nat_le, int_lt, min, bit_and, bit_xor, unsigned_abs, if◌then◌else◌}
use Rattle.std.specs.Int.{int_div_euclid}
use Rattle.std.proofs.Math.Nat.{mod-eq_of_lt}
use Rattle.std.proofs.Math.Pow.{pow_mono}
use Rattle.std.proofs.lemmas.Bool.{cases_lt, lt-ltb}
use Rattle.std.proofs.lemmas.Bool.Decides.{nat_tests}
use Rattle.std.proofs.lemmas.Int.{ints, unsigned_abs-mul}
use Rattle.std.proofs.lemmas.Nat.{mod_below, mul-le}
use Rattle.std.proofs.Math.Bool.{and-false, and-true}
use Rattle.vax_form.specs.declared.instr.Instr.{Instr}
use Rattle.vax_form.specs.declared.instr.Size.TheVariants.{Byte, Long, Quad}
use Rattle.vax_form.specs.declared.operation.Operation.TheVariants as operations
use Rattle.vax_meaning.specs.Arithmetic.{shift_of, give_coded}
use Rattle.vax_meaning.specs.Evaluation.{operand}
use Rattle.vax_meaning.specs.Instructions.{body}
use Rattle.vt_words.specs.Arithmetic.{coded_value}
use Rattle.vt_words.specs.Quad.{sign_extended}
use Rattle.vt_words.specs.Shifts.{left_shift_of, right_shift_of}
use Rattle.vt_words.specs.Values.{bit, fits, signed_value, value_of}
use Rattle.vt_words.proofs.Shifting.{shifted_out}
use Rattle.micro_ops.specs.Sources.{sources_of}
use Rattle.micro_ops.specs.Values.{value_from}
use Rattle.micro_ops.specs.declared.codes.CodeSource.TheVariants.{Computed, Zero}
use Rattle.micro_ops.specs.declared.program.Exit.TheVariants.{Next}
use Rattle.micro_ops.proofs.Sizes.{low_below}
use Rattle.operand_programs.specs.Results.{IsGivable}
use Rattle.micro_lower.specs.Plans.{steps_of}
use Rattle.micro_lower.specs.Rows.{arithmetic_shift_plan}
use Rattle.micro_lower.proofs.Endings.{found_at}
use Rattle.micro_lower.proofs.Fitting.{value_below, product_wide}
use Rattle.micro_lower.proofs.Overflow.{fits_where, low_of, signed_small, turned}
use Rattle.micro_lower.proofs.Given.{coded_end_of, gives_as}
use Rattle.micro_lower.proofs.Overflow.{extended_below, flipped, negative_is}
use Rattle.micro_lower.proofs.Planned.{AllDo, BodyDoes, read_twice_and_write}
use Rattle.micro_lower.proofs.Ready.{effect}

-- ---- the value
-- what a negative count lacks to 256
abbrev lacking : ℕ → ℕ
lacking c = (0 % 256 + (256 - c % 256)) % 256

pub sign_left : (x : ℕ) → x < 2 ^ 32 → (if nat_lt x (2 ^ 32 / 2) then 0 else 2 ^ 32 - 1) ≡ value_of 4 (int_div_euclid (signed_value 4 x) (pos (2 ^ 31)))
sign_left x lt = grind (arith, nat_tests, ints)

to_left : (x c : ℕ) → x < 2 ^ 32 → (if nat_lt c 32 then x * 2 ^ c % 2 ^ 32 else 0) % 2 ^ 32 ≡ (left_shift_of x c).value
unfolding left_shift_of
to_left x c lt = elim (cases_lt c 32) [
  | inl below ↦ (let t : nat_lt c 32 ≡ true = grind (arith, nat_tests) in
      let u : nat_lt 31 c ≡ false = grind (arith, nat_tests) in
      rw (t, u) (mod-eq_of_lt (mod_below (x * 2 ^ c) (2 ^ 32) (lit< tt))))
  | inr above ↦ (let t : nat_lt c 32 ≡ false = grind (arith, nat_tests) in
      let u : nat_lt 31 c ≡ true = grind (arith, nat_tests) in
      rw (t, u) refl)
]

to_right : (x n : ℕ) → x < 2 ^ 32
    → (if nat_lt n 32 then value_of 4 (int_div_euclid (signed_value 4 x) (pos (2 ^ n))) else (if nat_lt x (2 ^ 32 / 2) then 0 else 2 ^ 32 - 1)) % 2 ^ 32 ≡ right_shift_of x n
to_right x n lt = elim (cases_lt n 32) [
  | inl below ↦ (let t : nat_lt n 32 ≡ true = grind (arith, nat_tests) in
      let m : min n 31 ≡ n = omega (arith, below) in
      rw (t, m) (mod-eq_of_lt (value_below Long (int_div_euclid (signed_value 4 x) (pos (2 ^ n))))))
  | inr above ↦ (let t : nat_lt n 32 ≡ false = grind (arith, nat_tests) in
      let m : min n 31 ≡ 31 = omega (arith, above) in
      rw (t, m) (ap (λ k. k % 2 ^ 32) (sign_left x lt) ∙ mod-eq_of_lt (value_below Long (int_div_euclid (signed_value 4 x) (pos (2 ^ 31))))))
]

shifted : (x c : ℕ) → x < 2 ^ 32 → c < 256
    → (if bit (int_lt (signed_value 1 (c % 256)) (signed_value 1 (0 % 256))) % 2 ^ 32 == 0
    then (if nat_lt (c % 2 ^ 32) 32 then x * 2 ^ (c % 2 ^ 32) % 2 ^ 32 else 0) % 2 ^ 32
    else (if nat_lt (lacking c % 2 ^ 32) 32 then value_of 4 (int_div_euclid (signed_value 4 x) (pos (2 ^ (lacking c % 2 ^ 32)))) else (if nat_lt x (2 ^ 32 / 2) then 0 else 2 ^ 32 - 1)) % 2 ^ 32)
    ≡ (shift_of x c).value
shifted x c lt small =
    let same : c % 2 ^ 32 ≡ c = omega (arith, small) in
    let sign = negative_is Byte c small in
    elim (cases_lt c 128) [
      | inl below ↦ (let n : nat_le 128 c ≡ false = grind (arith, nat_tests) in
          let t : nat_lt c 128 ≡ true = grind (arith, nat_tests) in
          rw (sign, n, same, t) (to_left x c lt))
      | inr above ↦ (let n : nat_le 128 c ≡ true = grind (arith, nat_tests) in
          let t : nat_lt c 128 ≡ false = grind (arith, nat_tests) in
          let l : lacking c % 2 ^ 32 ≡ 256 - c = omega (arith, small, above) in
          rw (sign, n, l, t) (to_right x (256 - c) lt))
    ]

-- ---- V
-- the count, but at most 32
counted : (c : ℕ) → c < 256 → (if bit (nat_lt (32 % 256) (c % 256)) % 256 == 0 then c % 256 % 256 else 32 % 256) % 2 ^ 64 ≡ min c 32
counted c small =
    let byte : c % 256 ≡ c = omega (arith, small) in
    elim (cases_lt 32 c) [
      | inl above ↦ (let t : nat_lt 32 c ≡ true = grind (arith, nat_tests) in
          let m : min c 32 ≡ 32 = omega (arith, above) in
          rw (byte, t, m) refl)
      | inr below ↦ (let t : nat_lt 32 c ≡ false = grind (arith, nat_tests) in
          let m : min c 32 ≡ c = omega (arith, below) in
          let wide : c % 2 ^ 64 ≡ c = omega (arith, small) in
          rw (byte, t, m, byte, wide) refl)
    ]

extended_signed : (x : ℕ) → x < 2 ^ 32 → signed_value 8 (sign_extended x 32) ≡ signed_value 4 x
extended_signed x lt = grind (arith, nat_tests, ints)

positive : (p : ℕ) → p < 2 ^ 63 → signed_value 8 p ≡ pos p
positive p lt = let t : nat_lt p (2 ^ 63) ≡ true = lt-ltb p (2 ^ 63) lt in rw t refl

extended_itself : (n : ℕ) → n < 2 ^ 64 → sign_extended n 64 ≡ n
extended_itself n lt = grind (arith, nat_tests)

-- a longword times a power of two, as a quadword
wide : (x p : ℕ) → x < 2 ^ 32 → p < 2 ^ 63 → value_of 8 (signed_value 4 x *ℤ pos p) ≡ sign_extended x 32 * p % 2 ^ 64
wide x p lt small =
    let s = sign_extended x 32 in
    let below : s < 2 ^ 64 = extended_below Long x lt in
    let bounded : p < 2 ^ 64 = omega (arith, small) in
    ap (λ (n : ℤ). value_of 8 (n *ℤ pos p)) (sym (extended_signed x lt))
    ∙ ap (λ (n : ℤ). value_of 8 (signed_value 8 s *ℤ n)) (sym (positive p small))
    ∙ product_wide Quad s p below bounded
    ∙ ap (λ n. n * sign_extended p 64 % 2 ^ 64) (extended_itself s below)
    ∙ ap (λ n. s * n % 2 ^ 64) (extended_itself p bounded)

fits_below : (x c : ℕ) → x < 2 ^ 32 → c < 32 → (let y = sign_extended x 32 * 2 ^ c % 2 ^ 64 in (y == sign_extended (y % 2 ^ 32) 32) ≡ fits 4 (signed_value 4 x *ℤ pos (2 ^ c)))
fits_below x c lt below =
    let n = signed_value 4 x *ℤ pos (2 ^ c) in
    let y = sign_extended x 32 * 2 ^ c % 2 ^ 64 in
    let most : 2 ^ c ≤ 2 ^ 31 = pow_mono {i = c} {j = 31} (omega (arith, below)) in
    let is : value_of 8 n ≡ y = wide x (2 ^ c) lt (omega (arith, most)) in
    let m = mul-le (unsigned_abs (signed_value 4 x)) (2 ^ c) (2 ^ 31) (2 ^ 31) (signed_small Long x tt lt) most in
    let small : unsigned_abs n < 2 ^ 63 = omega (arith, m, unsigned_abs-mul (signed_value 4 x) (pos (2 ^ c))) in
    turned y (sign_extended (y % 2 ^ 32) 32)
    ∙ ap (λ k. sign_extended (k % 2 ^ 32) 32 == k) (sym is)
    ∙ ap (λ k. sign_extended k 32 == value_of 8 n) (sym (low_of Long n))
    ∙ sym (fits_where Long n tt small)

high_half : (x : ℕ) → x < 2 ^ 32 → sign_extended x 32 * 2 ^ 32 % 2 ^ 64 ≡ x * 2 ^ 32
high_half x lt = grind (arith, nat_tests)

pub low_none : (x : ℕ) → x * 2 ^ 32 % 2 ^ 32 ≡ 0
low_none x = omega arith

none_where : (x : ℕ) → (x * 2 ^ 32 == 0) ≡ (x == 0)
none_where x = grind (arith, nat_tests)

negated : (a b : Bool) → not a ≡ not b → b ≡ a
negated true true is = refl
negated true false is = cc
negated false true is = cc
negated false false is = refl

fits_above : (x c : ℕ) → x < 2 ^ 32 → 32 ≤ c → (let y = sign_extended x 32 * 2 ^ 32 % 2 ^ 64 in (y == sign_extended (y % 2 ^ 32) 32) ≡ fits 4 (signed_value 4 x *ℤ pos (2 ^ c)))
fits_above x c lt above =
    ap (λ k. k == sign_extended (k % 2 ^ 32) 32) (high_half x lt)
    ∙ ap (λ k. x * 2 ^ 32 == sign_extended k 32) (low_none x)
    ∙ none_where x
    ∙ negated _ _ (shifted_out x c lt (omega (arith, above)))

pub fits_so : (x c : ℕ) → x < 2 ^ 32 → (let y = sign_extended x 32 * 2 ^ min c 32 % 2 ^ 64 in (y == sign_extended (y % 2 ^ 32) 32) ≡ fits 4 (signed_value 4 x *ℤ pos (2 ^ c)))
fits_so x c lt = elim (cases_lt c 32) [
  | inl below ↦ (let m : min c 32 ≡ c = omega (arith, below) in rw m (fits_below x c lt below))
  | inr above ↦ (let m : min c 32 ≡ 32 = omega (arith, above) in rw m (fits_above x c lt above))
]

and_not : (b n : Bool) → bit_and (bit b % 256) (256 - 1 - bit n % 256) ≡ bit (b && not n)
and_not true true = refl
and_not true false = refl
and_not false true = refl
and_not false false = refl

overflows : (x c : ℕ) → x < 2 ^ 32 → c < 256 → (not (fits 4 (signed_value 4 x *ℤ pos (2 ^ c))) && not (nat_le 128 c)) ≡ (shift_of x c).v
unfolding left_shift_of
overflows x c lt small = elim (cases_lt c 128) [
  | inl below ↦ (let n : nat_le 128 c ≡ false = grind (arith, nat_tests) in
      let t : nat_lt c 128 ≡ true = grind (arith, nat_tests) in
      rw (n, t) (and-true _))
  | inr above ↦ (let n : nat_le 128 c ≡ true = grind (arith, nat_tests) in
      let t : nat_lt c 128 ≡ false = grind (arith, nat_tests) in
      rw (n, t) (and-false _))
]

overflow_made : (x c : ℕ) → x < 2 ^ 32 → c < 256
    → (let m = (if bit (nat_lt (32 % 256) (c % 256)) % 256 == 0 then c % 256 % 256 else 32 % 256) % 2 ^ 64 in
    let y = (if nat_lt m 64 then sign_extended x 32 % 2 ^ 64 * 2 ^ m % 2 ^ 64 else 0) in
    bit_and (bit_xor (bit (y % 2 ^ 64 == sign_extended (y % 2 ^ 32) 32 % 2 ^ 64) % 256) 1 % 256) (256 - 1 - bit (int_lt (signed_value 1 (c % 256)) (signed_value 1 (0 % 256))) % 256)
    ≡ bit (shift_of x c).v)
overflow_made x c lt small =
    let s = sign_extended x 32 in
    let y = s * 2 ^ min c 32 % 2 ^ 64 in
    let below : s % 2 ^ 64 ≡ s = mod-eq_of_lt (extended_below Long x lt) in
    let m : min c 32 ≤ 32 = omega arith in
    let t : nat_lt (min c 32) 64 ≡ true = lt-ltb (min c 32) 64 (omega (arith, m)) in
    let once : y % 2 ^ 64 ≡ y = mod-eq_of_lt (mod_below (s * 2 ^ min c 32) (2 ^ 64) (lit< tt)) in
    let again : sign_extended (y % 2 ^ 32) 32 % 2 ^ 64 ≡ sign_extended (y % 2 ^ 32) 32 = mod-eq_of_lt (extended_below Long (y % 2 ^ 32) (low_below Long y)) in
    let n = not (fits 4 (signed_value 4 x *ℤ pos (2 ^ c))) in
    rw (counted c small, t, below, once, again, fits_so x c lt, negative_is Byte c small, flipped (fits 4 (signed_value 4 x *ℤ pos (2 ^ c))))
    (and_not n (nat_le 128 c) ∙ ap bit (overflows x c lt small))

-- N, Z and C
pub either_coded : (left : Bool) (x c : ℕ) → (let s = (if left then left_shift_of x c else coded_value 4 (right_shift_of x (256 - c)) false false) in
    (s.n ≡ nat_le (2 ^ 31) s.value) × (s.z ≡ (s.value == 0)) × (s.c ≡ false))
unfolding left_shift_of
either_coded true x c = (refl, refl, refl)
either_coded false x c = (refl, refl, refl)

chosen_below : (b : Bool) (x y : ℕ) → (if b then x % 2 ^ 32 else y % 2 ^ 32) < 2 ^ 32
chosen_below true x y = low_below Long x
chosen_below false x y = low_below Long y

-- by a count that is computed
pub arithmetic_shift_all : (instr : Instr) → IsGivable (operand instr 2) Long → AllDo operations.ArithmeticShift instr (arithmetic_shift_plan instr)
unfolding body give_coded sources_of value_from
arithmetic_shift_all instr givable state pages thread temps values ok same left =
    let plan = arithmetic_shift_plan instr in
    let found = found_at state instr.after in
    let after = effect plan.before found temps in
    let x = temps 1 % 2 ^ 32 in
    let coded = shift_of x (temps 0 % 2 ^ 8) in
    let lt : x < 2 ^ 32 = low_below Long (temps 1) in
    let codes = either_coded (nat_lt (temps 0 % 2 ^ 8) 128) x (temps 0 % 2 ^ 8) in
    read_twice_and_write values temps (BodyDoes operations.ArithmeticShift instr plan state pages thread temps) Byte Long Long (operand instr 0) (operand instr 1) (operand instr 2) 0 1 1 2 left (λ location count source at.
    let whole : temps 0 ≡ temps 0 % 2 ^ 8 = sym (mod-eq_of_lt count) in
    let made : after 2 ≡ coded.value = shifted x (temps 0) lt count ∙ ap (λ n. (shift_of x n).value) whole in
    let fits : coded.value < 2 ^ 32 = subst (λ n. n < 2 ^ 32) made (chosen_below _ _ _) in
    let v : effect plan.behind found after 3 ≡ bit coded.v = overflow_made x (temps 0) lt count ∙ ap (λ n. bit (shift_of x n).v) whole in
    gives_as (Computed Long) Zero state pages thread instr.after ok Long (operand instr 2) (steps_of plan.slots instr) same location coded after plan.behind refl
    at givable made fits refl
    ((((rw made fits, rw made codes.0, rw made codes.1), v)), codes.2) Next tt instr.after refl
    (coded_end_of pages coded instr.after) (λ s e. refl))
