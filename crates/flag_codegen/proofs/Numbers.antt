-- Condition codes of numbers, as operate instructions find them.
use Rattle.std.proofs.Common.{◌≡◌, ℕ, ◌-◌, ◌/◌, ◌%◌, ◌<◌, refl, arith, Bool, true, false}
use Rattle.std.specs.Prelude.{nat_lt, nat_le, int_lt, bit_xor, not}
use Rattle.std.proofs.lemmas.Bool.Decides.{nat_tests}
use Rattle.std.proofs.lemmas.Int.{ints}
use Rattle.compute_sequences.proofs.Comparing.{raised}
use Rattle.vax_form.specs.Size.{bytes_of}
use Rattle.vax_form.specs.declared.instr.Size.{Size}
use Rattle.vax_form.specs.declared.instr.Size.TheVariants.{Byte, Word, Long, Quad}
use Rattle.vt_words.specs.Values.{bit}
use Rattle.vt_words.specs.Quad.{right}
use Rattle.vt_words.specs.Arithmetic.{sum_of, difference_of}
use Rattle.alpha_meaning.specs.Result.{signed as signed_quad}
use Rattle.micro_ops.specs.Values.{bits_of, limit_of, signed}

-- N
pub sign_is : (size : Size) (x : ℕ) → x < limit_of size → right x ((bits_of size - 1) % 64) ≡ bit (nat_le (limit_of size / 2) x)
sign_is Byte x lt = grind (arith, nat_tests)
sign_is Word x lt = grind (arith, nat_tests)
sign_is Long x lt = grind (arith, nat_tests)
sign_is Quad x lt = grind (arith, nat_tests)

pub less_is : (size : Size) (a b : ℕ) → a < limit_of size → b < limit_of size
    → int_lt (signed_quad (raised size a)) (signed_quad (raised size b)) ≡ int_lt (signed size a) (signed size b)
less_is Byte a b lt lt' = grind (arith, nat_tests, ints)
less_is Word a b lt lt' = grind (arith, nat_tests, ints)
less_is Long a b lt lt' = grind (arith, nat_tests, ints)
less_is Quad a b lt lt' = grind (arith, nat_tests, ints)

-- two truths differ
abbrev pub differ : Bool → Bool → Bool
differ true b = not b
differ false b = b

pub xor_is : (p q : Bool) → bit_xor (bit p) (bit q) ≡ bit (differ p q)
xor_is true true = refl
xor_is true false = refl
xor_is false true = refl
xor_is false false = refl

pub sum_overflow : (size : Size) (a b : ℕ) → a < limit_of size → b < limit_of size
    → differ (int_lt (signed size (sum_of (bytes_of size) a b false).value) (signed size a)) (nat_le (limit_of size / 2) b) ≡ (sum_of (bytes_of size) a b false).v
unfolding sum_of
sum_overflow Byte a b lt lt' = grind (arith, nat_tests, ints)
sum_overflow Word a b lt lt' = grind (arith, nat_tests, ints)
sum_overflow Long a b lt lt' = grind (arith, nat_tests, ints)
sum_overflow Quad a b lt lt' = grind (arith, nat_tests, ints)

pub difference_overflow : (size : Size) (a b : ℕ) → a < limit_of size → b < limit_of size
    → differ (int_lt (signed size a) (signed size b)) (nat_le (limit_of size / 2) (difference_of (bytes_of size) a b false).value) ≡ (difference_of (bytes_of size) a b false).v
unfolding difference_of
difference_overflow Byte a b lt lt' = grind (arith, nat_tests, ints)
difference_overflow Word a b lt lt' = grind (arith, nat_tests, ints)
difference_overflow Long a b lt lt' = grind (arith, nat_tests, ints)
difference_overflow Quad a b lt lt' = grind (arith, nat_tests, ints)

pub sum_carry : (size : Size) (a b : ℕ) → a < limit_of size → b < limit_of size → nat_lt (sum_of (bytes_of size) a b false).value a ≡ (sum_of (bytes_of size) a b false).c
unfolding sum_of
sum_carry Byte a b lt lt' = grind (arith, nat_tests)
sum_carry Word a b lt lt' = grind (arith, nat_tests)
sum_carry Long a b lt lt' = grind (arith, nat_tests)
sum_carry Quad a b lt lt' = grind (arith, nat_tests)

pub difference_borrow : (size : Size) (a b : ℕ) → nat_lt a b ≡ (difference_of (bytes_of size) a b false).c
unfolding difference_of
difference_borrow size a b = grind (arith, nat_tests)
