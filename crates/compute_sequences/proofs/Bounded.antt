-- Computed numbers fit their size.
use Rattle.std.proofs.Common.{ℕ, ◌+◌, ◌-◌, ◌*◌, ◌/◌, ◌%◌, ◌^◌, ◌<◌, refl, sym, subst, arith, Bool, true, false}
use Rattle.std.specs.Prelude.{nat_lt, ◌==◌, int_lt, if◌then◌else◌}
use Rattle.std.proofs.lemmas.Nat.{and_le_l, mod_below, mul-lt, div_below, shr_le}
use Rattle.vax_form.specs.declared.instr.Size.{Size}
use Rattle.vt_words.specs.Values.{bit}
use Rattle.micro_ops.specs.declared.program.MicroOp.{MicroOp}
use Rattle.micro_ops.specs.declared.program.MicroOp.TheVariants.{Move, Add, Sub, Mul, And, Or, Xor, AndNot, ShiftLeft, ShiftRight, ShiftSigned, SignExtend, ZeroExtend, Equal, Less, LessUnsigned, SelectNonzero, MulHigh}
use Rattle.micro_ops.specs.Values.{bits_of, limit_of, low, signed, sign_of, signed_right, value_from}
use Rattle.micro_ops.proofs.Sizes.{low_below, or_fits, xor_fits}
use Rattle.compute_sequences.specs.Bounds.{computed_limit, ComputedFits}
use Rattle.compute_sequences.proofs.Shifting.{limit_some, signed_right_is, quad_fits, extended_is}

module _ (size : Size) where
  abbrev limit : ℕ
  limit = limit_of size

  some : 0 < limit
  some = let two = limit_some size in omega (arith, two)

  bit_fits : (b : Bool) → bit b < limit
  bit_fits true = let two = limit_some size in omega (arith, two)
  bit_fits false = some

  remainder_fits : (n : ℕ) → n % limit < limit
  remainder_fits n = mod_below n limit some

  either_fits : (b : Bool) (m n : ℕ) → m < limit → n < limit → (if b then m else n) < limit
  either_fits true m n lt lt' = lt
  either_fits false m n lt lt' = lt'

  signed_right_fits : (n k : ℕ) → n < limit → signed_right size n k < limit
  signed_right_fits n k lt = subst (λ x. x < limit) (sym (signed_right_is size n k lt)) (by (nat_lt n (limit / 2)))
    where
      by : (b : Bool) → (if b then n / 2 ^ k else limit - 1 - (limit - 1 - n) / 2 ^ k) < limit
      by true = let le = shr_le n k in omega (arith, le, lt)
      by false = let two = limit_some size in omega (arith, two)

  sign_fits : (n : ℕ) → sign_of size n < limit
  sign_fits n = let two = limit_some size in either_fits (nat_lt n (limit / 2)) 0 (limit - 1) some (omega (arith, two))

value_fits : (op : MicroOp) (size : Size) (a b held : ℕ) → a < limit_of size → b < limit_of size → value_from op size a b held < computed_limit op size
unfolding value_from
value_fits Move size a b held lt lt' = lt
value_fits ZeroExtend size a b held lt lt' = lt
value_fits SignExtend size a b held lt lt' = subst (λ x. x < 2 ^ 64) (sym (extended_is size a)) (quad_fits size (low size a) (low_below size a) (nat_lt (low size a) (limit_of size / 2)) refl)
value_fits Add size a b held lt lt' = remainder_fits size (a + b)
value_fits Sub size a b held lt lt' = remainder_fits size (a + (limit_of size - b))
value_fits Mul size a b held lt lt' = remainder_fits size (a * b)
value_fits And size a b held lt lt' = let le = and_le_l a b in omega (arith, le, lt)
value_fits Or size a b held lt lt' = or_fits size a b lt lt'
value_fits Xor size a b held lt lt' = xor_fits size a b lt lt'
value_fits AndNot size a b held lt lt' = let le = and_le_l a (limit_of size - 1 - b) in omega (arith, le, lt)
value_fits ShiftLeft size a b held lt lt' = either_fits size (nat_lt b (bits_of size)) (a * 2 ^ b % limit_of size) 0 (remainder_fits size (a * 2 ^ b)) (some size)
value_fits ShiftRight size a b held lt lt' = either_fits size (nat_lt b (bits_of size)) (a / 2 ^ b) 0 (let le = shr_le a b in omega (arith, le, lt)) (some size)
value_fits ShiftSigned size a b held lt lt' = either_fits size (nat_lt b (bits_of size)) (signed_right size a b) (sign_of size a) (signed_right_fits size a b lt) (sign_fits size a)
value_fits Equal size a b held lt lt' = bit_fits size (a == b)
value_fits Less size a b held lt lt' = bit_fits size (int_lt (signed size a) (signed size b))
value_fits LessUnsigned size a b held lt lt' = bit_fits size (nat_lt a b)
value_fits SelectNonzero size a b held lt lt' = either_fits size (a == 0) (low size held) b (low_below size held) lt'
value_fits MulHigh size a b held lt lt' = div_below (a * b) (limit_of size) (limit_of size) (some size) (mul-lt a b (limit_of size) (limit_of size) lt lt')

pub computed_fits : ComputedFits
computed_fits op size a b held = value_fits op size (low size a) (low size b) held (low_below size a) (low_below size b)
