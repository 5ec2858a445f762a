-- The words of constants.
use Rattle.std.proofs.Common.{◌≡◌, ℕ, ◌+◌, ◌/◌, ◌%◌, ◌^◌, ◌<◌, ◌≤◌, refl, ap, ◌∙◌, arith, length, Bool, true, false, eqb, ne_eqb, rules, lit<, lit≤}
use Rattle.std.specs.Prelude.{All, FitsSigned, nat_lt, if◌then◌else◌}
use Rattle.std.specs.Int.{cast_signed, cast_unsigned, w16, w64}
use Rattle.std.proofs.lemmas.Bool.{ltb-true}
use Rattle.vax_form.specs.declared.instr.Size.{Size}
use Rattle.vax_form.specs.declared.instr.Size.TheVariants.{Byte, Word, Long, Quad}
use Rattle.vt_words.specs.Quad.{left}
use Rattle.alpha_encode.specs.Halves.{low_half}
use Rattle.alpha_encode.specs.Words.{IsEncodable}
use Rattle.alpha_meaning.specs.State.{Regs}
use Rattle.alpha_meaning.specs.Result.{plus, times}
use Rattle.alpha_meaning.proofs.Registers.{eqb_self}
use Rattle.micro_ops.specs.Values.{low}
use Rattle.micro_ops.specs.WordCounts.{by_size}
use Rattle.compute_sequences.specs.Registers.{IsTarget, may_change}
use Rattle.compute_sequences.specs.Constants.{high_long, low_long, code_of_size, least_size, constant_code}
use Rattle.compute_sequences.specs.Promises.{LeavesConstant, HasLow}
use Rattle.compute_sequences.proofs.Straight.{Fine, Each, each_map, all_of, afters, straight}
use Rattle.compute_sequences.proofs.Halves.{with_halves, short_low, short_exact, long_low, quad_is}

-- where `to` is a register of its own
module _ (to : ℕ) (real : eqb to 31 ≡ false) (f : Regs) (zero : f 31 ≡ 0) where
  abbrev behind : (value : ℕ) → Size → ℕ
  behind value size = afters (code_of_size value size to) f to

  short_is : (value : ℕ) → behind value Byte ≡ plus 0 (times (cast_unsigned w64 (low_half (low_long value))) 1)
  short_is value = rw (real, eqb_self to, zero) refl

  long_is : (value : ℕ) → behind value Long ≡ with_halves 0 (low_long value)
  long_is value = rw (real, eqb_self to, zero) refl

  quad_of : (value : ℕ) → behind value Quad ≡ with_halves (left (with_halves 0 (high_long value)) 32) (low_long value)
  quad_of value = rw (real, eqb_self to, zero) refl

  of_size_low : (value : ℕ) → value < 2 ^ 64 → (size : Size) → HasLow size value (behind value size)
  of_size_low value lt Byte = let e = short_is value in let h = short_low (low_long value) in ap (λ x. x % 2 ^ 8) e ∙ omega arith
  of_size_low value lt Word = let e = short_is value in let h = short_low (low_long value) in ap (λ x. x % 2 ^ 16) e ∙ omega arith
  of_size_low value lt Long = ap (λ x. x % 2 ^ 32) (long_is value) ∙ (long_low (low_long value) (omega arith))
  of_size_low value lt Quad = ap (λ x. x % 2 ^ 64) (quad_of value ∙ quad_is value lt)

  of_size_below : (value : ℕ) (size : Size) → behind value size < 2 ^ 64
  of_size_below value Byte = rw (real, eqb_self to) (omega arith)
  of_size_below value Word = rw (real, eqb_self to) (omega arith)
  of_size_below value Long = rw (real, eqb_self to) (omega arith)
  of_size_below value Quad = rw (real, eqb_self to) (omega arith)

  pub constant_below : (value : ℕ) (size : Size) → afters (constant_code value size to) f to < 2 ^ 64
  constant_below value size = of_size_below value (least_size value size)

  -- a number below 2^15 is left as it is
  small_is : (value : ℕ) → value < 2 ^ 15 → behind value Word ≡ value
  small_is value lt = short_is value ∙ short_exact (low_long value) value (omega arith) lt

  pub constant_low : (value : ℕ) → value < 2 ^ 64 → (size : Size) → HasLow size value (afters (constant_code value size to) f to)
  constant_low value lt size = by (nat_lt value (2 ^ 15)) refl
    where
      by : (b : Bool) → nat_lt value (2 ^ 15) ≡ b → HasLow size value (behind value (if b then Word else size))
      by true e = ap (low size) (small_is value (ltb-true value (2 ^ 15) e))
      by false e = of_size_low value lt size

pub half_fits : (n : ℕ) → FitsSigned w16 (cast_signed w16 (n % 2 ^ 16))
half_fits n = search rules

module _ (may : ℕ → Bool) (to : ℕ) (register : to < 32) (target : may to ≡ true) where
  of_size_fine : (value : ℕ) (size : Size) → Each (Fine may) (code_of_size value size to)
  of_size_fine value Byte = (record { local = refl; target = target; encodable = (register, lit< tt, half_fits (low_long value)) }, tt)
  of_size_fine value Word = (record { local = refl; target = target; encodable = (register, lit< tt, half_fits (low_long value)) }, tt)
  of_size_fine value Long = (
    record { local = refl; target = target; encodable = (register, lit< tt, half_fits ((low_long value + 2 ^ 15) / 2 ^ 16)) },
    (record { local = refl; target = target; encodable = (register, register, half_fits (low_long value)) }, tt),
  )
  of_size_fine value Quad = (
    record { local = refl; target = target; encodable = (register, lit< tt, half_fits ((high_long value + 2 ^ 15) / 2 ^ 16)) },
    (
      record { local = refl; target = target; encodable = (register, register, half_fits (high_long value)) },
      (
        record { local = refl; target = target; encodable = (register, lit< tt, register) },
        (
          record { local = refl; target = target; encodable = (register, register, half_fits ((low_long value + 2 ^ 15) / 2 ^ 16)) },
          (record { local = refl; target = target; encodable = (register, register, half_fits (low_long value)) }, tt),
        ),
      ),
    ),
  )

  pub constant_fine : (value : ℕ) (size : Size) → Each (Fine may) (constant_code value size to)
  constant_fine value size = of_size_fine value (least_size value size)

-- ---- how many
of_size_length : (value : ℕ) (size : Size) (to : ℕ) → length (code_of_size value size to) ≤ by_size size 1 2 5
of_size_length value Byte to = lit≤ tt
of_size_length value Word to = lit≤ tt
of_size_length value Long to = lit≤ tt
of_size_length value Quad to = lit≤ tt

one_word : (size : Size) → 1 ≤ by_size size 1 2 5
one_word Byte = lit≤ tt
one_word Word = lit≤ tt
one_word Long = lit≤ tt
one_word Quad = lit≤ tt

pub constant_length : (value : ℕ) (size : Size) (to : ℕ) → length (constant_code value size to) ≤ by_size size 1 2 5
constant_length value size to = by (nat_lt value (2 ^ 15))
  where
    by : (b : Bool) → length (code_of_size value (if b then Word else size) to) ≤ by_size size 1 2 5
    by true = one_word size
    by false = of_size_length value size to

-- ---- the whole
pub target_real : (to : ℕ) → IsTarget to → eqb to 31 ≡ false
target_real to is = let high = is.high in ne_eqb to 31 (λ (e : to ≡ 31). absurd (omega arith))

pub target_fits : (to : ℕ) → IsTarget to → to < 32
target_fits to is = let high = is.high in omega arith

pub may_target : (to : ℕ) → may_change to to ≡ true
may_target to = rw (eqb_self to) refl

pub leaves_constant : (value : ℕ) (size : Size) (to : ℕ) → value < 2 ^ 64 → IsTarget to → LeavesConstant value size to (constant_code value size to)
leaves_constant value size to lt is f zero =
    straight (HasLow size value) to (constant_code value size to) f (constant_fine (may_change to) to (target_fits to is) (may_target to) value size)
    (constant_low to (target_real to is) f zero value lt size)

pub constant_encodable : (value : ℕ) (size : Size) (to : ℕ) → IsTarget to → All IsEncodable (constant_code value size to)
constant_encodable value size to is =
    all_of IsEncodable (constant_code value size to)
    (each_map (Fine (may_change to)) IsEncodable (λ i fine. fine.encodable) (constant_code value size to) (constant_fine (may_change to) to (target_fits to is) (may_target to) value size))
