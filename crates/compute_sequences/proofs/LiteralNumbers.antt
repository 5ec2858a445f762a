-- Operations by a constant, and on 0, in numbers.
use Rattle.std.proofs.Common.{◌≡◌, ℕ, ◌+◌, ◌/◌, ◌%◌, ◌^◌, ◌<◌, refl, arith, inl, inr, true, false, subst, eqb-true, lit<, ◌∙◌, sym, ap, Bool, ◌-◌}
use Rattle.std.specs.Prelude.{nat_lt, int_lt, bit_and, ◌==◌, ◌||◌, if◌then◌else◌}
use Rattle.std.specs.Int.{cast_unsigned, w64}
use Rattle.std.proofs.lemmas.Bool.{ltb-true}
use Rattle.std.proofs.lemmas.Bool.Decides.{nat_tests}
use Rattle.std.proofs.lemmas.Int.{ints}
use Rattle.std.proofs.lemmas.Nat.{and_le_r, and_mod}
use Rattle.std.proofs.Math.Nat.{mod-eq_of_lt}
use Rattle.vax_form.specs.declared.instr.Size.{Size}
use Rattle.vax_form.specs.declared.instr.Size.TheVariants.{Byte, Word, Long, Quad}
use Rattle.vt_words.specs.Quad.{spread, kept}
use Rattle.alpha_encode.specs.Halves.{low_half}
use Rattle.alpha_meaning.specs.Result.{plus, times, signed as signed_quad}
use Rattle.micro_ops.specs.Values.{bits_of, limit_of, low, signed}
use Rattle.compute_sequences.specs.Constants.{low_long}
use Rattle.compute_sequences.specs.Words.{is_displacement, is_low_bytes, kept_mask}
use Rattle.compute_sequences.proofs.Halves.{Half, half}
use Rattle.compute_sequences.proofs.Shifting.{with_sign}

-- ---- literals
pub bits_few : (size : Size) (n : ℕ) → nat_lt n (bits_of size) ≡ true → n < 256
bits_few Byte n e = let lt = ltb-true n 8 e in omega (arith, lt)
bits_few Word n e = let lt = ltb-true n 16 e in omega (arith, lt)
bits_few Long n e = let lt = ltb-true n 32 e in omega (arith, lt)
bits_few Quad n e = let lt = ltb-true n 64 e in omega (arith, lt)

pub low_literal : (size : Size) (n : ℕ) → n < 256 → low size n ≡ n
low_literal Byte n lt = omega arith
low_literal Word n lt = omega arith
low_literal Long n lt = omega arith
low_literal Quad n lt = omega arith

pub and_literal : (size : Size) (a n : ℕ) → n < 256 → low size (bit_and a n) ≡ bit_and a n
and_literal size a n lt = let le = and_le_r a n in low_literal size (bit_and a n) (omega (arith, le, lt))

-- signs of literals and of 0
pub signed_below : (size : Size) (n v : ℕ) → n < limit_of size → v < 128
    → int_lt (signed_quad (with_sign (nat_lt n (limit_of size / 2)) size n)) (signed_quad v) ≡ int_lt (signed size n) (signed size (low size v))
signed_below Byte n v lt few = grind (arith, nat_tests, ints)
signed_below Word n v lt few = grind (arith, nat_tests, ints)
signed_below Long n v lt few = grind (arith, nat_tests, ints)
signed_below Quad n v lt few = grind (arith, nat_tests, ints)

pub zero_below : (size : Size) (n : ℕ) → n < limit_of size
    → int_lt (signed_quad 0) (signed_quad (with_sign (nat_lt n (limit_of size / 2)) size n)) ≡ int_lt (signed size (low size 0)) (signed size n)
zero_below Byte n lt = grind (arith, nat_tests, ints)
zero_below Word n lt = grind (arith, nat_tests, ints)
zero_below Long n lt = grind (arith, nat_tests, ints)
zero_below Quad n lt = grind (arith, nat_tests, ints)

pub low_zero : (size : Size) → low size 0 ≡ 0
low_zero Byte = refl
low_zero Word = refl
low_zero Long = refl
low_zero Quad = refl

-- ---- displacements
-- a longword that differs little from a multiple of 2^32
pub displaced_low : (size : Size) (base value : ℕ) → is_displacement size value ≡ true
    → low size (plus base (times (cast_unsigned w64 (low_half (low_long value))) 1)) ≡ (low size base + low size value) % limit_of size
displaced_low size base value e = by size e (half (low_long value % 2 ^ 16) (omega arith))
  where
    by : (size : Size) → is_displacement size value ≡ true → Half (low_long value % 2 ^ 16) (cast_unsigned w64 (low_half (low_long value)))
        → low size (plus base (times (cast_unsigned w64 (low_half (low_long value))) 1)) ≡ (low size base + low size value) % limit_of size
    by Byte e (inl a) = let x = a.1 in omega arith
    by Byte e (inr a) = let x = a.1 in omega arith
    by Word e (inl a) = let x = a.1 in omega arith
    by Word e (inr a) = let x = a.1 in omega arith
    by Long e (inl a) = let x = a.1 in let few = a.0 in let near = ltb-true ((value + 2 ^ 15) % 2 ^ 32) (2 ^ 16) e in omega arith
    by Long e (inr a) = let x = a.1 in let many = a.0 in let near = ltb-true ((value + 2 ^ 15) % 2 ^ 32) (2 ^ 16) e in omega arith
    by Quad e (inl a) = let x = a.1 in let few = a.0 in let near = ltb-true ((value + 2 ^ 15) % 2 ^ 64) (2 ^ 16) e in omega arith
    by Quad e (inr a) = let x = a.1 in let many = a.0 in let near = ltb-true ((value + 2 ^ 15) % 2 ^ 64) (2 ^ 16) e in omega arith

-- ---- low bytes that are cleared
-- all other bytes of a mask are among the low ones
below_mask : (bits n mask : ℕ) → mask < 2 ^ bits → bit_and n mask ≡ bit_and (n % 2 ^ bits) mask
below_mask bits n mask lt =
    let le = and_le_r n mask in
    sym (mod-eq_of_lt (omega (arith, le, lt))) ∙ (and_mod n mask bits ∙ ap (bit_and (n % 2 ^ bits)) (mod-eq_of_lt lt))

byte_cleared : (size : Size) (n : ℕ) → kept (kept_mask size 0xff % 2 ^ 8) n ≡ bit_and (low size n) (limit_of size - 1 - low size 0xff)
unfolding spread
byte_cleared Byte n = below_mask 8 n 0 (lit< tt)
byte_cleared Word n = below_mask 16 n 0xff00 (lit< tt)
byte_cleared Long n = below_mask 32 n 0xffffff00 (lit< tt)
byte_cleared Quad n = below_mask 64 n 0xffffffffffffff00 (lit< tt)

word_cleared : (size : Size) (n : ℕ) → kept (kept_mask size 0xffff % 2 ^ 8) n ≡ bit_and (low size n) (limit_of size - 1 - low size 0xffff)
unfolding spread
word_cleared Byte n = below_mask 8 n 0 (lit< tt)
word_cleared Word n = below_mask 16 n 0 (lit< tt)
word_cleared Long n = below_mask 32 n 0xffff0000 (lit< tt)
word_cleared Quad n = below_mask 64 n 0xffffffffffff0000 (lit< tt)

pub low_cleared_is : (size : Size) (n value : ℕ) → is_low_bytes value ≡ true → kept (kept_mask size value % 2 ^ 8) n ≡ bit_and (low size n) (limit_of size - 1 - low size value)
low_cleared_is size n value e = by (value == 0xff) refl e
  where
    is : (v : ℕ) → value ≡ v → kept (kept_mask size v % 2 ^ 8) n ≡ bit_and (low size n) (limit_of size - 1 - low size v) → kept (kept_mask size value % 2 ^ 8) n ≡ bit_and (low size n) (limit_of size - 1 - low size value)
    is v same h = subst (λ w. kept (kept_mask size w % 2 ^ 8) n ≡ bit_and (low size n) (limit_of size - 1 - low size w)) (sym same) h

    by : (b : Bool) → (value == 0xff) ≡ b → (b || value == 0xffff) ≡ true → kept (kept_mask size value % 2 ^ 8) n ≡ bit_and (low size n) (limit_of size - 1 - low size value)
    by true t e = is 0xff (eqb-true value 0xff t) (byte_cleared size n)
    by false t e = is 0xffff (eqb-true value 0xffff e) (word_cleared size n)

pub mask_fits : (size : Size) (value : ℕ) → kept_mask size value < 256
mask_fits Byte value = by (value == 0xff)
  where
    by : (b : Bool) → 0x01 - (if b then 0x01 else 0x03) < 256
    by true = lit< tt
    by false = lit< tt
mask_fits Word value = by (value == 0xff)
  where
    by : (b : Bool) → 0x03 - (if b then 0x01 else 0x03) < 256
    by true = lit< tt
    by false = lit< tt
mask_fits Long value = by (value == 0xff)
  where
    by : (b : Bool) → 0x0f - (if b then 0x01 else 0x03) < 256
    by true = lit< tt
    by false = lit< tt
mask_fits Quad value = by (value == 0xff)
  where
    by : (b : Bool) → 0xff - (if b then 0x01 else 0x03) < 256
    by true = lit< tt
    by false = lit< tt
