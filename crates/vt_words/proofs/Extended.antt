-- Integers as quadwords.
use Rattle.std.proofs.Common.{◌≡◌, ◌*◌, ◌%◌, ◌^◌, ◌<◌, sym, ap, ◌∙◌, arith, lit<}
use Rattle.std.specs.Prelude.{ℤ, pos, negsuc, ◌*ℤ◌}
use Rattle.std.specs.Int.{cast_signed, cast_unsigned, w64, int_wrap}
use Rattle.std.proofs.lemmas.Bool.Decides.{nat_tests}
use Rattle.std.proofs.lemmas.Nat.{mod_below}
use Rattle.std.proofs.lemmas.Int.{ints, wrapping_mul-bits, int_wrap-mul_left, int_wrap-mul_right, of_z-to_z}
use Rattle.vt_words.specs.Extensions.{quad_value, FitsByExtension, ExtendsToQuad, HasLowBytes, SumsAsQuads, DifferencesAsQuads, ProductsAsQuads}

-- ---- which integers fit
pub fits_byte : FitsByExtension 1
fits_byte (pos n) small = grind (arith, nat_tests, ints)
fits_byte (negsuc n) small = grind (arith, nat_tests, ints)

pub fits_word : FitsByExtension 2
fits_word (pos n) small = grind (arith, nat_tests, ints)
fits_word (negsuc n) small = grind (arith, nat_tests, ints)

pub fits_long : FitsByExtension 4
fits_long (pos n) small = grind (arith, nat_tests, ints)
fits_long (negsuc n) small = grind (arith, nat_tests, ints)

-- ---- extensions
pub extends_byte : ExtendsToQuad 1
extends_byte value lt = grind (arith, nat_tests, ints)

pub extends_word : ExtendsToQuad 2
extends_word value lt = grind (arith, nat_tests, ints)

pub extends_long : ExtendsToQuad 4
extends_long value lt = grind (arith, nat_tests, ints)

-- ---- low bytes
pub low_byte : HasLowBytes 1
low_byte (pos n) = omega arith
low_byte (negsuc n) = omega arith

pub low_word : HasLowBytes 2
low_word (pos n) = omega arith
low_word (negsuc n) = omega arith

pub low_long : HasLowBytes 4
low_long (pos n) = omega arith
low_long (negsuc n) = omega arith

-- ---- arithmetic
pub quad_below : (number : ℤ) → quad_value number < 2 ^ 64
quad_below (pos n) = omega arith
quad_below (negsuc n) = omega arith

pub sums : SumsAsQuads
sums (pos a) (pos b) = grind (arith, nat_tests, ints)
sums (pos a) (negsuc b) = grind (arith, nat_tests, ints)
sums (negsuc a) (pos b) = grind (arith, nat_tests, ints)
sums (negsuc a) (negsuc b) = grind (arith, nat_tests, ints)

pub differences : DifferencesAsQuads
differences (pos a) (pos b) = grind (arith, nat_tests, ints)
differences (pos a) (negsuc b) = grind (arith, nat_tests, ints)
differences (negsuc a) (pos b) = grind (arith, nat_tests, ints)
differences (negsuc a) (negsuc b) = grind (arith, nat_tests, ints)

-- the product of two quadwords is that of the numbers that they spell, wrapped
pub products : ProductsAsQuads
unfolding int_wrap
products a b =
    let m = quad_value a in
    let n = quad_value b in
    let e : cast_signed w64 (m * n % 2 ^ 64) ≡ cast_signed w64 (quad_value (a *ℤ b)) =
    wrapping_mul-bits w64 m n (quad_below a) (quad_below b) ∙ int_wrap-mul_left w64 a (int_wrap w64 b) ∙ int_wrap-mul_right w64 a b in
    sym (sym (of_z-to_z w64 (m * n % 2 ^ 64) (mod_below (m * n) (2 ^ 64) (lit< tt))) ∙ (ap (cast_unsigned w64) e ∙ of_z-to_z w64 _ (quad_below (a *ℤ b))))
