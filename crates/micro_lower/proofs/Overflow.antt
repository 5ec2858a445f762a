-- V of a sum or a difference, and of a number in another size, by comparing extended numbers; N and Z by a value.
use Rattle.std.proofs.Common.{◌≡◌, ℕ, ◌+◌, ◌-◌, ◌/◌, ◌%◌, ◌^◌, ◌<◌, ◌≤◌, refl, sym, ap, ◌∙◌, subst, arith, Bool, true, false}
use Rattle.std.specs.Prelude.{◌==◌, nat_lt, nat_le, int_lt, not, bit_xor, ℤ, pos, negsuc, ◌+ℤ◌, ◌-ℤ◌, unsigned_abs}
use Rattle.std.proofs.Common.{lit<}
use Rattle.std.proofs.Math.Nat.{mod-eq_of_lt}
use Rattle.std.proofs.lemmas.Nat.{mod_below}
use Rattle.std.proofs.lemmas.Bool.Decides.{nat_tests}
use Rattle.std.proofs.lemmas.Int.{ints}
use Rattle.vt_words.proofs.Tests.{bit_most}
use Rattle.vax_form.specs.Size.{bytes_of}
use Rattle.vax_form.specs.declared.instr.Size.{Size}
use Rattle.vax_form.specs.declared.instr.Size.TheVariants.{Byte, Word, Long, Quad}
use Rattle.micro_ops.specs.Values.{limit_of, bits_of, signed}
use Rattle.micro_ops.proofs.Sizes.{low_below}
use Rattle.vt_words.specs.Values.{bit, fits, value_of}
use Rattle.vt_words.specs.Arithmetic.{sum_of, difference_of}
use Rattle.vt_words.specs.Quad.{sign_extended}
use Rattle.vt_words.proofs.Extended.{fits_byte, fits_word, fits_long, extends_byte, extends_word, extends_long, low_byte, low_word, low_long, quad_below, sums, differences}

-- a size of arithmetic
abbrev pub IsNarrow : Size → Type 0
IsNarrow Quad = ⊥
IsNarrow size = Unit {0}

-- ---- signed numbers as quadwords
pub signed_wide : (size : Size) (v : ℕ) → v < limit_of size → value_of 8 (signed size v) ≡ sign_extended v (bits_of size)
signed_wide Byte v lt = extends_byte v lt
signed_wide Word v lt = extends_word v lt
signed_wide Long v lt = extends_long v lt
signed_wide Quad v lt = grind (arith, nat_tests, ints)

pub signed_small : (size : Size) (v : ℕ) → IsNarrow size → v < limit_of size → unsigned_abs (signed size v) ≤ 2 ^ 31
signed_small Byte v narrow lt = grind (arith, nat_tests, ints)
signed_small Word v narrow lt = grind (arith, nat_tests, ints)
signed_small Long v narrow lt = grind (arith, nat_tests, ints)
signed_small Quad v narrow lt = absurd narrow

pub extended_below : (size : Size) (x : ℕ) → x < limit_of size → sign_extended x (bits_of size) < 2 ^ 64
extended_below size x lt = subst (λ n. n < 2 ^ 64) (signed_wide size x lt) (quad_below (signed size x))

pub extended_low : (size : Size) (v : ℕ) → v < limit_of size → sign_extended v (bits_of size) % limit_of size ≡ v
extended_low Byte v lt = grind (arith, nat_tests)
extended_low Word v lt = grind (arith, nat_tests)
extended_low Long v lt = grind (arith, nat_tests)
extended_low Quad v lt = grind (arith, nat_tests)

-- a number of a size as a quadword
pub as_quad : (size : Size) (a : ℕ) → a < limit_of size → a % 2 ^ 64 ≡ a
as_quad Byte a lt = omega (arith, lt)
as_quad Word a lt = omega (arith, lt)
as_quad Long a lt = omega (arith, lt)
as_quad Quad a lt = omega (arith, lt)

-- the low bytes of the low quadword
pub low_of : (size : Size) (x : ℤ) → value_of (bytes_of size) x ≡ value_of 8 x % limit_of size
low_of Byte x = low_byte x
low_of Word x = low_word x
low_of Long x = low_long x
low_of Quad (pos n) = omega arith
low_of Quad (negsuc n) = omega arith

-- ---- what fits
-- an integer fits where the extension of its low bytes is itself
pub fits_where : (size : Size) (x : ℤ) → IsNarrow size → unsigned_abs x < 2 ^ 63 → fits (bytes_of size) x ≡ (sign_extended (value_of (bytes_of size) x) (bits_of size) == value_of 8 x)
fits_where Byte x narrow small = fits_byte x (omega (arith, small))
fits_where Word x narrow small = fits_word x (omega (arith, small))
fits_where Long x narrow small = fits_long x (omega (arith, small))
fits_where Quad x narrow small = absurd narrow

pub turned : (a b : ℕ) → (a == b) ≡ (b == a)
turned a b = grind (arith, nat_tests)

overflows : (size : Size) (x : ℤ) (y r : ℕ) → IsNarrow size → unsigned_abs x < 2 ^ 63 → value_of 8 x ≡ y → y % limit_of size ≡ r → not (fits (bytes_of size) x) ≡ not (y == sign_extended r (bits_of size))
overflows size x y r narrow small wide low =
    ap not (fits_where size x narrow small
    ∙ turned _ _
    ∙ ap (λ n. n == sign_extended (value_of (bytes_of size) x) (bits_of size)) wide
    ∙ ap (λ n. y == sign_extended n (bits_of size)) (low_of size x ∙ ap (λ n. n % limit_of size) wide ∙ low))

abs_sum : (x y : ℤ) → unsigned_abs (x +ℤ y) ≤ unsigned_abs x + unsigned_abs y
abs_sum (pos a) (pos b) = grind (arith, nat_tests, ints)
abs_sum (pos a) (negsuc b) = grind (arith, nat_tests, ints)
abs_sum (negsuc a) (pos b) = grind (arith, nat_tests, ints)
abs_sum (negsuc a) (negsuc b) = grind (arith, nat_tests, ints)

abs_difference : (x y : ℤ) → unsigned_abs (x -ℤ y) ≤ unsigned_abs x + unsigned_abs y
abs_difference (pos a) (pos b) = grind (arith, nat_tests, ints)
abs_difference (pos a) (negsuc b) = grind (arith, nat_tests, ints)
abs_difference (negsuc a) (pos b) = grind (arith, nat_tests, ints)
abs_difference (negsuc a) (negsuc b) = grind (arith, nat_tests, ints)

-- within 2 ^ 31 and 2 ^ 31, and one more or less
within : (x y z c r : ℕ) → x ≤ 2 ^ 31 → y ≤ 2 ^ 31 → z ≤ x + y → c ≤ 1 → r ≤ z + c → r < 2 ^ 63
within x y z c r p q s few t = omega (arith, p, q, s, few, t)

bit_wide : (c : Bool) → value_of 8 (pos (bit c)) ≡ bit c
bit_wide true = refl
bit_wide false = refl

low_sum : (size : Size) (e f c : ℕ) → ((e + f) % 2 ^ 64 + c) % 2 ^ 64 % limit_of size ≡ (e % limit_of size + f % limit_of size + c) % limit_of size
low_sum Byte e f c = omega arith
low_sum Word e f c = omega arith
low_sum Long e f c = omega arith
low_sum Quad e f c = omega arith

low_difference : (size : Size) (e f c : ℕ) → f < 2 ^ 64 → c ≤ 1 → ((e + (2 ^ 64 - f)) % 2 ^ 64 + (2 ^ 64 - c)) % 2 ^ 64 % limit_of size ≡ (e % limit_of size + limit_of size - (f % limit_of size + c)) % limit_of size
low_difference Byte e f c lt few = omega (arith, lt, few)
low_difference Word e f c lt few = omega (arith, lt, few)
low_difference Long e f c lt few = omega (arith, lt, few)
low_difference Quad e f c lt few = omega (arith, lt, few)

-- ---- with carry
module _ (size : Size) (a b : ℕ) (c : Bool) (narrow : IsNarrow size) (lt : a < limit_of size) (lt' : b < limit_of size) where
  abbrev e : ℕ
  e = sign_extended a (bits_of size)

  abbrev f : ℕ
  f = sign_extended b (bits_of size)

  abbrev m : ℤ
  m = signed size a

  abbrev n : ℤ
  n = signed size b

  pub sum_overflows_with : (sum_of (bytes_of size) a b c).v ≡ not (((e + f) % 2 ^ 64 + bit c) % 2 ^ 64 == sign_extended ((a + b + bit c) % limit_of size) (bits_of size))
  unfolding sum_of
  sum_overflows_with =
      overflows size (m +ℤ n +ℤ pos (bit c)) _ _ narrow
      (within _ _ _ _ _ (signed_small size a narrow lt) (signed_small size b narrow lt') (abs_sum m n) (bit_most c) (abs_sum (m +ℤ n) (pos (bit c))))
      (sums (m +ℤ n) (pos (bit c))
      ∙ ap (λ k. (value_of 8 (m +ℤ n) + k) % 2 ^ 64) (bit_wide c)
      ∙ ap (λ k. (k + bit c) % 2 ^ 64) (sums m n ∙ ap (λ k. (k + value_of 8 n) % 2 ^ 64) (signed_wide size a lt) ∙ ap (λ k. (e + k) % 2 ^ 64) (signed_wide size b lt')))
      (low_sum size e f (bit c)
      ∙ ap (λ k. (k + f % limit_of size + bit c) % limit_of size) (extended_low size a lt)
      ∙ ap (λ k. (a + k + bit c) % limit_of size) (extended_low size b lt'))

  pub difference_overflows_with : (difference_of (bytes_of size) a b c).v ≡ not (((e + (2 ^ 64 - f)) % 2 ^ 64 + (2 ^ 64 - bit c)) % 2 ^ 64 == sign_extended ((a + limit_of size - (b + bit c)) % limit_of size) (bits_of size))
  unfolding difference_of
  difference_overflows_with =
      overflows size (m -ℤ n -ℤ pos (bit c)) _ _ narrow
      (within _ _ _ _ _ (signed_small size a narrow lt) (signed_small size b narrow lt') (abs_difference m n) (bit_most c) (abs_difference (m -ℤ n) (pos (bit c))))
      (differences (m -ℤ n) (pos (bit c))
      ∙ ap (λ k. (value_of 8 (m -ℤ n) + (2 ^ 64 - k)) % 2 ^ 64) (bit_wide c)
      ∙ ap (λ k. (k + (2 ^ 64 - bit c)) % 2 ^ 64) (differences m n ∙ ap (λ k. (k + (2 ^ 64 - value_of 8 n)) % 2 ^ 64) (signed_wide size a lt) ∙ ap (λ k. (e + (2 ^ 64 - k)) % 2 ^ 64) (signed_wide size b lt')))
      (low_difference size e f (bit c) (extended_below size b lt') (bit_most c)
      ∙ ap (λ k. (k + limit_of size - (f % limit_of size + bit c)) % limit_of size) (extended_low size a lt)
      ∙ ap (λ k. (a + limit_of size - (k + bit c)) % limit_of size) (extended_low size b lt'))

nothing_added : (x : ℕ) → (x % 2 ^ 64 + 0) % 2 ^ 64 ≡ x % 2 ^ 64
nothing_added x = omega arith

nothing_taken : (x : ℕ) → (x % 2 ^ 64 + (2 ^ 64 - 0)) % 2 ^ 64 ≡ x % 2 ^ 64
nothing_taken x = omega arith

pub sum_overflows : (size : Size) (a b : ℕ) → IsNarrow size → a < limit_of size → b < limit_of size
    → (sum_of (bytes_of size) a b false).v ≡ not ((sign_extended a (bits_of size) + sign_extended b (bits_of size)) % 2 ^ 64 == sign_extended ((a + b + 0) % limit_of size) (bits_of size))
sum_overflows size a b narrow lt lt' =
    sum_overflows_with size a b false narrow lt lt' ∙ ap (λ x. not (x == sign_extended ((a + b + 0) % limit_of size) (bits_of size))) (nothing_added _)

pub difference_overflows : (size : Size) (a b : ℕ) → IsNarrow size → a < limit_of size → b < limit_of size
    → (difference_of (bytes_of size) a b false).v ≡ not ((sign_extended a (bits_of size) + (2 ^ 64 - sign_extended b (bits_of size))) % 2 ^ 64 == sign_extended ((a + limit_of size - (b + 0)) % limit_of size) (bits_of size))
difference_overflows size a b narrow lt lt' =
    difference_overflows_with size a b false narrow lt lt' ∙ ap (λ x. not (x == sign_extended ((a + limit_of size - (b + 0)) % limit_of size) (bits_of size))) (nothing_taken _)

pub sum_carries : (size : Size) (a b : ℕ) → a < limit_of size → b < limit_of size → nat_lt ((a + b + 0) % limit_of size) a ≡ nat_le (limit_of size) (a + b + 0)
sum_carries Byte a b lt lt' = grind (arith, nat_tests)
sum_carries Word a b lt lt' = grind (arith, nat_tests)
sum_carries Long a b lt lt' = grind (arith, nat_tests)
sum_carries Quad a b lt lt' = grind (arith, nat_tests)

pub negative_is : (size : Size) (x : ℕ) → x < limit_of size → int_lt (signed size (x % limit_of size)) (signed size (0 % limit_of size)) ≡ nat_le (limit_of size / 2) x
negative_is Byte x lt = grind (arith, nat_tests, ints)
negative_is Word x lt = grind (arith, nat_tests, ints)
negative_is Long x lt = grind (arith, nat_tests, ints)
negative_is Quad x lt = grind (arith, nat_tests, ints)

pub none_is : (size : Size) (x : ℕ) → x < limit_of size → (x % limit_of size == 0 % limit_of size) ≡ (x == 0)
none_is Byte x lt = rw (mod-eq_of_lt lt) refl
none_is Word x lt = rw (mod-eq_of_lt lt) refl
none_is Long x lt = rw (mod-eq_of_lt lt) refl
none_is Quad x lt = rw (mod-eq_of_lt lt) refl

pub flipped : (b : Bool) → bit_xor (bit b % 2 ^ 8) 1 ≡ bit (not b)
flipped true = refl
flipped false = refl

-- the test that a program makes: two extended numbers added or subtracted are not the extended result
abbrev pub differ : Size → (x r : ℕ) → ℕ
differ size x r = bit_xor (bit (x % 2 ^ 64 % 2 ^ 64 == sign_extended (r % limit_of size) (bits_of size) % 2 ^ 64) % 2 ^ 8) 1

pub some : (size : Size) → 0 < limit_of size
some Byte = lit< tt
some Word = lit< tt
some Long = lit< tt
some Quad = lit< tt

module _ (size : Size) (a b r : ℕ) (narrow : IsNarrow size) (first : a < limit_of size) (second : b < limit_of size) where
  wide : (x : ℕ) → x < limit_of size → sign_extended x (bits_of size) % 2 ^ 64 ≡ sign_extended x (bits_of size)
  wide x lt = mod-eq_of_lt (extended_below size x lt)

  extension : (x : ℕ) → x < limit_of size → sign_extended (x % limit_of size) (bits_of size) % 2 ^ 64 ≡ sign_extended x (bits_of size)
  extension x lt = ap (λ y. sign_extended y (bits_of size) % 2 ^ 64) (mod-eq_of_lt lt) ∙ wide x lt

  tested : (x : ℕ) → r < limit_of size → differ size x r ≡ bit (not (x % 2 ^ 64 == sign_extended r (bits_of size)))
  tested x lt =
      let once : x % 2 ^ 64 % 2 ^ 64 ≡ x % 2 ^ 64 = mod-eq_of_lt (mod_below x (2 ^ 64) (lit< tt)) in
      ap (λ y. bit_xor (bit (y == sign_extended (r % limit_of size) (bits_of size) % 2 ^ 64) % 2 ^ 8) 1) once
      ∙ ap (λ y. bit_xor (bit (x % 2 ^ 64 == y) % 2 ^ 8) 1) (extension r lt)
      ∙ flipped _

  pub sum_differs : r ≡ (a + b + 0) % limit_of size
      → differ size (sign_extended (a % limit_of size) (bits_of size) % 2 ^ 64 + sign_extended (b % limit_of size) (bits_of size) % 2 ^ 64) r ≡ bit (sum_of (bytes_of size) a b false).v
  sum_differs is =
      ap (λ x. differ size (x + sign_extended (b % limit_of size) (bits_of size) % 2 ^ 64) r) (extension a first)
      ∙ ap (λ y. differ size (sign_extended a (bits_of size) + y) r) (extension b second)
      ∙ tested (sign_extended a (bits_of size) + sign_extended b (bits_of size)) (rw is (low_below size _))
      ∙ ap (λ y. bit (not ((sign_extended a (bits_of size) + sign_extended b (bits_of size)) % 2 ^ 64 == sign_extended y (bits_of size)))) is
      ∙ ap bit (sym (sum_overflows size a b narrow first second))

  pub difference_differs : r ≡ (a + limit_of size - (b + 0)) % limit_of size
      → differ size (sign_extended (a % limit_of size) (bits_of size) % 2 ^ 64 + (2 ^ 64 - sign_extended (b % limit_of size) (bits_of size) % 2 ^ 64)) r ≡ bit (difference_of (bytes_of size) a b false).v
  difference_differs is =
      ap (λ x. differ size (x + (2 ^ 64 - sign_extended (b % limit_of size) (bits_of size) % 2 ^ 64)) r) (extension a first)
      ∙ ap (λ y. differ size (sign_extended a (bits_of size) + (2 ^ 64 - y)) r) (extension b second)
      ∙ tested (sign_extended a (bits_of size) + (2 ^ 64 - sign_extended b (bits_of size))) (rw is (low_below size _))
      ∙ ap (λ y. bit (not ((sign_extended a (bits_of size) + (2 ^ 64 - sign_extended b (bits_of size))) % 2 ^ 64 == sign_extended y (bits_of size)))) is
      ∙ ap bit (sym (difference_overflows size a b narrow first second))
