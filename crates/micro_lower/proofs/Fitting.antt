-- The test by which a program finds whether an integer fits a size, and products as quadwords.
use Rattle.std.proofs.Common.{◌≡◌, ℕ, ◌*◌, ◌%◌, ◌^◌, ◌<◌, sym, ap, ◌∙◌, arith}
use Rattle.std.specs.Prelude.{◌==◌, ℤ, ◌*ℤ◌, not, bit_xor, unsigned_abs}
use Rattle.std.proofs.Math.Nat.{mod-eq_of_lt}
use Rattle.std.proofs.lemmas.Int.{unsigned_abs-mul}
use Rattle.std.proofs.lemmas.Nat.{mul-le, mul-mod}
use Rattle.vax_form.specs.Size.{bytes_of}
use Rattle.vax_form.specs.declared.instr.Size.{Size}
use Rattle.vax_form.specs.declared.instr.Size.TheVariants.{Byte, Word, Long, Quad}
use Rattle.vt_words.specs.Quad.{sign_extended}
use Rattle.vt_words.specs.Values.{value_of, fits, bit}
use Rattle.micro_ops.specs.Values.{limit_of, bits_of, signed}
use Rattle.micro_ops.proofs.Sizes.{low_below}
use Rattle.micro_lower.proofs.Overflow.{IsNarrow, extended_below, extended_low, fits_where, flipped, low_of, signed_small, signed_wide, turned}
use Rattle.vt_words.proofs.Extended.{products}

pub value_below : (size : Size) (x : ℤ) → value_of (bytes_of size) x < limit_of size
value_below size x = rw (low_of size x) (low_below size _)

-- the test that a program makes of an extended number and a result
abbrev pub differs : Size → (y r : ℕ) → ℕ
differs size y r = bit_xor (bit (y % 2 ^ 64 == sign_extended (r % limit_of size) (bits_of size) % 2 ^ 64) % 2 ^ 8) 1

pub does_differ : (size : Size) (x : ℤ) (y r : ℕ) → IsNarrow size → unsigned_abs x < 2 ^ 63 → y ≡ value_of 8 x → r ≡ value_of (bytes_of size) x → differs size y r ≡ bit (not (fits (bytes_of size) x))
does_differ size x y r narrow small wide low =
    let below = value_below size x in
    let v = value_of (bytes_of size) x in
    ap (λ n. differs size n r) wide
    ∙ ap (λ n. differs size (value_of 8 x) n) low
    ∙ ap (λ n. bit_xor (bit (n == sign_extended (v % limit_of size) (bits_of size) % 2 ^ 64) % 2 ^ 8) 1) (mod-eq_of_lt (value_below Quad x))
    ∙ ap (λ n. bit_xor (bit (value_of 8 x == n) % 2 ^ 8) 1) (ap (λ n. sign_extended n (bits_of size) % 2 ^ 64) (mod-eq_of_lt below) ∙ mod-eq_of_lt (extended_below size v below))
    ∙ flipped _
    ∙ ap (λ b. bit (not b)) (turned (value_of 8 x) (sign_extended v (bits_of size)) ∙ sym (fits_where size x narrow small))

-- ---- products
module _ (size : Size) (a b : ℕ) (first : a < limit_of size) (second : b < limit_of size) where
  pub product_wide : value_of 8 (signed size a *ℤ signed size b) ≡ sign_extended a (bits_of size) * sign_extended b (bits_of size) % 2 ^ 64
  product_wide =
      products (signed size a) (signed size b)
      ∙ ap (λ n. n * value_of 8 (signed size b) % 2 ^ 64) (signed_wide size a first)
      ∙ ap (λ n. sign_extended a (bits_of size) * n % 2 ^ 64) (signed_wide size b second)

  pub product_small : IsNarrow size → unsigned_abs (signed size a *ℤ signed size b) < 2 ^ 63
  product_small narrow =
      let m = mul-le (unsigned_abs (signed size a)) (unsigned_abs (signed size b)) (2 ^ 31) (2 ^ 31) (signed_small size a narrow first) (signed_small size b narrow second) in
      omega (arith, m, unsigned_abs-mul (signed size a) (signed size b))

low_of_quad : (size : Size) (n : ℕ) → n % 2 ^ 64 % limit_of size ≡ n % limit_of size
low_of_quad Byte n = omega arith
low_of_quad Word n = omega arith
low_of_quad Long n = omega arith
low_of_quad Quad n = omega arith

pub product_low : (size : Size) (a b : ℕ) → a < limit_of size → b < limit_of size → value_of (bytes_of size) (signed size a *ℤ signed size b) ≡ a * b % limit_of size
product_low size a b first second =
    let m = sign_extended a (bits_of size) in
    let n = sign_extended b (bits_of size) in
    low_of size (signed size a *ℤ signed size b)
    ∙ ap (λ x. x % limit_of size) (product_wide size a b first second)
    ∙ low_of_quad size (m * n)
    ∙ mul-mod m n (limit_of size)
    ∙ ap (λ x. x * (n % limit_of size) % limit_of size) (extended_low size a first)
    ∙ ap (λ x. a * x % limit_of size) (extended_low size b second)
