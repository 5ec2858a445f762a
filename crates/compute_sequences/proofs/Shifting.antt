-- Shifts of the low bytes, by counts of any number.
use Rattle.std.proofs.Common.{◌≡◌, ℕ, suc, ◌+◌, ◌-◌, ◌*◌, ◌/◌, ◌%◌, ◌^◌, ◌<◌, ◌≤◌, refl, sym, ap, ◌∙◌, subst, arith, Bool, true, false, lit<, lit≤}
use Rattle.std.specs.Prelude.{pos, negsuc, nat_lt, if◌then◌else◌}
use Rattle.std.specs.Int.{cast_signed, cast_unsigned, int_div_euclid, w64}
use Rattle.std.proofs.lemmas.Bool.Decides.{nat_tests}
use Rattle.std.proofs.lemmas.Int.{ints, to_z_pos}
use Rattle.std.proofs.Math.Facts.{to_z-neg}
use Rattle.std.proofs.lemmas.Nat.{shr_le, mul-mod_first}
use Rattle.std.proofs.Math.Nat.{mod-eq_of_lt, div-eq_of_lt, pow-le-pow_right}
use Rattle.std.proofs.lemmas.Bool.{ltb-true}
use Rattle.vax_form.specs.Size.{bytes_of}
use Rattle.vax_form.specs.declared.instr.Size.{Size}
use Rattle.vax_form.specs.declared.instr.Size.TheVariants.{Byte, Word, Long, Quad}
use Rattle.vt_words.specs.Quad.{left, right, sign_extended}
use Rattle.vt_words.specs.Values.{value_of}
use Rattle.alpha_encode.specs.declared.instr.OperateOp.TheVariants as row
use Rattle.alpha_meaning.specs.Result.{one_if, plus, minus, long, result_of, arithmetic_right, signed as signed_quad}
use Rattle.micro_ops.specs.Values.{bits_of, limit_of, low, signed, sign_of, signed_right}
use Rattle.micro_ops.proofs.Sizes.{low_below}
use Rattle.compute_sequences.proofs.Numbers.{low_of_quad}

-- ---- counts
-- a shift counts modulo 64, which a count below the size's bits is
pub count_low : (size : Size) (b : ℕ) → low size b < 64 → b % 64 ≡ low size b
count_low Byte b lt = omega arith
count_low Word b lt = omega arith
count_low Long b lt = omega arith
count_low Quad b lt = omega arith

bits_most : (size : Size) → bits_of size ≤ 64
bits_most Byte = lit≤ tt
bits_most Word = lit≤ tt
bits_most Long = lit≤ tt
bits_most Quad = lit≤ tt

pub not_below : (a b : ℕ) → nat_lt a b ≡ false → b ≤ a
not_below a b e = grind (arith, nat_tests, e)

pub within : (size : Size) (b : ℕ) → nat_lt (low size b) (bits_of size) ≡ true → b % 64 ≡ low size b
within size b e = let lt = ltb-true (low size b) (bits_of size) e in let most = bits_most size in count_low size b (omega arith)

-- nothing is left where the count is too great
pub or_nothing : (size : Size) (few : Bool) (s r : ℕ) → (few ≡ true → low size s ≡ r) → low size (result_of row.Cmoveq (one_if few) 0 s) ≡ (if few then r else 0)
or_nothing size true s r h = h refl
or_nothing Byte false s r h = refl
or_nothing Word false s r h = refl
or_nothing Long false s r h = refl
or_nothing Quad false s r h = refl

-- ---- to the left and to the right
pub left_low : (size : Size) (a b : ℕ) → nat_lt (low size b) (bits_of size) ≡ true → low size (left a (b % 64)) ≡ low size a * 2 ^ low size b % limit_of size
left_low size a b e =
    ap (λ k. low size (left a k)) (within size b e) ∙ low_of_quad (a * 2 ^ low size b) size ∙ sym (mul-mod_first a (2 ^ low size b) (limit_of size))

pub right_low : (size : Size) (a b : ℕ) → nat_lt (low size b) (bits_of size) ≡ true → low size (right (low size a) (b % 64)) ≡ low size a / 2 ^ low size b
right_low size a b e =
    let le = shr_le (low size a) (low size b) in
    let lt = low_below size a in
    ap (λ k. low size (right (low size a) k)) (within size b e) ∙ mod-eq_of_lt (omega (arith, le, lt))

-- ---- to the right with the sign
-- the floor of a two's complement number over a divisor
abbrev floor_over : (limit n divisor : ℕ) → ℕ
floor_over limit n divisor = if nat_lt n (limit / 2) then n / divisor else limit - 1 - (limit - 1 - n) / divisor

-- as an integer
spelled : (size : Size) (n : ℕ) → n < limit_of size → nat_lt n (limit_of size / 2) ≡ false → signed size n ≡ negsuc (limit_of size - 1 - n)
spelled Byte n lt e = grind (arith, nat_tests, ints, e)
spelled Word n lt e = grind (arith, nat_tests, ints, e)
spelled Long n lt e = grind (arith, nat_tests, ints, e)
spelled Quad n lt e = grind (arith, nat_tests, ints, e)

value_pos : (size : Size) (q : ℕ) → q < limit_of size → value_of (bytes_of size) (pos q) ≡ q
value_pos Byte q lt = omega arith
value_pos Word q lt = omega arith
value_pos Long q lt = omega arith
value_pos Quad q lt = omega arith

value_neg : (size : Size) (q : ℕ) → q < limit_of size → value_of (bytes_of size) (negsuc q) ≡ limit_of size - 1 - q
value_neg Byte q lt = omega arith
value_neg Word q lt = omega arith
value_neg Long q lt = omega arith
value_neg Quad q lt = omega arith

pub signed_right_is : (size : Size) (n k : ℕ) → n < limit_of size → signed_right size n k ≡ floor_over (limit_of size) n (2 ^ k)
signed_right_is size n k lt = by (nat_lt n (limit_of size / 2)) refl
  where
    by : (b : Bool) → nat_lt n (limit_of size / 2) ≡ b → signed_right size n k ≡ (if b then n / 2 ^ k else limit_of size - 1 - (limit_of size - 1 - n) / 2 ^ k)
    by true e = let le = shr_le n k in rw e (value_pos size (n / 2 ^ k) (omega (arith, le, lt)))
    by false e =
        let le = shr_le (limit_of size - 1 - n) k in
        ap (λ z. value_of (bytes_of size) (int_div_euclid z (pos (2 ^ k)))) (spelled size n lt e) ∙ value_neg size ((limit_of size - 1 - n) / 2 ^ k) (omega (arith, le, lt))

quad_pos : (q : ℕ) → q < 2 ^ 63 → cast_unsigned w64 (pos q) ≡ q
quad_pos q lt = omega arith

quad_neg : (q : ℕ) → q < 2 ^ 63 → cast_unsigned w64 (negsuc q) ≡ 2 ^ 64 - 1 - q
quad_neg q lt = omega arith

quad_spelled : (n : ℕ) → n < 2 ^ 64 → nat_lt n (2 ^ 63) ≡ false → signed_quad n ≡ negsuc (2 ^ 64 - 1 - n)
quad_spelled n lt e =
    let ge = not_below n (2 ^ 63) e in
    let is : n ≡ 2 ^ 64 - suc (2 ^ 64 - 1 - n) = omega arith in
    ap (cast_signed w64) is ∙ to_z-neg w64 (2 ^ 64 - 1 - n) (omega arith)

pub arithmetic_is : (n k : ℕ) → n < 2 ^ 64 → arithmetic_right n k ≡ floor_over (2 ^ 64) n (2 ^ k)
arithmetic_is n k lt = by (nat_lt n (2 ^ 63)) refl
  where
    by : (b : Bool) → nat_lt n (2 ^ 63) ≡ b → arithmetic_right n k ≡ (if b then n / 2 ^ k else 2 ^ 64 - 1 - (2 ^ 64 - 1 - n) / 2 ^ k)
    by true e =
        let few = ltb-true n (2 ^ 63) e in
        let le = shr_le n k in
        ap (λ z. cast_unsigned w64 (int_div_euclid z (pos (2 ^ k)))) (to_z_pos w64 n few) ∙ quad_pos (n / 2 ^ k) (omega (arith, le, few))
    by false e =
        let many = not_below n (2 ^ 63) e in
        let le = shr_le (2 ^ 64 - 1 - n) k in
        ap (λ z. cast_unsigned w64 (int_div_euclid z (pos (2 ^ k)))) (quad_spelled n lt e) ∙ quad_neg ((2 ^ 64 - 1 - n) / 2 ^ k) (omega (arith, le, many))

-- ---- the low bytes with their sign
-- from the highest bytes back
pub raised_byte : (n : ℕ) → arithmetic_right (left n 56) 56 ≡ sign_extended n 8
raised_byte n = arithmetic_is (left n 56) 56 (omega arith) ∙ by (nat_lt (n % 2 ^ 8) (2 ^ 7)) refl
  where
    by : (b : Bool) → nat_lt (n % 2 ^ 8) (2 ^ 7) ≡ b → floor_over (2 ^ 64) (left n 56) (2 ^ 56) ≡ (if b then n % 2 ^ 8 else n % 2 ^ 8 + (2 ^ 64 - 2 ^ 8))
    by true e = let lt = ltb-true (n % 2 ^ 8) (2 ^ 7) e in let few : nat_lt (left n 56) (2 ^ 63) ≡ true = grind (arith, nat_tests, lt) in rw few (omega arith)
    by false e = let ge = not_below (n % 2 ^ 8) (2 ^ 7) e in let many : nat_lt (left n 56) (2 ^ 63) ≡ false = grind (arith, nat_tests, ge) in rw many (omega arith)

pub raised_word : (n : ℕ) → arithmetic_right (left n 48) 48 ≡ sign_extended n 16
raised_word n = arithmetic_is (left n 48) 48 (omega arith) ∙ by (nat_lt (n % 2 ^ 16) (2 ^ 15)) refl
  where
    by : (b : Bool) → nat_lt (n % 2 ^ 16) (2 ^ 15) ≡ b → floor_over (2 ^ 64) (left n 48) (2 ^ 48) ≡ (if b then n % 2 ^ 16 else n % 2 ^ 16 + (2 ^ 64 - 2 ^ 16))
    by true e = let lt = ltb-true (n % 2 ^ 16) (2 ^ 15) e in let few : nat_lt (left n 48) (2 ^ 63) ≡ true = grind (arith, nat_tests, lt) in rw few (omega arith)
    by false e = let ge = not_below (n % 2 ^ 16) (2 ^ 15) e in let many : nat_lt (left n 48) (2 ^ 63) ≡ false = grind (arith, nat_tests, ge) in rw many (omega arith)

long_sign : (low : ℕ) → ℕ
long_sign low = if nat_lt low (2 ^ 31) then low else low + (2 ^ 64 - 2 ^ 32)

pub added_long : (n : ℕ) → long (plus n 0) ≡ sign_extended n 32
unfolding long_sign
added_long n = let e : plus n 0 % 2 ^ 32 ≡ n % 2 ^ 32 = omega arith in ap long_sign e

limit_most : (size : Size) → limit_of size ≤ 2 ^ 64
limit_most Byte = lit≤ tt
limit_most Word = lit≤ tt
limit_most Long = lit≤ tt
limit_most Quad = lit≤ tt

pub limit_some : (size : Size) → 2 ≤ limit_of size
limit_some Byte = lit≤ tt
limit_some Word = lit≤ tt
limit_some Long = lit≤ tt
limit_some Quad = lit≤ tt

-- the low bytes from the top down
low_top : (size : Size) (q : ℕ) → q < limit_of size → low size (2 ^ 64 - 1 - q) ≡ limit_of size - 1 - q
low_top Byte q lt = omega arith
low_top Word q lt = omega arith
low_top Long q lt = omega arith
low_top Quad q lt = omega arith

-- a number with the sign of its size
abbrev pub with_sign : (positive : Bool) → Size → (n : ℕ) → ℕ
with_sign positive size n = if positive then n else n + (2 ^ 64 - limit_of size)

pub extended_is : (size : Size) (a : ℕ) → sign_extended a (bits_of size) ≡ with_sign (nat_lt (low size a) (limit_of size / 2)) size (low size a)
extended_is Byte a = refl
extended_is Word a = refl
extended_is Long a = refl
extended_is Quad a = refl

-- by the low bytes alone
pub signs_by_low : (size : Size) (m n : ℕ) → low size m ≡ low size n → sign_extended m (bits_of size) ≡ sign_extended n (bits_of size)
signs_by_low size m n e = extended_is size m ∙ (ap (λ l. with_sign (nat_lt l (limit_of size / 2)) size l) e ∙ sym (extended_is size n))

pub signs_quad : (a : ℕ) → a < 2 ^ 64 → sign_extended a 64 ≡ a
signs_quad a lt = by (nat_lt (a % 2 ^ 64) (2 ^ 63))
  where
    by : (b : Bool) → (if b then a % 2 ^ 64 else a % 2 ^ 64 + (2 ^ 64 - 2 ^ 64)) ≡ a
    by true = omega arith
    by false = omega arith

all_left : (n : ℕ) → n < 2 ^ 64 → arithmetic_right n 0 ≡ n
all_left n lt = arithmetic_is n 0 lt ∙ by (nat_lt n (2 ^ 63))
  where
    by : (b : Bool) → (if b then n / 1 else 2 ^ 64 - 1 - (2 ^ 64 - 1 - n) / 1) ≡ n
    by true = omega arith
    by false = omega arith

module _ (size : Size) (n : ℕ) (lt : n < limit_of size) where
  abbrev half : ℕ
  half = limit_of size / 2

  abbrev floor_by : (b : Bool) (k : ℕ) → ℕ
  floor_by b k = if b then n / 2 ^ k else limit_of size - 1 - (limit_of size - 1 - n) / 2 ^ k

  -- the quadword is below 2^63 where the number is positive
  positive : nat_lt n half ≡ true → nat_lt (with_sign true size n) (2 ^ 63) ≡ true
  positive e = let few = ltb-true n half e in let most = limit_most size in grind (arith, nat_tests, few, most)

  negative : nat_lt n half ≡ false → nat_lt (with_sign false size n) (2 ^ 63) ≡ false
  negative e = let many = not_below n half e in let most = limit_most size in let some = limit_some size in grind (arith, nat_tests, many, most, some)

  pub quad_fits : (b : Bool) → nat_lt n half ≡ b → with_sign b size n < 2 ^ 64
  quad_fits true e = let most = limit_most size in omega (arith, lt, most)
  quad_fits false e = let most = limit_most size in omega (arith, lt, most)

  rest_is : 2 ^ 64 - 1 - with_sign false size n ≡ limit_of size - 1 - n
  rest_is = let most = limit_most size in omega (arith, lt, most)

  -- the floor, as a quadword
  arithmetic_by : (b : Bool) (k : ℕ) → nat_lt n half ≡ b → arithmetic_right (with_sign b size n) k ≡ (if b then n / 2 ^ k else 2 ^ 64 - 1 - (limit_of size - 1 - n) / 2 ^ k)
  arithmetic_by true k e = arithmetic_is n k (quad_fits true e) ∙ rw (positive e) refl
  arithmetic_by false k e =
      arithmetic_is (with_sign false size n) k (quad_fits false e)
      ∙ (ap (λ b. if b then with_sign false size n / 2 ^ k else 2 ^ 64 - 1 - (2 ^ 64 - 1 - with_sign false size n) / 2 ^ k) (negative e)
      ∙ ap (λ m. 2 ^ 64 - 1 - m / 2 ^ k) rest_is)

  floor_low : (b : Bool) (k : ℕ) → nat_lt n half ≡ b → low size (arithmetic_right (with_sign b size n) k) ≡ floor_by b k
  floor_low true k e = let le = shr_le n k in ap (low size) (arithmetic_by true k e) ∙ mod-eq_of_lt (omega (arith, le, lt))
  floor_low false k e = let le = shr_le (limit_of size - 1 - n) k in ap (low size) (arithmetic_by false k e) ∙ low_top size ((limit_of size - 1 - n) / 2 ^ k) (omega (arith, le, lt))

  -- by as many bits as the size has, or more, only the sign is left
  abbrev sign_by : Bool → ℕ
  sign_by b = if b then 0 else limit_of size - 1

  floor_sign : (b : Bool) (k : ℕ) → bits_of size ≤ k → floor_by b k ≡ sign_by b
  floor_sign true k le = div-eq_of_lt (let more = pow-le-pow_right {n = 2} (lit< tt) {i = bits_of size} {j = k} le in omega (arith, lt, more))
  floor_sign false k le =
      let none : (limit_of size - 1 - n) / 2 ^ k ≡ 0 = div-eq_of_lt (let more = pow-le-pow_right {n = 2} (lit< tt) {i = bits_of size} {j = k} le in omega (arith, lt, more)) in
      omega (arith, none)

  -- and of that 63 bits more leave the sign
  sign_again : (b : Bool) (k : ℕ) → nat_lt n half ≡ b → low size (arithmetic_right (arithmetic_right (with_sign b size n) k) 63) ≡ sign_by b
  sign_again true k e =
      let le = shr_le n k in
      let few = ltb-true n half e in
      let most = limit_most size in
      let small : n / 2 ^ k < 2 ^ 63 = omega (arith, le, few, most) in
      let test : nat_lt (n / 2 ^ k) (2 ^ 63) ≡ true = grind (arith, nat_tests, small) in
      ap (λ x. low size (arithmetic_right x 63)) (arithmetic_by true k e)
      ∙ (ap (low size) (arithmetic_is (n / 2 ^ k) 63 (omega (arith, small)) ∙ rw test (div-eq_of_lt small)) ∙ mod-eq_of_lt (let some = limit_some size in omega (arith, some)))
  sign_again false k e =
      let q = (limit_of size - 1 - n) / 2 ^ k in
      let le = shr_le (limit_of size - 1 - n) k in
      let many = not_below n half e in
      let most = limit_most size in
      let some = limit_some size in
      let small : q < 2 ^ 63 = omega (arith, le, many, most, some) in
      let test : nat_lt (2 ^ 64 - 1 - q) (2 ^ 63) ≡ false = grind (arith, nat_tests, small) in
      let nothing : 2 ^ 64 - 1 - (2 ^ 64 - 1 - (2 ^ 64 - 1 - q)) / 2 ^ 63 ≡ 2 ^ 64 - 1 - 0 = omega (arith, small) in
      ap (λ x. low size (arithmetic_right x 63)) (arithmetic_by false k e)
      ∙ (ap (low size) (arithmetic_is (2 ^ 64 - 1 - q) 63 (omega arith) ∙ rw test nothing) ∙ (low_top size 0 (omega (arith, some)) ∙ omega arith))

  arithmetic_fits : (b : Bool) (k : ℕ) → nat_lt n half ≡ b → arithmetic_right (with_sign b size n) k < 2 ^ 64
  arithmetic_fits true k e =
      let le = shr_le n k in
      let most = limit_most size in
      subst (λ x. x < 2 ^ 64) (sym (arithmetic_by true k e)) (omega (arith, le, lt, most))
  arithmetic_fits false k e = subst (λ x. x < 2 ^ 64) (sym (arithmetic_by false k e)) (omega arith)

  -- 0 bits more leave all
  none_again : (b : Bool) (k : ℕ) → nat_lt n half ≡ b → arithmetic_right (arithmetic_right (with_sign b size n) k) 0 ≡ arithmetic_right (with_sign b size n) k
  none_again b k e = all_left (arithmetic_right (with_sign b size n) k) (arithmetic_fits b k e)

  sign_is : (b : Bool) → nat_lt n half ≡ b → sign_of size n ≡ sign_by b
  sign_is b e = ap (λ x. if x then 0 else limit_of size - 1) e

  shifted_by : (b : Bool) (count : ℕ) → nat_lt n half ≡ b → (few : Bool) → nat_lt (low size count) 64 ≡ few
      → low size (result_of row.Sra (result_of row.Sra (with_sign b size n) count 0) (minus (one_if few) 1) 0) ≡ (if nat_lt (low size count) (bits_of size) then signed_right size n (low size count) else sign_of size n)
  shifted_by b count e true f =
      let k = low size count in
      ap (low size) (none_again b (count % 64) e)
      ∙ (ap (λ c. low size (arithmetic_right (with_sign b size n) c)) (count_low size count (ltb-true k 64 f))
      ∙ (floor_low b k e ∙ in_bits (nat_lt k (bits_of size)) refl))
    where
      in_bits : (c : Bool) → nat_lt (low size count) (bits_of size) ≡ c → floor_by b (low size count) ≡ (if c then signed_right size n (low size count) else sign_of size n)
      in_bits true g = sym (signed_right_is size n (low size count) lt ∙ ap (λ x. if x then n / 2 ^ low size count else limit_of size - 1 - (limit_of size - 1 - n) / 2 ^ low size count) e)
      in_bits false g = floor_sign b (low size count) (not_below (low size count) (bits_of size) g) ∙ sym (sign_is b e)
  shifted_by b count e false f =
      let ge = not_below (low size count) 64 f in
      let most = bits_most size in
      let none : nat_lt (low size count) (bits_of size) ≡ false = grind (arith, nat_tests, ge, most) in
      sign_again b (count % 64) e ∙ (sym (sign_is b e) ∙ ap (λ x. if x then signed_right size n (low size count) else sign_of size n) (sym none))

-- a shift modulo 64, and by 63 bits more where the count is not below 64
pub signed_low : (size : Size) (a count : ℕ)
    → low size (result_of row.Sra (result_of row.Sra (sign_extended a (bits_of size)) count 0) (minus (one_if (nat_lt (low size count) 64)) 1) 0)
    ≡ (if nat_lt (low size count) (bits_of size) then signed_right size (low size a) (low size count) else sign_of size (low size a))
signed_low size a count =
    ap (λ v. low size (result_of row.Sra (result_of row.Sra v count 0) (minus (one_if (nat_lt (low size count) 64)) 1) 0)) (extended_is size a)
    ∙ shifted_by size (low size a) (low_below size a) (nat_lt (low size a) (limit_of size / 2)) count refl (nat_lt (low size count) 64) refl

-- a shift by a count below the size's bits
pub signed_low_by : (size : Size) (a count : ℕ) → nat_lt (low size count) (bits_of size) ≡ true
    → low size (arithmetic_right (sign_extended a (bits_of size)) (count % 64)) ≡ signed_right size (low size a) (low size count)
signed_low_by size a count few =
    let positive = nat_lt (low size a) (limit_of size / 2) in
    ap (λ v. low size (arithmetic_right v (count % 64))) (extended_is size a)
    ∙ (ap (λ k. low size (arithmetic_right (with_sign positive size (low size a)) k)) (within size count few)
    ∙ (floor_low size (low size a) (low_below size a) positive (low size count) refl
    ∙ sym (signed_right_is size (low size a) (low size count) (low_below size a))))
