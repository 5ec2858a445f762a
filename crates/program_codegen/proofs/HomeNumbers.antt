-- Longwords that are extended with their sign, as quadwords.
use Rattle.std.proofs.Common.{◌≡◌, ℕ, ◌+◌, ◌-◌, ◌*◌, ◌/◌, ◌%◌, ◌^◌, ◌<◌, ◌≤◌, refl, sym, ap, ◌∙◌, subst, arith, Bool, true, false, inl, inr}
use Rattle.std.specs.Prelude.{◌==◌, ◌⊎◌, nat_lt, int_lt, bit_and, bit_or, bit_xor, if◌then◌else◌}
use Rattle.std.specs.Int.Bits.{and_zero_l, and_zero_r, or_self, or_zero_l, or_zero_r, xor_self, xor_zero_l, xor_zero_r}
use Rattle.std.proofs.lemmas.Nat.{and_mask, and_shr, or_shr, xor_shr}
use Rattle.std.proofs.lemmas.Bool.Decides.{nat_tests}
use Rattle.std.proofs.lemmas.Bool.{ltb-true}
use Rattle.std.proofs.lemmas.Int.{ints}
use Rattle.vt_words.specs.Values.{signed_value}
use Rattle.vt_words.specs.Quad.{left, right, sign_extended}
use Rattle.vt_words.proofs.Longwords.{extended_fits, same_extended}
use Rattle.alpha_meaning.specs.Result.{inverse, signed}

-- it is its low longword, or that and all bits above
abbrev pub IsExtended : ℕ → Type 0
IsExtended a = sign_extended a 32 ≡ a

low_is : (a : ℕ) (b : Bool) → nat_lt (a % 2 ^ 32) (2 ^ 31) ≡ b → IsExtended a → (if b then a % 2 ^ 32 else a % 2 ^ 32 + (2 ^ 64 - 2 ^ 32)) ≡ a
low_is a b e is = ap (λ (c : Bool). if c then a % 2 ^ 32 else a % 2 ^ 32 + (2 ^ 64 - 2 ^ 32)) (sym e) ∙ is

-- two of them are the same where their low longwords are
pub extended_same : (a b : ℕ) → IsExtended a → IsExtended b → a % 2 ^ 32 ≡ b % 2 ^ 32 → a ≡ b
extended_same a b is is' e = sym is ∙ (same_extended a b e ∙ is')

pub extended_equal : (a b : ℕ) → IsExtended a → IsExtended b → ((a % 2 ^ 32) == (b % 2 ^ 32)) ≡ (a == b)
extended_equal a b is is' = by ((a % 2 ^ 32) == (b % 2 ^ 32)) refl
  where
    by : (c : Bool) → ((a % 2 ^ 32) == (b % 2 ^ 32)) ≡ c → c ≡ (a == b)
    by true e =
        let low : a % 2 ^ 32 ≡ b % 2 ^ 32 = grind (arith, nat_tests, e) in
        let same = extended_same a b is is' low in
        grind (arith, nat_tests)
    by false e = grind (arith, nat_tests, e)

pub extended_below : (a b : ℕ) → IsExtended a → IsExtended b → nat_lt (a % 2 ^ 32) (b % 2 ^ 32) ≡ nat_lt a b
extended_below a b is is' = by (nat_lt (a % 2 ^ 32) (2 ^ 31)) (nat_lt (b % 2 ^ 32) (2 ^ 31)) refl refl
  where
    up : (x y a b : ℕ) → x + (2 ^ 64 - 2 ^ 32) ≡ a → y + (2 ^ 64 - 2 ^ 32) ≡ b → nat_lt x y ≡ nat_lt a b
    up x y a b e f = grind (arith, nat_tests)

    below : (x y a b : ℕ) → x ≡ a → y + (2 ^ 64 - 2 ^ 32) ≡ b → x < 2 ^ 31 → 2 ^ 31 ≤ y → nat_lt x y ≡ nat_lt a b
    below x y a b e f lt le = grind (arith, nat_tests)

    above : (x y a b : ℕ) → x + (2 ^ 64 - 2 ^ 32) ≡ a → y ≡ b → y < 2 ^ 31 → 2 ^ 31 ≤ x → nat_lt x y ≡ nat_lt a b
    above x y a b e f lt le = grind (arith, nat_tests)

    large : (x : ℕ) → nat_lt x (2 ^ 31) ≡ false → 2 ^ 31 ≤ x
    large x e = grind (arith, nat_tests, e)

    by : (c d : Bool) → nat_lt (a % 2 ^ 32) (2 ^ 31) ≡ c → nat_lt (b % 2 ^ 32) (2 ^ 31) ≡ d → nat_lt (a % 2 ^ 32) (b % 2 ^ 32) ≡ nat_lt a b
    by true true e f =
        ap (λ x. nat_lt x (b % 2 ^ 32)) (low_is a true e is) ∙ ap (nat_lt a) (low_is b true f is')
    by true false e f = below (a % 2 ^ 32) (b % 2 ^ 32) a b (low_is a true e is) (low_is b false f is') (ltb-true (a % 2 ^ 32) (2 ^ 31) e) (large (b % 2 ^ 32) f)
    by false true e f = above (a % 2 ^ 32) (b % 2 ^ 32) a b (low_is a false e is) (low_is b true f is') (ltb-true (b % 2 ^ 32) (2 ^ 31) f) (large (a % 2 ^ 32) e)
    by false false e f = up (a % 2 ^ 32) (b % 2 ^ 32) a b (low_is a false e is) (low_is b false f is')

-- with their signs, too
pub extended_less : (a b : ℕ) → IsExtended a → IsExtended b → int_lt (signed_value 4 (a % 2 ^ 32)) (signed_value 4 (b % 2 ^ 32)) ≡ int_lt (signed a) (signed b)
extended_less a b is is' = by (nat_lt (a % 2 ^ 32) (2 ^ 31)) (nat_lt (b % 2 ^ 32) (2 ^ 31)) refl refl
  where
    large : (x : ℕ) → nat_lt x (2 ^ 31) ≡ false → 2 ^ 31 ≤ x
    large x e = grind (arith, nat_tests, e)

    low_low : (x y a b : ℕ) → x ≡ a → y ≡ b → x < 2 ^ 31 → y < 2 ^ 31 → int_lt (signed_value 4 x) (signed_value 4 y) ≡ int_lt (signed a) (signed b)
    low_low x y a b e f lt lt' = grind (arith, nat_tests, ints)

    low_high : (x y a b : ℕ) → x ≡ a → y + (2 ^ 64 - 2 ^ 32) ≡ b → x < 2 ^ 31 → 2 ^ 31 ≤ y → y < 2 ^ 32 → int_lt (signed_value 4 x) (signed_value 4 y) ≡ int_lt (signed a) (signed b)
    low_high x y a b e f lt le fits = grind (arith, nat_tests, ints)

    high_low : (x y a b : ℕ) → x + (2 ^ 64 - 2 ^ 32) ≡ a → y ≡ b → y < 2 ^ 31 → 2 ^ 31 ≤ x → x < 2 ^ 32 → int_lt (signed_value 4 x) (signed_value 4 y) ≡ int_lt (signed a) (signed b)
    high_low x y a b e f lt le fits = grind (arith, nat_tests, ints)

    high_high : (x y a b : ℕ) → x + (2 ^ 64 - 2 ^ 32) ≡ a → y + (2 ^ 64 - 2 ^ 32) ≡ b → 2 ^ 31 ≤ x → x < 2 ^ 32 → 2 ^ 31 ≤ y → y < 2 ^ 32 → int_lt (signed_value 4 x) (signed_value 4 y) ≡ int_lt (signed a) (signed b)
    high_high x y a b e f le fits le' fits' = grind (arith, nat_tests, ints)

    by : (c d : Bool) → nat_lt (a % 2 ^ 32) (2 ^ 31) ≡ c → nat_lt (b % 2 ^ 32) (2 ^ 31) ≡ d → int_lt (signed_value 4 (a % 2 ^ 32)) (signed_value 4 (b % 2 ^ 32)) ≡ int_lt (signed a) (signed b)
    by true true e f = low_low (a % 2 ^ 32) (b % 2 ^ 32) a b (low_is a true e is) (low_is b true f is') (ltb-true (a % 2 ^ 32) (2 ^ 31) e) (ltb-true (b % 2 ^ 32) (2 ^ 31) f)
    by true false e f = low_high (a % 2 ^ 32) (b % 2 ^ 32) a b (low_is a true e is) (low_is b false f is') (ltb-true (a % 2 ^ 32) (2 ^ 31) e) (large (b % 2 ^ 32) f) (omega arith)
    by false true e f = high_low (a % 2 ^ 32) (b % 2 ^ 32) a b (low_is a false e is) (low_is b true f is') (ltb-true (b % 2 ^ 32) (2 ^ 31) f) (large (a % 2 ^ 32) e) (omega arith)
    by false false e f = high_high (a % 2 ^ 32) (b % 2 ^ 32) a b (low_is a false e is) (low_is b false f is') (large (a % 2 ^ 32) e) (omega arith) (large (b % 2 ^ 32) f) (omega arith)

pub zero_extended : IsExtended 0
zero_extended = refl

-- it is 0 where its low longword is
pub extended_zero : (a : ℕ) → IsExtended a → ((a % 2 ^ 32) == 0) ≡ (a == 0)
extended_zero a is = extended_equal a 0 is zero_extended

-- raised, only the low longword is left
pub raised_low : (a : ℕ) → left (a % 2 ^ 32) 32 ≡ left a 32
raised_low a = omega arith

-- raised, they compare as they do
pub raised_less : (a b : ℕ) → IsExtended a → IsExtended b → int_lt (signed (left a 32)) (signed (left b 32)) ≡ int_lt (signed a) (signed b)
raised_less a b is is' = ap (λ x. int_lt (signed x) (signed (left b 32))) (sym (raised_low a)) ∙ (ap (λ y. int_lt (signed (left (a % 2 ^ 32) 32)) (signed y)) (sym (raised_low b))
    ∙ (low_less (a % 2 ^ 32) (b % 2 ^ 32) (omega arith) (omega arith) ∙ extended_less a b is is'))
  where
    low_raised : (x : ℕ) → x < 2 ^ 32 → left x 32 ≡ x * 2 ^ 32
    low_raised x lt = omega arith

    low_less : (x y : ℕ) → x < 2 ^ 32 → y < 2 ^ 32 → int_lt (signed (left x 32)) (signed (left y 32)) ≡ int_lt (signed_value 4 x) (signed_value 4 y)
    low_less x y fits fits' =
        ap (λ v. int_lt (signed v) (signed (left y 32))) (low_raised x fits) ∙ (ap (λ v. int_lt (signed (x * 2 ^ 32)) (signed v)) (low_raised y fits') ∙ by (nat_lt x (2 ^ 31)) (nat_lt y (2 ^ 31)) refl refl)
      where
        large : (x : ℕ) → nat_lt x (2 ^ 31) ≡ false → 2 ^ 31 ≤ x
        large x e = grind (arith, nat_tests, e)

        low_low : x < 2 ^ 31 → y < 2 ^ 31 → int_lt (signed (x * 2 ^ 32)) (signed (y * 2 ^ 32)) ≡ int_lt (signed_value 4 x) (signed_value 4 y)
        low_low lt lt' = grind (arith, nat_tests, ints)

        low_high : x < 2 ^ 31 → 2 ^ 31 ≤ y → int_lt (signed (x * 2 ^ 32)) (signed (y * 2 ^ 32)) ≡ int_lt (signed_value 4 x) (signed_value 4 y)
        low_high lt le = grind (arith, nat_tests, ints)

        high_low : 2 ^ 31 ≤ x → y < 2 ^ 31 → int_lt (signed (x * 2 ^ 32)) (signed (y * 2 ^ 32)) ≡ int_lt (signed_value 4 x) (signed_value 4 y)
        high_low le lt = grind (arith, nat_tests, ints)

        high_high : 2 ^ 31 ≤ x → 2 ^ 31 ≤ y → int_lt (signed (x * 2 ^ 32)) (signed (y * 2 ^ 32)) ≡ int_lt (signed_value 4 x) (signed_value 4 y)
        high_high le le' = grind (arith, nat_tests, ints)

        by : (c d : Bool) → nat_lt x (2 ^ 31) ≡ c → nat_lt y (2 ^ 31) ≡ d → int_lt (signed (x * 2 ^ 32)) (signed (y * 2 ^ 32)) ≡ int_lt (signed_value 4 x) (signed_value 4 y)
        by true true e f = low_low (ltb-true x (2 ^ 31) e) (ltb-true y (2 ^ 31) f)
        by true false e f = low_high (ltb-true x (2 ^ 31) e) (large y f)
        by false true e f = high_low (large x e) (ltb-true y (2 ^ 31) f)
        by false false e f = high_high (large x e) (large y f)

-- its sign is bit 63
pub extended_sign : (a : ℕ) → IsExtended a → right (a % 2 ^ 32) 31 ≡ right a 63
extended_sign a is = by (nat_lt (a % 2 ^ 32) (2 ^ 31)) refl
  where
    small : (x a : ℕ) → x ≡ a → x < 2 ^ 31 → x / 2 ^ 31 ≡ a / 2 ^ 63
    small x a e lt = omega arith

    large : (x a : ℕ) → x + (2 ^ 64 - 2 ^ 32) ≡ a → x < 2 ^ 32 → 2 ^ 31 ≤ x → x / 2 ^ 31 ≡ a / 2 ^ 63
    large x a e lt le = omega arith

    not_below : (x : ℕ) → nat_lt x (2 ^ 31) ≡ false → 2 ^ 31 ≤ x
    not_below x e = grind (arith, nat_tests, e)

    by : (c : Bool) → nat_lt (a % 2 ^ 32) (2 ^ 31) ≡ c → a % 2 ^ 32 / 2 ^ 31 ≡ a / 2 ^ 63
    by true e = small (a % 2 ^ 32) a (low_is a true e is) (ltb-true (a % 2 ^ 32) (2 ^ 31) e)
    by false e = large (a % 2 ^ 32) a (low_is a false e is) (omega arith) (not_below (a % 2 ^ 32) e)

-- ---- operations on them
-- the bits from the sign on are all 0 or all 1
top_of : (a : ℕ) → IsExtended a → (a / 2 ^ 31 ≡ 0) ⊎ (a / 2 ^ 31 ≡ 2 ^ 33 - 1)
top_of a is = by (nat_lt (a % 2 ^ 32) (2 ^ 31)) refl
  where
    low : (x a : ℕ) → x ≡ a → x < 2 ^ 31 → a / 2 ^ 31 ≡ 0
    low x a e lt = omega arith

    high : (x a : ℕ) → x + (2 ^ 64 - 2 ^ 32) ≡ a → x < 2 ^ 32 → 2 ^ 31 ≤ x → a / 2 ^ 31 ≡ 2 ^ 33 - 1
    high x a e lt le = omega arith

    not_below : (x : ℕ) → nat_lt x (2 ^ 31) ≡ false → 2 ^ 31 ≤ x
    not_below x e = grind (arith, nat_tests, e)

    by : (c : Bool) → nat_lt (a % 2 ^ 32) (2 ^ 31) ≡ c → (a / 2 ^ 31 ≡ 0) ⊎ (a / 2 ^ 31 ≡ 2 ^ 33 - 1)
    by true e = inl (low (a % 2 ^ 32) a (low_is a true e is) (ltb-true (a % 2 ^ 32) (2 ^ 31) e))
    by false e = inr (high (a % 2 ^ 32) a (low_is a false e is) (omega arith) (not_below (a % 2 ^ 32) e))

by_top : (a : ℕ) → (a / 2 ^ 31 ≡ 0) ⊎ (a / 2 ^ 31 ≡ 2 ^ 33 - 1) → IsExtended a
by_top a (inl e) =
    let test : nat_lt (a % 2 ^ 32) (2 ^ 31) ≡ true = grind (arith, nat_tests) in
    let same : a % 2 ^ 32 ≡ a = omega arith in
    ap (λ (c : Bool). if c then a % 2 ^ 32 else a % 2 ^ 32 + (2 ^ 64 - 2 ^ 32)) test ∙ same
by_top a (inr e) =
    let test : nat_lt (a % 2 ^ 32) (2 ^ 31) ≡ false = grind (arith, nat_tests) in
    let same : a % 2 ^ 32 + (2 ^ 64 - 2 ^ 32) ≡ a = omega arith in
    ap (λ (c : Bool). if c then a % 2 ^ 32 else a % 2 ^ 32 + (2 ^ 64 - 2 ^ 32)) test ∙ same

module _ (a b : ℕ) (is : IsExtended a) (is' : IsExtended b) where
  pub extended_xor : IsExtended (bit_xor a b)
  extended_xor = by_top (bit_xor a b) (by (top_of a is) (top_of b is'))
    where
      by : (a / 2 ^ 31 ≡ 0) ⊎ (a / 2 ^ 31 ≡ 2 ^ 33 - 1) → (b / 2 ^ 31 ≡ 0) ⊎ (b / 2 ^ 31 ≡ 2 ^ 33 - 1) → (bit_xor a b / 2 ^ 31 ≡ 0) ⊎ (bit_xor a b / 2 ^ 31 ≡ 2 ^ 33 - 1)
      by (inl e) (inl f) = inl (xor_shr a b 31 ∙ (ap (λ x. bit_xor x (b / 2 ^ 31)) e ∙ (xor_zero_l (b / 2 ^ 31) ∙ f)))
      by (inl e) (inr f) = inr (xor_shr a b 31 ∙ (ap (λ x. bit_xor x (b / 2 ^ 31)) e ∙ (xor_zero_l (b / 2 ^ 31) ∙ f)))
      by (inr e) (inl f) = inr (xor_shr a b 31 ∙ (ap (bit_xor (a / 2 ^ 31)) f ∙ (xor_zero_r (a / 2 ^ 31) ∙ e)))
      by (inr e) (inr f) = inl (xor_shr a b 31 ∙ (ap (λ x. bit_xor x (b / 2 ^ 31)) e ∙ (ap (bit_xor (2 ^ 33 - 1)) f ∙ xor_self (2 ^ 33 - 1))))

  pub extended_and : IsExtended (bit_and a b)
  extended_and = by_top (bit_and a b) (by (top_of a is) (top_of b is'))
    where
      by : (a / 2 ^ 31 ≡ 0) ⊎ (a / 2 ^ 31 ≡ 2 ^ 33 - 1) → (b / 2 ^ 31 ≡ 0) ⊎ (b / 2 ^ 31 ≡ 2 ^ 33 - 1) → (bit_and a b / 2 ^ 31 ≡ 0) ⊎ (bit_and a b / 2 ^ 31 ≡ 2 ^ 33 - 1)
      by (inl e) f = inl (and_shr a b 31 ∙ (ap (λ x. bit_and x (b / 2 ^ 31)) e ∙ and_zero_l (b / 2 ^ 31)))
      by (inr e) (inl f) = inl (and_shr a b 31 ∙ (ap (bit_and (a / 2 ^ 31)) f ∙ and_zero_r (a / 2 ^ 31)))
      by (inr e) (inr f) = inr (and_shr a b 31 ∙ (ap (λ x. bit_and x (b / 2 ^ 31)) e ∙ (ap (bit_and (2 ^ 33 - 1)) f ∙ and_mask (2 ^ 33 - 1) 33)))

  pub extended_or : IsExtended (bit_or a b)
  extended_or = by_top (bit_or a b) (by (top_of a is) (top_of b is'))
    where
      by : (a / 2 ^ 31 ≡ 0) ⊎ (a / 2 ^ 31 ≡ 2 ^ 33 - 1) → (b / 2 ^ 31 ≡ 0) ⊎ (b / 2 ^ 31 ≡ 2 ^ 33 - 1) → (bit_or a b / 2 ^ 31 ≡ 0) ⊎ (bit_or a b / 2 ^ 31 ≡ 2 ^ 33 - 1)
      by (inl e) (inl f) = inl (or_shr a b 31 ∙ (ap (λ x. bit_or x (b / 2 ^ 31)) e ∙ (or_zero_l (b / 2 ^ 31) ∙ f)))
      by (inl e) (inr f) = inr (or_shr a b 31 ∙ (ap (λ x. bit_or x (b / 2 ^ 31)) e ∙ (or_zero_l (b / 2 ^ 31) ∙ f)))
      by (inr e) (inl f) = inr (or_shr a b 31 ∙ (ap (bit_or (a / 2 ^ 31)) f ∙ (or_zero_r (a / 2 ^ 31) ∙ e)))
      by (inr e) (inr f) = inr (or_shr a b 31 ∙ (ap (λ x. bit_or x (b / 2 ^ 31)) e ∙ (ap (bit_or (2 ^ 33 - 1)) f ∙ or_self (2 ^ 33 - 1))))

pub extended_inverse : (b : ℕ) → IsExtended b → IsExtended (inverse b)
extended_inverse b is = by_top (inverse b) (by (top_of b is))
  where
    fits : b < 2 ^ 64
    fits = subst (λ n. n < 2 ^ 64) is (extended_fits b)

    by : (b / 2 ^ 31 ≡ 0) ⊎ (b / 2 ^ 31 ≡ 2 ^ 33 - 1) → (inverse b / 2 ^ 31 ≡ 0) ⊎ (inverse b / 2 ^ 31 ≡ 2 ^ 33 - 1)
    by (inl e) = let lt = fits in inr (omega arith)
    by (inr e) = let lt = fits in inl (omega arith)

-- a number below 2^31 is one
pub extended_small : (n : ℕ) → n < 2 ^ 31 → IsExtended n
extended_small n lt = by_top n (inl (omega arith))
