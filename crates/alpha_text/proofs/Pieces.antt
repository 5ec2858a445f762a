-- A text in pieces, with a sign behind each: the pieces are told by the text.
use Rattle.std.proofs.Common.{◌≡◌, ℕ, suc, ◌≤◌, ◌<◌, ◌^◌, List, [], ◌∷◌, ◌++◌, Bool, true, false, eqb, ltb, refl, sym, ap, ◌∙◌, subst, arith}
use Rattle.std.specs.Prelude.{◌||◌, ◌&&◌, ℤ, pos, negsuc}
use Rattle.std.specs.List.{list_all}
use Rattle.std.specs.Fmt.{decimal, signed_decimal}
use Rattle.std.specs.Int.Signed.{mag}
use Rattle.std.specs.Str.Parse.{AllDigits}
use Rattle.std.proofs.lemmas.Fmt.{decimal_is_IsNumeral}
use Rattle.std.proofs.lemmas.Str.Parse.{digit_from_value}
use Rattle.std.proofs.lemmas.Bool.{and_parts, lt-ltb}

-- no blank, bracket or comma
abbrev pub inside : ℕ → Bool
inside c = ltb 44 c || (eqb c 36 || eqb c 43)

abbrev pub Clean : List ℕ → Type 0
Clean xs = list_all inside xs ≡ true

-- nothing is left, or a sign
abbrev pub Ends : List ℕ → Type 0
Ends [] = Unit {0}
Ends (c ∷ cs) = inside c ≡ false

pub same_heads : (c d : ℕ) (xs ys : List ℕ) → c ∷ xs ≡ d ∷ ys → c ≡ d
same_heads c d xs ys e = cc

pub same_tails : (c d : ℕ) (xs ys : List ℕ) → c ∷ xs ≡ d ∷ ys → xs ≡ ys
same_tails c d xs ys e = cc

never : (d : ℕ) (ds x y : List ℕ) → Clean (d ∷ ds) → Ends x → x ≡ d ∷ y → ⊥
never d ds x y clean ends e =
    let no : inside d ≡ false = subst Ends e ends in
    let yes = (and_parts (inside d) (list_all inside ds) clean).0 in cc

pub same_piece : (a b x y : List ℕ) → Clean a → Clean b → Ends x → Ends y → a ++ x ≡ b ++ y → (a ≡ b) × (x ≡ y)
same_piece [] [] x y ca cb ex ey e = (refl, e)
same_piece [] (d ∷ b) x y ca cb ex ey e = absurd (never d b x (b ++ y) cb ex e)
same_piece (c ∷ a) [] x y ca cb ex ey e = absurd (never c a y (a ++ x) ca ey (sym e))
same_piece (c ∷ a) (d ∷ b) x y ca cb ex ey e =
    let rest = same_piece a b x y (and_parts (inside c) (list_all inside a) ca).1 (and_parts (inside d) (list_all inside b) cb).1 ex ey
    (same_tails c d (a ++ x) (b ++ y) e) in
    let head = same_heads c d (a ++ x) (b ++ y) e in
    let tail = rest.0 in
    (cc, rest.1)

-- ---- numbers are pieces

inside_digit : (c : ℕ) → 48 ≤ c → inside c ≡ true
inside_digit c h = ap (λ b. b || (eqb c 36 || eqb c 43)) (lt-ltb 44 c (omega arith))

clean_digits : (ds : List ℕ) → AllDigits 10 ds → Clean ds
clean_digits [] h = refl
clean_digits (c ∷ cs) h =
    let d = digit_from_value c h.0 in
    ap (λ b. b && list_all inside cs) (inside_digit c (omega (arith, d))) ∙ clean_digits cs h.1

pub clean_decimal : (n : ℕ) → n < 2 ^ 64 → Clean (decimal n)
clean_decimal n h = clean_digits (decimal n) (decimal_is_IsNumeral n h).0.1

pub clean_signed : (z : ℤ) → mag z < 2 ^ 63 → Clean (signed_decimal z)
clean_signed (pos n) h = clean_decimal n (omega arith)
clean_signed (negsuc n) h = clean_decimal (suc n) (omega arith)

-- no number begins with that sign
pub no_sign : (c n : ℕ) (ds : List ℕ) → n < 2 ^ 64 → c < 48 → c ∷ ds ≡ decimal n → ⊥
no_sign c n ds h low e =
    let digits : AllDigits 10 (c ∷ ds) = subst (AllDigits 10) (sym e) (decimal_is_IsNumeral n h).0.1 in
    let d = digit_from_value c digits.0 in omega (arith, d)
