-- Numbers as they are read.
use Rattle.std.proofs.Common.{arith, le-leb, eqb-true, drop, ◌≤◌, ◌≡◌, ◌<◌, ◌^◌, ◌&&◌, ℕ, Bool, cond, true, false, refl, ap, List, [], ◌∷◌, length, Some, None, Result, Ok, Err, nat_lt, lt-ltb, ltb-true}
use Rattle.std.specs.Prelude.{◌==◌, slice_index}
use Rattle.std.specs.List.{list_all}
use Rattle.std.specs.Result.{result_ok}
use Rattle.std.specs.Char.{digit_value}
use Rattle.std.specs.Str.Parse.{AllDigits, ParsesUnsigned, digits_value, without_leading_plus}
use Rattle.clap.proofs.WalkLemmas.{both}
use Rattle.std.proofs.lemmas.Int.Digits.{digits_value-lt}
use Rattle.std.proofs.Math.Nat.{pow-le-pow_right}
use Rattle.command_words.specs.Parts.{Text}
use Rattle.command_words.specs.Numbers.{are_digits, number_in, short_number}

all_pass : (radix : ℕ) (ds : List ℕ) → AllDigits radix ds → list_all (λ d. nat_lt (digit_value d) radix) ds ≡ true
all_pass radix [] h = refl
all_pass radix (d ∷ ds) h = rw (lt-ltb (digit_value d) radix h.0) (all_pass radix ds h.1)

all_from : (radix : ℕ) (ds : List ℕ) → list_all (λ d. nat_lt (digit_value d) radix) ds ≡ true → AllDigits radix ds
all_from radix [] e = tt
all_from radix (d ∷ ds) e =
    let parts = both _ _ e in
    (ltb-true _ _ parts.0, all_from radix ds parts.1)

digits_are : (radix : ℕ) (ds : List ℕ) → 0 < length ds → AllDigits radix ds → are_digits radix ds ≡ true
digits_are radix ds filled all = rw (lt-ltb 0 (length ds) filled) (all_pass radix ds all)

digits_from : (radix : ℕ) (ds : List ℕ) → are_digits radix ds ≡ true → (0 < length ds) × AllDigits radix ds
digits_from radix ds e =
    let parts = both _ _ e in
    (ltb-true _ _ parts.0, all_from radix ds parts.1)

pub number_read : {E : Type 0} (text : Text) (r : Result ℕ E) → ParsesUnsigned 64 10 text r → result_ok r ≡ number_in text
number_read text (Ok n) h =
    let ds = without_leading_plus text in
    rw (digits_are 10 ds h.0.0.0 h.0.0.1, lt-ltb (digits_value 10 ds) (2 ^ 64) h.0.1) (ap Some h.1)
number_read text (Err e) h = go (are_digits 10 (without_leading_plus text) && nat_lt (digits_value 10 (without_leading_plus text)) (2 ^ 64)) refl
  where
    go : (b : Bool) → (are_digits 10 (without_leading_plus text) && nat_lt (digits_value 10 (without_leading_plus text)) (2 ^ 64)) ≡ b → None ≡ number_in text
    go false t = rw t refl
    go true t =
        let parts = both _ _ t in
        absurd (h (digits_from 10 (without_leading_plus text) parts.0, ltb-true _ _ parts.1))

-- ---- a few digits

no_plus : (text : Text) → (slice_index text 0 ≡ 43 → ⊥) → without_leading_plus text ≡ text
no_plus text h = go (slice_index text 0 == 43) refl
  where
    go : (b : Bool) → (slice_index text 0 == 43) ≡ b → drop (cond b 1 0) text ≡ text
    go true e = absurd (h (eqb-true _ _ e))
    go false e = refl

pub short_read : {E : Type 0} (radix most : ℕ) (text : Text) (r : Result ℕ E) → radix ^ most ≤ 2 ^ 32 → 0 < radix → length text ≤ most → (slice_index text 0 ≡ 43 → ⊥)
    → ParsesUnsigned 32 radix text r → result_ok r ≡ short_number radix most text
short_read radix most text (Ok n) small least short plus h =
    let same = no_plus text plus in
    let filled = rw same at h.0.0.0 in
    let digits = rw same at h.0.0.1 in
    let value = rw same at h.1 in
    rw (digits_are radix text filled digits, le-leb (length text) most short) (ap Some value)
short_read radix most text (Err e) small least short plus h = go (are_digits radix text) refl
  where
    go : (b : Bool) → are_digits radix text ≡ b → None ≡ short_number radix most text
    go false t = rw t refl
    go true t =
        let same = no_plus text plus in
        let number = digits_from radix text t in
        let bound : digits_value radix text < radix ^ length text = digits_value-lt radix text number.1 in
        let grows : radix ^ length text ≤ radix ^ most = pow-le-pow_right least short in
        let fits : digits_value radix text < 2 ^ 32 = omega arith in
        absurd (h (rw same (number, fits)))
