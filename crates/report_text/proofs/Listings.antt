-- The digits of numbers by those of their bytes, and the blocks of a listing.
use Rattle.std.proofs.Common.{true, ◌↔◌, nat_le, ◌≡◌, ◌<◌, ◌≤◌, ◌+◌, ◌-◌, ◌*◌, ◌^◌, ◌/◌, ◌%◌, ◌++◌, ℕ, zero, suc, List, [], ◌∷◌, length, take, drop, get_or, refl, sym, ap, ◌∙◌, subst, arith, append_assoc, length-append, length-drop, add-one}
use Rattle.std.specs.Prelude.{codes, slice_index}
use Rattle.std.specs.Int.{to_be_bytes, w32}
use Rattle.std.specs.List.{AllByRecursion, flat_map, list_all}
use Rattle.std.proofs.lemmas.List.{drop-drop}
use Rattle.std.proofs.Math.Seq.{drop-cons, take-length}
use Rattle.std.proofs.lemmas.Bool.{and_parts, le-leb, leb-true}
use Rattle.hex.specs.Hex.{encode_upper, encode_with, upper_digits}
use Rattle.address_map.specs.Pairs.{AllRise, Pair}
use Rattle.report_text.specs.Digits.{digits_from, eight_digits}
use Rattle.report_text.specs.Listing.{AreWithin, block_text, block_words, end_before, listing_text, spaced_digits}
use Rattle.report_text.specs.Numbers.{longwords}

-- ---- digits
abbrev digit : ℕ → ℕ
digit d = slice_index (codes "0123456789ABCDEF") d

capitals : (n : ℕ) → n < 2 ^ 32 → encode_upper (to_be_bytes w32 n) ≡ eight_digits n
unfolding encode_with eight_digits digits_from
capitals n fits =
    let d7 : n / 16777216 % 256 / 16 ≡ n / 268435456 % 16 = omega arith in
    let d6 : n / 16777216 % 256 % 16 ≡ n / 16777216 % 16 = omega arith in
    let d5 : n / 65536 % 256 / 16 ≡ n / 1048576 % 16 = omega arith in
    let d4 : n / 65536 % 256 % 16 ≡ n / 65536 % 16 = omega arith in
    let d3 : n / 256 % 256 / 16 ≡ n / 4096 % 16 = omega arith in
    let d2 : n / 256 % 256 % 16 ≡ n / 256 % 16 = omega arith in
    let d1 : n % 256 / 16 ≡ n / 16 % 16 = omega arith in
    let d0 : n % 256 % 16 ≡ n / 1 % 16 = omega arith in
    λ i. digit (d7 i) ∷ digit (d6 i) ∷ digit (d5 i) ∷ digit (d4 i) ∷ digit (d3 i) ∷ digit (d2 i) ∷ digit (d1 i) ∷ digit (d0 i) ∷ []

encode_both : (xs ys : List ℕ) → encode_upper (xs ++ ys) ≡ encode_upper xs ++ encode_upper ys
unfolding encode_with
encode_both [] ys = refl
encode_both (x ∷ xs) ys =
    ap (λ rest. slice_index upper_digits (x / 16) ∷ slice_index upper_digits (x % 16) ∷ rest) (encode_both xs ys)

-- the digits of all numbers
pub all_capitals : (numbers : List ℕ) → AllByRecursion (λ (n : ℕ). n < 2 ^ 32) numbers
    → encode_upper (flat_map (to_be_bytes w32) numbers) ≡ flat_map eight_digits numbers
unfolding encode_with
all_capitals [] fit = refl
all_capitals (n ∷ numbers) fit =
    encode_both (to_be_bytes w32 n) (flat_map (to_be_bytes w32) numbers)
    ∙ ap (λ digits. digits ++ encode_upper (flat_map (to_be_bytes w32) numbers)) (capitals n fit.0)
    ∙ ap (λ digits. eight_digits n ++ digits) (all_capitals numbers fit.1)

-- numbers that fit at each place
pub all_fit : (numbers : List ℕ) → ((k : ℕ) → get_or numbers k 0 < 2 ^ 32) → AllByRecursion (λ (n : ℕ). n < 2 ^ 32) numbers
all_fit [] fit = tt
all_fit (n ∷ numbers) fit = (fit 0, all_fit numbers (λ k. fit (suc k)))

take_eight : (n : ℕ) (rest : List ℕ) → take 8 (eight_digits n ++ rest) ≡ eight_digits n
unfolding eight_digits digits_from
take_eight n rest = refl

drop_eight : (n : ℕ) (rest : List ℕ) → drop 8 (eight_digits n ++ rest) ≡ rest
unfolding eight_digits digits_from
drop_eight n rest = refl

-- a blank before each number
pub spaced_numbers : (numbers : List ℕ) → spaced_digits (length numbers) (flat_map eight_digits numbers) ≡ longwords numbers
spaced_numbers [] = refl
spaced_numbers (n ∷ numbers) =
    (λ i. (32 ∷ take_eight n (flat_map eight_digits numbers) i) ++ spaced_digits (length numbers) (drop_eight n (flat_map eight_digits numbers) i))
    ∙ ap (λ rest. (32 ∷ eight_digits n) ++ rest) (spaced_numbers numbers)

length_eight : (n : ℕ) → length (eight_digits n) ≡ 8
unfolding eight_digits digits_from
length_eight n = refl

pub length_digits : (numbers : List ℕ) → length (flat_map eight_digits numbers) ≡ 8 * length numbers
length_digits [] = refl
length_digits (n ∷ numbers) =
    let first = length_eight n in
    let rest = length_digits numbers in
    length-append (eight_digits n) (flat_map eight_digits numbers) ∙ omega (arith, first, rest)

number_put : (count number : ℕ) (digits so_far more whole piece : List ℕ) → number < count
    → so_far ++ spaced_digits (count - number) (drop (8 * number) digits) ≡ whole
    → piece ≡ take 8 (drop (8 * number) digits) → more ≡ (so_far ++ 32 ∷ []) ++ piece
    → more ++ spaced_digits (count - (number + 1)) (drop (8 * (number + 1)) digits) ≡ whole
number_put count number digits so_far more whole piece within before is pushed =
    let left : count - number ≡ suc (count - (number + 1)) = omega arith in
    let place : 8 + 8 * number ≡ 8 * (number + 1) = omega arith in
    let step : spaced_digits (count - number) (drop (8 * number) digits)
    ≡ (32 ∷ piece) ++ spaced_digits (count - (number + 1)) (drop (8 * (number + 1)) digits) =
    ap (λ k. spaced_digits k (drop (8 * number) digits)) left
    ∙ (λ i. (32 ∷ sym is i) ++ spaced_digits (count - (number + 1)) (drop-drop 8 (8 * number) digits i))
    ∙ ap (λ at. (32 ∷ piece) ++ spaced_digits (count - (number + 1)) (drop at digits)) (omega (arith, place)) in
    ap (λ t. t ++ spaced_digits (count - (number + 1)) (drop (8 * (number + 1)) digits)) pushed
    ∙ ap (λ t. t ++ spaced_digits (count - (number + 1)) (drop (8 * (number + 1)) digits)) (append_assoc so_far (32 ∷ []) piece)
    ∙ append_assoc so_far (32 ∷ piece) (spaced_digits (count - (number + 1)) (drop (8 * (number + 1)) digits))
    ∙ ap (λ t. so_far ++ t) (sym step)
    ∙ before

-- one number more of the digits
pub number_moved : (count number : ℕ) (digits so_far blank more whole : List ℕ) → number < count
    → so_far ++ spaced_digits (count - number) (drop (8 * number) digits) ≡ whole
    → blank ≡ so_far ++ 32 ∷ [] → more ≡ blank ++ take (8 * (number + 1) - 8 * number) (drop (8 * number) digits)
    → more ++ spaced_digits (count - (number + 1)) (drop (8 * (number + 1)) digits) ≡ whole
number_moved count number digits so_far blank more whole within before spaced pushed =
    let piece = take 8 (drop (8 * number) digits) in
    let eight : 8 * (number + 1) - 8 * number ≡ 8 = omega arith in
    number_put count number digits so_far more whole piece within before refl
    (pushed ∙ (λ i. spaced i ++ take (eight i) (drop (8 * number) digits)))

-- a line of its digits
pub block_pushed : (address first : ℕ) (words digits text so_far whole : List ℕ) → digits ≡ flat_map eight_digits (address ∷ first ∷ words)
    → so_far ≡ (text ++ take 8 digits) ++ spaced_digits (1 + length words) (drop 8 digits) → whole ≡ so_far ++ 10 ∷ []
    → whole ≡ text ++ block_text address first words
unfolding eight_digits digits_from
block_pushed address first words digits text so_far whole is pushed ended =
    let rest = flat_map eight_digits (first ∷ words) in
    let one : 1 + length words ≡ suc (length words) = omega arith in
    let front : take 8 digits ≡ eight_digits address = ap (λ ds. take 8 ds) is ∙ take_eight address rest in
    let behind : drop 8 digits ≡ flat_map eight_digits (first ∷ words) = ap (λ ds. drop 8 ds) is ∙ drop_eight address rest in
    ended
    ∙ ap (λ t. t ++ 10 ∷ []) (pushed ∙ (λ i. (text ++ front i) ++ spaced_digits (one i) (behind i)) ∙ ap (λ t. (text ++ eight_digits address) ++ t) (spaced_numbers (first ∷ words)))
    ∙ ap (λ t. t ++ 10 ∷ []) (append_assoc text (eight_digits address) (longwords (first ∷ words)))
    ∙ append_assoc text (eight_digits address ++ longwords (first ∷ words)) (10 ∷ [])
    ∙ ap (λ t. text ++ t) (append_assoc (eight_digits address) (longwords (first ∷ words)) (10 ∷ []))

-- ---- blocks
within_by : (words : List ℕ) (pairs : List Pair) → list_all (λ (pair : Pair). nat_le pair.1 (length words)) pairs ≡ true → AreWithin words pairs
within_by words [] pass = tt
within_by words (p ∷ pairs) pass =
    let both = and_parts (nat_le p.1 (length words)) (list_all (λ (pair : Pair). nat_le pair.1 (length words)) pairs) pass in
    (leb-true _ _ both.0, within_by words pairs both.1)

by_within : (words : List ℕ) (pairs : List Pair) → AreWithin words pairs → list_all (λ (pair : Pair). nat_le pair.1 (length words)) pairs ≡ true
by_within words [] within = refl
by_within words (p ∷ pairs) within = rw (le-leb p.1 (length words) within.0) (by_within words pairs within.1)

pub tests_within : (words : List ℕ) (pairs : List Pair) → (list_all (λ (pair : Pair). nat_le pair.1 (length words)) pairs ≡ true) ↔ AreWithin words pairs
tests_within words pairs = (within_by words pairs, by_within words pairs)

pub block_begins : (words : List ℕ) (pairs : List Pair) (i : ℕ) (d : Pair) → AreWithin words pairs → i < length pairs
    → (get_or pairs i d).1 ≤ length words
block_begins words [] i d within lt = absurd (omega arith)
block_begins words (p ∷ pairs) zero d within lt = within.0
block_begins words (p ∷ pairs) (suc i) d within lt = block_begins words pairs i d within.1 (omega arith)

next_within : (words : List ℕ) (pairs : List Pair) → AreWithin words pairs → end_before pairs (length words) ≤ length words
next_within words [] within = omega arith
next_within words (p ∷ pairs) within = let first = within.0 in omega (arith, first)

within_behind : (words : List ℕ) (pairs : List Pair) (i : ℕ) → AreWithin words pairs → AreWithin words (drop i pairs)
within_behind words pairs zero within = within
within_behind words [] (suc i) within = tt
within_behind words (p ∷ pairs) (suc i) within = within_behind words pairs i within.1

pub block_ends : (words : List ℕ) (pairs : List Pair) (i : ℕ) → AreWithin words pairs
    → end_before (drop i pairs) (length words) ≤ length words
block_ends words pairs i within = next_within words (drop i pairs) (within_behind words pairs i within)

-- a block ends behind its first word
pub block_rises : (words : List ℕ) (pairs : List Pair) (i : ℕ) (d : Pair) → AreWithin words pairs → AllRise pairs → i < length pairs
    → (get_or pairs i d).1 ≤ end_before (drop (i + 1) pairs) (length words)
block_rises words pairs i d within rise lt = by (drop (i + 1) pairs) refl
  where
    by : (rest : List Pair) → drop (i + 1) pairs ≡ rest → (get_or pairs i d).1 ≤ end_before rest (length words)
    by [] e = let first = block_begins words pairs i d within lt in omega (arith, first)
    by (p ∷ rest) e =
        let more : i + 1 < length pairs = by_length (p ∷ rest) e (omega arith) in
        let here : drop (i + 1) pairs ≡ get_or pairs (i + 1) d ∷ drop (i + 1 + 1) pairs =
        drop-cons pairs (i + 1) d more ∙ ap (λ k. get_or pairs (i + 1) d ∷ drop k pairs) (sym (add-one (i + 1))) in
        let same : p ≡ get_or pairs (i + 1) d = cc in
        let rises = (rise i d more).1 in
        subst (λ (q : Pair). (get_or pairs i d).1 ≤ q.1) (sym same) (omega (arith, rises))
      where
        by_length : (rest : List Pair) → drop (i + 1) pairs ≡ rest → 0 < length rest → i + 1 < length pairs
        by_length rest is some =
            let size : length (drop (i + 1) pairs) ≡ length pairs - (i + 1) = length-drop (i + 1) pairs in
            let same : length (drop (i + 1) pairs) ≡ length rest = ap length is in
            omega (arith, size, same, some)

-- one block more of the listing
pub block_moved : (words : List ℕ) (pairs : List Pair) (i : ℕ) (d : Pair) (so_far more whole : List ℕ) → i < length pairs
    → so_far ++ listing_text words (drop i pairs) ≡ whole
    → more ≡ so_far ++ block_text (get_or pairs i d).0 (get_or pairs i d).1 (block_words words (get_or pairs i d).1 (drop (i + 1) pairs))
    → more ++ listing_text words (drop (i + 1) pairs) ≡ whole
block_moved words pairs i d so_far more whole lt before pushed =
    let pair = get_or pairs i d in
    let rest = drop (i + 1) pairs in
    let here : drop i pairs ≡ get_or pairs i d ∷ drop (i + 1) pairs =
    drop-cons pairs i d lt ∙ ap (λ k. get_or pairs i d ∷ drop k pairs) (sym (add-one i)) in
    ap (λ t. t ++ listing_text words rest) pushed
    ∙ append_assoc so_far (block_text pair.0 pair.1 (block_words words pair.1 rest)) (listing_text words rest)
    ∙ ap (λ ps. so_far ++ listing_text words ps) (sym here)
    ∙ before

-- the pairs behind a place, as a slice has them
pub rest_of : (pairs : List Pair) (k : ℕ) → take (length pairs - k) (drop k pairs) ≡ drop k pairs
rest_of pairs k = ap (λ n. take n (drop k pairs)) (sym (length-drop k pairs)) ∙ take-length (drop k pairs)
