-- Comparing words one after the other.
use Rattle.std.proofs.Common.{◌≡◌, ◌≢◌, ℕ, zero, suc, ◌+◌, ◌*◌, ◌/◌, ◌<◌, ◌≤◌, true, false, cond, List, [], ◌∷◌, ◌++◌, Option, Some, None, Result, Ok, Err, length, get_or, drop, refl, sym, ap, ◌∙◌, arith, add-one}
use Rattle.std.specs.Prelude.{◌==◌}
use Rattle.std.specs.List.{flat_map}
use Rattle.std.specs.Option.{option_or}
use Rattle.std.specs.Result.{result_and}
use Rattle.std.proofs.Math.Seq.{drop-cons}
use Rattle.std.proofs.lemmas.Bool.{eq-eqb, ne_eqb}
use Rattle.std.proofs.lemmas.List.{drop_all, drop-drop, length-append}
use Rattle.address_map.specs.Pairs.{Pair}
use Rattle.image_file.specs.Reading.{word, table_in}
use Rattle.image_file.specs.Steps.{refuse_at}
use Rattle.image_file.proofs.FieldLaws.{length-table}
use Rattle.translated_file.specs.declared.refusal.TranslatedRefusal.{TranslatedRefusal}
use Rattle.translated_file.specs.Spelling.{pair_words, tail_words}
use Rattle.translated_file.specs.Comparing.{whole_words, Difference, first_difference, refusal_at, length_compared, tail_compared}

-- ---- the words of a tail

pub count_words : (tail : List ℕ) → length (whole_words tail) ≡ length tail / 4
count_words tail = length-table 4 word (length tail / 4) tail

table_at : (k count : ℕ) (bytes : List ℕ) → k < count → get_or (table_in 4 word count bytes) k 0 ≡ word (drop (4 * k) bytes)
table_at k zero bytes within = absurd (omega arith)
table_at zero (suc count) bytes within = refl
table_at (suc k) (suc count) bytes within =
    let next : 4 + 4 * k ≡ 4 * suc k = omega arith in
    table_at k count (drop 4 bytes) (omega arith) ∙ ap word (drop-drop (4 * k) 4 bytes) ∙ ap (λ n. word (drop n bytes)) next

word_here : (tail : List ℕ) (k : ℕ) → 4 * k + 4 ≤ length tail → drop k (whole_words tail) ≡ word (drop (4 * k) tail) ∷ drop (k + 1) (whole_words tail)
word_here tail k within =
    let count = count_words tail in
    let inside : k < length tail / 4 = omega (arith, within) in
    drop-cons (whole_words tail) k 0 (omega (arith, count, inside))
    ∙ (λ i. table_at k (length tail / 4) tail inside i ∷ drop (sym (add-one k) i) (whole_words tail))

no_word : (tail : List ℕ) (k : ℕ) → length tail < 4 * k + 4 → drop k (whole_words tail) ≡ []
no_word tail k short = let count = count_words tail in drop_all k (whole_words tail) (omega (arith, count, short))

-- ---- one more word

-- the comparison of the words behind `number`, of which the first stands at `place`
abbrev pub from_word : ℕ → ℕ → List ℕ → List ℕ → Option Difference
from_word place number wanted tail = first_difference (place + number) (drop number wanted) (drop (place + number) (whole_words tail))

at_word : (place number : ℕ) (wanted tail : List ℕ) → number < length wanted → 4 * (place + number) + 4 ≤ length tail
    → from_word place number wanted tail
    ≡ cond (word (drop (4 * (place + number)) tail) == get_or wanted number 0) (from_word place (number + 1) wanted tail) (Some (place + number, word (drop (4 * (place + number)) tail), get_or wanted number 0))
at_word place number wanted tail within there =
    let next : place + number + 1 ≡ place + (number + 1) = omega arith in
    (λ i. first_difference (place + number) (drop-cons wanted number 0 within i) (word_here tail (place + number) there i))
    ∙ (λ i. cond (word (drop (4 * (place + number)) tail) == get_or wanted number 0) (first_difference (next i) (drop (sym (add-one number) i) wanted) (drop (next i) (whole_words tail))) (Some (place + number, word (drop (4 * (place + number)) tail), get_or wanted number 0)))

pub word_differs : (place number : ℕ) (wanted tail : List ℕ) (found want : ℕ) → number < length wanted → want ≡ get_or wanted number 0 → 4 * (place + number) + 4 ≤ length tail
    → found ≡ word (drop (4 * (place + number)) tail) → found ≢ want → from_word place number wanted tail ≡ from_word place 0 wanted tail
    → from_word place 0 wanted tail ≡ Some (place + number, found, want)
word_differs place number wanted tail found want within want_is there found_is other so_far =
    let differs : (word (drop (4 * (place + number)) tail) == get_or wanted number 0) ≡ false = ne_eqb _ _ (λ same. other (found_is ∙ same ∙ sym want_is)) in
    sym so_far ∙ at_word place number wanted tail within there
    ∙ ap (λ b. cond b (from_word place (number + 1) wanted tail) (Some (place + number, word (drop (4 * (place + number)) tail), get_or wanted number 0))) differs
    ∙ (λ i. Some (place + number, sym found_is i, sym want_is i))

pub word_agrees : (place number : ℕ) (wanted tail : List ℕ) (found want : ℕ) → number < length wanted → want ≡ get_or wanted number 0 → 4 * (place + number) + 4 ≤ length tail
    → found ≡ word (drop (4 * (place + number)) tail) → found ≡ want → from_word place number wanted tail ≡ from_word place 0 wanted tail
    → from_word place (number + 1) wanted tail ≡ from_word place 0 wanted tail
word_agrees place number wanted tail found want within want_is there found_is same so_far =
    let equal : (word (drop (4 * (place + number)) tail) == get_or wanted number 0) ≡ true = eq-eqb _ _ (sym found_is ∙ same ∙ want_is) in
    sym (at_word place number wanted tail within there
    ∙ ap (λ b. cond b (from_word place (number + 1) wanted tail) (Some (place + number, word (drop (4 * (place + number)) tail), get_or wanted number 0))) equal)
    ∙ so_far

nothing_found : (place : ℕ) (wanted : List ℕ) → first_difference place wanted [] ≡ None
nothing_found place [] = refl
nothing_found place (w ∷ ws) = refl

pub words_end : (place number : ℕ) (wanted tail : List ℕ) → length tail < 4 * (place + number) + 4 → from_word place number wanted tail ≡ from_word place 0 wanted tail → from_word place 0 wanted tail ≡ None
words_end place number wanted tail short so_far = sym so_far ∙ ap (first_difference (place + number) (drop number wanted)) (no_word tail (place + number) short) ∙ nothing_found (place + number) (drop number wanted)

-- the comparison of all these words, from the place on
abbrev pub from_place : ℕ → List ℕ → List ℕ → Option Difference
from_place place wanted tail = first_difference place wanted (drop place (whole_words tail))

pub from_begin : (place : ℕ) (wanted tail : List ℕ) → from_word place 0 wanted tail ≡ from_place place wanted tail
from_begin place wanted tail = let same : place + 0 ≡ place = omega arith in λ i. first_difference (same i) wanted (drop (same i) (whole_words tail))

-- ---- one list behind another

drop_nil : (n : ℕ) → drop {A = ℕ} n [] ≡ []
drop_nil zero = refl
drop_nil (suc n) = refl

split : (place : ℕ) (a b found : List ℕ) → first_difference place (a ++ b) found ≡ option_or (first_difference place a found) (first_difference (place + length a) b (drop (length a) found))
split place [] b found = let same : place ≡ place + 0 = omega arith in ap (λ n. first_difference n b found) same
split place (w ∷ ws) b [] = sym (ap (first_difference (place + length (w ∷ ws)) b) (drop_nil (length (w ∷ ws))) ∙ nothing_found (place + length (w ∷ ws)) b)
split place (w ∷ ws) b (x ∷ xs) =
    let next : place + 1 + length ws ≡ place + suc (length ws) = omega arith in
    elim (x == w) as (λ c. cond c (first_difference (place + 1) (ws ++ b) xs) (Some (place, x, w)) ≡ option_or (cond c (first_difference (place + 1) ws xs) (Some (place, x, w))) (first_difference (place + suc (length ws)) b (drop (length ws) xs))) [
      | true ↦ split (place + 1) ws b xs ∙ ap (λ n. option_or (first_difference (place + 1) ws xs) (first_difference n b (drop (length ws) xs))) next
      | false ↦ refl
    ]

pub two_lists : (place : ℕ) (a b tail : List ℕ) → from_place place (a ++ b) tail ≡ option_or (from_place place a tail) (from_place (place + length a) b tail)
two_lists place a b tail =
    split place a b (drop place (whole_words tail))
    ∙ ap (λ rest. option_or (from_place place a tail) (first_difference (place + length a) b rest)) (drop-drop (length a) place (whole_words tail))

-- ---- one check behind another

abbrev pub refused : Option Difference → Result (Unit {0}) TranslatedRefusal
refused d = refuse_at d refusal_at

goes_on : (a b : Option Difference) (u : Unit {0}) → Ok u ≡ refused a → refused (option_or a b) ≡ refused b
goes_on None b u passes = refl
goes_on (Some d) b u passes = absurd cc

stops : (a b : Option Difference) (e : TranslatedRefusal) → Err e ≡ refused a → Err e ≡ refused (option_or a b)
stops None b e refuses = absurd cc
stops (Some d) b e refuses = refuses

-- ---- the words of pairs, and of a tail

abbrev pub pair_at : List Pair → ℕ → Pair
pair_at pairs k = get_or pairs k (0, 0)

pair_here : (pairs : List Pair) (k : ℕ) → k < length pairs → flat_map pair_words (drop k pairs) ≡ pair_words (pair_at pairs k) ++ flat_map pair_words (drop (k + 1) pairs)
pair_here pairs k within = ap (flat_map pair_words) (drop-cons pairs k (0, 0) within ∙ ap (λ n. pair_at pairs k ∷ drop n pairs) (sym (add-one k)))

-- the words of the pairs behind `number`, of which the first stands at `place`
abbrev pub from_pair : ℕ → ℕ → List Pair → List ℕ → Option Difference
from_pair place number pairs tail = from_place (place + 2 * number) (flat_map pair_words (drop number pairs)) tail

at_pair : (place number : ℕ) (pairs : List Pair) (tail : List ℕ) → number < length pairs
    → from_pair place number pairs tail ≡ option_or (from_place (place + 2 * number) (pair_words (pair_at pairs number)) tail) (from_pair place (number + 1) pairs tail)
at_pair place number pairs tail within =
    let p = pair_at pairs number in
    let next : place + 2 * number + 2 ≡ place + 2 * (number + 1) = omega arith in
    ap (λ ws. from_place (place + 2 * number) ws tail) (pair_here pairs number within)
    ∙ two_lists (place + 2 * number) (pair_words p) (flat_map pair_words (drop (number + 1) pairs)) tail
    ∙ ap (λ n. option_or (from_place (place + 2 * number) (pair_words p) tail) (from_place n (flat_map pair_words (drop (number + 1) pairs)) tail)) next

none_then : (a b : Option Difference) (u : Unit {0}) → Ok u ≡ refused a → option_or a b ≡ b
none_then None b u passes = refl
none_then (Some d) b u passes = absurd cc

pub pair_agrees : (place number : ℕ) (pairs : List Pair) (tail : List ℕ) (u : Unit {0}) → number < length pairs → Ok u ≡ refused (from_place (place + 2 * number) (pair_words (pair_at pairs number)) tail)
    → from_pair place number pairs tail ≡ from_place place (flat_map pair_words pairs) tail → from_pair place (number + 1) pairs tail ≡ from_place place (flat_map pair_words pairs) tail
pair_agrees place number pairs tail u within passes so_far =
    sym (at_pair place number pairs tail within ∙ none_then (from_place (place + 2 * number) (pair_words (pair_at pairs number)) tail) (from_pair place (number + 1) pairs tail) u passes) ∙ so_far

-- the four lists of a tail, one behind another
abbrev pub count_part : List ℕ → List ℕ → Option Difference
count_part words tail = from_place 0 (length words ∷ []) tail

abbrev pub words_part : List ℕ → List ℕ → Option Difference
words_part words tail = from_place 1 words tail

abbrev pub pair_count_part : List ℕ → List Pair → List ℕ → Option Difference
pair_count_part words pairs tail = from_place (1 + length words) (length pairs ∷ []) tail

abbrev pub pairs_part : List ℕ → List Pair → List ℕ → Option Difference
pairs_part words pairs tail = from_place (1 + length words + 1) (flat_map pair_words pairs) tail

four_parts : (words : List ℕ) (pairs : List Pair) (tail : List ℕ)
    → first_difference 0 (tail_words words pairs) (whole_words tail) ≡ option_or (count_part words tail) (option_or (words_part words tail) (option_or (pair_count_part words pairs tail) (pairs_part words pairs tail)))
four_parts words pairs tail =
    let m = length pairs in
    let flat = flat_map pair_words pairs in
    two_lists 0 (length words ∷ []) (words ++ m ∷ flat) tail
    ∙ ap (option_or (count_part words tail)) (two_lists 1 words (m ∷ flat) tail ∙ ap (option_or (words_part words tail)) (two_lists (1 + length words) (m ∷ []) flat tail))

-- the difference of whole tails
abbrev pub whole_part : List ℕ → List Pair → List ℕ → Option Difference
whole_part words pairs tail = first_difference 0 (tail_words words pairs) (whole_words tail)

behind_count : (words : List ℕ) (pairs : List Pair) (tail : List ℕ) (u : Unit {0}) → Ok u ≡ refused (count_part words tail)
    → refused (option_or (words_part words tail) (option_or (pair_count_part words pairs tail) (pairs_part words pairs tail))) ≡ refused (whole_part words pairs tail)
behind_count words pairs tail u a = sym (ap refused (four_parts words pairs tail) ∙ goes_on (count_part words tail) _ u a)

behind_words : (words : List ℕ) (pairs : List Pair) (tail : List ℕ) (u v : Unit {0}) → Ok u ≡ refused (count_part words tail) → Ok v ≡ refused (words_part words tail)
    → refused (option_or (pair_count_part words pairs tail) (pairs_part words pairs tail)) ≡ refused (whole_part words pairs tail)
behind_words words pairs tail u v a b = sym (goes_on (words_part words tail) _ v b) ∙ behind_count words pairs tail u a

pub second_refuses : (words : List ℕ) (pairs : List Pair) (tail : List ℕ) (u : Unit {0}) (e : TranslatedRefusal) → Ok u ≡ refused (count_part words tail) → Err e ≡ refused (words_part words tail) → Err e ≡ refused (whole_part words pairs tail)
second_refuses words pairs tail u e a b = stops (words_part words tail) (option_or (pair_count_part words pairs tail) (pairs_part words pairs tail)) e b ∙ behind_count words pairs tail u a

pub third_refuses : (words : List ℕ) (pairs : List Pair) (tail : List ℕ) (u v : Unit {0}) (e : TranslatedRefusal) → Ok u ≡ refused (count_part words tail) → Ok v ≡ refused (words_part words tail) → Err e ≡ refused (pair_count_part words pairs tail)
    → Err e ≡ refused (whole_part words pairs tail)
third_refuses words pairs tail u v e a b c = stops (pair_count_part words pairs tail) (pairs_part words pairs tail) e c ∙ behind_words words pairs tail u v a b

pub last_decides : (words : List ℕ) (pairs : List Pair) (tail : List ℕ) (u v w : Unit {0}) (r : Result (Unit {0}) TranslatedRefusal) → Ok u ≡ refused (count_part words tail) → Ok v ≡ refused (words_part words tail) → Ok w ≡ refused (pair_count_part words pairs tail)
    → r ≡ refused (pairs_part words pairs tail) → r ≡ refused (whole_part words pairs tail)
last_decides words pairs tail u v w r a b c d = d ∙ sym (goes_on (pair_count_part words pairs tail) _ w c) ∙ behind_words words pairs tail u v a b

-- ---- the length behind the words

pub tail_decides : (at : ℕ) (tail wanted : List ℕ) (difference length_is : Result (Unit {0}) TranslatedRefusal) → difference ≡ refused (first_difference 0 wanted (whole_words tail)) → length_is ≡ length_compared at (length tail) (4 * length wanted)
    → result_and difference length_is ≡ tail_compared at tail wanted
unfolding tail_compared
tail_decides at tail wanted (Ok u) length_is same is = rw (← same) is
tail_decides at tail wanted (Err e) length_is differs is = rw (← differs) refl

pub tail_count : (words : List ℕ) (pairs : List Pair) → length (tail_words words pairs) ≡ 2 + length words + 2 * length pairs
tail_count words pairs =
    let flat = flat_map pair_words pairs in
    omega (arith, length-append words (length pairs ∷ flat), two_each pairs)
  where
    two_each : (pairs : List Pair) → length (flat_map pair_words pairs) ≡ 2 * length pairs
    two_each [] = refl
    two_each (p ∷ ps) = let rest = two_each ps in omega (arith, rest)
