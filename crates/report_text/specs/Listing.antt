-- The listing of a translation: a line for each mapped address, in rising order.
use Rattle.std.specs.Prelude.{ℕ, zero, suc, ◌-◌, ◌≤◌, List, [], ◌∷◌, ◌++◌, drop, length, take}
use Rattle.std.specs.List.{AllByRecursion}
use Rattle.address_map.specs.Pairs.{Pair}
use Rattle.report_text.specs.Digits.{eight_digits}
use Rattle.report_text.specs.Numbers.{longwords}

-- the address, the number of the block's first word, and its words
abbrev pub block_text : (address first : ℕ) → (words : List ℕ) → List ℕ
block_text address first words = eight_digits address ++ longwords (first ∷ words) ++ 10 ∷ []

-- the word behind a block: the first of the next one, or the end where there is none
abbrev pub end_before : (next : List Pair) → (count : ℕ) → ℕ
end_before [] count = count
end_before (pair ∷ pairs) count = pair.1

-- the words from a block's first one on, by the pairs behind its own
abbrev pub block_words : (words : List ℕ) → (first : ℕ) → (next : List Pair) → List ℕ
block_words words first next = take (end_before next (length words) - first) (drop first words)

abbrev pub listing_text : (words : List ℕ) → List Pair → List ℕ
listing_text words [] = []
listing_text words (pair ∷ pairs) =
    block_text pair.0 pair.1 (block_words words pair.1 pairs) ++ listing_text words pairs

-- each block begins at a word that is there, or behind the last one
abbrev pub AreWithin : (words : List ℕ) → List Pair → Type 0
AreWithin words pairs = AllByRecursion (λ (pair : Pair). pair.1 ≤ length words) pairs

-- the first digits of a text as so many numbers of eight digits, with a blank before each
abbrev pub spaced_digits : (count : ℕ) → List ℕ → List ℕ
spaced_digits zero digits = []
spaced_digits (suc count) digits = (32 ∷ take 8 digits) ++ spaced_digits count (drop 8 digits)
