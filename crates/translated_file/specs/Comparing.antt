-- The tail of a file beside the tail that a translation has.
use Rattle.std.specs.Prelude.{ℕ, ◌+◌, ◌*◌, ◌/◌, ◌==◌, List, [], ◌∷◌, length, Option, Some, None, Result, nat_lt, if◌then◌else◌}
use Rattle.address_map.specs.Pairs.{Pair}
use Rattle.image_file.specs.Reading.{word, table_in}
use Rattle.image_file.specs.Spelling as Image
use Rattle.image_file.specs.Steps.{◌>>=◌, refuse_if, refuse_at}
use Rattle.translated_file.specs.Limits.{HEADER, WORD_BYTES}
use Rattle.translated_file.specs.declared.refusal.TranslatedRefusal.{TranslatedRefusal}
use Rattle.translated_file.specs.declared.refusal.TranslatedRefusal.TheVariants.{Truncated, NotTheTranslation, Trailing}
use Rattle.translated_file.specs.Spelling.{tail_words}
use Rattle.translated_file.specs.Reading.{parts_of}
use Rattle.translated_file.specs.Values.{PartsValue}

-- the words that are there whole
abbrev pub whole_words : List ℕ → List ℕ
whole_words bytes = table_in WORD_BYTES word (length bytes / WORD_BYTES) bytes

-- a place, the word that was found there, and the one that was wanted
abbrev pub Difference : Type 0
Difference = ℕ × ℕ × ℕ

-- the first place at which both lists have a word and these differ; `place` is that of their first words
abbrev pub first_difference : ℕ → (wanted : List ℕ) → (found : List ℕ) → Option Difference
first_difference place [] found = None
first_difference place (w ∷ ws) [] = None
first_difference place (w ∷ ws) (x ∷ xs) = if x == w then first_difference (place + 1) ws xs else Some (place, x, w)

abbrev pub refusal_at : Difference → TranslatedRefusal
refusal_at d = NotTheTranslation d.0 d.1 d.2

-- a tail that stands at the place `at` of its file, by its length and the one that is wanted
abbrev pub length_compared : (at found wanted : ℕ) → Result (Unit {0}) TranslatedRefusal
length_compared at found wanted = do
  long ← refuse_if (nat_lt found wanted) (Truncated (at + found))
  refuse_if (nat_lt wanted found) (Trailing (at + wanted))

unfoldable pub tail_compared : ℕ → List ℕ → List ℕ → Result (Unit {0}) TranslatedRefusal
tail_compared at tail wanted = do
  same ← refuse_at (first_difference 0 wanted (whole_words tail)) refusal_at
  length_compared at (length tail) (WORD_BYTES * length wanted)

-- where the tail stands in the file
abbrev pub tail_place : PartsValue → ℕ
tail_place parts = HEADER + length (Image.spelling parts.image) + WORD_BYTES * length parts.hints

abbrev pub compared : PartsValue → List ℕ → List Pair → Result (Unit {0}) TranslatedRefusal
compared parts words pairs = tail_compared (tail_place parts) parts.tail (tail_words words pairs)

-- reading the bytes, and comparing what was read with a translation
abbrev pub accepted : List ℕ → List ℕ → List Pair → Result (Unit {0}) TranslatedRefusal
accepted bytes words pairs = do
  parts ← parts_of bytes
  compared parts words pairs
