-- Hint files: addresses from which instructions are looked for, too. All numbers are little-endian.
use Rattle.std.specs.Prelude.{◌≡◌, ◌<◌, ℕ, ◌+◌, ◌*◌, ◌==◌, not, List, [], ◌∷◌, ◌++◌, length, codes, drop, take, Option, slice_get, Result, Ok, Err, nat_lt}
use Rattle.std.specs.Int.{w32, to_le_bytes}
use Rattle.vax_form.specs.GrammarLaws.{AreBytes}
use Rattle.image_file.specs.Reading.{word, table_in}
use Rattle.image_file.specs.Steps.{◌>>=◌, refuse_if, refuse_at}
use Rattle.translated_file.specs.Limits.{MOST_HINTS}
use Rattle.translated_file.specs.Reading.{first_fall}
use Rattle.translated_file.specs.Spelling.{word_bytes}
use Rattle.translated_file.specs.Whole.{AreHints}
use Rattle.run_files.specs.declared.hint_refusal.HintRefusal.{HintRefusal}
use Rattle.run_files.specs.declared.hint_refusal.HintRefusal.TheVariants.{Truncated, BadMagic, BadVersion, TooMany, BadHint, Trailing, WantOfMemory}
use Rattle.run_files.specs.Limits.{HINT_MAGIC, HINT_HEADER, HINT_BYTES, VERSION}

-- ---- spelling
-- magic number, version, and the number of addresses
abbrev pub hints_header : (count : ℕ) → List ℕ
hints_header count = codes "VXHT" ++ to_le_bytes w32 VERSION ++ to_le_bytes w32 count

-- the header, and the addresses
unfoldable pub hints_bytes : List ℕ → List ℕ
hints_bytes hints = hints_header (length hints) ++ word_bytes hints

-- ---- reading
-- a call's answer, seen by view, is what reading gives, unless memory ran out
abbrev pub GivesHints : {X Y : Type 0} → (X → Y) → Result X HintRefusal → Result Y HintRefusal → Type 0
GivesHints view (Ok x) read = read ≡ Ok (view x)
GivesHints view (Err WantOfMemory) read = Unit {0}
GivesHints view (Err e) read = read ≡ Err e

-- how many addresses the header tells
abbrev pub count_in : List ℕ → ℕ
count_in bytes = word (drop 8 bytes)

-- the length that the file of so many should have
abbrev pub hints_length : (count : ℕ) → ℕ
hints_length count = HINT_HEADER + HINT_BYTES * count

-- the number of addresses, all of which the file has
unfoldable pub count_of : List ℕ → Result ℕ HintRefusal
count_of bytes = do
  headed ← refuse_if (nat_lt (length bytes) HINT_HEADER) (Truncated (length bytes))
  magic ← refuse_if (not (word bytes == HINT_MAGIC)) BadMagic
  version ← refuse_if (not (word (drop 4 bytes) == VERSION)) (BadVersion (word (drop 4 bytes)))
  few ← refuse_if (nat_lt MOST_HINTS (count_in bytes)) (TooMany (count_in bytes))
  whole ← refuse_if (nat_lt (length bytes) (hints_length (count_in bytes))) (Truncated (length bytes))
  Ok (count_in bytes)

abbrev pub hints_in : (count : ℕ) → List ℕ → List ℕ
hints_in count bytes = table_in HINT_BYTES word count (drop HINT_HEADER bytes)

-- the addresses of a file, or the first reason for which it has none
unfoldable pub hints_of : List ℕ → Result (List ℕ) HintRefusal
hints_of bytes = do
  count ← count_of bytes
  rising ← refuse_at (first_fall (hints_in count bytes)) (λ place. BadHint place)
  ended ← refuse_if (nat_lt (hints_length count) (length bytes)) (Trailing (hints_length count))
  Ok (hints_in count bytes)

-- ---- refusals
-- the number, and what the refusal tells of the file
abbrev pub hint_numbers_of : HintRefusal → List ℕ
hint_numbers_of (Truncated at) = 1 ∷ at ∷ []
hint_numbers_of BadMagic = 2 ∷ []
hint_numbers_of (BadVersion found) = 3 ∷ found ∷ []
hint_numbers_of (TooMany count) = 4 ∷ count ∷ []
hint_numbers_of (BadHint place) = 5 ∷ place ∷ []
hint_numbers_of (Trailing at) = 6 ∷ at ∷ []
hint_numbers_of WantOfMemory = []

abbrev pub hint_number_of : HintRefusal → Option ℕ
hint_number_of refusal = slice_get (hint_numbers_of refusal) 0

-- ---- laws
-- few rising addresses are read back as they were
abbrev pub WrittenHintsAreRead : Type 0
WrittenHintsAreRead = (hints : List ℕ) → AreHints hints → hints_of (hints_bytes hints) ≡ Ok hints

-- what is read is few rising addresses, and its bytes are the spelling
abbrev pub ReadHintsAreWritten : Type 0
ReadHintsAreWritten = (bytes hints : List ℕ) → AreBytes bytes → hints_of bytes ≡ Ok hints → AreHints hints × (bytes ≡ hints_bytes hints)

-- every proper prefix of an accepted file is refused as Truncated, with the prefix's length
abbrev pub HintPrefixesAreRefused : Type 0
HintPrefixesAreRefused = (bytes hints : List ℕ) (kept : ℕ) → hints_of bytes ≡ Ok hints → kept < length bytes → hints_of (take kept bytes) ≡ Err (Truncated kept)
