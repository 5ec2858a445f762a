-- The parts that the bytes of a file mean, or the first reason for which they mean none.
use Rattle.std.specs.Prelude.{◌≡◌, ℕ, ◌+◌, ◌*◌, ◌==◌, not, List, [], ◌∷◌, length, take, drop, Option, Some, None, Result, Ok, Err, nat_lt, if◌then◌else◌}
use Rattle.image_file.specs.declared.refusal.ImageRefusal.{ImageRefusal}
use Rattle.image_file.specs.Values.{ImageValue}
use Rattle.image_file.specs.Reading.{word, table_in, image_of}
use Rattle.image_file.specs.Steps.{◌>>=◌, refuse_if, refuse_at}
use Rattle.translated_file.specs.declared.header.Header.{Header}
use Rattle.translated_file.specs.declared.refusal.TranslatedRefusal.{TranslatedRefusal}
use Rattle.translated_file.specs.declared.refusal.TranslatedRefusal.TheVariants.{Truncated, BadMagic, BadVersion, Inner, BadHint, WantOfMemory}
use Rattle.translated_file.specs.Limits.{MAGIC, HEADER, WORD_BYTES, MOST_HINTS, is_version}
use Rattle.translated_file.specs.Values.{PartsValue}

-- a call's answer, seen by view, is what reading gives, unless memory ran out
abbrev pub Gives : {X Y : Type 0} → (X → Y) → Result X TranslatedRefusal → Result Y TranslatedRefusal → Type 0
Gives view (Ok x) read = read ≡ Ok (view x)
Gives view (Err WantOfMemory) read = Unit {0}
Gives view (Err e) read = read ≡ Err e

-- where the hints stand, and the tail
abbrev pub hints_at : Header → ℕ
hints_at header = HEADER + header.image_bytes

abbrev pub tail_at : Header → ℕ
tail_at header = hints_at header + WORD_BYTES * header.hints

abbrev pub header_in : List ℕ → Header
header_in bytes = record { version = word (drop 4 bytes); image_bytes = word (drop 8 bytes); hints = word (drop 12 bytes) }

-- the header's numbers
unfoldable pub header_of : List ℕ → Result Header TranslatedRefusal
header_of bytes = do
  header ← refuse_if (nat_lt (length bytes) HEADER) (Truncated (length bytes))
  magic ← refuse_if (not (word bytes == MAGIC)) BadMagic
  version ← refuse_if (not (is_version (header_in bytes).version)) (BadVersion (header_in bytes).version)
  few ← refuse_if (nat_lt MOST_HINTS (header_in bytes).hints) (BadHint MOST_HINTS)
  tail ← refuse_if (nat_lt (length bytes) (tail_at (header_in bytes))) (Truncated (length bytes))
  Ok (header_in bytes)

abbrev pub image_bytes_in : Header → List ℕ → List ℕ
image_bytes_in header bytes = take header.image_bytes (drop HEADER bytes)

abbrev pub hints_in : Header → List ℕ → List ℕ
hints_in header bytes = table_in WORD_BYTES word header.hints (drop (hints_at header) bytes)

-- the refusal of the image is one of the file
abbrev pub of_image : Result ImageValue ImageRefusal → Result ImageValue TranslatedRefusal
of_image (Ok image) = Ok image
of_image (Err refusal) = Err (Inner refusal)

-- the first of the numbers behind `before` that isn't above its predecessor; `place` is that of the first of them
abbrev pub fall_behind : ℕ → ℕ → List ℕ → Option ℕ
fall_behind before place [] = None
fall_behind before place (x ∷ xs) = if nat_lt before x then fall_behind x (place + 1) xs else Some place

-- the place of the first number that isn't above its predecessor
abbrev pub first_fall : List ℕ → Option ℕ
first_fall [] = None
first_fall (x ∷ xs) = fall_behind x 1 xs

abbrev pub parts_in : Header → ImageValue → List ℕ → PartsValue
parts_in header image bytes = record { version = header.version; image = image; hints = hints_in header bytes; tail = drop (tail_at header) bytes }

unfoldable pub parts_of : List ℕ → Result PartsValue TranslatedRefusal
parts_of bytes = do
  header ← header_of bytes
  image ← of_image (image_of (image_bytes_in header bytes))
  rising ← refuse_at (first_fall (hints_in header bytes)) (λ place. BadHint place)
  Ok (parts_in header image bytes)
