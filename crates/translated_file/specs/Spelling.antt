-- The bytes of a translated file. All numbers are little-endian.
use Rattle.std.specs.Prelude.{ℕ, List, [], ◌∷◌, ◌++◌, length, codes}
use Rattle.std.specs.List.{flat_map}
use Rattle.std.specs.Int.{w32, to_le_bytes}
use Rattle.address_map.specs.Pairs.{Pair}
use Rattle.image_file.specs.Values.{ImageValue}
use Rattle.image_file.specs.Spelling as Image
use Rattle.translated_file.specs.Values.{PartsValue}

abbrev pub word_bytes : List ℕ → List ℕ
word_bytes words = flat_map (to_le_bytes w32) words

-- magic number, version, the length of the image, and the number of hints
abbrev pub header_bytes : ℕ → ℕ → ℕ → List ℕ
header_bytes version image_bytes hints = codes "VXTR" ++ to_le_bytes w32 version ++ to_le_bytes w32 image_bytes ++ to_le_bytes w32 hints

-- the header, the image, and the hints
unfoldable pub front_bytes : ℕ → ImageValue → List ℕ → List ℕ
front_bytes version image hints = header_bytes version (length (Image.spelling image)) (length hints) ++ Image.spelling image ++ word_bytes hints

abbrev pub parts_bytes : PartsValue → List ℕ
parts_bytes parts = front_bytes parts.version parts.image parts.hints ++ parts.tail

-- a VAX address and an Alpha word number
abbrev pub pair_words : Pair → List ℕ
pair_words p = p.0 ∷ p.1 ∷ []

-- the number of Alpha words, the words, the number of pairs, and the pairs
abbrev pub tail_words : List ℕ → List Pair → List ℕ
tail_words words pairs = length words ∷ words ++ length pairs ∷ flat_map pair_words pairs

-- the parts of the file that holds a translation
abbrev pub written_parts : ℕ → ImageValue → List ℕ → List ℕ → List Pair → PartsValue
written_parts version image hints words pairs = record { version = version; image = image; hints = hints; tail = word_bytes (tail_words words pairs) }

-- that file
abbrev pub spelling : ℕ → ImageValue → List ℕ → List ℕ → List Pair → List ℕ
spelling version image hints words pairs = parts_bytes (written_parts version image hints words pairs)
