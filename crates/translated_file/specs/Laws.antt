-- What holds of all translated files.
use Rattle.std.specs.Prelude.{◌≡◌, ◌<◌, ℕ, true, List, length, take, Ok, Err}
use Rattle.address_map.specs.Pairs.{Pair}
use Rattle.image_file.specs.Values.{ImageValue}
use Rattle.image_file.specs.Whole.{IsWhole}
use Rattle.vax_form.specs.GrammarLaws.{AreBytes}
use Rattle.translated_file.specs.declared.refusal.TranslatedRefusal.TheVariants.{Truncated}
use Rattle.translated_file.specs.Limits.{is_version}
use Rattle.translated_file.specs.Values.{PartsValue}
use Rattle.translated_file.specs.Spelling.{written_parts, spelling}
use Rattle.translated_file.specs.Reading.{parts_of}
use Rattle.translated_file.specs.Comparing.{compared, accepted}
use Rattle.translated_file.specs.Whole.{AreHints, AreWhole, IsTranslation}

-- what is written reads as these parts, and compares with this translation
abbrev pub WrittenIsAccepted : Type 0
WrittenIsAccepted = (version : ℕ) (image : ImageValue) (hints words : List ℕ) (pairs : List Pair) → is_version version ≡ true → IsWhole image → AreHints hints → IsTranslation words pairs
    → (parts_of (spelling version image hints words pairs) ≡ Ok (written_parts version image hints words pairs))
    × (compared (written_parts version image hints words pairs) words pairs ≡ Ok tt)

-- bytes that read as parts, and compare with a translation, are so written
abbrev pub AcceptedIsWritten : Type 0
AcceptedIsWritten = (bytes : List ℕ) (parts : PartsValue) (words : List ℕ) (pairs : List Pair) → AreBytes bytes → parts_of bytes ≡ Ok parts → compared parts words pairs ≡ Ok tt
    → AreWhole parts × (bytes ≡ spelling parts.version parts.image parts.hints words pairs)

-- every proper prefix of an accepted file is refused as Truncated, with the prefix's length
abbrev pub PrefixesAreRefused : Type 0
PrefixesAreRefused = (bytes words : List ℕ) (pairs : List Pair) (kept : ℕ) → accepted bytes words pairs ≡ Ok tt → kept < length bytes → accepted (take kept bytes) words pairs ≡ Err (Truncated kept)
