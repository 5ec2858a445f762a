-- The image of a file with its translation.
use Rattle.std.specs.Prelude.{◌≡◌, ◌⊎◌, ℕ, Bool, List, [], codes, length, nat_eq, nat_lt, if◌then◌else◌, MatchBool, MatchResult, Option, None, Some, Result, Ok, Err}
use Rattle.std.specs.List.{starts_with}
use Rattle.vt_outside.specs.Desk.{Files, DeskMeaning}
use Rattle.image_file.specs.Values.{ImageValue}
use Rattle.image_file.specs.Reading.{image_of}
use Rattle.image_file.specs.declared.refusal.ImageRefusal.{ImageRefusal}
use Rattle.translated_file.specs.Comparing.{compared}
use Rattle.translated_file.specs.Reading.{parts_of}
use Rattle.translated_file.specs.Values.{PartsValue}
use Rattle.translated_file.specs.declared.refusal.TranslatedRefusal.{TranslatedRefusal}
use Rattle.flow_discovery.specs.Reach.{AreReached, most}
use Rattle.flow_discovery.specs.Starts.{starts}
use Rattle.block_law.specs.Translations.{Code}
use Rattle.vest_stops.specs.Decided.{Decision, stops, goes_on}
use Rattle.vest_files.specs.Stages.{HasParts, IsFile, IsImage, StopsAtFile, StopsAtImage, StopsAtParts, StopsAtTail, StopsAtTranslation}
use Rattle.translate.specs.Translated.{IsTranslated}
use Rattle.vest_files.specs.Limits.{FILE_LIMIT}
use Rattle.vest_files.specs.Versions.{target_of}
use Rattle.image_meaning.specs.declared.target.Target.{Target}
use Rattle.vest_stops.specs.declared.status.Status.TheVariants as status
use Rattle.vest_stops.specs.declared.stop.Stop.{Stop}

-- a translated file by its first four bytes; every other file is a VAX image
abbrev pub is_translated : List ℕ → Bool
is_translated bytes = starts_with nat_eq bytes (codes "VXTR")

-- ---- what was loaded

-- the image that the bytes mean, and its translation for a target, without hints
pub record IsOfImage (bytes : List ℕ) (image : ImageValue) (target : Target) (code : Code) : Type 0 where
  pub meant : IsImage bytes image
  pub translated : IsTranslated target image [] code

-- the VAX part of the bytes, and its translation for the target of their version, with their hints, to which their tail is
-- equal
pub record IsOfTranslated (bytes : List ℕ) (image : ImageValue) (target : Target) (code : Code) : Type 0 where
  pub parts : PartsValue
  pub meant : HasParts bytes parts
  pub part : image ≡ parts.image
  pub version : target ≡ target_of parts.version
  pub translated : IsTranslated target parts.image parts.hints code
  pub equal : compared parts code.words code.map ≡ Ok tt

-- what the bytes of a file mean, by the first of them: a VAX image is translated for the target that is asked for
abbrev pub IsLoaded : (asked : Target) → (bytes : List ℕ) → ImageValue → Target → Code → Type 0
IsLoaded asked bytes image target code = MatchBool (is_translated bytes) (IsOfTranslated bytes image target code) ((target ≡ asked) × IsOfImage bytes image target code)

pub record Loads (asked : Target) (files : Option Files) (name : List ℕ) (image : ImageValue) (target : Target) (code : Code) : Type 0 where
  pub bytes : List ℕ
  pub file : IsFile files name bytes
  pub loaded : IsLoaded asked bytes image target code

-- the hints of the parts
abbrev pub hints_of : Result PartsValue TranslatedRefusal → List ℕ
hints_of (Ok parts) = parts.hints
hints_of (Err refusal) = []

-- the hints that a file gives; a VAX image gives none
abbrev pub hints_in : (bytes : List ℕ) → List ℕ
hints_in bytes = if is_translated bytes then hints_of (parts_of bytes) else []

-- ---- why nothing was

-- the image, and then its translation
abbrev pub StopsAtImageFile : Stop → (bytes : List ℕ) → Type 0
StopsAtImageFile stop bytes =
    StopsAtImage stop bytes
    ⊎ ((image : ImageValue) × IsImage bytes image × StopsAtTranslation stop image [])

-- the parts, and then the translation, and then the tail
abbrev pub StopsAtTranslatedFile : Stop → (bytes : List ℕ) → Type 0
StopsAtTranslatedFile stop bytes =
    StopsAtParts stop bytes
    ⊎ ((parts : PartsValue) × HasParts bytes parts
    × (StopsAtTranslation stop parts.image parts.hints
    ⊎ ((code : Code) × IsTranslated (target_of parts.version) parts.image parts.hints code × StopsAtTail stop parts code)))

-- by the first of the bytes
abbrev pub StopsAtBytes : Stop → (bytes : List ℕ) → Type 0
StopsAtBytes stop bytes = MatchBool (is_translated bytes) (StopsAtTranslatedFile stop bytes) (StopsAtImageFile stop bytes)

-- the file, and then what it is
abbrev pub StopsAtLoad : Stop → (name : List ℕ) → (old new : DeskMeaning) → Type 0
StopsAtLoad stop name old new =
    StopsAtFile stop name old new
    ⊎ ((bytes : List ℕ) × IsFile old.files name bytes × StopsAtBytes stop bytes)

-- ---- what told files decide, with the checks in their order; what is not told decides nothing

-- too many instructions can be reached, or what comes then
pub record DecidesFlow (image : ImageValue) (hints : List ℕ) (Then : Type 0) (decision : Decision) : Type 0 where
  pub addresses : List ℕ
  pub reached : AreReached image.pages (starts image hints) addresses
  pub decides : MatchBool (nat_lt most (length addresses)) (decision ≡ stops status.Refused) Then

-- the tail beside any translation of the image with the hints, for the target of the version
abbrev pub DecidesTail : PartsValue → Decision → Type 0
DecidesTail parts decision = (code : Code) → IsTranslated (target_of parts.version) parts.image parts.hints code
    → MatchResult (compared parts code.words code.map) (λ _. decision ≡ goes_on) (λ _. decision ≡ stops status.Refused)

abbrev pub DecidesImage : Result ImageValue ImageRefusal → Decision → Type 0
DecidesImage (Err refusal) decision = decision ≡ stops status.Refused
DecidesImage (Ok image) decision = DecidesFlow image [] (decision ≡ goes_on) decision

abbrev pub DecidesParts : Result PartsValue TranslatedRefusal → Decision → Type 0
DecidesParts (Err refusal) decision = decision ≡ stops status.Refused
DecidesParts (Ok parts) decision = DecidesFlow parts.image parts.hints (DecidesTail parts decision) decision

-- whether there is such a file, its length, and then its bytes
abbrev pub DecidesFile : Option (List ℕ) → (Then : List ℕ → Type 0) → Decision → Type 0
DecidesFile None Then decision = decision ≡ stops status.Absent
DecidesFile (Some bytes) Then decision = MatchBool (nat_lt FILE_LIMIT (length bytes)) (decision ≡ stops status.TooLong) (Then bytes)

abbrev pub DecidesBytes : Decision → (bytes : List ℕ) → Type 0
DecidesBytes decision bytes = MatchBool (is_translated bytes) (DecidesParts (parts_of bytes) decision) (DecidesImage (image_of bytes) decision)

abbrev pub DecidesLoad : Option Files → (name : List ℕ) → Decision → Type 0
DecidesLoad None name decision = ⊥
DecidesLoad (Some files) name decision = DecidesFile (files name) (DecidesBytes decision) decision
