-- The stages of a file, each with what it found or why it stops the call.
use Rattle.std.specs.Prelude.{◌≡◌, ℕ, ◌≤◌, List, length, Option, None, Some, IfSome, Ok, Err}
use Rattle.vt_outside.specs.Causes.{Rose}
use Rattle.vt_outside.specs.Desk.{Files, DeskMeaning, IsLonger}
use Rattle.image_file.specs.Values.{ImageValue}
use Rattle.image_file.specs.Whole.{IsWhole}
use Rattle.image_file.specs.Reading.{image_of}
use Rattle.image_file.specs.Refusal.{numbers_of as image_numbers}
use Rattle.image_file.specs.declared.refusal.ImageRefusal.{ImageRefusal}
use Rattle.translated_file.specs.Comparing.{compared}
use Rattle.translated_file.specs.Reading.{parts_of}
use Rattle.translated_file.specs.Refusal.{numbers_of as translated_numbers}
use Rattle.translated_file.specs.Values.{PartsValue}
use Rattle.translated_file.specs.Whole.{AreHints, AreWhole}
use Rattle.translated_file.specs.declared.refusal.TranslatedRefusal.{TranslatedRefusal}
use Rattle.flow_discovery.specs.Reach.{AreTooMany}
use Rattle.flow_discovery.specs.Starts.{starts}
use Rattle.block_law.specs.Translations.{Code}
use Rattle.translate.specs.Refusal.{numbers_of as flow_numbers}
use Rattle.translate.specs.declared.refusal.TranslateRefusal.TheVariants.{Flow as TooMuch}
use Rattle.run_files.specs.Hints.{hint_numbers_of, hints_of}
use Rattle.run_files.specs.declared.hint_refusal.HintRefusal.{HintRefusal}
use Rattle.report_text.specs.declared.refused.Subject.TheVariants as subjects
use Rattle.vest_stops.specs.Refusal.{RefusalValue, told}
use Rattle.vest_files.specs.Limits.{FILE_LIMIT}
use Rattle.vest_stops.specs.declared.stop.Stop.{Stop}
use Rattle.vest_stops.specs.declared.stop.Stop.TheVariants.{Absent, Refused, ReadFault, TooLong, WantOfMemory}

-- ---- the bytes of the file, within the limit; the desk holds them, where it tells its files
pub record IsFile (files : Option Files) (name bytes : List ℕ) : Type 0 where
  pub short : length bytes ≤ FILE_LIMIT
  pub held : IfSome files (λ f. f name ≡ Some bytes)

abbrev pub StopsAtFile : Stop → (name : List ℕ) → (old new : DeskMeaning) → Type 0
StopsAtFile Absent name old new = IfSome old.files (λ f. f name ≡ None)
StopsAtFile (Refused refusal) name old new = ⊥
StopsAtFile ReadFault name old new = Rose old.read_faults new.read_faults
StopsAtFile TooLong name old new = IfSome old.files (λ f. IsLonger (f name) FILE_LIMIT)
StopsAtFile WantOfMemory name old new = Unit {0}

-- ---- behind the file a stage stops only where it refuses, or memory runs out
abbrev pub StopsWhere : (RefusalValue → Type 0) → Stop → Type 0
StopsWhere Refuses (Refused refusal) = Refuses refusal
StopsWhere Refuses WantOfMemory = Unit {0}
StopsWhere Refuses stop = ⊥

-- ---- the bytes mean the image
pub record IsImage (bytes : List ℕ) (image : ImageValue) : Type 0 where
  pub meant : image_of bytes ≡ Ok image
  pub whole : IsWhole image

pub record RefusesImage (bytes : List ℕ) (refusal : RefusalValue) : Type 0 where
  pub cause : ImageRefusal
  pub refused : image_of bytes ≡ Err cause
  pub is : refusal ≡ told subjects.Image (image_numbers cause)

abbrev pub StopsAtImage : Stop → (bytes : List ℕ) → Type 0
StopsAtImage stop bytes = StopsWhere (RefusesImage bytes) stop

-- ---- the bytes mean the parts of a translated file
pub record HasParts (bytes : List ℕ) (parts : PartsValue) : Type 0 where
  pub meant : parts_of bytes ≡ Ok parts
  pub whole : AreWhole parts

pub record RefusesParts (bytes : List ℕ) (refusal : RefusalValue) : Type 0 where
  pub cause : TranslatedRefusal
  pub refused : parts_of bytes ≡ Err cause
  pub is : refusal ≡ told subjects.Translated (translated_numbers cause)

abbrev pub StopsAtParts : Stop → (bytes : List ℕ) → Type 0
StopsAtParts stop bytes = StopsWhere (RefusesParts bytes) stop

-- ---- the bytes mean the addresses of a hint file
pub record HasHints (bytes hints : List ℕ) : Type 0 where
  pub meant : hints_of bytes ≡ Ok hints
  pub are : AreHints hints

pub record RefusesHints (bytes : List ℕ) (refusal : RefusalValue) : Type 0 where
  pub cause : HintRefusal
  pub refused : hints_of bytes ≡ Err cause
  pub is : refusal ≡ told subjects.Hints (hint_numbers_of cause)

abbrev pub StopsAtHints : Stop → (bytes : List ℕ) → Type 0
StopsAtHints stop bytes = StopsWhere (RefusesHints bytes) stop

-- ---- the translation of an image with these hints
pub record RefusesFlow (image : ImageValue) (hints : List ℕ) (refusal : RefusalValue) : Type 0 where
  pub count : ℕ
  pub many : AreTooMany image.pages (starts image hints) count
  pub is : refusal ≡ told subjects.Flow (flow_numbers (TooMuch count))

abbrev pub StopsAtTranslation : Stop → ImageValue → (hints : List ℕ) → Type 0
StopsAtTranslation stop image hints = StopsWhere (RefusesFlow image hints) stop

-- ---- a file's tail beside that translation
pub record RefusesTail (parts : PartsValue) (code : Code) (refusal : RefusalValue) : Type 0 where
  pub cause : TranslatedRefusal
  pub refused : compared parts code.words code.map ≡ Err cause
  pub is : refusal ≡ told subjects.Translated (translated_numbers cause)

abbrev pub StopsAtTail : Stop → PartsValue → Code → Type 0
StopsAtTail stop parts code = StopsWhere (RefusesTail parts code) stop
