-- The command `translate`.
use Rattle.std.specs.Prelude.{◌≡◌, ◌⊎◌, ℕ, List, [], Option, None, Some, Result, Ok, Err}
use Rattle.vt_outside.specs.Causes.{Rose}
use Rattle.vt_outside.specs.Desk.{BothTold, DeskMeaning, Files, Puts, PutsPart}
use Rattle.image_file.specs.Values.{ImageValue}
use Rattle.image_file.specs.Reading.{image_of}
use Rattle.image_file.specs.declared.refusal.ImageRefusal.{ImageRefusal}
use Rattle.run_files.specs.Hints.{hints_of}
use Rattle.run_files.specs.declared.hint_refusal.HintRefusal.{HintRefusal}
use Rattle.translated_file.specs.Spelling.{spelling}
use Rattle.block_law.specs.Translations.{Code}
use Rattle.translate.specs.Translated.{IsTranslated}
use Rattle.vest_stops.specs.Decided.{Decision, stops, goes_on}
use Rattle.vest_files.specs.Loading.{DecidesFile, DecidesFlow}
use Rattle.vest_files.specs.Stages.{HasHints, IsFile, IsImage, StopsAtFile, StopsAtHints, StopsAtImage, StopsAtTranslation}
use Rattle.vest_files.specs.Versions.{version_of}
use Rattle.image_meaning.specs.declared.target.Target.{Target}
use Rattle.vest_stops.specs.declared.status.Done.{Done}
use Rattle.vest_stops.specs.declared.status.Done.TheVariants as done
use Rattle.vest_stops.specs.declared.status.Status.TheVariants as status
use Rattle.vest_stops.specs.declared.stop.Stop.{Stop}

-- under the name stand the bytes and every other name has what it had; or the write failed, and the desk is as a failed write
-- leaves it
abbrev pub Writes : Done → (name bytes : List ℕ) → (old new : DeskMeaning) → Type 0
Writes done.Ok name bytes old new = BothTold old.files new.files (λ f g. Puts f g name bytes)
Writes done.WriteFault name bytes old new =
    Rose old.write_faults new.write_faults × BothTold old.files new.files (λ f g. PutsPart f g name bytes)
Writes result name bytes old new = ⊥

-- the hints are those of a hint file, and none where no file is named
abbrev pub IsHinted : Option Files → (hinted : Option (List ℕ)) → (hints : List ℕ) → Type 0
IsHinted files None hints = hints ≡ []
IsHinted files (Some name) hints = (bytes : List ℕ) × IsFile files name bytes × HasHints bytes hints

-- the file of the image that the bytes mean, of these hints, and of the translation for the target with them
pub record IsTranslatedFile (target : Target) (bytes : List ℕ) (hinted : Option (List ℕ)) (files : Option Files) (file : List ℕ) : Type 0 where
  pub image : ImageValue
  pub meant : IsImage bytes image
  pub hints : List ℕ
  pub told : IsHinted files hinted hints
  pub code : Code
  pub translated : IsTranslated target image hints code
  pub is : file ≡ spelling (version_of target) image hints code.words code.map

-- that file of the image that was read
pub record Translates (target : Target) (result : Done) (name to : List ℕ) (hinted : Option (List ℕ)) (old new : DeskMeaning) : Type 0 where
  pub bytes : List ℕ
  pub read : IsFile old.files name bytes
  pub file : List ℕ
  pub made : IsTranslatedFile target bytes hinted old.files file
  pub written : Writes result to file old new

-- ---- why nothing was written
abbrev pub StopsAtHinted : Stop → (hinted : Option (List ℕ)) → (old new : DeskMeaning) → Type 0
StopsAtHinted stop None old new = ⊥
StopsAtHinted stop (Some name) old new =
    StopsAtFile stop name old new
    ⊎ ((bytes : List ℕ) × IsFile old.files name bytes × StopsAtHints stop bytes)

-- the image, then the hints, and then what can be reached with them
abbrev pub StopsAtTranslating : Stop → (bytes : List ℕ) → (hinted : Option (List ℕ)) → (old new : DeskMeaning) → Type 0
StopsAtTranslating stop bytes hinted old new =
    StopsAtImage stop bytes
    ⊎ ((image : ImageValue) × IsImage bytes image
    × (StopsAtHinted stop hinted old new
    ⊎ ((hints : List ℕ) × IsHinted old.files hinted hints × StopsAtTranslation stop image hints)))

-- the file, and then what it is
abbrev pub StopsTranslate : Stop → (name : List ℕ) → (hinted : Option (List ℕ)) → (old new : DeskMeaning) → Type 0
StopsTranslate stop name hinted old new =
    StopsAtFile stop name old new
    ⊎ ((bytes : List ℕ) × IsFile old.files name bytes × StopsAtTranslating stop bytes hinted old new)

-- ---- what told files decide
abbrev pub DecidesHints : Result (List ℕ) HintRefusal → (Then : List ℕ → Type 0) → Decision → Type 0
DecidesHints (Err refusal) Then decision = decision ≡ stops status.Refused
DecidesHints (Ok hints) Then decision = Then hints

abbrev pub DecidesHinted : Files → (hinted : Option (List ℕ)) → (Then : List ℕ → Type 0) → Decision → Type 0
DecidesHinted files None Then decision = Then []
DecidesHinted files (Some name) Then decision = DecidesFile (files name) (λ bytes. DecidesHints (hints_of bytes) Then decision) decision

abbrev pub DecidesTranslating : Files → (hinted : Option (List ℕ)) → Result ImageValue ImageRefusal → Decision → Type 0
DecidesTranslating files hinted (Err refusal) decision = decision ≡ stops status.Refused
DecidesTranslating files hinted (Ok image) decision = DecidesHinted files hinted (λ hints. DecidesFlow image hints (decision ≡ goes_on) decision) decision

abbrev pub DecidesTranslate : Option Files → (name : List ℕ) → (hinted : Option (List ℕ)) → Decision → Type 0
DecidesTranslate None name hinted decision = ⊥
DecidesTranslate (Some files) name hinted decision = DecidesFile (files name) (λ bytes. DecidesTranslating files hinted (image_of bytes) decision) decision
