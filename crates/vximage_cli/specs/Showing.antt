-- The command `show`.
use Rattle.std.specs.Prelude.{◌≡◌, ◌⊎◌, ℕ, List, [], ◌∷◌, ◌++◌, Option, codes, length, if◌then◌else◌}
use Rattle.vt_outside.specs.Desk.{DeskMeaning}
use Rattle.vt_outside.specs.Sink.{SinkMeaning}
use Rattle.vax_form.specs.declared.instr.Instr.{Instr}
use Rattle.image_file.specs.Values.{ImageValue}
use Rattle.flow_discovery.specs.Reach.{IsReach}
use Rattle.flow_discovery.specs.Starts.{starts}
use Rattle.block_law.specs.Translations.{Code}
use Rattle.image_meaning.specs.declared.target.Target.{Target}
use Rattle.image_meaning.specs.declared.target.Target.TheVariants.{Original}
use Rattle.image_text.specs.Lines.{counted}
use Rattle.image_text.specs.Text.{show_text}
use Rattle.vest_files.specs.List.{Sends}
use Rattle.vest_files.specs.Loading.{IsLoaded, StopsAtBytes, hints_in, is_translated}
use Rattle.vest_files.specs.Stages.{IsFile}
use Rattle.vest_files.specs.Versions.{version_of}
use Rattle.vest_stops.specs.declared.status.Done.{Done}
use Rattle.vest_stops.specs.declared.stop.Stop.{Stop}
use Rattle.vximage_cli.specs.Stopping.{StopsAtNamed}

-- the line of a translated file
abbrev pub translated_line : (version bytes hints : ℕ) → List ℕ
translated_line version bytes hints =
    counted (codes "translated version") version ++ counted (codes " bytes") bytes ++ counted (codes " hints") hints ++ 10 ∷ []

-- a VAX image has none
abbrev pub file_line : (bytes : List ℕ) → Target → List ℕ
file_line bytes target = if is_translated bytes then translated_line (version_of target) (length bytes) (length (hints_in bytes)) else []

-- what is said of a file's bytes
abbrev pub shown_text : (bytes : List ℕ) → ImageValue → Target → Code → List Instr → List ℕ
shown_text bytes image target code instrs = file_line bytes target ++ show_text image (hints_in bytes) instrs (length code.map) (length code.words)

-- it tells of the instructions that can be reached
pub record TellsOf (text bytes : List ℕ) (image : ImageValue) (target : Target) (code : Code) : Type 0 where
  pub instrs : List Instr
  pub reached : IsReach image.pages (starts image (hints_in bytes)) instrs
  pub is : text ≡ shown_text bytes image target code instrs

-- the text of the bytes of a file: of its image and its translation; a VAX image is translated for the first Alpha processors
pub record IsText (text bytes : List ℕ) : Type 0 where
  pub image : ImageValue
  pub target : Target
  pub code : Code
  pub loaded : IsLoaded Original bytes image target code
  pub tells : TellsOf text bytes image target code

-- the sink took the text of the file, or failed in it
pub record Shows (result : Done) (name : List ℕ) (desk : DeskMeaning) (out out' : SinkMeaning) : Type 0 where
  pub bytes : List ℕ
  pub file : IsFile desk.files name bytes
  pub text : List ℕ
  pub is : IsText text bytes
  pub sent : Sends result text out out'

-- the file, and then what it means
abbrev pub StopsShow : Stop → (named : Option (List ℕ)) → (name : List ℕ) → (old new : DeskMeaning) → Type 0
StopsShow stop named name old new =
    StopsAtNamed stop named name old new
    ⊎ ((bytes : List ℕ) × IsFile old.files name bytes × StopsAtBytes stop bytes)
