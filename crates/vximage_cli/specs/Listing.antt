-- The command `dis`.
use Rattle.std.specs.Prelude.{◌≡◌, ◌⊎◌, ℕ, List, [], ◌∷◌, ◌++◌, Option, Some, None, Ok, Err, codes, decimal}
use Rattle.vt_outside.specs.Desk.{DeskMeaning, Files}
use Rattle.vt_outside.specs.Sink.{SinkMeaning}
use Rattle.vax_form.specs.declared.instr.Instr.{Instr}
use Rattle.image_file.specs.Values.{ImageValue}
use Rattle.flow_discovery.specs.Reach.{IsReach}
use Rattle.flow_discovery.specs.Starts.{starts}
use Rattle.block_law.specs.Translations.{Code}
use Rattle.dis_text.specs.Labels.{NameValue}
use Rattle.dis_text.specs.Listing.{listing_text}
use Rattle.dis_text.specs.Made.{asked}
use Rattle.dis_text.specs.declared.pieces.Range.{Range}
use Rattle.image_meaning.specs.declared.target.Target.{Target}
use Rattle.image_meaning.specs.declared.target.Target.TheVariants.{Original}
use Rattle.vest_files.specs.List.{Sends}
use Rattle.vest_files.specs.Loading.{IsLoaded, StopsAtBytes, hints_in}
use Rattle.vest_files.specs.Stages.{IsFile}
use Rattle.vest_stops.specs.declared.status.Done.{Done}
use Rattle.vest_stops.specs.declared.stop.Stop.{Stop}
use Rattle.vximage_words.specs.Commands.{ListingWanted}
use Rattle.vximage_cli.specs.Making.{StopsAtOptional}
use Rattle.vximage_cli.specs.Names.{names_listed}
use Rattle.vximage_cli.specs.Stopping.{StopsAtNamed}

-- the names are those that a file lists, where one is named
abbrev pub AreNamed : Option Files → (file : Option (List ℕ)) → List NameValue → Type 0
AreNamed files None names = names ≡ []
AreNamed files (Some name) names = (bytes : List ℕ) × IsFile files name bytes × (names_listed bytes ≡ Ok names)

-- the addresses that are listed
abbrev pub range_of : ListingWanted → Range
range_of wanted = record { first = wanted.first; last = wanted.last }

-- the listing of the bytes of a file, by its image, its translation, and the instructions that can be reached; a VAX image is
-- translated for the first Alpha processors
pub record IsListing (text bytes : List ℕ) (names : List NameValue) (wanted : ListingWanted) : Type 0 where
  pub image : ImageValue
  pub target : Target
  pub code : Code
  pub loaded : IsLoaded Original bytes image target code
  pub instrs : List Instr
  pub reached : IsReach image.pages (starts image (hints_in bytes)) instrs
  pub is : text ≡ listing_text (asked image (hints_in bytes) names code.words code.map wanted.with_words (range_of wanted)) instrs image.sections

-- the sink took the listing of the file, or failed in it
pub record Lists (result : Done) (name : List ℕ) (wanted : ListingWanted) (desk : DeskMeaning) (out out' : SinkMeaning) : Type 0 where
  pub bytes : List ℕ
  pub file : IsFile desk.files name bytes
  pub names : List NameValue
  pub are_named : AreNamed desk.files wanted.names names
  pub text : List ℕ
  pub is : IsListing text bytes names wanted
  pub sent : Sends result text out out'

-- the file, or what it means, or the file of names
abbrev pub StopsListing : Stop → (named : Option (List ℕ)) → (name : List ℕ) → ListingWanted → (old new : DeskMeaning) → Type 0
StopsListing stop named name wanted old new =
    StopsAtNamed stop named name old new
    ⊎ (((bytes : List ℕ) × IsFile old.files name bytes × StopsAtBytes stop bytes) ⊎ StopsAtOptional stop named wanted.names old new)

-- the line of that number, from 1, of the file of names begins with no address
abbrev pub RefusesNames : Option Files → (file : Option (List ℕ)) → (line : ℕ) → Type 0
RefusesNames files None line = ⊥
RefusesNames files (Some name) line = (bytes : List ℕ) × IsFile files name bytes × (names_listed bytes ≡ Err line)

-- what is then said
abbrev pub names_line : (line : ℕ) → List ℕ
names_line line = codes "refused names" ++ 32 ∷ decimal line ++ 10 ∷ []
