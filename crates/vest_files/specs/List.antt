-- The command `list`.
use Rattle.std.specs.Prelude.{ℕ, List}
use Rattle.vt_outside.specs.Desk.{DeskMeaning}
use Rattle.vt_outside.specs.Sink.{SinkMeaning}
use Rattle.vt_outside.specs.Taking.{TookAll, TookSome}
use Rattle.image_file.specs.Values.{ImageValue}
use Rattle.block_law.specs.Translations.{Code}
use Rattle.report_text.specs.Listing.{listing_text}
use Rattle.vest_files.specs.Loading.{Loads}
use Rattle.image_meaning.specs.declared.target.Target.{Target}
use Rattle.image_meaning.specs.declared.target.Target.TheVariants.{Original}
use Rattle.vest_stops.specs.declared.status.Done.{Done}
use Rattle.vest_stops.specs.declared.status.Done.TheVariants as done

-- the sink took the text, or failed in it
abbrev pub Sends : Done → (text : List ℕ) → (old new : SinkMeaning) → Type 0
Sends done.Ok text old new = TookAll old new text
Sends done.WriteFault text old new = TookSome old new text
Sends result text old new = ⊥

-- the listing of the file's translation: a VAX image is translated for the first Alpha processors
pub record Lists (result : Done) (name : List ℕ) (desk : DeskMeaning) (out out' : SinkMeaning) : Type 0 where
  pub image : ImageValue
  pub target : Target
  pub code : Code
  pub loaded : Loads Original desk.files name image target code
  pub sent : Sends result (listing_text code.words code.map) out out'
