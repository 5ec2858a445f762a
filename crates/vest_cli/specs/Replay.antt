-- The command `replay`.
use Rattle.std.specs.Prelude.{◌≡◌, ◌⊎◌, ℕ, List, length, map, if◌then◌else◌, Option, None, Some, option_and_then, option_map, Result, Ok, Err}
use Rattle.std.specs.Result.{result_ok}
use Rattle.vt_outside.specs.Desk.{DeskMeaning, Files}
use Rattle.vt_outside.specs.Sink.{SinkMeaning}
use Rattle.image_file.specs.Reading.{image_of}
use Rattle.image_file.specs.Values.{ImageValue}
use Rattle.translated_file.specs.Reading.{parts_of}
use Rattle.translated_file.specs.Values.{PartsValue}
use Rattle.block_law.specs.Translations.{Code}
use Rattle.image_meaning.specs.declared.target.Target.{Target}
use Rattle.image_meaning.specs.declared.target.Target.TheVariants.{Original}
use Rattle.run_files.specs.Reading.{order_of}
use Rattle.run_files.specs.Refusal.{numbers_of as order_numbers}
use Rattle.run_files.specs.Values.{OrderValue}
use Rattle.run_files.specs.declared.refusal.OrderRefusal.{OrderRefusal}
use Rattle.report_text.specs.Report.{report_text}
use Rattle.report_text.specs.declared.refused.Subject.TheVariants as subjects
use Rattle.stored_runs.specs.Ends.{done_by}
use Rattle.stored_runs.specs.Refusal.{numbers_of as replay_numbers}
use Rattle.stored_runs.specs.Replay.{EndValue, ReplayedValue, replay_of}
use Rattle.stored_runs.specs.declared.refusal.ReplayRefusal.{ReplayRefusal}
use Rattle.stored_runs.specs.declared.refusal.ReplayRefusal.TheVariants as refusals
use Rattle.vest_stops.specs.Decided.{Decision, stops, goes_on}
use Rattle.vest_stops.specs.Refusal.{RefusalValue, told}
use Rattle.vest_stops.specs.declared.status.Done.{Done}
use Rattle.vest_stops.specs.declared.status.Status.TheVariants as status
use Rattle.vest_stops.specs.declared.stop.Stop.{Stop}
use Rattle.vest_stops.specs.declared.stop.Stop.TheVariants.{Refused, WantOfMemory}
use Rattle.vest_files.specs.Loading.{DecidesFile, DecidesLoad, Loads, StopsAtLoad, is_translated}
use Rattle.vest_files.specs.Stages.{IsFile, StopsAtFile, StopsWhere}
use Rattle.vest_runs.specs.Delivery.{Delivers}
use Rattle.vest_cli.specs.Hints.{HasHints, StoresHints}
use Rattle.vest_cli.specs.declared.hinting.HintFile.{HintFile}
use Rattle.vest_cli.specs.declared.replaying.Outgoing.{Outgoing}

-- ---- the order in a file's bytes, and what it gives

-- the file's bytes are an order of so many threads
pub record HasOrder (threads : ℕ) (files : Option Files) (file : List ℕ) (order : OrderValue) : Type 0 where
  pub bytes : List ℕ
  pub stored : IsFile files file bytes
  pub meant : order_of threads bytes ≡ Ok order

-- the bytes are no order of so many threads
pub record RefusesOrder (threads : ℕ) (bytes : List ℕ) (refusal : RefusalValue) : Type 0 where
  pub cause : OrderRefusal
  pub refused : order_of threads bytes ≡ Err cause
  pub is : refusal ≡ told subjects.Order (order_numbers cause)

-- the order gives nothing of the image
pub record RefusesGiven (image : ImageValue) (order : OrderValue) (refusal : RefusalValue) : Type 0 where
  pub cause : ReplayRefusal
  pub refused : replay_of image order ≡ Err cause
  pub is : refusal ≡ told subjects.Order (replay_numbers cause)

-- why the call stops where an order gives nothing
abbrev pub stop_of : ReplayRefusal → Stop
stop_of refusals.WantOfMemory = WantOfMemory
stop_of cause = Refused (told subjects.Order (replay_numbers cause))

-- ---- what it does

-- the first file has an image with its translation, for the first Alpha processors where it is a VAX image, the second an order
-- of its threads, and this is what that order gives
pub record FilesGive (files : Option Files) (name file : List ℕ) (replayed : ReplayedValue) : Type 0 where
  pub image : ImageValue
  pub target : Target
  pub code : Code
  pub loaded : Loads Original files name image target code
  pub order : OrderValue
  pub stored : HasOrder (length image.threads) files file order
  pub gives : replay_of image order ≡ Ok replayed

-- what the ends decide
abbrev pub done_of : List EndValue → Done
done_of ends = done_by (map (λ (e : EndValue). e.0) ends)

-- the image's threads alone were driven by the order, and what that gives was delivered: the output, the lines of the ends, and what
-- these decide, by which it came to `sent`; and then the hints were stored, where a file is named for them: of the map of the first file
pub record Replays (result : Done) (name file : List ℕ) (hints : Option (List ℕ)) (old new : DeskMeaning) (out out' report report' : SinkMeaning) : Type 0 where
  pub replayed : ReplayedValue
  pub gives : FilesGive old.files name file replayed
  pub sent : Done
  pub delivered : Delivers sent replayed.output (report_text replayed.ends) (done_of replayed.ends) out out' report report'
  pub stored : StoresHints gives.image gives.order gives.code.map hints result sent old new

-- what goes out where that was given, with that file for hints: it, with the lines of its ends
pub record IsOutgoing (replayed : ReplayedValue) (file : Option HintFile) (made : Outgoing) : Type 0 where
  pub gives : made.given ≡ replayed
  pub lines : made.lines.items ≡ report_text replayed.ends
  pub hinted : made.hints ≡ file

-- all of that is made before the first byte goes out
pub record IsMade (files : Option Files) (name file : List ℕ) (hints : Option (List ℕ)) (made : Outgoing) : Type 0 where
  pub gives : FilesGive files name file made.given
  pub lines : made.lines.items ≡ report_text made.given.ends
  pub hinted : HasHints gives.image gives.order gives.code.map hints made.hints

-- ---- why it stops: at the first file and its translation; behind that at the second file, at its order, or at what that gives
abbrev pub StopsAtOrderFile : Stop → (threads : ℕ) → (file : List ℕ) → (old new : DeskMeaning) → Type 0
StopsAtOrderFile stop threads file old new =
    StopsAtFile stop file old new
    ⊎ ((bytes : List ℕ) × IsFile old.files file bytes × StopsWhere (RefusesOrder threads bytes) stop)

abbrev pub StopsBehindImage : Stop → ImageValue → (file : List ℕ) → (old new : DeskMeaning) → Type 0
StopsBehindImage stop image file old new =
    StopsAtOrderFile stop (length image.threads) file old new
    ⊎ ((order : OrderValue) × HasOrder (length image.threads) old.files file order × StopsWhere (RefusesGiven image order) stop)

abbrev pub StopsReplay : Stop → (name file : List ℕ) → (old new : DeskMeaning) → Type 0
StopsReplay stop name file old new =
    StopsAtLoad stop name old new
    ⊎ ((image : ImageValue) × (target : Target) × (code : Code) × Loads Original old.files name image target code × StopsBehindImage stop image file old new)

-- ---- what told files decide, with the checks in their order

-- the image that the bytes of a file mean
abbrev pub image_in : (bytes : List ℕ) → Option ImageValue
image_in bytes = if is_translated bytes then option_map (λ (parts : PartsValue). parts.image) (result_ok (parts_of bytes)) else result_ok (image_of bytes)

abbrev pub DecidesReplayed : Result ReplayedValue ReplayRefusal → Decision → Type 0
DecidesReplayed (Err refusal) decision = decision ≡ stops status.Refused
DecidesReplayed (Ok replayed) decision = decision ≡ goes_on

abbrev pub DecidesOrder : ImageValue → Result OrderValue OrderRefusal → Decision → Type 0
DecidesOrder image (Err refusal) decision = decision ≡ stops status.Refused
DecidesOrder image (Ok order) decision = DecidesReplayed (replay_of image order) decision

-- the second file, beside the image of the first
abbrev pub DecidesOrderFile : Option ImageValue → Option (List ℕ) → Decision → Type 0
DecidesOrderFile None file decision = ⊥
DecidesOrderFile (Some image) file decision = DecidesFile file (λ bytes. DecidesOrder image (order_of (length image.threads) bytes) decision) decision

-- where the first file goes on
abbrev pub DecidesBehindImage : Decision → Option Files → (name file : List ℕ) → Decision → Type 0
DecidesBehindImage (stops status) files name file decision = decision ≡ stops status
DecidesBehindImage goes_on None name file decision = ⊥
DecidesBehindImage goes_on (Some files) name file decision = DecidesOrderFile (option_and_then image_in (files name)) (files file) decision

pub record DecidesReplay (files : Option Files) (name file : List ℕ) (decision : Decision) : Type 0 where
  pub at_load : Decision
  pub load : DecidesLoad files name at_load
  pub behind : DecidesBehindImage at_load files name file decision
