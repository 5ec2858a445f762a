-- What one call of `vest` does.
use Rattle.std.specs.Prelude.{◌≡◌, ℕ, List, Option, None, Some}
use Rattle.command_words.specs.Commands.{CommandValue, generate, list, live, replay, run, translate}
use Rattle.image_meaning.specs.declared.target.Target.{Target}
use Rattle.vt_outside.specs.Desk.{DeskMeaning}
use Rattle.vt_outside.specs.Source.{SourceMeaning}
use Rattle.vest_stops.specs.Line.{line_of}
use Rattle.vest_files.specs.List.{Lists}
use Rattle.vest_files.specs.Loading.{StopsAtLoad}
use Rattle.vest_stops.specs.Files.{SameFiles}
use Rattle.vest_stops.specs.Status.{status_of, status_of_done}
use Rattle.vest_files.specs.Translate.{StopsTranslate, Translates}
use Rattle.vest_stops.specs.declared.status.Done.{Done}
use Rattle.vest_stops.specs.declared.status.Status.{Status}
use Rattle.vest_stops.specs.declared.status.Status.TheVariants as status
use Rattle.vest_stops.specs.declared.stop.Stop.{Stop}
use Rattle.vest_stops.specs.declared.stop.Stop.TheVariants.{WantOfMemory}
use Rattle.vest_cli.specs.Generate.{Generates}
use Rattle.vest_runs.specs.Kept.{KeptValue, nothing_kept}
use Rattle.vest_cli.specs.Lent.{Lent}
use Rattle.vest_cli.specs.Live.{Lives, StopsLive}
use Rattle.vest_cli.specs.Replay.{Replays, StopsReplay}
use Rattle.vest_cli.specs.Run.{Runs, StopsRun, target_of}
use Rattle.vest_ends.specs.Says.{usage_line}
use Rattle.vest_cli.specs.Stopping.{Stopped}

-- neither desk nor input was touched
pub record Untouched (desk desk' : DeskMeaning) (input input' : SourceMeaning) : Type 0 where
  pub same_desk : desk' ≡ desk
  pub same_input : input' ≡ input

-- `generate` stops only for want of memory
abbrev pub StopsGenerate : Stop → DeskMeaning → DeskMeaning → SourceMeaning → SourceMeaning → Type 0
StopsGenerate stop desk desk' input input' = (stop ≡ WantOfMemory) × Untouched desk desk' input input'

-- why a command stops; all but `run` leave the input
abbrev pub StopsAt : CommandValue → Stop → DeskMeaning → DeskMeaning → SourceMeaning → SourceMeaning → Type 0
StopsAt (run name options) stop desk desk' input input' = StopsRun stop (target_of options.target) name desk desk' input input'
StopsAt (live name options) stop desk desk' input input' = StopsLive stop (target_of options.target) name desk desk' × (input' ≡ input)
StopsAt (translate image to target hints) stop desk desk' input input' = StopsTranslate stop image hints desk desk' × (input' ≡ input)
StopsAt (list name) stop desk desk' input input' = StopsAtLoad stop name desk desk' × (input' ≡ input)
StopsAt (generate number) stop desk desk' input input' = StopsGenerate stop desk desk' input input'
StopsAt (replay name file hints) stop desk desk' input input' = StopsReplay stop name file desk desk' × (input' ≡ input)

-- why a call stops: there was no memory to read its words; or its command says why
abbrev pub Stops : Option CommandValue → Stop → DeskMeaning → DeskMeaning → SourceMeaning → SourceMeaning → Type 0
Stops None WantOfMemory desk desk' input input' = Untouched desk desk' input input'
Stops None stop desk desk' input input' = ⊥
Stops (Some command) stop desk desk' input input' = StopsAt command stop desk desk' input input'

-- `translate` writes the desk alone
pub record OnlyTranslates (target : Target) (result : Done) (image to : List ℕ) (hints : Option (List ℕ)) (old new : Lent) (kept : KeptValue) : Type 0 where
  pub translates : Translates target result image to hints old.desk new.desk
  pub out : new.out ≡ old.out
  pub report : new.report ≡ old.report
  pub input : new.input ≡ old.input
  pub kept_nothing : kept ≡ nothing_kept

-- `list` writes to `out` alone
pub record OnlyLists (result : Done) (name : List ℕ) (old new : Lent) (kept : KeptValue) : Type 0 where
  pub lists : Lists result name old.desk old.out new.out
  pub desk : SameFiles old.desk new.desk
  pub report : new.report ≡ old.report
  pub input : new.input ≡ old.input
  pub kept_nothing : kept ≡ nothing_kept

-- `generate` touches neither desk nor input
pub record OnlyGenerates (result : Done) (number : ℕ) (old new : Lent) (kept : KeptValue) : Type 0 where
  pub generates : Generates result number old.out new.out old.report new.report kept
  pub desk : new.desk ≡ old.desk
  pub input : new.input ≡ old.input

-- `replay` writes to `out` and `report`, and to the desk its hints alone
pub record OnlyReplays (result : Done) (name file : List ℕ) (hints : Option (List ℕ)) (old new : Lent) (kept : KeptValue) : Type 0 where
  pub replays : Replays result name file hints old.desk new.desk old.out new.out old.report new.report
  pub input : new.input ≡ old.input
  pub kept_nothing : kept ≡ nothing_kept

-- what a command does
abbrev pub Does : CommandValue → Done → Lent → Lent → KeptValue → Type 0
Does (run name options) result old new kept = Runs result name options old new kept
Does (live name options) result old new kept = Lives result name options old new kept
Does (translate image to target hints) result old new kept = OnlyTranslates (target_of target) result image to hints old new kept
Does (list name) result old new kept = OnlyLists result name old new kept
Does (generate number) result old new kept = OnlyGenerates result number old new kept
Does (replay name file hints) result old new kept = OnlyReplays result name file hints old new kept

-- no command was spelled; or a call stops and says why; or it does what its command says
pub data Ends (command : Option CommandValue) (result : Status) (old new : Lent) (kept : KeptValue) : Type 0 where
  unspelled : command ≡ None → result ≡ status.Usage → Untouched old.desk new.desk old.input new.input → Stopped usage_line old new kept
      → Ends command result old new kept
  stopped : (stop : Stop) → result ≡ status_of stop → Stops command stop old.desk new.desk old.input new.input
      → Stopped (line_of stop) old new kept → Ends command result old new kept
  done : (spelled : CommandValue) (end : Done) → command ≡ Some spelled → result ≡ status_of_done end → Does spelled end old new kept
      → Ends command result old new kept
