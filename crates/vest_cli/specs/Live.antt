-- The command `run --live`.
use Rattle.std.specs.Prelude.{◌≡◌, ◌≢◌, ◌⊎◌, ◌==◌, ℕ, true, List, [], ◌∷◌, Option, None, Some, length, map, reverse, if◌then◌else◌, option_and_then}
use Rattle.command_words.specs.Commands.{LiveOptionsValue}
use Rattle.vt_outside.specs.Desk.{DeskMeaning, Files}
use Rattle.vt_outside.specs.Sink.{SinkMeaning}
use Rattle.vt_outside.specs.Source.{SourceMeaning}
use Rattle.image_file.specs.Values.{ImageValue}
use Rattle.image_file.specs.Whole.{IsWhole}
use Rattle.block_law.specs.Translations.{Code, Meets}
use Rattle.image_meaning.specs.Meant.{image_meaning}
use Rattle.image_meaning.specs.Permits.{permit_of}
use Rattle.image_meaning.specs.declared.target.Target.{Target}
use Rattle.legal_history.specs.Law.{IsRun}
use Rattle.memory_core.specs.Order.{own}
use Rattle.report_text.specs.declared.refused.Subject.TheVariants as subjects
use Rattle.system_model.specs.Processors.{Processor}
use Rattle.tie_switch.specs.Processors.{ProcessorValue, processor_of}
use Rattle.tie_switch.specs.Settings.{image_setting}
use Rattle.vest_core.specs.Talks.{HasTalked}
use Rattle.vest_core.specs.declared.talking.TalkEnd.{TalkEnd}
use Rattle.vest_core.specs.declared.talking.TalkEnd.TheVariants as talks
use Rattle.vest_stops.specs.Decided.{Decision, stops, goes_on}
use Rattle.vest_stops.specs.Files.{SameFiles}
use Rattle.vest_stops.specs.Line.{line_of}
use Rattle.vest_stops.specs.Refusal.{RefusalValue, told}
use Rattle.vest_stops.specs.declared.status.Done.{Done}
use Rattle.vest_stops.specs.declared.status.Done.TheVariants as done
use Rattle.vest_stops.specs.declared.status.Status.TheVariants as status
use Rattle.vest_stops.specs.declared.stop.Stop.{Stop}
use Rattle.vest_stops.specs.declared.stop.Stop.TheVariants.{ReadFault}
use Rattle.vest_files.specs.Loading.{DecidesLoad, Loads, StopsAtLoad}
use Rattle.vest_files.specs.Stages.{StopsWhere}
use Rattle.vest_runs.specs.Delivery.{ReportsRun}
use Rattle.vest_runs.specs.Keeping.{live_kept, processors_of, set_up_of, setting_of}
use Rattle.vest_runs.specs.Kept.{KeptValue}
use Rattle.vest_runs.specs.Report.{is_spent}
use Rattle.vest_runs.specs.Threads.{AreDriven, SpentByBudget}
use Rattle.vest_cli.specs.Lent.{Lent}
use Rattle.vest_cli.specs.Replay.{image_in}
use Rattle.vest_cli.specs.Run.{range_of, target_of}
use Rattle.vest_ends.specs.Says.{Says}
use Rattle.vest_cli.specs.declared.living.LiveTask.{LiveTask}
use Rattle.vest_cli.specs.declared.living.Told.{Told}

-- ---- what it runs
-- the image of the file with its translation, which has one thread, by the options of its words
pub record IsLiveTask (name : List ℕ) (options : LiveOptionsValue) (files : Option Files) (task : LiveTask) : Type 0 where
  pub loads : Loads (target_of options.target) files name task.loaded.image task.loaded.target task.loaded.translation
  pub whole : IsWhole task.loaded.image
  pub meets : Meets (image_meaning task.loaded.image.pages) (permit_of task.loaded.target task.loaded.image.pages) task.loaded.translation
  pub alone : length task.loaded.image.threads ≡ 1
  pub same_budget : task.budget ≡ options.budget
  pub same_miss : task.miss ≡ options.miss
  pub same_ranges : task.ranges.items ≡ map range_of options.ranges
  pub same_progress : task.progress ≡ options.progress

-- a talk with it left a memory and a processor
pub record HasTold (task : LiveTask) (told : Told) (source source' : SourceMeaning) (sink sink' : SinkMeaning) (report report' : SinkMeaning) : Type 0 where
  pub same_image : told.memory.contents.set_up.image ≡ task.loaded.image
  pub same_miss : told.memory.contents.set_up.miss ≡ task.miss
  pub k : ProcessorValue
  pub its : told.processors.items ≡ k ∷ []
  pub in_range : IsRun told.memory.contents.set_up
  pub talked : HasTalked told.end (image_setting task.loaded.image.pages task.loaded.translation task.ranges.items) told.memory.contents.set_up task.budget told.memory.contents.history k source source' sink sink' task.progress report report'
  pub driven : AreDriven (image_setting task.loaded.image.pages task.loaded.translation task.ranges.items) (permit_of task.loaded.target task.loaded.image.pages) told.memory.contents.set_up told.memory.contents.history (talked.processor ∷ [])
  pub spent : is_spent (processor_of k).mode ≡ true → SpentByBudget task.budget talked.processor (own 0 (reverse told.memory.contents.history))

-- which are kept
abbrev pub kept_of : LiveTask → Told → KeptValue
kept_of task told =
    live_kept task.loaded.image task.loaded.translation task.budget task.miss task.ranges.items told.memory.contents told.processors.items

-- ---- what it does
-- a run of the image over that code, by those options, is kept
pub record HasKeptLive (image : ImageValue) (code : Code) (options : LiveOptionsValue) (kept : KeptValue) : Type 0 where
  pub kept_image : kept.image ≡ Some image
  pub kept_code : kept.translation ≡ Some code
  pub ranges : kept.ranges ≡ map range_of options.ranges
  pub budget : kept.budget ≡ options.budget
  pub miss : kept.miss ≡ options.miss

-- behind the talk and its lines of progress: the report of a thread that has ended, and what its end decides; or the line of a read that failed; or nothing
abbrev pub Closes : TalkEnd → Done → List Processor → (report report' : SinkMeaning) → Type 0
Closes talks.Ended result processors report report' = ReportsRun result processors report report'
Closes talks.ReadFault result processors report report' = (result ≡ done.ReadFault) × Says (line_of ReadFault) report report'
Closes talks.WriteFault result processors report report' = (result ≡ done.WriteFault) × (report' ≡ report)
Closes talks.ReportFault result processors report report' = (result ≡ done.WriteFault) × (report' ≡ report)

-- `run --live` made its run, of the file's image, which has one thread, and its translation, by the options of its words: the
-- thread was talked with, and its report went out behind that
pub record Lives (result : Done) (name : List ℕ) (options : LiveOptionsValue) (old new : Lent) (kept : KeptValue) : Type 0 where
  pub image : ImageValue
  pub target : Target
  pub code : Code
  pub loaded : Loads (target_of options.target) old.desk.files name image target code
  pub whole : IsWhole image
  pub meets : Meets (image_meaning image.pages) (permit_of target image.pages) code
  pub alone : length image.threads ≡ 1
  pub has_kept : HasKeptLive image code options kept
  pub k : ProcessorValue
  pub its : kept.processors ≡ k ∷ []
  pub end : TalkEnd
  pub in_range : IsRun (set_up_of image kept)
  -- the report behind the lines of progress
  pub behind : SinkMeaning
  pub talked : HasTalked end (setting_of image code kept) (set_up_of image kept) kept.budget kept.history k old.input new.input old.out new.out options.progress old.report behind
  -- so it is what the VAX thread does, up to where it stands
  pub driven : AreDriven (setting_of image code kept) (permit_of target image.pages) (set_up_of image kept) kept.history (talked.processor ∷ [])
  pub spent : is_spent (processor_of k).mode ≡ true → SpentByBudget kept.budget talked.processor (own 0 (reverse kept.history))
  pub closes : Closes end result (processors_of kept) behind new.report
  pub desk : SameFiles old.desk new.desk

-- ---- why it stops before it asks for input: at the file and its translation, or behind that, where the image has not one thread
pub record RefusesThreads (image : ImageValue) (refusal : RefusalValue) : Type 0 where
  pub others : length image.threads ≢ 1
  pub is : refusal ≡ told subjects.Live (1 ∷ length image.threads ∷ [])

abbrev pub StopsLive : Stop → (asked : Target) → (name : List ℕ) → (old new : DeskMeaning) → Type 0
StopsLive stop asked name old new =
    StopsAtLoad stop name old new
    ⊎ ((image : ImageValue) × (target : Target) × (code : Code) × Loads asked old.files name image target code × StopsWhere (RefusesThreads image) stop)

-- ---- what told files decide
abbrev pub DecidesThreads : Option ImageValue → Decision → Type 0
DecidesThreads None decision = ⊥
DecidesThreads (Some image) decision = decision ≡ (if length image.threads == 1 then goes_on else stops status.Refused)

-- where the file goes on
abbrev pub DecidesBehindLoad : Decision → Option Files → (name : List ℕ) → Decision → Type 0
DecidesBehindLoad (stops status) files name decision = decision ≡ stops status
DecidesBehindLoad goes_on None name decision = ⊥
DecidesBehindLoad goes_on (Some files) name decision = DecidesThreads (option_and_then image_in (files name)) decision

pub record DecidesLive (files : Option Files) (name : List ℕ) (decision : Decision) : Type 0 where
  pub at_load : Decision
  pub load : DecidesLoad files name at_load
  pub behind : DecidesBehindLoad at_load files name decision
