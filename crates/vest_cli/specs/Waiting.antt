-- Runs that are yet to be made, and what they come to.
use Rattle.std.specs.Prelude.{◌≡◌, ◌≤◌, ◌<◌, ℕ, List, [], Option, None, Some, Result, Ok, Err, length}
use Rattle.command_words.specs.Commands.{CommandValue, OptionsValue, generate, list, live, replay, run, translate}
use Rattle.command_words.specs.Commands.{DEFAULT_LIMITS}
use Rattle.vt_outside.specs.Desk.{DeskMeaning, Files}
use Rattle.vt_outside.specs.Sink.{SinkMeaning}
use Rattle.vt_outside.specs.Source.{SourceMeaning}
use Rattle.image_file.specs.Whole.{IsWhole}
use Rattle.block_law.specs.Translations.{Code, Meets}
use Rattle.image_meaning.specs.Meant.{image_meaning}
use Rattle.image_meaning.specs.Permits.{permit_of}
use Rattle.image_meaning.specs.declared.target.Target.TheVariants.{Original}
use Rattle.memory_core.specs.Contents.{output_of}
use Rattle.memory_core.specs.declared.entry.Entry.{Entry}
use Rattle.memory_core.specs.declared.entry.SetUp.{SetUp}
use Rattle.report_text.specs.Generated.{generated_image}
use Rattle.report_text.specs.declared.images.TheConstants.{MOST_GROUPS}
use Rattle.translate.specs.Translated.{IsTranslated}
use Rattle.vest_stops.specs.Decided.{Decision, goes_on, StopsAsDecided}
use Rattle.vest_stops.specs.Line.{line_of}
use Rattle.vest_stops.specs.Status.{status_of, status_of_done}
use Rattle.vest_stops.specs.declared.status.Done.{Done}
use Rattle.vest_stops.specs.declared.status.Status.{Status}
use Rattle.vest_stops.specs.declared.status.Status.TheVariants as status
use Rattle.vest_stops.specs.declared.stop.Stop.{Stop}
use Rattle.vest_stops.specs.declared.stop.Stop.TheVariants as stops
use Rattle.run_files.specs.Spelling.{order_bytes}
use Rattle.vest_runs.specs.Delivery.{DeliversRun}
use Rattle.vest_runs.specs.Generate.{lines_of}
use Rattle.vest_runs.specs.Keeping.{HasKept, processors_of, set_up_of}
use Rattle.vest_runs.specs.Kept.{KeptValue, nothing_kept}
use Rattle.vest_runs.specs.Order.{order_kept}
use Rattle.vest_cli.specs.Decided.{DecidesCall}
use Rattle.vest_cli.specs.Leaving.{LeavesAll}
use Rattle.vest_cli.specs.Lent.{Lent}
use Rattle.vest_cli.specs.Run.{IsTask, StopsRun, target_of}
use Rattle.vest_ends.specs.Says.{Says}
use Rattle.vest_cli.specs.Storing.{HasRoomFor, Stores, name_of}
use Rattle.vest_cli.specs.Vest.{StopsAt, Untouched}
use Rattle.vest_cli.specs.declared.execute.Task.{Task}
use Rattle.vest_cli.specs.declared.halt.Halt.{Halt}
use Rattle.vest_cli.specs.declared.halt.Halt.TheVariants.{Stops, Waits}
use Rattle.vest_cli.specs.declared.waiting.Puts.{Puts}
use Rattle.vest_cli.specs.declared.waiting.Puts.TheVariants.{Output, Lines}
use Rattle.vest_cli.specs.declared.waiting.Waiting.{Waiting}

-- the bytes that go out behind a run
abbrev pub put_out : Puts → Code → SetUp → List Entry → List ℕ
put_out Output code of history = output_of history
put_out (Lines number) code of history = lines_of number code of history

abbrev pub CanPut : Puts → Type 0
CanPut Output = Unit {0}
CanPut (Lines number) = number ≤ MOST_GROUPS

-- its image is whole, its code meets the meaning of the image's instructions, and there is room for the file of its order
pub record IsReady (waiting : Waiting) : Type 0 where
  pub whole : IsWhole waiting.task.loaded.image
  pub meets : Meets (image_meaning waiting.task.loaded.image.pages) (permit_of waiting.task.loaded.target waiting.task.loaded.image.pages) waiting.task.loaded.translation
  pub puts : CanPut waiting.puts
  pub room : HasRoomFor waiting.task waiting.order

-- its image has more than one thread
abbrev pub HasSeveral : Waiting → Type 0
HasSeveral waiting = 1 < length waiting.task.loaded.image.threads

-- the task was run, the run is kept, what goes out behind it was delivered, by which it came to `run`, and then its order was
-- stored; where no file is asked for the desk isn't touched
pub record Gives (result : Done) (task : Task) (puts : Puts) (to : Option (List ℕ)) (desk desk' : DeskMeaning) (out out' report report' : SinkMeaning) (kept : KeptValue) : Type 0 where
  pub has_kept : HasKept task.loaded.image task.loaded.target task.loaded.translation task.taken.items task.limits task.ranges.items kept
  pub run : Done
  pub delivered : DeliversRun run (put_out puts task.loaded.translation (set_up_of task.loaded.image kept) kept.history) (processors_of kept) out out' report report'
  pub stored : Stores result run to (order_bytes (order_kept kept)) desk desk'
  pub unasked : to ≡ None → desk' ≡ desk

-- memory ran out before the run, or it was made
pub data Finishes (waiting : Waiting) (result : Status) (desk desk' : DeskMeaning) (out out' report report' : SinkMeaning) (kept : KeptValue) : Type 0 where
  short : result ≡ status.WantOfMemory → desk' ≡ desk → out' ≡ out → kept ≡ nothing_kept → Says (line_of stops.WantOfMemory) report report'
      → Finishes waiting result desk desk' out out' report report' kept
  given : (end : Done) → result ≡ status_of_done end → Gives end waiting.task waiting.puts (name_of waiting.order) desk desk' out out' report report' kept
      → Finishes waiting result desk desk' out out' report report' kept

-- ---- why a run is not made without waiting
-- memory ran out, or it is the same run, of several threads
abbrev pub HaltsBehind : Waiting → Halt → Type 0
HaltsBehind waiting (Stops stop) = stop ≡ stops.WantOfMemory
HaltsBehind waiting (Waits other) = (other ≡ waiting) × HasSeveral waiting

abbrev pub WaitsReady : Halt → Type 0
WaitsReady (Stops stop) = Unit {0}
WaitsReady (Waits waiting) = IsReady waiting

-- `run` has its task, its output is to go out, and its order into the file that its words name
pub record IsToRun (name : List ℕ) (options : OptionsValue) (files : Option Files) (input input' : SourceMeaning) (waiting : Waiting) : Type 0 where
  pub task : IsTask name options files input input' waiting.task
  pub puts : waiting.puts ≡ Output
  pub order : name_of waiting.order ≡ options.order
  pub room : HasRoomFor waiting.task waiting.order

-- and its image has several threads
pub record WaitsToRun (waiting : Waiting) (name : List ℕ) (options : OptionsValue) (files : Option Files) (input input' : SourceMeaning) : Type 0 where
  pub is : IsToRun name options files input input' waiting
  pub several : HasSeveral waiting

abbrev pub HaltsRun : Halt → (name : List ℕ) → OptionsValue → DeskMeaning → DeskMeaning → SourceMeaning → SourceMeaning → Type 0
HaltsRun (Stops stop) name options desk desk' input input' = StopsRun stop (target_of options.target) name desk desk' input input'
HaltsRun (Waits waiting) name options desk desk' input input' = WaitsToRun waiting name options desk.files input input'

-- what `generate` runs: the number's image and its translation for the first Alpha processors without hints, on no input, by the default limits
pub record IsGenerated (number : ℕ) (task : Task) : Type 0 where
  pub image : task.loaded.image ≡ generated_image number
  pub whole : IsWhole task.loaded.image
  pub target : task.loaded.target ≡ Original
  pub translated : IsTranslated Original (generated_image number) [] task.loaded.translation
  pub taken : task.taken.items ≡ []
  pub limits : task.limits ≡ DEFAULT_LIMITS
  pub ranges : task.ranges.items ≡ []

-- and its lines are to go out
pub record WaitsToGenerate (waiting : Waiting) (number : ℕ) : Type 0 where
  pub task : IsGenerated number waiting.task
  pub puts : waiting.puts ≡ Lines number
  pub order : name_of waiting.order ≡ None
  pub several : HasSeveral waiting

abbrev pub HaltsGenerate : Halt → (number : ℕ) → Type 0
HaltsGenerate (Stops stop) number = stop ≡ stops.WantOfMemory
HaltsGenerate (Waits waiting) number = WaitsToGenerate waiting number

-- ---- of each command; only `run` and `generate` wait
abbrev pub WaitsAt : CommandValue → Waiting → DeskMeaning → DeskMeaning → SourceMeaning → SourceMeaning → Type 0
WaitsAt (run name options) waiting desk desk' input input' = WaitsToRun waiting name options desk.files input input'
WaitsAt (live name options) waiting desk desk' input input' = ⊥
WaitsAt (translate image to target hints) waiting desk desk' input input' = ⊥
WaitsAt (list name) waiting desk desk' input input' = ⊥
WaitsAt (generate number) waiting desk desk' input input' = WaitsToGenerate waiting number × Untouched desk desk' input input'
WaitsAt (replay name file hints) waiting desk desk' input input' = ⊥

abbrev pub HaltsAt : CommandValue → Halt → DeskMeaning → DeskMeaning → SourceMeaning → SourceMeaning → Type 0
HaltsAt command (Stops stop) desk desk' input input' = StopsAt command stop desk desk' input input'
HaltsAt command (Waits waiting) desk desk' input input' = WaitsAt command waiting desk desk' input input'

-- a command that waits for no threads stops, or is done
abbrev pub or_halt : Result Done Stop → Result Done Halt
or_halt (Ok end) = Ok end
or_halt (Err stop) = Err (Stops stop)

-- what told files and a told input decide on it: what waits goes on
abbrev pub IsHaltDecided : Result Done Halt → Decision → Type 0
IsHaltDecided (Ok end) decision = decision ≡ goes_on
IsHaltDecided (Err (Stops stop)) decision = StopsAsDecided stop decision
IsHaltDecided (Err (Waits waiting)) decision = decision ≡ goes_on

-- what a command comes to at last: nothing is said where it is done, and where it waits
abbrev pub Concludes : Result Done Halt → Result Status Waiting → (old new : SinkMeaning) → Type 0
Concludes (Ok end) result old new = (result ≡ Ok (status_of_done end)) × (new ≡ old)
Concludes (Err (Stops stop)) result old new = (result ≡ Ok (status_of stop)) × Says (line_of stop) old new
Concludes (Err (Waits waiting)) result old new = (result ≡ Err waiting) × (new ≡ old)

-- ---- of a call
-- its command waits for the threads of a run: nothing is decided but that it goes on, nothing was written, and nothing is kept
pub record CallWaits (spelled : Option CommandValue) (waiting : Waiting) (old new : Lent) (kept : KeptValue) : Type 0 where
  pub command : CommandValue
  pub is : spelled ≡ Some command
  pub waits : WaitsAt command waiting old.desk new.desk old.input new.input
  pub leaves : LeavesAll old new kept
  pub ready : IsReady waiting
  pub decided : (decision : Decision) → DecidesCall spelled old.desk.files old.input.left decision → decision ≡ goes_on
