-- The command `run`.
use Rattle.std.specs.Prelude.{◌≡◌, ◌⊎◌, ℕ, List, Option, map}
use Rattle.command_words.specs.Commands.{OptionsValue}
use Rattle.command_words.specs.declared.commands.Target.{Target as WordTarget}
use Rattle.command_words.specs.declared.commands.Target.TheVariants as words
use Rattle.command_words.specs.declared.numbers.Range.{Range as WordRange}
use Rattle.vt_outside.specs.Desk.{DeskMeaning, Files}
use Rattle.vt_outside.specs.Source.{SourceMeaning}
use Rattle.image_file.specs.Values.{ImageValue}
use Rattle.image_file.specs.Whole.{IsWhole}
use Rattle.memory_core.specs.Contents.{output_of}
use Rattle.block_law.specs.Translations.{Code, Meets}
use Rattle.image_meaning.specs.Meant.{image_meaning}
use Rattle.image_meaning.specs.Permits.{permit_of}
use Rattle.image_meaning.specs.declared.target.Target.{Target}
use Rattle.image_meaning.specs.declared.target.Target.TheVariants.{Original, ByteWord}
use Rattle.system_model.specs.declared.translation.Range.{Range}
use Rattle.vest_stops.specs.Decided.{Decision, stops, goes_on}
use Rattle.vest_files.specs.Loading.{DecidesLoad, Loads, StopsAtLoad}
use Rattle.vest_stops.specs.declared.status.Done.{Done}
use Rattle.vest_stops.specs.declared.stop.Stop.{Stop}
use Rattle.run_files.specs.Spelling.{order_bytes}
use Rattle.vest_runs.specs.Delivery.{DeliversRun}
use Rattle.vest_runs.specs.Keeping.{HasKept, processors_of}
use Rattle.vest_runs.specs.Kept.{KeptValue}
use Rattle.vest_runs.specs.Order.{order_kept}
use Rattle.vest_runs.specs.Input.{DecidesInput, ReadsAll, StopsAtInput}
use Rattle.vest_cli.specs.Lent.{Lent}
use Rattle.vest_cli.specs.Storing.{Stores}
use Rattle.vest_cli.specs.declared.execute.Task.{Task}

-- why `run` stops before its run: at the file and its translation, with the input as it was, or behind that, at the input
abbrev pub StopsRun : Stop → (asked : Target) → (name : List ℕ) → DeskMeaning → DeskMeaning → SourceMeaning → SourceMeaning → Type 0
StopsRun stop asked name desk desk' input input' =
    (StopsAtLoad stop name desk desk' × (input' ≡ input))
    ⊎ ((image : ImageValue) × (target : Target) × (code : Code) × Loads asked desk.files name image target code × StopsAtInput stop input input')

-- the addresses that a thread interprets, of the words
abbrev pub range_of : WordRange → Range
range_of range = record { thread = range.thread; first = range.first; last = range.last }

-- the target that is asked for, of the words
abbrev pub target_of : WordTarget → Target
target_of words.Original = Original
target_of words.ByteWord = ByteWord

-- what it runs: the file's image with its translation, and all the input, by the limits and the ranges of its words
pub record IsTask (name : List ℕ) (options : OptionsValue) (files : Option Files) (old new : SourceMeaning) (task : Task) : Type 0 where
  pub loads : Loads (target_of options.target) files name task.loaded.image task.loaded.target task.loaded.translation
  pub whole : IsWhole task.loaded.image
  pub meets : Meets (image_meaning task.loaded.image.pages) (permit_of task.loaded.target task.loaded.image.pages) task.loaded.translation
  pub reads : ReadsAll old new task.taken.items
  pub same_limits : task.limits ≡ options.limits
  pub same_ranges : task.ranges.items ≡ map range_of options.ranges

-- `run` made its run: of the file's image and its translation, on all the input, by the limits and the ranges of its words; it
-- was delivered, by which it came to `run`, and then its order was stored where its words name a file
pub record Runs (result : Done) (name : List ℕ) (options : OptionsValue) (old new : Lent) (kept : KeptValue) : Type 0 where
  pub image : ImageValue
  pub target : Target
  pub code : Code
  pub loaded : Loads (target_of options.target) old.desk.files name image target code
  pub whole : IsWhole image
  pub meets : Meets (image_meaning image.pages) (permit_of target image.pages) code
  pub input : ReadsAll old.input new.input kept.input
  pub has_kept : HasKept image target code kept.input options.limits (map range_of options.ranges) kept
  pub run : Done
  pub delivered : DeliversRun run (output_of kept.history) (processors_of kept) old.out new.out old.report new.report
  pub stored : Stores result run options.order (order_bytes (order_kept kept)) old.desk new.desk

-- ---- what told files and a told input decide

-- the file and its translation, and then the input
abbrev pub DecidesBehind : Decision → Option (List ℕ) → Decision → Type 0
DecidesBehind (stops status) input decision = decision ≡ stops status
DecidesBehind goes_on input decision = DecidesInput input decision

pub record DecidesRun (files : Option Files) (name : List ℕ) (input : Option (List ℕ)) (decision : Decision) : Type 0 where
  pub at_load : Decision
  pub load : DecidesLoad files name at_load
  pub behind : DecidesBehind at_load input decision
