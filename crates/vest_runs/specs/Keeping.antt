-- A run that was made, as it is kept.
use Rattle.std.specs.Prelude.{◌≡◌, ℕ, List, Some, map}
use Rattle.command_words.specs.declared.commands.Keeping.{Keeping}
use Rattle.command_words.specs.declared.commands.Keeping.TheVariants.{History, Nothing}
use Rattle.command_words.specs.declared.commands.Limits.{Limits}
use Rattle.image_file.specs.Values.{ImageValue}
use Rattle.memory_core.specs.Contents.{Contents}
use Rattle.memory_core.specs.declared.entry.Limit.{Limit}
use Rattle.memory_core.specs.declared.entry.Limit.TheVariants.{Entries, Puts}
use Rattle.memory_core.specs.declared.entry.SetUp.{SetUp}
use Rattle.block_law.specs.Translations.{Code}
use Rattle.image_meaning.specs.Permits.{permit_of}
use Rattle.image_meaning.specs.declared.target.Target.{Target}
use Rattle.system_model.specs.Processors.{Processor}
use Rattle.system_model.specs.Settings.{Setting}
use Rattle.system_model.specs.declared.translation.Range.{Range}
use Rattle.tie_switch.specs.Settings.{image_setting}
use Rattle.tie_switch.specs.Processors.{ProcessorValue, processor_of}
use Rattle.vest_runs.specs.Kept.{KeptValue}
use Rattle.vest_runs.specs.Threads.{HasRun}

-- what is counted in a run by what it keeps of its references: entries, or bytes that are put; and how many at most
abbrev pub limit_by : Keeping → (events : ℕ) → Limit
limit_by History events = Entries events
limit_by Nothing events = Puts events

abbrev pub limit_of : Limits → Limit
limit_of limits = limit_by limits.keeping limits.events

-- the memory that the history is of
abbrev pub set_up_of : ImageValue → KeptValue → SetUp
set_up_of image kept = record { image = image; input = kept.input; limit = kept.limit; miss = kept.miss }

-- the processors of the model
abbrev pub processors_of : KeptValue → List Processor
processors_of kept = map processor_of kept.processors

-- what they ran
abbrev pub setting_of : ImageValue → Code → KeptValue → Setting
setting_of image code kept = image_setting image.pages code kept.ranges

-- a run of the image on that input, by these limits, over that code for a target, in which a thread interprets these addresses too
pub record HasKept (image : ImageValue) (target : Target) (code : Code) (taken : List ℕ) (limits : Limits) (interpreted : List Range) (kept : KeptValue) : Type 0 where
  pub kept_image : kept.image ≡ Some image
  pub kept_code : kept.translation ≡ Some code
  pub ranges : kept.ranges ≡ interpreted
  pub input : kept.input ≡ taken
  pub budget : kept.budget ≡ limits.budget
  pub limit : kept.limit ≡ limit_of limits
  pub miss : kept.miss ≡ limits.miss
  -- the history and the processors are a legal run, in which all threads have ended, and so what the VAX threads do, by
  -- accesses that code for the target may make
  pub has_run : HasRun (setting_of image code kept) (permit_of target image.pages) (set_up_of image kept) kept.budget kept.history (processors_of kept)

-- ---- a run that was talked with

-- its input and its limit are those that its memory has at last
abbrev pub live_kept : ImageValue → Code → (budget miss : ℕ) → List Range → Contents → List ProcessorValue → KeptValue
live_kept image code budget miss interpreted memory processors = record {
  image = Some image;
  input = memory.set_up.input;
  history = memory.history;
  processors = processors;
  budget = budget;
  limit = memory.set_up.limit;
  miss = miss;
  translation = Some code;
  ranges = interpreted;
}
