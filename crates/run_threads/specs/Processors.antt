-- A thread's processor, by what its pass has seen of the history. Histories are oldest first.
use Rattle.std.specs.Prelude.{◌≡◌, true, List, Some, reverse}
use Rattle.image_file.specs.Values.{ImageValue}
use Rattle.memory_core.specs.declared.entry.Entry.{Entry}
use Rattle.memory_core.specs.declared.entry.SetUp.{SetUp}
use Rattle.memory_core.specs.Order.{Meets}
use Rattle.vax_form.specs.declared.pages.Pages.{Pages}
use Rattle.vax_form.specs.declared.state.VaxState.{VaxState}
use Rattle.system_model.specs.Legal.{starts, IsReached}
use Rattle.system_model.specs.Processors.{Processor, begun}
use Rattle.system_model.specs.Settings.{Setting}
use Rattle.tie_switch.specs.Processors.{ProcessorValue, StandsFor, processor_of}
use Rattle.tie_switch.specs.Turns.{has_ended}

-- before its first turn
pub record IsBegun (image : ImageValue) (k : ProcessorValue) : Type 0 where
  pub start : VaxState
  pub starts_so : starts image k.thread ≡ Some start
  pub stands : (pages : Pages) → StandsFor pages k (begun k.thread start)

-- it stands for a processor that is reached by its own entries of what was seen
pub record IsUnderWay (setting : Setting) (set_up : SetUp) (seen : List Entry) (k : ProcessorValue) : Type 0 where
  pub order : Meets set_up (reverse seen)
  pub start : VaxState
  pub starts_so : starts set_up.image k.thread ≡ Some start
  pub processor : Processor
  pub stands : StandsFor setting.meaning.pages k processor
  pub reached : IsReached setting k.budget set_up.limit (reverse seen) k.thread start processor

-- it has ended, and is reached by its own entries of what was seen
pub record HasEnded (setting : Setting) (set_up : SetUp) (seen : List Entry) (k : ProcessorValue) : Type 0 where
  pub ended : has_ended (processor_of k).mode ≡ true
  pub start : VaxState
  pub starts_so : starts set_up.image k.thread ≡ Some start
  pub reached : IsReached setting k.budget set_up.limit (reverse seen) k.thread start (processor_of k)
