-- What holds of one processor alone, by the entries of its own in a history that meets the memory order.
use Rattle.std.specs.Prelude.{◌≡◌, ◌≢◌, ℕ, Bool, List, Some}
use Rattle.memory_core.specs.declared.entry.Entry.{Entry}
use Rattle.memory_core.specs.declared.entry.SetUp.{SetUp}
use Rattle.memory_core.specs.Order.{own, Meets}
use Rattle.memory_core.specs.Requests.{CanMake}
use Rattle.memory_core.specs.declared.entry.Request.{Request}
use Rattle.block_law.specs.Sound.{IsSound, AllowsFew}
use Rattle.block_law.specs.Translations as translations
use Rattle.vax_form.specs.declared.state.VaxState.{VaxState}
use Rattle.system_model.specs.Settings.{Setting}
use Rattle.system_model.specs.Legal.{starts, IsReached}
use Rattle.system_model.specs.Processors.{Processor, Asks, Stuck, turn}
use Rattle.legal_history.specs.Headline.{HasFewSteps}
use Rattle.legal_history.specs.Law.{IsRun}

-- a processor has a step, memory can make it if it asks, and few steps are behind it, whatever the others do
pub record IsSteady (setting : Setting) (set_up : SetUp) (entries : List Entry) (thread : ℕ) (p : Processor) : Type 0 where
  pub goes_on : turn setting p ≢ Stuck
  pub asks : (request : Request) (on : ℕ → Bool → Processor) → turn setting p ≡ Asks request on → CanMake set_up request
  pub steps : HasFewSteps p (own thread entries)

abbrev pub ReachedIsSteady : Type 0
ReachedIsSteady = (setting : Setting) (permit : translations.Permit) (set_up : SetUp) (budget : ℕ) (entries : List Entry) (thread : ℕ) (start : VaxState) (p : Processor)
    → IsSound setting.meaning → AllowsFew permit → translations.Meets setting.meaning permit setting.code → IsRun set_up → setting.meaning.pages ≡ set_up.image.pages → Meets set_up entries
    → starts set_up.image thread ≡ Some start → IsReached setting budget set_up.limit entries thread start p
    → IsSteady setting set_up entries thread p
