-- Which histories and processors are legal. Lists of entries are newest first.
use Rattle.std.specs.Prelude.{◌≡◌, ◌≤◌, ◌<◌, ◌⊎◌, ℕ, true, List, Option, Some, length, option_map, slice_get}
use Rattle.std.specs.List.{AllByRecursion}
use Rattle.image_file.specs.Start.{start_state}
use Rattle.image_file.specs.Values.{ImageValue}
use Rattle.memory_core.specs.declared.entry.Entry.{Entry}
use Rattle.memory_core.specs.declared.entry.Limit.{Limit}
use Rattle.memory_core.specs.declared.entry.SetUp.{SetUp}
use Rattle.memory_core.specs.Limits.{counts, IsAtLimit, IsWithin}
use Rattle.memory_core.specs.Order.{own, Meets}
use Rattle.vax_form.specs.declared.state.VaxState.{VaxState}
use Rattle.vax_driven.specs.declared.thread.End.TheVariants.{Spent}
use Rattle.system_model.specs.Settings.{Setting}
use Rattle.system_model.specs.Processors.{Mode, New, Runs, Interprets, Ended, Processor, Turn, Went, Asks, Over, Stuck, begun, turn, Reaches}

-- the states in which the threads of an image start
abbrev pub starts : ImageValue → (thread : ℕ) → Option VaxState
starts image thread = option_map start_state (slice_get image.threads thread)

-- a processor that made its last step
abbrev pub spent : Processor → Processor
spent p = record p { mode = Ended Spent }

-- it has no end
abbrev pub IsGoing : Mode → Type 0
IsGoing New = Unit {0}
IsGoing (Runs alpha) = Unit {0}
IsGoing (Interprets state replies) = Unit {0}
IsGoing (Ended end) = ⊥

-- its next step asks for an access that counts against the limit
abbrev pub AsksToCount : Limit → Turn → Type 0
AsksToCount limit (Asks request on) = counts limit request.kind ≡ true
AsksToCount limit (Went p) = ⊥
AsksToCount limit Over = ⊥
AsksToCount limit Stuck = ⊥

-- it made as many steps as its budget has, or its next step asks for one more than the limit allows
pub record IsSpent (setting : Setting) (budget : ℕ) (limit : Limit) (entries : List Entry) (was p : Processor) : Type 0 where
  pub is : p ≡ spent was
  pub going : IsGoing was.mode
  pub cause : (was.steps ≡ budget) ⊎ (AsksToCount limit (turn setting was) × IsAtLimit limit entries)

-- the thread's start after its counted number of steps, each of which that asks took the next of its own entries, and
-- none is left over. An end Spent adds no step
pub record IsReached (setting : Setting) (budget : ℕ) (limit : Limit) (entries : List Entry) (thread : ℕ) (start : VaxState) (p : Processor) : Type 0 where
  pub was : Processor
  pub within : was.steps ≤ budget
  pub reaches : Reaches setting (begun thread start) was.steps (own thread entries) was
  pub now : (p ≡ was) ⊎ IsSpent setting budget limit entries was p

-- just one processor for each thread of the image, in their order, and entries of these alone
pub record IsLegal (setting : Setting) (set_up : SetUp) (budget : ℕ) (entries : List Entry) (processors : List Processor) : Type 0 where
  pub pages : setting.meaning.pages ≡ set_up.image.pages
  pub order : Meets set_up entries
  pub room : IsWithin set_up.limit entries
  pub count : length processors ≡ length set_up.image.threads
  pub known : AllByRecursion (λ e. e.processor < length processors) entries
  pub each : (thread : ℕ) (start : VaxState) (p : Processor) → starts set_up.image thread ≡ Some start → slice_get processors thread ≡ Some p
      → IsReached setting budget set_up.limit entries thread start p
