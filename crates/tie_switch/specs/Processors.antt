-- What contracts see of a processor, and for which processors of the model it stands.
use Rattle.std.specs.Prelude.{◌≡◌, ◌≢◌, ◌<◌, ◌≤◌, ◌++◌, ℕ, Bool, true, false, List, Option, Some, None}
use Rattle.memory_core.specs.Requests.{CanMake}
use Rattle.memory_core.specs.declared.entry.Entry.{Entry}
use Rattle.memory_core.specs.declared.entry.Request.{Request}
use Rattle.memory_core.specs.declared.entry.SetUp.{SetUp}
use Rattle.alpha_machine.specs.Step.{state_of}
use Rattle.system_model.specs.Processors.{Processor, Asks, Stuck, request_of, turn}
use Rattle.system_model.specs.Processors as model
use Rattle.system_model.specs.Settings.{Setting}
use Rattle.vax_driven.specs.declared.thread.End.{End}
use Rattle.vax_form.specs.declared.pages.Pages.{Pages}
use Rattle.vax_form.specs.declared.state.Flags.{Flags}
use Rattle.vax_form.specs.Tree.{Wants, answer}
use Rattle.vax_form.specs.declared.state.Pending.{Pending}
use Rattle.vax_form.specs.declared.state.Pending.TheVariants.{Nothing}
use Rattle.vax_form.specs.declared.state.Reference.{Reference}
use Rattle.vax_form.specs.declared.state.VaxState.{VaxState}
use Rattle.vax_long.specs.Pending.{moment_at}
use Rattle.tie_operands.specs.Replies.{list_of}
use Rattle.tie_switch.specs.Inside.{went}
use Rattle.tie_switch.specs.Interpreted.{Stands}
use Rattle.tie_switch.specs.declared.interpreted.Interpreted.{Interpreted}
use Rattle.tie_switch.specs.declared.processor.Mode.{Mode}
use Rattle.tie_switch.specs.declared.processor.Mode.TheVariants as modes
use Rattle.tie_switch.specs.declared.processor.Processor.TheInside.{Inside}
use Rattle.tie_switch.specs.ManyTurns.{IsTurns}
use Rattle.tie_switch.specs.Seen.{mode_of}
use Rattle.tie_switch.specs.Turns.{IsTurn, Makes}

-- a processor, and the most steps that it may make
pub record ProcessorValue : Type 0 where
  pub thread : ℕ
  pub mode : Mode
  pub boundary : VaxState
  pub held : Flags
  pub retired : ℕ
  pub steps : ℕ
  pub interpreted : ℕ
  pub budget : ℕ

abbrev pub processor_value : Inside → ProcessorValue
processor_value p = record {
  thread = p.thread;
  mode = p.mode;
  boundary = p.boundary;
  held = p.held;
  retired = p.retired;
  steps = p.steps;
  interpreted = p.interpreted;
  budget = p.budget;
}

-- the processor of the model in that mode
abbrev pub in_mode : ProcessorValue → model.Mode → Processor
in_mode k mode = record {
  thread = k.thread;
  mode = mode;
  boundary = k.boundary;
  held = k.held;
  retired = k.retired;
  steps = k.steps;
  interpreted = k.interpreted;
}

-- the processor of the model, where no interpreted instruction is under way
abbrev pub processor_of : ProcessorValue → Processor
processor_of k = in_mode k (mode_of k.mode k.boundary)

-- each instruction takes a step
pub record IsCounted (p : Inside) : Type 0 where
  pub retired : p.retired ≤ p.steps
  pub interpreted : p.interpreted ≤ p.steps
  pub steps : p.steps ≤ p.budget

abbrev pub end_of : model.Mode → Option End
end_of model.New = None
end_of (model.Runs alpha) = None
end_of (model.Interprets state replies) = None
end_of (model.Ended end) = Some end

-- it stands in Alpha code, with nothing pending
abbrev pub is_running_by : Mode → Pending → Bool
is_running_by (modes.Runs cpu) Nothing = true
is_running_by _ _ = false

abbrev pub is_running : ProcessorValue → Bool
is_running k = is_running_by k.mode k.boundary.pending

-- ---- the processors of the model for which it stands
-- at an interpreted instruction with its replies so far, the last of which the instruction was not given yet
pub record IsUnderWay (pages : Pages) (thread : ℕ) (boundary : VaxState) (interpreted : Interpreted) (reply : Option ℕ) (mode : model.Mode) : Type 0 where
  pub replies : List ℕ
  pub stands : Stands pages thread interpreted boundary replies
  pub is : mode ≡ model.Interprets boundary (replies ++ list_of reply)

abbrev pub IsMode : Pages → (thread : ℕ) → (boundary : VaxState) → Mode → model.Mode → Type 0
IsMode pages thread boundary modes.New mode = mode ≡ model.New
IsMode pages thread boundary (modes.Runs cpu) mode = mode ≡ model.Runs (state_of cpu)
IsMode pages thread boundary (modes.Interprets interpreted reply) mode = IsUnderWay pages thread boundary interpreted reply mode
IsMode pages thread boundary (modes.Ended end) mode = mode ≡ model.Ended end

-- at its first turn, or behind it
abbrev pub IsStarted : Mode → Type 0
IsStarted modes.New = ⊥
IsStarted _ = Unit {0}

-- before its first turn, or in Alpha code
abbrev pub IsPlain : Mode → Type 0
IsPlain modes.New = Unit {0}
IsPlain (modes.Runs cpu) = Unit {0}
IsPlain _ = ⊥

-- at an interpreted instruction
abbrev pub IsInterpreting : Mode → Type 0
IsInterpreting modes.New = ⊥
IsInterpreting (modes.Runs cpu) = ⊥
IsInterpreting (modes.Interprets interpreted reply) = Unit {0}
IsInterpreting (modes.Ended end) = ⊥

-- which was given the reply to its last reference
abbrev pub IsGiven : Mode → Type 0
IsGiven (modes.Interprets interpreted None) = Unit {0}
IsGiven _ = ⊥

-- it is the processor of the model, but for how the replies to an interpreted instruction are kept
pub record StandsFor (pages : Pages) (k : ProcessorValue) (p : Processor) : Type 0 where
  pub same : p ≡ in_mode k p.mode
  pub mode : IsMode pages k.thread k.boundary k.mode p.mode

-- ---- its turns
-- the processor has a step, and memory can make what it asks for
pub record CanStep (setting : Setting) (set_up : SetUp) (p : Processor) : Type 0 where
  pub goes_on : turn setting p ≢ Stuck
  pub asks : (request : Request) (on : ℕ → Bool → Processor) → turn setting p ≡ Asks request on → CanMake set_up request

-- it stands for a processor that has a step
pub record HasStep (setting : Setting) (set_up : SetUp) (k : ProcessorValue) : Type 0 where
  pub processor : Processor
  pub stands : StandsFor setting.meaning.pages k processor
  pub can : CanStep setting set_up processor

-- an interpreted instruction goes on, and memory can make what it asks for
pub record CanInterpret (pages : Pages) (set_up : SetUp) (k : ProcessorValue) : Type 0 where
  pub state : VaxState
  pub replies : List ℕ
  pub mode : IsMode pages k.thread k.boundary k.mode (model.Interprets state replies)
  pub asks : (reference : Reference) → answer pages (moment_at pages k.thread state) replies ≡ Wants reference → CanMake set_up (request_of k.thread k.retired reference)

-- it stands for the processor that a turn of the model gives
pub record HasTurned (setting : Setting) (set_up : SetUp) (may_come : List Entry → Type 0) (budget : ℕ) (p : Processor) (k : ProcessorValue) (old new : List Entry) : Type 0 where
  pub processor : Processor
  pub stands : StandsFor setting.meaning.pages k processor
  pub turned : IsTurn setting set_up may_come budget p processor old new

-- the same of what is done in a turn
pub record HasMade (setting : Setting) (set_up : SetUp) (may_come : List Entry → Type 0) (turn : model.Turn) (p : Processor) (k : ProcessorValue) (old new : List Entry) : Type 0 where
  pub processor : Processor
  pub stands : StandsFor setting.meaning.pages k processor
  pub makes : Makes turn set_up may_come p processor old new

-- it stands for the processor after so many turns, none of which asks
pub record HasGone (setting : Setting) (p : Processor) (n : ℕ) (k : ProcessorValue) : Type 0 where
  pub processor : Processor
  pub stands : StandsFor setting.meaning.pages k processor
  pub went : went setting p n ≡ Some processor

-- it stands for a processor that has a step behind any turns that it makes, fewer than that
pub record HasSteps (setting : Setting) (set_up : SetUp) (may_come : List Entry → Type 0) (most : ℕ) (k : ProcessorValue) (seen : List Entry) : Type 0 where
  pub processor : Processor
  pub stands : StandsFor setting.meaning.pages k processor
  pub can : (n : ℕ) (q : Processor) (new : List Entry) → n < most → IsTurns setting set_up may_come k.budget processor seen n q new → CanStep setting set_up q

-- it stands for the processor after so many turns of the model
pub record HasAdvanced (setting : Setting) (set_up : SetUp) (may_come : List Entry → Type 0) (budget : ℕ) (p : Processor) (n : ℕ) (k : ProcessorValue) (old new : List Entry) : Type 0 where
  pub processor : Processor
  pub stands : StandsFor setting.meaning.pages k processor
  pub turned : IsTurns setting set_up may_come budget p old n processor new
