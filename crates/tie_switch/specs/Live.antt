-- Turns that stop where input is awaited or the output is full.
use Rattle.std.specs.Prelude.{◌≡◌, ◌≤◌, ℕ, Bool, false, true, not, ◌&&◌, ◌==◌, List, [], length, reverse}
use Rattle.memory_core.specs.Contents.{Contents, bytes_put}
use Rattle.memory_core.specs.declared.entry.Entry.{Entry}
use Rattle.memory_core.specs.Live.{LiveContents}
use Rattle.memory_core.specs.Order.{gets}
use Rattle.memory_core.specs.Kinds.{is_get}
use Rattle.memory_core.specs.Limits.{greatest}
use Rattle.system_model.specs.Processors.{New, Runs, Interprets, Ended, Processor, Turn, Went, Asks, Over, Stuck, mode_of, turn}
use Rattle.system_model.specs.Processors as model
use Rattle.system_model.specs.Settings.{Setting}
use Rattle.memory_core.specs.declared.entry.SetUp.{SetUp}
use Rattle.tie_switch.specs.ManyTurns.{IsTurns}
use Rattle.tie_switch.specs.Processors.{ProcessorValue, StandsFor}
use Rattle.tie_switch.specs.Turns.{is_out}
use Rattle.vax_driven.specs.declared.thread.End.TheVariants.{Exit, Raised, Spent}
use Rattle.tie_switch.specs.declared.processor.Mode.{Mode}
use Rattle.tie_switch.specs.declared.processor.Mode.TheVariants as modes

-- a turn asks for a byte of the input
abbrev pub asks_get : Turn → Bool
asks_get (Went p) = false
asks_get (Asks request on) = is_get request.kind
asks_get Over = false
asks_get Stuck = false

-- the next turn of a processor whose budget is not spent asks for one
abbrev pub next_asks_get : Setting → (budget : ℕ) → Processor → Bool
next_asks_get setting budget p = not (is_out budget p) && asks_get (turn setting p)

-- a processor that is new, at its first boundary
abbrev pub at_boundary : Setting → Processor → Processor
at_boundary setting p = record p { mode = mode_of setting p p.mode }

-- before its first turn
abbrev pub is_new : Mode → Bool
is_new modes.New = true
is_new (modes.Runs cpu) = false
is_new (modes.Interprets interpreted reply) = false
is_new (modes.Ended end) = false

-- as many bytes were put as may be
abbrev pub is_full : Contents → Bool
is_full contents = bytes_put contents.history == greatest contents.set_up.limit

-- no entries of others come between
abbrev pub AreNone : List Entry → Type 0
AreNone entries = entries ≡ []

-- each GET so far found a byte of the input
abbrev pub HasRead : Contents → Type 0
HasRead contents = gets (reverse contents.history) ≤ length contents.set_up.input

-- where no entries of others come between, the new history has as many GETs
abbrev pub KeepsRead : (may_come : List Entry → Type 0) → (old new : List Entry) → Type 0
KeepsRead may_come old new = ((entries : List Entry) → may_come entries → entries ≡ []) → gets (reverse new) ≡ gets (reverse old)

-- all of a live memory but its history is as it was
pub record IsSameMemory (old new : LiveContents) : Type 0 where
  pub set_up : new.contents.set_up ≡ old.contents.set_up
  pub processors : new.contents.processors ≡ old.contents.processors
  pub buffer : new.buffer ≡ old.buffer
  pub sent : new.sent ≡ old.sent

-- it has no step left, or was refused an access
abbrev pub is_spent : model.Mode → Bool
is_spent New = false
is_spent (Runs alpha) = false
is_spent (Interprets state replies) = false
is_spent (Ended (Exit code)) = false
is_spent (Ended (Raised exception)) = false
is_spent (Ended Spent) = true

-- it stands for the processor after so many turns of the model, and the next one asks for a GET
pub record HasPaused (setting : Setting) (set_up : SetUp) (budget : ℕ) (p : Processor) (n : ℕ) (k : ProcessorValue) (old new : List Entry) : Type 0 where
  pub processor : Processor
  pub stands : StandsFor setting.meaning.pages k processor
  pub turned : IsTurns setting set_up AreNone budget p old n processor new
  pub asks : next_asks_get setting budget processor ≡ true
