-- What one processor's own entries say of it and of its thread.
use Rattle.std.proofs.Common.{◌≡◌, ◌≢◌, ℕ, ◌+◌, ◌*◌, ◌≤◌, List, Option, Some, length}
use Rattle.block_law.specs.Translations.{Permit}
use Rattle.memory_core.specs.Requests.{CanMake}
use Rattle.memory_core.specs.declared.entry.Entry.{Entry}
use Rattle.memory_core.specs.declared.entry.SetUp.{SetUp}
use Rattle.vax_form.specs.declared.state.VaxState.{VaxState}
use Rattle.vax_driven.specs.declared.ThreadRun.{ThreadRun}
use Rattle.vax_driven.specs.Threads.{thread_run}
use Rattle.system_model.specs.Interpreted.{threads_of}
use Rattle.system_model.specs.Settings.{Setting}
use Rattle.system_model.specs.Processors.{Processor, Turn, Went, Asks, Over, Stuck, turn}
use Rattle.legal_history.specs.Entries.{AllPaired, counted_in, failed_in}
use Rattle.legal_history.specs.Explained.{replies_by, Explained}
use Rattle.legal_history.specs.Headline.{Claims, HasInterpreted, HasFewSteps}
use Rattle.legal_history.specs.Kinds.{AllMadeIn}

-- the processor shows its thread's registers, PC and processor status word, and its end is the thread's
pub record IsShown (setting : Setting) (starts : ℕ → Option VaxState) (thread : ℕ) (replies : List ℕ) (p : Processor) : Type 0 where
  pub run : ThreadRun
  pub driven : thread_run (threads_of setting starts) thread p.retired replies ≡ Some run
  pub state : run.state ≡ p.boundary
  pub claims : Claims p.mode run

-- memory can make what the turn asks
abbrev pub CanTurn : SetUp → Turn → Type 0
CanTurn set_up (Went p) = Unit {0}
CanTurn set_up (Asks request on) = CanMake set_up request
CanTurn set_up Over = Unit {0}
CanTurn set_up Stuck = Unit {0}

-- each load-locked access but the latest goes with a store conditional
abbrev pub HasFewEntries : List Entry → Type 0
HasFewEntries mine = length mine ≤ 2 * (counted_in mine + failed_in mine) + 1

-- what one processor's own entries say of it and of its thread
pub record Facts (setting : Setting) (permit : Permit) (starts : ℕ → Option VaxState) (thread : ℕ) (mine : List Entry) (p : Processor) : Type 0 where
  pub explained : Explained (threads_of setting starts) thread mine
  pub shown : IsShown setting starts thread (replies_by (threads_of setting starts) thread mine) p
  pub interpreted : HasInterpreted setting starts thread (replies_by (threads_of setting starts) thread mine) p
  pub steps : HasFewSteps p mine
  pub kinds : AllMadeIn setting permit starts thread mine
  pub paired : AllPaired mine
  pub entries : HasFewEntries mine
  pub goes_on : turn setting p ≢ Stuck
  pub asks : (set_up : SetUp) → setting.meaning.pages ≡ set_up.image.pages → CanTurn set_up (turn setting p)
