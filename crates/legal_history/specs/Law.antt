-- A legal history has the headline. Lists of entries are newest first.
use Rattle.std.specs.Prelude.{◌≡◌, ◌≢◌, ◌<◌, ◌≤◌, ◌+◌, ◌*◌, ◌^◌, ℕ, All, List, Some, length, map, slice_get}
use Rattle.image_file.specs.Memory.{byte_in}
use Rattle.image_file.specs.Whole.{StartFits}
use Rattle.image_file.specs.declared.image.Start.{Start}
use Rattle.memory_core.specs.declared.entry.Entry.{Entry}
use Rattle.memory_core.specs.declared.entry.SetUp.{SetUp}
use Rattle.memory_core.specs.Order.{own}
use Rattle.vax_driven.specs.declared.ThreadRun.{ThreadRun}
use Rattle.vax_form.specs.Made.{replies_to}
use Rattle.vax_driven.specs.Driven.{driven}
use Rattle.system_model.specs.Counted.{order}
use Rattle.legal_history.specs.OneHistory.{world_of, IsDriven}
use Rattle.block_law.specs.Translations.{Meets, Permit}
use Rattle.system_model.specs.Settings.{Setting}
use Rattle.system_model.specs.Processors.{Processor, Stuck, turn}
use Rattle.system_model.specs.Legal.{starts, IsLegal}
use Rattle.legal_history.specs.Failures.{FailForCause}
use Rattle.legal_history.specs.Headline.{Claims, HasInterpreted, HasFewSteps}
use Rattle.system_model.specs.Interpreted.{threads_of}
use Rattle.legal_history.specs.Kinds.{AllMadeIn}
use Rattle.legal_history.specs.Entries.{AllPaired, counted_in, failed_in}
use Rattle.block_law.specs.Sound.{IsSound, AllowsFew}

-- the bytes of the image and of the input are bytes
pub record HasBytes (set_up : SetUp) : Type 0 where
  pub image : (address : ℕ) → byte_in set_up.image address < 256
  pub input : All (λ byte. byte < 256) set_up.input

-- the numbers of an image and of an input are in range: bytes, and of each thread its number, and the PC, SP and first
-- registers with which it starts
pub record IsRun (set_up : SetUp) : Type 0 where
  pub bytes : HasBytes set_up
  pub starts : (thread : ℕ) (start : Start) → slice_get set_up.image.threads thread ≡ Some start → (thread < 2 ^ 8) × StartFits start

-- what holds of one thread and its processor, of a history whose references these are
pub record IsKept (setting : Setting) (permit : Permit) (set_up : SetUp) (entries : List Entry) (thread : ℕ) (replies : List ℕ) (run : ThreadRun) (p : Processor) : Type 0 where
  -- the processor shows its thread's registers, PC and processor status word at its last boundary
  pub shown : run.state ≡ p.boundary
  -- and its end is the thread's
  pub ends : Claims p.mode run
  -- its interpreted steps are the thread's
  pub interpreted : HasInterpreted setting (starts set_up.image) thread replies p
  -- entries are of Alpha code where the instruction was translated, and of TIE where it was not
  pub kinds : AllMadeIn setting permit (starts set_up.image) thread (own thread entries)
  -- it has a step, or has ended
  pub goes_on : turn setting p ≢ Stuck
  pub steps : HasFewSteps p (own thread entries)
  pub paired : AllPaired (own thread entries)

-- what a history and its processors are for the VAX threads
pub record HasHeadline (setting : Setting) (permit : Permit) (set_up : SetUp) (entries : List Entry) (processors : List Processor) : Type 0 where
  -- the threads driven by the order of the entries make their references, and have their memory and output
  pub history : IsDriven (threads_of setting (starts set_up.image)) set_up entries
  -- and come to the retired counts of the processors
  pub runs : List ThreadRun
  pub driven : driven (world_of (threads_of setting (starts set_up.image)) set_up) (order entries) (map (λ (p : Processor). p.retired) processors) ≡ Some (record { made = history.made; runs = runs })
  pub each : (thread : ℕ) (p : Processor) (run : ThreadRun) → slice_get processors thread ≡ Some p → slice_get runs thread ≡ Some run
      → IsKept setting permit set_up entries thread (replies_to thread history.made) run p
  -- each entry that counts goes with at most one more, and each failed store too
  pub few_entries : length entries ≤ 2 * (counted_in entries + failed_in entries) + length processors
  -- and a store fails only where another processor wrote its block in between, or the miss rule struck
  pub failures : FailForCause set_up entries

-- for instructions of any meaning that is sound, and any translation that meets it and a permit
abbrev pub LegalHasHeadline : Type 0
LegalHasHeadline = (setting : Setting) (permit : Permit) (set_up : SetUp) (budget : ℕ) (entries : List Entry) (processors : List Processor)
    → IsSound setting.meaning → AllowsFew permit → Meets setting.meaning permit setting.code → IsRun set_up → IsLegal setting set_up budget entries processors
    → HasHeadline setting permit set_up entries processors
