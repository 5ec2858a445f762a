-- A legal run that has ended is replayed: its stored order is accepted, and gives the run's output and ends.
use Rattle.std.specs.Prelude.{◌≡◌, ◌≤◌, ℕ, Bool, true, false, List, [], ◌∷◌, Ok, length, map, reverse}
use Rattle.std.specs.List.{AllByRecursion}
use Rattle.block_law.specs.Sound.{IsSound, AllowsFew}
use Rattle.block_law.specs.Translations.{Code, Meets, Permit}
use Rattle.legal_history.specs.Law.{HasHeadline, IsRun}
use Rattle.memory_core.specs.Contents.{output_of}
use Rattle.memory_core.specs.Limits.{greatest, KeepsEntries}
use Rattle.memory_core.specs.declared.entry.Entry.{Entry}
use Rattle.memory_core.specs.declared.entry.SetUp.{SetUp}
use Rattle.run_files.specs.Limits.{MOST_THREADS, MOST_INPUT, MOST_PICKS, MOST_COUNT}
use Rattle.run_files.specs.Reading.{order_of}
use Rattle.run_files.specs.Spelling.{Ended, order_bytes, stored_order}
use Rattle.run_files.specs.Values.{OrderValue}
use Rattle.system_model.specs.Counted.{order}
use Rattle.system_model.specs.Legal.{IsLegal}
use Rattle.system_model.specs.Processors as model
use Rattle.system_model.specs.Processors.{Mode, Processor}
use Rattle.system_model.specs.declared.translation.Range.{Range}
use Rattle.tie_switch.specs.Settings.{image_setting}
use Rattle.tie_switch.specs.Turns.{has_ended}
use Rattle.vax_driven.specs.declared.thread.End.TheVariants.{Spent}
use Rattle.stored_runs.specs.Replay.{EndValue, replay_of}

abbrev pub is_spent : Mode → Bool
is_spent (model.Ended Spent) = true
is_spent mode = false

-- how many instructions a processor retired, and whether it is spent
abbrev pub stored_end : Processor → Ended
stored_end p = (p.retired, is_spent p.mode)

-- the order of a run, by its history, oldest first, its input and its processors
abbrev pub order_of_run : List Entry → (input : List ℕ) → List Processor → OrderValue
order_of_run history input processors = stored_order (map stored_end processors) input (order history)

-- the end, the shown state and the count of a processor that ended, before the others
abbrev pub end_with : Mode → Processor → List EndValue → List EndValue
end_with (model.Ended end) p later = (end, p.boundary, p.retired) ∷ later
end_with mode p later = later

abbrev pub ends_of : List Processor → List EndValue
ends_of [] = []
ends_of (p ∷ processors) = end_with p.mode p (ends_of processors)

-- a run that an order file can hold: its budget, its entries, which are kept, their limit, its threads and its input
pub record IsStorable (set_up : SetUp) (budget : ℕ) : Type 0 where
  pub steps : budget ≤ MOST_COUNT
  pub keeps : KeepsEntries set_up.limit
  pub limit : greatest set_up.limit ≤ MOST_PICKS
  pub threads : length set_up.image.threads ≤ MOST_THREADS
  pub input : length set_up.input ≤ MOST_INPUT

-- the file of its order is accepted, and that order gives the output of the history and the ends of the processors
pub record IsReplayed (set_up : SetUp) (history : List Entry) (processors : List Processor) : Type 0 where
  pub accepted : order_of (length set_up.image.threads) (order_bytes (order_of_run history set_up.input processors)) ≡ Ok (order_of_run history set_up.input processors)
  pub gives : replay_of set_up.image (order_of_run history set_up.input processors) ≡ Ok (record { output = output_of history; ends = ends_of processors })

abbrev pub HaveEnded : List Processor → Type 0
HaveEnded processors = AllByRecursion (λ (p : Processor). has_ended p.mode ≡ true) processors

-- what has the headline, for the instructions of an image and any translation
abbrev pub HeadlineIsReplayed : Type 0
HeadlineIsReplayed = (code : Code) (ranges : List Range) (permit : Permit) (set_up : SetUp) (budget : ℕ) (history : List Entry) (processors : List Processor)
    → IsRun set_up → IsLegal (image_setting set_up.image.pages code ranges) set_up budget (reverse history) processors
    → HasHeadline (image_setting set_up.image.pages code ranges) permit set_up (reverse history) processors
    → HaveEnded processors → IsStorable set_up budget → IsReplayed set_up history processors

-- and so a legal run, where the meaning is sound and the translation meets it
abbrev pub LegalIsReplayed : Type 0
LegalIsReplayed = (code : Code) (ranges : List Range) (permit : Permit) (set_up : SetUp) (budget : ℕ) (history : List Entry) (processors : List Processor)
    → IsSound (image_setting set_up.image.pages code ranges).meaning → AllowsFew permit → Meets (image_setting set_up.image.pages code ranges).meaning permit code
    → IsRun set_up → IsLegal (image_setting set_up.image.pages code ranges) set_up budget (reverse history) processors
    → HaveEnded processors → IsStorable set_up budget → IsReplayed set_up history processors
