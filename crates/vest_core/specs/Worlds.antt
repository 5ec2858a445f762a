-- Worlds: a memory of one owner and its processors. Histories are oldest first.
use Rattle.std.specs.Prelude.{◌≡◌, ℕ, ◌<◌, ◌+◌, ◌↔◌, Bool, false, true, List, [], ◌∷◌, Some, length, reverse, slice_get, slice_set}
use Rattle.std.specs.List.{AllZip}
use Rattle.block_law.specs.Sound.{AllowsFew}
use Rattle.block_law.specs.Translations.{Meets, Permit}
use Rattle.image_file.specs.Values.{ImageValue}
use Rattle.legal_history.specs.Headline.{HasFewSteps}
use Rattle.legal_history.specs.Law.{HasHeadline, IsRun}
use Rattle.memory_core.specs.declared.entry.Limit.{Limit}
use Rattle.memory_core.specs.Contents.{Contents, fresh}
use Rattle.memory_core.specs.Order.{own}
use Rattle.system_model.specs.Laws.{begun_from}
use Rattle.system_model.specs.Legal.{IsLegal}
use Rattle.system_model.specs.Processors as model
use Rattle.system_model.specs.Settings.{Setting}
use Rattle.tie_switch.specs.Processors.{HasAdvanced, HasTurned, ProcessorValue, StandsFor, processor_of}
use Rattle.tie_switch.specs.Turns.{has_ended}
use Rattle.tie_switch.specs.declared.turn.Turn.{Turn}
use Rattle.tie_switch.specs.declared.turn.Turn.TheVariants.{Went, Ended}
use Rattle.vax_form.specs.declared.pages.Pages.{Pages}

-- the processors are those of the threads, in their order; each may make as many steps as the budget has
pub record WorldValue : Type 0 where
  pub memory : Contents
  pub processors : List ProcessorValue
  pub budget : ℕ

-- the processor at a place runs the thread of that number, and may make so many steps
pub record IsOf (place most : ℕ) (k : ProcessorValue) : Type 0 where
  pub thread : k.thread ≡ place
  pub budget : k.budget ≡ most

-- its numbers are in range, and memory serves just its processors, each of which has its own thread
pub record IsManned (w : WorldValue) : Type 0 where
  pub run : IsRun w.memory.set_up
  pub serves : length w.processors ≡ w.memory.processors
  pub each : (thread : ℕ) (k : ProcessorValue) → slice_get w.processors thread ≡ Some k → IsOf thread w.budget k

-- a world before the first turn: nothing was accessed, and each processor stands where its thread starts
pub record IsNew (image : ImageValue) (input : List ℕ) (most : ℕ) (limit : Limit) (miss : ℕ) (w : WorldValue) : Type 0 where
  pub memory : w.memory ≡ fresh image input (length image.threads) limit miss
  pub processors : (pages : Pages) → AllZip (StandsFor pages) w.processors (begun_from 0 image.threads)
  pub budget : w.budget ≡ most

-- the processors stand for processors of the model that are a legal run up to here
pub record IsLegalWorld (setting : Setting) (w : WorldValue) : Type 0 where
  pub processors : List model.Processor
  pub stand : AllZip (StandsFor setting.meaning.pages) w.processors processors
  pub legal : IsLegal setting w.memory.set_up w.budget (reverse w.memory.history) processors

-- whatever legal run they stand for, it is what the VAX threads do that are driven by the order of its history, by each
-- permit that the code meets
abbrev pub IsExplained : Setting → WorldValue → Type 0
IsExplained setting w =
    (permit : Permit) → AllowsFew permit → Meets setting.meaning permit setting.code
    → (legal : IsLegalWorld setting w) → HasHeadline setting permit w.memory.set_up (reverse w.memory.history) legal.processors

-- whether the first processor has ended, if there is one
abbrev pub first_has_ended : List ProcessorValue → Bool
first_has_ended [] = true
first_has_ended (k ∷ rest) = has_ended (processor_of k).mode

-- what many turns of one processor, one after the other, do to a world, where so many were asked for
pub record IsAdvanced (setting : Setting) (thread most turns : ℕ) (old new : WorldValue) : Type 0 where
  pub was : ProcessorValue
  pub there : slice_get old.processors thread ≡ Some was
  pub is : ProcessorValue
  -- no other processor changes
  pub processors : new.processors ≡ slice_set old.processors thread is
  -- it makes as many turns of the model
  pub advanced : (p : model.Processor) → StandsFor setting.meaning.pages was p
      → HasAdvanced setting old.memory.set_up (λ between. between ≡ []) old.budget p turns is old.memory.history new.memory.history
  -- it made them all, a step each, or has an end
  pub all : turns < most → has_ended (processor_of is).mode ≡ true
  pub steps : has_ended (processor_of is).mode ≡ false → is.steps ≡ was.steps + turns
  -- and few steps are behind it, for the instructions that it retired and the accesses that it made
  pub few_steps : HasFewSteps (processor_of is) (own thread (reverse new.memory.history))

-- what a turn of one processor does to a world
pub record IsPicked (setting : Setting) (thread : ℕ) (turn : Turn) (old new : WorldValue) : Type 0 where
  pub was : ProcessorValue
  pub there : slice_get old.processors thread ≡ Some was
  pub is : ProcessorValue
  -- no other processor changes
  pub processors : new.processors ≡ slice_set old.processors thread is
  -- it makes the turn of the model
  pub turned : (p : model.Processor) → StandsFor setting.meaning.pages was p
      → HasTurned setting old.memory.set_up (λ between. between ≡ []) old.budget p is old.memory.history new.memory.history
  -- it went on by one step, or has an end
  pub ended : (turn ≡ Ended) ↔ (has_ended (processor_of is).mode ≡ true)
  pub steps : turn ≡ Went → is.steps ≡ was.steps + 1
  -- and few are behind it, for the instructions that it retired and the accesses that it made
  pub few_steps : HasFewSteps (processor_of is) (own thread (reverse new.memory.history))
