-- Worlds of one thread whose input is given, and whose output is sent, while it runs.
use Rattle.std.specs.Prelude.{◌≡◌, ◌≤◌, ◌+◌, ℕ, true, List, [], ◌∷◌, length, reverse, take}
use Rattle.std.specs.List.{AllZip}
use Rattle.block_law.specs.Sound.{AllowsFew}
use Rattle.block_law.specs.Translations.{Meets, Permit}
use Rattle.image_file.specs.Values.{ImageValue}
use Rattle.legal_history.specs.Law.{HasHeadline, IsRun}
use Rattle.memory_core.specs.Contents.{bytes_put, output_of}
use Rattle.memory_core.specs.Limits.{CountsPuts}
use Rattle.memory_core.specs.Live.{LiveContents, begun}
use Rattle.memory_core.specs.Order.{gets}
use Rattle.system_model.specs.Laws.{begun_from}
use Rattle.system_model.specs.Legal.{IsLegal}
use Rattle.system_model.specs.Processors as model
use Rattle.system_model.specs.Settings.{Setting}
use Rattle.tie_switch.specs.Live.{is_spent, next_asks_get}
use Rattle.tie_switch.specs.Processors.{ProcessorValue, StandsFor, processor_of}
use Rattle.vax_form.specs.declared.pages.Pages.{Pages}
use Rattle.vest_core.specs.Worlds.{IsOf}

-- the processor runs thread 0, and may make as many steps as the budget has
pub record LiveWorldValue : Type 0 where
  pub memory : LiveContents
  pub processor : ProcessorValue
  pub budget : ℕ

-- its numbers are in range, memory serves just its processor, which is spent only where it has no step left; and what was
-- sent was put
pub record IsMannedLive (w : LiveWorldValue) : Type 0 where
  pub run : IsRun w.memory.contents.set_up
  pub serves : w.memory.contents.processors ≡ 1
  pub own : IsOf 0 w.budget w.processor
  pub spent : is_spent (processor_of w.processor).mode ≡ true → w.processor.steps ≡ w.budget
  pub limit : CountsPuts w.memory.contents.set_up.limit
  pub sent : w.memory.sent ≤ bytes_put w.memory.contents.history

-- a world before the first turn: nothing was accessed, given or sent, and the processor stands where the thread starts
pub record IsNewLive (image : ImageValue) (most buffer miss : ℕ) (w : LiveWorldValue) : Type 0 where
  pub memory : w.memory ≡ begun image buffer miss
  pub processor : (pages : Pages) → AllZip (StandsFor pages) (w.processor ∷ []) (begun_from 0 image.threads)
  pub budget : w.budget ≡ most

-- the processor stands for one of the model that is a legal run up to here
pub record IsLegalLive (setting : Setting) (w : LiveWorldValue) : Type 0 where
  pub processor : model.Processor
  pub stands : StandsFor setting.meaning.pages w.processor processor
  pub legal : IsLegal setting w.memory.contents.set_up w.budget (reverse w.memory.contents.history) (processor ∷ [])

-- whatever legal run it stands for, it is what the VAX thread does that is driven by the order of its history, by each permit
-- that the code meets
abbrev pub IsExplainedLive : Setting → LiveWorldValue → Type 0
IsExplainedLive setting w =
    (permit : Permit) → AllowsFew permit → Meets setting.meaning permit setting.code
    → (legal : IsLegalLive setting w) → HasHeadline setting permit w.memory.contents.set_up (reverse w.memory.contents.history) (legal.processor ∷ [])

-- ---- output

-- the bytes that were sent, in order
abbrev pub sent_of : LiveContents → List ℕ
sent_of live = take live.sent (output_of live.contents.history)

-- ---- input

-- how many bytes of the input the thread has asked for
abbrev pub asked : LiveWorldValue → ℕ
asked w = gets (reverse w.memory.contents.history)

-- it is a legal run up to here, and the processor's next turn asks for a byte of the input
pub record NextAsks (setting : Setting) (w : LiveWorldValue) : Type 0 where
  pub legal : IsLegalLive setting w
  pub asks : next_asks_get setting w.budget legal.processor ≡ true

-- each byte of the input was asked for, or the last one is, by the next turn
pub data IsAskedFor (setting : Setting) (w : LiveWorldValue) : Type 0 where
  all : length w.memory.contents.set_up.input ≤ asked w → IsAskedFor setting w
  next : length w.memory.contents.set_up.input ≡ asked w + 1 → NextAsks setting w → IsAskedFor setting w
