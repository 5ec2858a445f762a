-- All threads of an image, run to their ends.
use Rattle.std.specs.Prelude.{◌≡◌, ◌⊎◌, ◌≤◌, ◌+◌, ◌*◌, ℕ, true, List, Some, length, reverse, slice_get}
use Rattle.std.specs.List.{AllByRecursion}
use Rattle.alpha_meaning.specs.Pieces.{retry_steps}
use Rattle.block_law.specs.Rounds.{block_steps}
use Rattle.block_law.specs.Translations.{Permit}
use Rattle.memory_core.specs.Contents.{bytes_put, output_of}
use Rattle.memory_core.specs.Order.{own}
use Rattle.memory_core.specs.declared.entry.Entry.{Entry}
use Rattle.memory_core.specs.declared.entry.Limit.{Limit}
use Rattle.memory_core.specs.declared.entry.Limit.TheVariants.{Entries, Puts}
use Rattle.memory_core.specs.declared.entry.SetUp.{SetUp}
use Rattle.vax_form.specs.Made.{output_after}
use Rattle.system_model.specs.Legal.{AsksToCount, IsLegal, spent}
use Rattle.system_model.specs.Processors.{Processor, turn}
use Rattle.system_model.specs.Settings.{Setting}
use Rattle.legal_history.specs.Entries.{counted_in, failed_in}
use Rattle.legal_history.specs.Law.{HasHeadline, IsRun}
use Rattle.tie_switch.specs.Turns.{has_ended}
use Rattle.vest_runs.specs.Report.{is_spent}

-- ---- why a processor is spent; its own entries and all are newest first

-- it made as many steps as its budget has, and that is not above the most of what it did
abbrev pub SpentByBudget : (budget : ℕ) → Processor → (mine : List Entry) → Type 0
SpentByBudget budget p mine =
    (p.steps ≡ budget) × (budget ≤ block_steps * (p.retired + counted_in mine + 1) + retry_steps * failed_in mine)

-- its next step asked for what counts against the limit
pub record AskedToCount (setting : Setting) (limit : Limit) (p : Processor) : Type 0 where
  pub was : Processor
  pub is : p ≡ spent was
  pub asks : AsksToCount limit (turn setting was)

-- the history has its limit, and that is not above the most of its entries that count and its stores that failed; or, where bytes that are
-- put count, as many were put, and it asked to put one
abbrev pub SpentByLimit : Setting → Limit → List Entry → (threads : ℕ) → Processor → Type 0
SpentByLimit setting (Entries limit) entries threads p =
    (length entries ≡ limit) × (limit ≤ 2 * (counted_in entries + failed_in entries) + threads)
SpentByLimit setting (Puts limit) entries threads p = (bytes_put entries ≡ limit) × AskedToCount setting (Puts limit) p

abbrev pub SpentHasCause : Setting → (budget : ℕ) → Limit → List Entry → (threads thread : ℕ) → Processor → Type 0
SpentHasCause setting budget limit entries threads thread p = is_spent p.mode ≡ true
    → SpentByBudget budget p (own thread entries) ⊎ SpentByLimit setting limit entries threads p

-- a history, oldest first, and processors are what the VAX threads do that are driven by its order, by the accesses of a permit;
-- and the output is what these put out, which they tell newest first
pub record AreDriven (setting : Setting) (permit : Permit) (of : SetUp) (history : List Entry) (processors : List Processor) : Type 0 where
  pub headline : HasHeadline setting permit of (reverse history) processors
  pub output : output_of history ≡ reverse (output_after headline.history.made)

-- the history, oldest first, and the processors are a legal run, in which all threads have ended: so they are what the VAX
-- threads do
pub record HasRun (setting : Setting) (permit : Permit) (of : SetUp) (budget : ℕ) (history : List Entry) (processors : List Processor) : Type 0 where
  -- its image and its input are in range
  pub in_range : IsRun of
  pub legal : IsLegal setting of budget (reverse history) processors
  pub ended : AllByRecursion (λ (p : Processor). has_ended p.mode ≡ true) processors
  pub spent : (thread : ℕ) (p : Processor) → slice_get processors thread ≡ Some p
      → SpentHasCause setting budget of.limit (reverse history) (length processors) thread p
  pub driven : AreDriven setting permit of history processors
