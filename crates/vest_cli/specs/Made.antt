-- A run that was made, before it is kept.
use Rattle.std.specs.Prelude.{◌≡◌, ℕ, true, List, map, reverse}
use Rattle.std.specs.List.{AllByRecursion}
use Rattle.command_words.specs.declared.commands.Limits.{Limits}
use Rattle.block_law.specs.Translations.{Code}
use Rattle.image_file.specs.Values.{ImageValue}
use Rattle.image_meaning.specs.Permits.{permit_of}
use Rattle.image_meaning.specs.declared.target.Target.{Target}
use Rattle.memory_core.specs.declared.entry.Entry.{Entry}
use Rattle.memory_core.specs.declared.entry.SetUp.{SetUp}
use Rattle.system_model.specs.Legal.{IsLegal}
use Rattle.system_model.specs.Processors.{Processor}
use Rattle.system_model.specs.declared.translation.Range.{Range}
use Rattle.tie_switch.specs.Processors.{processor_of}
use Rattle.tie_switch.specs.Settings.{image_setting}
use Rattle.tie_switch.specs.Turns.{has_ended}
use Rattle.vest_cli.specs.declared.execute.Run.{Run}
use Rattle.vest_cli.specs.declared.execute.Task.{Task}
use Rattle.run_threads.specs.Runs.{RunningValue}
use Rattle.vest_runs.specs.Keeping.{limit_of}
use Rattle.vest_runs.specs.Threads.{HasRun}

-- what a run starts with: it counts what the limits say, and at most as many
abbrev pub running_of : ImageValue → (input : List ℕ) → Limits → RunningValue
running_of image input limits = record { set_up = record { image = image; input = input; limit = limit_of limits; miss = limits.miss }; budget = limits.budget }

-- what a task starts with
abbrev pub started : Task → RunningValue
started task = running_of task.loaded.image task.taken.items task.limits

-- its memory is that of the task, and its history and its processors are what the threads did
pub record HasMade (run : Run) : Type 0 where
  pub set_up : run.memory.set_up ≡ (started run.task).set_up
  pub ran : HasRun (image_setting run.task.loaded.image.pages run.task.loaded.translation run.task.ranges.items) (permit_of run.task.loaded.target run.task.loaded.image.pages) (started run.task).set_up (started run.task).budget
      run.memory.history (map processor_of run.processors.items)

-- whatever is legal for an image and its input and has ended is what the threads did, by accesses that code for the target may
-- make
abbrev pub EndedIsRun : ImageValue → Target → (input : List ℕ) → Code → List Range → Type 0
EndedIsRun image target input code ranges = (of : SetUp) (budget : ℕ) (history : List Entry) (processors : List Processor) → of.image ≡ image → of.input ≡ input
    → IsLegal (image_setting image.pages code ranges) of budget (reverse history) processors
    → AllByRecursion (λ (p : Processor). has_ended p.mode ≡ true) processors
    → HasRun (image_setting image.pages code ranges) (permit_of target image.pages) of budget history processors
