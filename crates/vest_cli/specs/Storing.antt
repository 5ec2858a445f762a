-- What is stored behind what went out: the file of a run's order, for one.
use Rattle.std.specs.Prelude.{◌≡◌, ◌≢◌, ◌⊎◌, Bool, true, false, ℕ, List, Option, None, Some, length}
use Rattle.std.specs.String.{string_bytes}
use Rattle.memory_core.specs.Limits.{KeepsEntries}
use Rattle.vt_outside.specs.Desk.{DeskMeaning}
use Rattle.vest_files.specs.Translate.{Writes}
use Rattle.vest_runs.specs.Keeping.{limit_of}
use Rattle.vest_runs.specs.Order.{HasRoom}
use Rattle.vest_stops.specs.Files.{SameFiles}
use Rattle.vest_stops.specs.declared.status.Done.{Done}
use Rattle.vest_stops.specs.declared.status.Done.TheVariants.{Ok, Exception, Spent, ReadFault, WriteFault}
use Rattle.vest_cli.specs.declared.execute.Task.{Task}
use Rattle.vest_cli.specs.declared.storing.OrderFile.{OrderFile}

-- an output or a report that did not go out
abbrev pub has_failed : Done → Bool
has_failed Ok = false
has_failed Exception = false
has_failed Spent = false
has_failed ReadFault = false
has_failed WriteFault = true

-- behind output and report, which came to `run`: nothing was asked for, or a sink failed; or the file was written; or its write failed
pub data Stores (result run : Done) (to : Option (List ℕ)) (bytes : List ℕ) (old new : DeskMeaning) : Type 0 where
  left : (to ≡ None) ⊎ (run ≡ WriteFault) → result ≡ run → SameFiles old new → Stores result run to bytes old new
  stored : (name : List ℕ) → to ≡ Some name → run ≢ WriteFault → result ≡ run → Writes Ok name bytes old new → Stores result run to bytes old new
  failed : (name : List ℕ) → to ≡ Some name → run ≢ WriteFault → result ≡ WriteFault → Writes WriteFault name bytes old new → Stores result run to bytes old new

-- the name of the file, where one is asked for
abbrev pub name_of : Option OrderFile → Option (List ℕ)
name_of None = None
name_of (Some file) = Some (string_bytes file.name)

-- its room is enough for whatever run of the task, which keeps its history
abbrev pub HasRoomFor : Task → Option OrderFile → Type 0
HasRoomFor task None = Unit {0}
HasRoomFor task (Some file) =
    KeepsEntries (limit_of task.limits) × HasRoom (length task.loaded.image.threads) (length task.taken.items) task.limits.events file.room
