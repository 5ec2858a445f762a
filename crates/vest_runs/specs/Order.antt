-- The order of a run, as its file has it.
use Rattle.std.specs.Prelude.{ℕ, ◌≤◌, List, map}
use Rattle.memory_core.specs.declared.entry.Entry.{Entry}
use Rattle.run_files.specs.Fits.{AreFew}
use Rattle.run_files.specs.Spelling.{Ended, order_room, stored_order}
use Rattle.run_files.specs.Values.{OrderValue}
use Rattle.system_model.specs.Counted.{order}
use Rattle.system_model.specs.Processors.{Processor}
use Rattle.vest_runs.specs.Keeping.{processors_of}
use Rattle.vest_runs.specs.Kept.{KeptValue}
use Rattle.vest_runs.specs.Report.{is_spent}

-- how a processor ended: how many instructions it had retired, and whether it is Spent
abbrev pub end_of : Processor → Ended
end_of p = (p.retired, is_spent p.mode)

-- of a history, oldest first, an input and the processors that ended
abbrev pub order_made : List Entry → (input : List ℕ) → List Processor → OrderValue
order_made history input processors = stored_order (map end_of processors) input (order history)

-- of a run that is kept
abbrev pub order_kept : KeptValue → OrderValue
order_kept kept = order_made kept.history kept.input (processors_of kept)

-- ---- room for its file: for how many ends, and for how many bytes
pub record RoomValue : Type 0 where
  pub ends : ℕ
  pub bytes : ℕ

-- it is enough for so many threads, bytes of input and entries, which are not too many for a file
pub record HasRoom (threads input entries : ℕ) (room : RoomValue) : Type 0 where
  pub few : AreFew threads input entries
  pub for_ends : threads ≤ room.ends
  pub for_bytes : order_room threads input entries ≤ room.bytes
