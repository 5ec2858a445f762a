-- What the program does.
use Rattle.std.specs.Prelude.{◌≡◌, ℕ, List, Option, None, Result, Ok, Err, String, Vec, drop}
use Rattle.std.specs.Process.{exit_status}
use Rattle.std.specs.Vec.Iter.{into_iter_items}
use Rattle.std.specs.declared.alloc.Global.{Global}
use Rattle.std.specs.declared.process.ExitCode.{ExitCode}
use Rattle.std.specs.declared.vec.IntoIter.{IntoIter}
use Rattle.vt_outside.specs.Desk.{DeskMeaning}
use Rattle.vt_outside.specs.Sink.{SinkMeaning}
use Rattle.vest_stops.specs.Status.{number_of}
use Rattle.vest_stops.specs.declared.status.Status.{Status}
use Rattle.vximage_cli.specs.Vximage.{Ends, Lent}

-- all arguments but the first, which is the program's name; a fault of reading them is told as it is
abbrev pub AreBehindName : {E : Type 0} → (arguments : Result (IntoIter (String Global) Global) E) → (words : Result (Vec (String Global) Global) E) → Type 0
AreBehindName (Ok arguments) (Ok words) = words.items ≡ drop 1 (into_iter_items arguments)
AreBehindName (Ok arguments) (Err fault) = Unit {0}
AreBehindName (Err fault) (Ok words) = ⊥
AreBehindName (Err fault) (Err told) = told ≡ fault

-- `vximage` was called, and the program's exit code is the number of its status
pub record Answers (code : ExitCode) (old new : Lent) : Type 0 where
  pub result : Status
  pub code_is : exit_status code ≡ number_of result
  pub ends : Ends result old new

-- ---- with the objects of the system, before their first call: files tell nothing
abbrev pub no_files : DeskMeaning
no_files = record { files = None; read_faults = 0; write_faults = 0 }

abbrev pub untaken : (taken : Option (List ℕ)) → SinkMeaning
untaken taken = record { taken = taken; faults = 0 }

-- with whatever these then hold
pub record AnswersSomehow (code : ExitCode) (old : Lent) : Type 0 where
  pub new : Lent
  pub answers : Answers code old new
