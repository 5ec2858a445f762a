-- What the program does.
use Rattle.std.specs.Prelude.{◌≡◌, ◌⊎◌, ℕ, List, Option, None, Result, Ok, Err, String, Vec, drop}
use Rattle.std.specs.Process.{exit_status}
use Rattle.std.specs.Vec.Iter.{into_iter_items}
use Rattle.std.specs.declared.alloc.Global.{Global}
use Rattle.std.specs.declared.process.ExitCode.{ExitCode}
use Rattle.std.specs.declared.vec.IntoIter.{IntoIter}
use Rattle.vt_outside.specs.Desk.{DeskMeaning}
use Rattle.vt_outside.specs.Sink.{SinkMeaning}
use Rattle.vt_outside.specs.Source.{SourceMeaning}
use Rattle.command_words.specs.Commands.{CommandValue}
use Rattle.vest_stops.specs.Decided.{Decision}
use Rattle.vest_stops.specs.Status.{number_of}
use Rattle.vest_stops.specs.declared.status.Status.{Status}
use Rattle.vest_stops.specs.declared.status.Status.TheVariants as status
use Rattle.vest_runs.specs.Kept.{KeptValue}
use Rattle.vest_cli.specs.Decided.{DecidesCall, IsOrFault, IsOrWant, NoneFailed}
use Rattle.vest_cli.specs.Lent.{Lent}
use Rattle.vest_cli.specs.Vest.{Ends}
use Rattle.vest_cli.specs.Words.{spelled}

-- all arguments but the first, which is the program's name; a fault of reading them is told as it is
abbrev pub AreBehindName : {E : Type 0} → (arguments : Result (IntoIter (String Global) Global) E) → (words : Result (Vec (String Global) Global) E) → Type 0
AreBehindName (Ok arguments) (Ok words) = words.items ≡ drop 1 (into_iter_items arguments)
AreBehindName (Ok arguments) (Err fault) = Unit {0}
AreBehindName (Err fault) (Ok words) = ⊥
AreBehindName (Err fault) (Err told) = told ≡ fault

-- the command that the words of the program spell; words that could not be read spell none
abbrev pub spelled_in : {E : Type 0} → Result (Vec (String Global) Global) E → Option CommandValue
spelled_in (Ok words) = spelled words.items
spelled_in (Err error) = None

-- the clauses of `vest`
pub record IsCalled (command : Option CommandValue) (result : Status) (old new : Lent) (kept : KeptValue) : Type 0 where
  pub meaning : Ends command result old new kept
  pub usage : result ≡ status.Usage → command ≡ None
  pub no_command : command ≡ None → (result ≡ status.Usage) ⊎ (result ≡ status.WantOfMemory)
  pub decided : (decision : Decision) → DecidesCall command old.desk.files old.input.left decision → IsOrFault command result decision
  pub complete : (decision : Decision) → DecidesCall command old.desk.files old.input.left decision → NoneFailed old new → IsOrWant command result decision

-- `vest` was called, and the program's exit code is the number of its status
pub record Answers (command : Option CommandValue) (code : ExitCode) (old new : Lent) (kept : KeptValue) : Type 0 where
  pub result : Status
  pub code_is : exit_status code ≡ number_of result
  pub called : IsCalled command result old new kept

-- ---- with the objects of the system, before their first call
-- files tell nothing
abbrev pub no_files : DeskMeaning
no_files = record { files = None; read_faults = 0; write_faults = 0 }

abbrev pub unread : (left : Option (List ℕ)) → SourceMeaning
unread left = record { left = left; faults = 0 }

abbrev pub untaken : (taken : Option (List ℕ)) → SinkMeaning
untaken taken = record { taken = taken; faults = 0 }

-- with whatever these then hold, and whatever is kept
pub record AnswersSomehow (command : Option CommandValue) (code : ExitCode) (old : Lent) : Type 0 where
  pub new : Lent
  pub kept : KeptValue
  pub answers : Answers command code old new kept
