-- A replay gives its run.
use Rattle.std.specs.Prelude.{◌≡◌, ◌≢◌, ◌⊎◌, ℕ, List, Option, None, Some, String}
use Rattle.std.specs.declared.alloc.Global.{Global}
use Rattle.command_words.specs.Commands.{OptionsValue, replay, run}
use Rattle.vt_outside.specs.Causes.{Rose}
use Rattle.vt_outside.specs.Desk.{Files}
use Rattle.vt_outside.specs.Taking.{TookAll}
use Rattle.vest_stops.specs.declared.status.Status.{Status}
use Rattle.vest_stops.specs.declared.status.Status.TheVariants as status
use Rattle.vest_runs.specs.Kept.{KeptValue}
use Rattle.vest_cli.specs.Decided.{EndsARun}
use Rattle.vest_cli.specs.Lent.{Lent}
use Rattle.vest_cli.specs.Vest.{Ends}
use Rattle.vest_cli.specs.Words.{spelled}

-- a call of `run` ended with 0, 4 or 5, over a desk that tells its files, and its words name a file of another name for its order
pub record HasRunAndStored (words : List (String Global)) (name file : List ℕ) (result : Status) (old new : Lent) (kept : KeptValue) : Type 0 where
  pub options : OptionsValue
  pub spells : spelled words ≡ Some (run name options)
  pub order : options.order ≡ Some file
  pub other : file ≢ name
  pub files : Files
  pub told : old.desk.files ≡ Some files
  pub ended : EndsARun result
  pub ends : Ends (spelled words) result old new kept

-- a call of `replay` with both names ended, over the files that the other call left; its words may name a file for hints
pub record HasReplayed (words : List (String Global)) (name file : List ℕ) (hints : Option (List ℕ)) (result : Status) (left old new : Lent) (kept : KeptValue) : Type 0 where
  pub spells : spelled words ≡ Some (replay name file hints)
  pub over : old.desk.files ≡ left.desk.files
  pub ends : Ends (spelled words) result old new kept

-- both sinks took all of these
pub record TookBoth (old new : Lent) (output lines : List ℕ) : Type 0 where
  pub out : TookAll old.out new.out output
  pub report : TookAll old.report new.report lines

-- the second call has the status of the first, and its sinks took the same bytes; or memory ran out, or a count of faults rose. Where the
-- file for hints is what could not be written, the sinks took the same bytes, too
pub data IsSameAgain (hints : Option (List ℕ)) (result again : Status) (old new before after : Lent) : Type 0 where
  same_again : again ≡ result → (output lines : List ℕ) → TookBoth old new output lines → TookBoth before after output lines → IsSameAgain hints result again old new before after
  short_again : again ≡ status.WantOfMemory → IsSameAgain hints result again old new before after
  unread_again : again ≡ status.ReadFault → Rose before.desk.read_faults after.desk.read_faults → IsSameAgain hints result again old new before after
  unwritten_again : again ≡ status.WriteFault → Rose before.out.faults after.out.faults ⊎ Rose before.report.faults after.report.faults → IsSameAgain hints result again old new before after
  unstored_again : again ≡ status.WriteFault → hints ≢ None → Rose before.desk.write_faults after.desk.write_faults → (output lines : List ℕ) → TookBoth old new output lines → TookBoth before after output lines
      → IsSameAgain hints result again old new before after

abbrev pub ReplayGivesItsRun : Type 0
ReplayGivesItsRun = (words others : List (String Global)) (name file : List ℕ) (hints : Option (List ℕ)) (result again : Status) (old new before after : Lent) (kept kept' : KeptValue)
    → HasRunAndStored words name file result old new kept → HasReplayed others name file hints again new before after kept'
    → IsSameAgain hints result again old new before after
