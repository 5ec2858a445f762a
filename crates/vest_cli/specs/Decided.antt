-- What the words, the files and the input decide on the status, with the checks in their order.
use Rattle.std.specs.Prelude.{◌≡◌, ◌<◌, ℕ, List, Option, None, Some}
use Rattle.command_words.specs.Commands.{CommandValue, generate, list, live, replay, run, translate}
use Rattle.vt_outside.specs.Causes.{one_more}
use Rattle.vt_outside.specs.Desk.{Files}
use Rattle.vest_stops.specs.Decided.{Decision, stops, goes_on}
use Rattle.vest_files.specs.Loading.{DecidesLoad}
use Rattle.vest_files.specs.Translate.{DecidesTranslate}
use Rattle.vest_stops.specs.declared.status.Status.{Status}
use Rattle.vest_stops.specs.declared.status.Status.TheVariants as status
use Rattle.vest_cli.specs.Lent.{Lent}
use Rattle.vest_cli.specs.Live.{DecidesLive}
use Rattle.vest_cli.specs.Replay.{DecidesReplay}
use Rattle.vest_cli.specs.Run.{DecidesRun}

-- what a command comes to; what is not told decides nothing, and on `generate` nothing has to be told
abbrev pub DecidesOn : CommandValue → Option Files → (input : Option (List ℕ)) → Decision → Type 0
DecidesOn (run name options) files input decision = DecidesRun files name input decision
DecidesOn (live name options) files input decision = DecidesLive files name decision
DecidesOn (translate image to target hints) files input decision = DecidesTranslate files image hints decision
DecidesOn (list name) files input decision = DecidesLoad files name decision
DecidesOn (generate number) files input decision = decision ≡ goes_on
DecidesOn (replay name file hints) files input decision = DecidesReplay files name file decision

abbrev pub DecidesCall : Option CommandValue → Option Files → (input : Option (List ℕ)) → Decision → Type 0
DecidesCall None files input decision = decision ≡ stops status.Usage
DecidesCall (Some command) files input decision = DecidesOn command files input decision

-- behind a run: all threads exited, some ended by an exception, or some was spent
abbrev pub EndsARun : Status → Type 0
EndsARun status.Ok = Unit {0}
EndsARun status.Exception = Unit {0}
EndsARun status.Spent = Unit {0}
EndsARun result = ⊥

-- how a command ends that goes on
abbrev pub EndsWell : Option CommandValue → Status → Type 0
EndsWell None result = ⊥
EndsWell (Some (run name options)) result = EndsARun result
EndsWell (Some (live name options)) result = EndsARun result
EndsWell (Some (generate number)) result = EndsARun result
EndsWell (Some (replay name file hints)) result = EndsARun result
EndsWell (Some command) result = result ≡ status.Ok

abbrev pub IsStatus : Option CommandValue → Status → Decision → Type 0
IsStatus command result (stops expected) = result ≡ expected
IsStatus command result goes_on = EndsWell command result

-- the status is one of those decided, unless the outside failed or memory ran out
abbrev pub IsOrFault : Option CommandValue → Status → Decision → Type 0
IsOrFault command status.ReadFault decision = Unit {0}
IsOrFault command status.WriteFault decision = Unit {0}
IsOrFault command status.WantOfMemory decision = Unit {0}
IsOrFault command result decision = IsStatus command result decision

-- ---- a call in which no call of the outside failed

-- the count did not rise, and does not stand at its last value
abbrev pub Stood : (old new : ℕ) → Type 0
Stood old new = new < one_more old

pub record NoneFailed (old new : Lent) : Type 0 where
  pub desk_reads : Stood old.desk.read_faults new.desk.read_faults
  pub desk_writes : Stood old.desk.write_faults new.desk.write_faults
  pub input : Stood old.input.faults new.input.faults
  pub out : Stood old.out.faults new.out.faults
  pub report : Stood old.report.faults new.report.faults

-- then the status is one of those decided, unless memory ran out
abbrev pub IsOrWant : Option CommandValue → Status → Decision → Type 0
IsOrWant command status.WantOfMemory decision = Unit {0}
IsOrWant command result decision = IsStatus command result decision
