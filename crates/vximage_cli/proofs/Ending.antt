-- A command that ended so, and was told so, is obeyed.
use Rattle.std.proofs.Common.{◌≡◌}
use Rattle.std.specs.Prelude.{Result, Ok, Err, IfErr, IfOk}
use Rattle.vest_stops.specs.Files.{SameFiles}
use Rattle.vest_stops.specs.declared.status.Done.{Done}
use Rattle.vest_stops.specs.declared.status.Status.{Status}
use Rattle.vximage_words.specs.Commands.{CommandValue}
use Rattle.vximage_cli.specs.Named.{StopsAs, name_told}
use Rattle.vximage_cli.specs.Vximage.{DoesOnly, Lent, Obeys, StopsAt, StopsAtNames, TellsEnd, TellsFault, done, refused_names, stopped}
use Rattle.vximage_cli.specs.declared.halt.Fault.{Fault}
use Rattle.vximage_cli.specs.declared.halt.Fault.TheVariants.{BadName, Halted}
use Rattle.vximage_cli.specs.declared.halt.Halt.{Halt}

module _ (command : CommandValue) (result : Status) (old new : Lent) where
  pub obeyed_end : (end : Result Done Halt) → IfOk end (λ it. DoesOnly command it old.desk new.desk old.out new.out)
      → IfErr end (λ halt. StopsAt command halt.stop (name_told halt) old.desk new.desk) → IfErr end (λ _. SameFiles old.desk new.desk)
      → IfErr end (λ _. new.out ≡ old.out) → TellsEnd end result old.report new.report → Obeys command result old new
  obeyed_end (Ok it) does why stays unsent told = done it told.0 does told.1
  obeyed_end (Err halt) does why stays unsent told = stopped halt.stop (name_told halt) told.0 why (record { desk = stays; out = unsent; said = told.1 })

  pub obeyed_fault : (end : Result Done Fault) → IfOk end (λ it. DoesOnly command it old.desk new.desk old.out new.out)
      → IfErr end (λ fault. StopsAs fault (λ stop named. StopsAt command stop named old.desk new.desk) (λ line. StopsAtNames command line old.desk))
      → IfErr end (λ _. SameFiles old.desk new.desk) → IfErr end (λ _. new.out ≡ old.out) → TellsFault end result old.report new.report → Obeys command result old new
  obeyed_fault (Ok it) does why stays unsent told = done it told.0 does told.1
  obeyed_fault (Err (Halted halt)) does why stays unsent told = stopped halt.stop (name_told halt) told.0 why (record { desk = stays; out = unsent; said = told.1 })
  obeyed_fault (Err (BadName line)) does why stays unsent told = refused_names line told.0 why (record { desk = stays; out = unsent; said = told.1 })
