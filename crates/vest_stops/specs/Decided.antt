-- What told files and a told input decide on a call.
use Rattle.std.specs.Prelude.{◌≡◌, Result, Ok, Err}
use Rattle.vest_stops.specs.Status.{status_of}
use Rattle.vest_stops.specs.declared.status.Status.{Status}
use Rattle.vest_stops.specs.declared.stop.Stop.{Stop}
use Rattle.vest_stops.specs.declared.stop.Stop.TheVariants.{ReadFault, WantOfMemory}

-- it stops with that status, or it goes on to the end
pub data Decision : Type 0 where
  stops : Status → Decision
  goes_on : Decision

-- the outside failed, or memory ran out, or the status is the decided one
abbrev pub StopsAsDecided : Stop → Decision → Type 0
StopsAsDecided ReadFault decision = Unit {0}
StopsAsDecided WantOfMemory decision = Unit {0}
StopsAsDecided stop decision = decision ≡ stops (status_of stop)

abbrev pub IsDecided : {X : Type 0} → Result X Stop → Decision → Type 0
IsDecided (Ok x) decision = decision ≡ goes_on
IsDecided (Err stop) decision = StopsAsDecided stop decision
