-- The status of a call, by why it stopped, or by what it has done, and the number of a status.
use Rattle.std.specs.Prelude.{ℕ}
use Rattle.vest_stops.specs.declared.status.Done.{Done}
use Rattle.vest_stops.specs.declared.status.Done.TheVariants as done
use Rattle.vest_stops.specs.declared.status.Status.{Status}
use Rattle.vest_stops.specs.declared.status.Status.TheVariants as status
use Rattle.vest_stops.specs.declared.stop.Stop.{Stop}
use Rattle.vest_stops.specs.declared.stop.Stop.TheVariants.{Absent, Refused, ReadFault, TooLong, WantOfMemory}

abbrev pub status_of : Stop → Status
status_of Absent = status.Absent
status_of (Refused refusal) = status.Refused
status_of ReadFault = status.ReadFault
status_of TooLong = status.TooLong
status_of WantOfMemory = status.WantOfMemory

abbrev pub status_of_done : Done → Status
status_of_done done.Ok = status.Ok
status_of_done done.Exception = status.Exception
status_of_done done.Spent = status.Spent
status_of_done done.ReadFault = status.ReadFault
status_of_done done.WriteFault = status.WriteFault

-- the exit code of the program
abbrev pub number_of : Status → ℕ
number_of status.Ok = 0
number_of status.Usage = 1
number_of status.Absent = 2
number_of status.Refused = 3
number_of status.Exception = 4
number_of status.Spent = 5
number_of status.ReadFault = 6
number_of status.WriteFault = 7
number_of status.TooLong = 8
number_of status.WantOfMemory = 9
