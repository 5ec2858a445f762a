-- What the ends of threads decide.
use Rattle.std.specs.Prelude.{Bool, true, false, List, if◌then◌else◌}
use Rattle.std.specs.List.{list_any}
use Rattle.vax_driven.specs.declared.thread.End.{End}
use Rattle.vax_driven.specs.declared.thread.End.TheVariants.{Raised, Spent}
use Rattle.vest_stops.specs.declared.status.Done.{Done}
use Rattle.vest_stops.specs.declared.status.Done.TheVariants as done

abbrev pub is_raised : End → Bool
is_raised (Raised exception) = true
is_raised end = false

abbrev pub is_spent : End → Bool
is_spent Spent = true
is_spent end = false

-- some thread raised an exception; else some thread is spent; else all exited
abbrev pub done_by : List End → Done
done_by ends =
    if list_any is_raised ends then done.Exception
    else if list_any is_spent ends then done.Spent
    else done.Ok
