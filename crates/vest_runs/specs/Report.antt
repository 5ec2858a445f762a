-- The report of a run by its processors, and what their ends decide.
use Rattle.std.specs.Prelude.{Bool, true, false, ℕ, List, [], ◌∷◌, ◌++◌, if◌then◌else◌}
use Rattle.std.specs.List.{list_any}
use Rattle.system_model.specs.Processors.{Mode, Ended, Processor}
use Rattle.vax_driven.specs.declared.thread.End.TheVariants.{Spent}
use Rattle.system_model.specs.Interpreted.{has_raised}
use Rattle.report_text.specs.Report.{thread_text}
use Rattle.vest_stops.specs.declared.status.Done.{Done}
use Rattle.vest_stops.specs.declared.status.Done.TheVariants as done

-- the lines of a processor that ended
abbrev pub lines_by : Mode → Processor → List ℕ
lines_by (Ended end) p = thread_text p.thread end p.boundary p.retired
lines_by _ p = []

abbrev pub lines_of : Processor → List ℕ
lines_of p = lines_by p.mode p

abbrev pub report_of : List Processor → List ℕ
report_of [] = []
report_of (p ∷ processors) = lines_of p ++ report_of processors

-- ---- how a run ends
abbrev pub is_spent : Mode → Bool
is_spent (Ended Spent) = true
is_spent _ = false

-- some thread ended by an exception; else some processor is spent; else all exited
abbrev pub done_by_ends : List Processor → Done
done_by_ends processors =
    if list_any (λ (p : Processor). has_raised p.mode) processors then done.Exception
    else if list_any (λ (p : Processor). is_spent p.mode) processors then done.Spent
    else done.Ok
