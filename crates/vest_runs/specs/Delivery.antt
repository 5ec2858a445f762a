-- What goes out.
use Rattle.std.specs.Prelude.{◌≡◌, ◌⊎◌, ℕ, List}
use Rattle.vt_outside.specs.Sink.{SinkMeaning}
use Rattle.vt_outside.specs.Taking.{TookAll, TookSome}
use Rattle.system_model.specs.Processors.{Processor}
use Rattle.vest_stops.specs.declared.status.Done.{Done}
use Rattle.vest_stops.specs.declared.status.Done.TheVariants as done
use Rattle.vest_runs.specs.Report.{report_of, done_by_ends}

-- a report goes out whole, or a fault of the sink ends it; else what is decided
abbrev pub Reports : Done → (lines : List ℕ) → (decided : Done) → (report report' : SinkMeaning) → Type 0
Reports done.WriteFault lines decided report report' = TookSome report report' lines
Reports result lines decided report report' = (result ≡ decided) × TookAll report report' lines

-- the report of processors, and what their ends decide
abbrev pub ReportsRun : Done → List Processor → (report report' : SinkMeaning) → Type 0
ReportsRun result processors report report' = Reports result (report_of processors) (done_by_ends processors) report report'

-- an output goes out and then a report, and the first fault of a sink ends it; else what is decided
abbrev pub Delivers : Done → (output lines : List ℕ) → (decided : Done) → (out out' report report' : SinkMeaning) → Type 0
Delivers done.WriteFault output lines decided out out' report report' =
    (TookSome out out' output × (report' ≡ report))
    ⊎ (TookAll out out' output × TookSome report report' lines)
Delivers result output lines decided out out' report report' =
    (result ≡ decided) × TookAll out out' output × TookAll report report' lines

-- behind a run: the report of its processors, and what their ends decide
abbrev pub DeliversRun : Done → (output : List ℕ) → List Processor → (out out' report report' : SinkMeaning) → Type 0
DeliversRun result output processors out out' report report' =
    Delivers result output (report_of processors) (done_by_ends processors) out out' report report'
