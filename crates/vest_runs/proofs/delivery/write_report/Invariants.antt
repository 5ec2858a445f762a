-- It took the lines of the processors so far.
use Rattle.std.proofs.Common.{take}
use Rattle.vt_outside.specs.Taking.{TookAll}
use Rattle.vest_runs.proofs.Delivering.{report}
use Rattle.vest_runs.proofs.delivery.write_report.Given as goal

abbrev pub invariant-loop-processor : goal.invariant-loop-processor
invariant-loop-processor g l =
    TookAll (g.E.Sink.meaning l.initial.report) (g.E.Sink.meaning l.report) (report (take l.processor-index l.processors))
