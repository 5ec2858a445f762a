use Rattle.std.proofs.Common.{◌≡◌, ◌++◌, drop}
use Rattle.report_text.specs.Report.{report_from, report_text}
use Rattle.report_text.proofs.threads.report.Given as goal

abbrev pub invariant-loop-thread : goal.invariant-loop-thread
invariant-loop-thread l = l.lines.items ++ report_from l.thread (drop l.thread l.processors) ≡ report_text l.processors
