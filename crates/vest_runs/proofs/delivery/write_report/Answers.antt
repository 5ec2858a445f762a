-- The report takes the lines of each processor in turn.
use Rattle.vest_runs.proofs.Delivering.{failed_lines, took_lines}
use Rattle.vest_runs.proofs.delivery.write_report.Goals as goal

pub returns-in-Failed-clause-err : goal.returns-in-Failed-clause-err
returns-in-Failed-clause-err g c =
    failed_lines c.args.processors.now c.loop-processor.processor-index c.processor-item.result _ _ _ c.loop-processor-test.true c.processor-item.is
    c.loop-processor.invariant c.in-Failed.ensures

pub loop-processor-preserved : goal.loop-processor-preserved
loop-processor-preserved g c =
    took_lines c.args.processors.now c.loop-processor.processor-index c.processor-item.result _ _ _ c.loop-processor-test.true c.processor-item.is
    c.loop-processor.invariant c.in-Written.ensures
