use Rattle.image_file.proofs.Overlaps.{overlap_found, overlap_later}
use Rattle.image_file.proofs.checks.first_overlap.Goals as goal

pub returns-in-Some-clause-value : goal.returns-in-Some-clause-value
returns-in-Some-clause-value c = overlap_found c.args.rows.now c.loop-low.low c.in-Some.next c.loop-low-test.true c.loop-low.invariant c.in-Some.ensures.value

pub loop-low-preserved : goal.loop-low-preserved
loop-low-preserved c = overlap_later c.args.rows.now c.loop-low.low c.loop-low-test.true c.loop-low.invariant c.in_default.ensures.value
