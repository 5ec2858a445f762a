use Rattle.image_parts.proofs.Clashing.{clash_found, clash_later}
use Rattle.image_parts.proofs.spans.first_clash.Goals as goal

pub returns-in-Some-clause-value : goal.returns-in-Some-clause-value
returns-in-Some-clause-value c = clash_found c.args.spans.now c.loop-low.low c.in-Some.next c.loop-low-test.true c.loop-low.invariant c.in-Some.ensures.value

pub loop-low-preserved : goal.loop-low-preserved
loop-low-preserved c = clash_later c.args.spans.now c.loop-low.low c.loop-low-test.true c.loop-low.invariant c.in_default.ensures.value
