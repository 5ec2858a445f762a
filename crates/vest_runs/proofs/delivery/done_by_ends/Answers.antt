-- How a run ends, by what its processors came to.
use Rattle.std.proofs.Common.{sym, ◌∙◌}
use Rattle.vest_runs.proofs.Delivering.{all_exit, ends_raised, ends_spent}
use Rattle.vest_runs.proofs.delivery.done_by_ends.Goals as goal

pub returns-then-has_raised : goal.returns-then-has_raised
returns-then-has_raised c =
    ends_raised c.args.processors.now c.loop-processor.processor-index c.processor-item.result c.loop-processor-test.true c.processor-item.is
    (sym c.has_raised.ensures ∙ c.if-has_raised.true)

pub returns-then-spent : goal.returns-then-spent
returns-then-spent c =
    ends_spent c.args.processors.now c.loop-processor.processor-index c.loop-processor-test.false c.loop-processor.invariant.no_exception
    (sym c.if-spent.true ∙ c.loop-processor.invariant.so_far)

pub returns-else-spent : goal.returns-else-spent
returns-else-spent c =
    all_exit c.args.processors.now c.loop-processor.processor-index c.loop-processor-test.false c.loop-processor.invariant.no_exception
    (sym c.if-spent.false ∙ c.loop-processor.invariant.so_far)
