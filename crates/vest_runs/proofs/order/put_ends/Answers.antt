use Rattle.std.proofs.Common.{◌∙◌, ◌+◌, ◌++◌, ◌∷◌, [], ℕ, Bool, length, ap}
use Rattle.std.proofs.lemmas.List.{length_push}
use Rattle.vest_runs.proofs.Ordering.{more_ends}
use Rattle.vest_runs.proofs.order.put_ends.Goals as goal

pub loop-processor-preserved : goal.loop-processor-preserved
loop-processor-preserved c =
    let one : ℕ × Bool = (c.retired.result, c.is_spent.result) in
    record {
      ends = c.push_reserved.ensures.items
          ∙ (λ i. c.loop-processor.invariant.ends i ++ (c.retired.ensures i, c.is_spent.ensures i) ∷ [])
          ∙ more_ends c.args.processors.now c.loop-processor.processor-index c.processor-item.result c.loop-processor-test.true c.processor-item.is;
      count = ap (λ es. length es) c.push_reserved.ensures.items ∙ length_push c.loop-processor.ends.items one ∙ ap (λ n. n + 1) c.loop-processor.invariant.count;
      room = c.push_reserved.ensures.capacity ∙ c.loop-processor.invariant.room;
    }
