use Rattle.std.proofs.Common.{◌<◌, length, get_or, sym, ap, ◌∙◌, arith}
use Rattle.run_files.specs.Values.{OrderValue}
use Rattle.stored_runs.proofs.Ending.{wrong_at}
use Rattle.stored_runs.proofs.ends.ends_of.Goals as goal

pub returns-in_default : goal.returns-in_default
returns-in_default c =
    let in_spent : c.loop-thread.thread < length c.args.order.now.spent = omega (arith, c.requires.spent, c.loop-thread-test.true) in
    let in_counts : c.loop-thread.thread < length c.args.order.now.counts = omega (arith, c.requires.counts, c.loop-thread-test.true) in
    wrong_at c.args.runs.now c.args.order.now.spent c.args.order.now.counts c.loop-thread.thread c.loop-thread.ends.items _ c.index.result.now c.loop-thread-test.true in_spent in_counts
    (c.index.ensures ∙ ap (λ (o : OrderValue). get_or o.spent c.loop-thread.thread c.index.result.now) c.order.view_is) (sym c.in_default.ensures) c.loop-thread.invariant
