use Rattle.std.proofs.Common.{[], ◌+◌, take, refl, sym, subst}
use Rattle.vax_run.specs.Threads.{AreThreads}
use Rattle.vax_run.proofs.Standing.{fresh, threads_next}
use Rattle.vax_run.proofs.world.threads_of.Goals as goal

pub loop-start-preserved : goal.loop-start-preserved
loop-start-preserved c =
    let starts = c.deref-start-items.result.now in
    subst (AreThreads c.args.image.now 0 [] (take (c.loop-start.start-index + 1) starts)) (sym c.in_ok-push.ensures.items)
    (threads_next c.args.image.now starts c.loop-start.threads.items c.loop-start.start-index _ _ c.loop-start-test.true c.loop-start.invariant
    (λ n. fresh c.args.image.now n _ c.state-state.result _ refl c.new.ensures.items c.at_start.ensures refl c.state-state.ensures))
