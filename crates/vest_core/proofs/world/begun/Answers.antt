use Rattle.std.proofs.Common.{◌≡◌, ℕ, [], ◌∷◌, ◌+◌, get_or, length, slice_get, sym, ap, ◌∙◌, subst, arith}
use Rattle.std.proofs.lemmas.List.{length-append}
use Rattle.std.proofs.lemmas.Option.{slice_get-get_or}
use Rattle.vest_core.proofs.NewWorlds.{AreBegun, IsBegun, are_own, are_zipped, one_more}
use Rattle.vest_core.proofs.world.begun.Goals as goal

pub loop-thread-preserved : goal.loop-thread-preserved
loop-thread-preserved c =
    let ks = c.loop-thread.processors.items in
    let threads = c.args.threads.now in
    let start = get_or threads c.loop-thread.thread (record { pc = 0; sp = 0; first = [] }) in
    let count : length ks ≡ c.loop-thread.thread = c.loop-thread.invariant.count in
    let items = c.in_ok-push.ensures.items in
    record {
      count = ap length items ∙ length-append ks (c.new.result ∷ []) ∙ ap (λ n. n + 1) count;
      each = subst (AreBegun 0 c.args.budget threads) (sym items)
          (one_more threads c.args.budget ks c.new.result start c.loop-thread.invariant.each
          (ap (slice_get threads) count ∙ slice_get-get_or threads c.loop-thread.thread (record { pc = 0; sp = 0; first = [] }) c.loop-thread-test.true)
          (subst (λ (n : ℕ). IsBegun n c.args.budget start c.new.result) (sym count) (record { stands = c.new.ensures.stands; most = c.new.ensures.budget })));
    }

pub returns-clause-stand : goal.returns-clause-stand
returns-clause-stand c = λ pages. are_zipped pages 0 c.args.budget c.args.threads.now c.loop-thread.processors.items
    (omega (arith, c.loop-thread.invariant.count, c.loop-thread-test.false, c.loop-thread.auto.thread-end)) c.loop-thread.invariant.each

pub returns-clause-own : goal.returns-clause-own
returns-clause-own c = are_own c.args.threads.now c.args.budget c.loop-thread.processors.items
    (omega (arith, c.loop-thread.invariant.count, c.loop-thread-test.false, c.loop-thread.auto.thread-end)) c.loop-thread.invariant.each
