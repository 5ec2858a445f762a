use Rattle.std.proofs.Common.{◌≡◌, ◌<◌, length, Some, sym, ap, ◌∙◌, subst, arith}
use Rattle.std.proofs.lemmas.Option.{slice_get-get_or}
use Rattle.image_file.specs.Values.{ImageValue}
use Rattle.stored_runs.proofs.Bytes.{same_default}
use Rattle.stored_runs.proofs.Runs.{begun_more}
use Rattle.stored_runs.proofs.world.begun.Goals as goal

pub loop-thread-preserved : goal.loop-thread-preserved
loop-thread-preserved c =
    let starts : c.deref-start-items.result.now ≡ c.args.image.now.threads = c.deref-start-items.ensures.value ∙ ap (λ (i : ImageValue). i.threads) c.image.view_is in
    let below : c.loop-thread.thread < length c.args.image.now.threads = subst (λ l. c.loop-thread.thread < length l) starts c.loop-thread-test.true in
    let count : c.loop-thread.thread < length c.args.counts.now = omega (arith, below, c.requires.counts) in
    begun_more c.args.image.now c.args.counts.now c.loop-thread.thread c.loop-thread.threads.items c.push.new.self.items c.new.result c.loop-thread.invariant c.in_ok-push.ensures.items
    c.new.ensures.at
    (slice_get-get_or c.args.counts.now c.loop-thread.thread 0 count ∙ ap (λ n. Some n) (sym (c.new.ensures.count ∙ same_default c.args.counts.now c.loop-thread.thread _ count))) c.new.ensures.retired
