use Rattle.std.proofs.Common.{ℕ, ◌∷◌, [], length, sym, ap, ◌∙◌, subst, arith, length-append}
use Rattle.std.proofs.lemmas.Iterator.Adapters.{YieldsList-from_vec}
use Rattle.std.proofs.lemmas.Iterator.Consumers.{YieldsList-end, YieldsList-turn}
use Rattle.run_threads.specs.Together.{HaveRan, HaveStarted, IsThreadOf}
use Rattle.run_threads.proofs.Starting.{starts_one, ends_one}
use Rattle.run_threads.proofs.together.start_and_join.Goals as goal

pub loop-job-preserved : goal.loop-job-preserved
loop-job-preserved g c =
    let gives = c.into_iter-job-iterator.ensures.into_iter_gives in
    let t = YieldsList-turn (YieldsList-from_vec c.args.jobs.items gives.0 (omega (arith, gives.1, c.args.jobs.ok.0))) c.loop-job.yielded c.loop-job.job-iterator c.loop-job.yielded_by c.next.result c.next.new.self c.in-Some.job c.in-Some.is c.next.ensures.steps in
    let of : IsThreadOf c.args.runner.now c.in-Some.job (record { handle = c.in-Ok.handle }) = record {
      runner_is = ap (λ p. p.runner.value) c.in-Ok.ensures.ok ∙ c.of.ensures;
      job_is = ap (λ p. p.job.value) c.in-Ok.ensures.ok ∙ c.of-in-loop-job.ensures;
    } in
    record {
      started = subst (λ (n : ℕ). HaveStarted c.args.runner.now c.args.jobs.items c.push_reserved.new.self.items n)
          (sym (length-append c.loop-job.yielded (c.in-Some.job ∷ [])))
          (starts_one c.args.runner.now c.args.jobs.items c.loop-job.threads.items c.push_reserved.new.self.items c.in-Some.job (record { handle = c.in-Ok.handle }) (length c.loop-job.yielded)
          c.loop-job.invariant.started t.0 t.1 of c.push_reserved.ensures.items);
      room = omega (arith, c.push_reserved.ensures.capacity, c.loop-job.invariant.room);
    }

pub loop-thread-preserved : goal.loop-thread-preserved
loop-thread-preserved g c =
    let all = c.into_iter-job-iterator.ensures.into_iter_gives in
    let end = YieldsList-end (YieldsList-from_vec c.args.jobs.items all.0 (omega (arith, all.1, c.args.jobs.ok.0))) c.loop-job.yielded c.loop-job.job-iterator c.loop-job.yielded_by c.next.result c.next.new.self c.in-None.is c.next.ensures.steps in
    let gives = c.into_iter-thread-iterator.ensures.into_iter_gives in
    let t = YieldsList-turn (YieldsList-from_vec c.loop-job.threads.items gives.0 (omega (arith, gives.1, c.loop-job.threads.ok.0))) c.loop-thread.yielded c.loop-thread.thread-iterator c.loop-thread.yielded_by c.next-in-loop-thread.result c.next-in-loop-thread.new.self
    c.in-Some-thread.thread c.in-Some-thread.is c.next-in-loop-thread.ensures.steps in
    record {
      ran = subst (λ (n : ℕ). HaveRan (g.T.Runner.run_gives c.args.runner.now) c.args.jobs.items c.push_reserved-in-loop-thread.new.self.items n)
          (sym (length-append c.loop-thread.yielded (c.in-Some-thread.thread ∷ [])))
          (ends_one g.T.Runner.run_gives c.args.runner.now c.args.jobs.items c.loop-thread.ended.items c.push_reserved-in-loop-thread.new.self.items c.loop-job.threads.items
          c.in-Some-thread.thread c.in-Some-join.job (length c.loop-thread.yielded)
          (subst (λ (n : ℕ). HaveStarted c.args.runner.now c.args.jobs.items c.loop-job.threads.items n) end.1 c.loop-job.invariant.started)
          c.loop-thread.invariant.ran t.0 t.1 c.in-Some-join.ensures c.push_reserved-in-loop-thread.ensures.items);
      room = omega (arith, c.push_reserved-in-loop-thread.ensures.capacity, c.loop-thread.invariant.room);
    }
