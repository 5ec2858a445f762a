use Rattle.std.proofs.Common.{ℕ, ◌∷◌, [], length, sym, subst, arith, length-append}
use Rattle.std.proofs.lemmas.Iterator.Adapters.{YieldsList-from_vec}
use Rattle.std.proofs.lemmas.Iterator.Consumers.{YieldsList-turn}
use Rattle.shared_memory.specs.Passes.{given_of}
use Rattle.run_threads.specs.Jobs.{HasJoined}
use Rattle.run_threads.proofs.Joining.{has_pass, its_pass, joins_one}
use Rattle.run_threads.proofs.passes.join_all.Goals as goal

pub join-requires-clause-other : goal.join-requires-clause-other
join-requires-clause-other c =
    let gives = c.into_iter-job-iterator.ensures.into_iter_gives in
    let t = YieldsList-turn (YieldsList-from_vec c.args.jobs.items gives.0 (omega (arith, gives.1, c.args.jobs.ok.0))) c.loop-job.yielded c.loop-job.job-iterator c.loop-job.yielded_by c.next.result c.next.new.self c.in-Some.job c.in-Some.is c.next.ensures.steps in
    its_pass c.args.memory.now c.in-Some.job (length c.loop-job.yielded)
    (has_pass c.args.memory.now c.args.jobs.items c.in-Some.job (length c.loop-job.yielded) c.requires.passes t.0 t.1)

pub loop-job-preserved : goal.loop-job-preserved
loop-job-preserved c =
    let gives = c.into_iter-job-iterator.ensures.into_iter_gives in
    let t = YieldsList-turn (YieldsList-from_vec c.args.jobs.items gives.0 (omega (arith, gives.1, c.args.jobs.ok.0))) c.loop-job.yielded c.loop-job.job-iterator c.loop-job.yielded_by c.next.result c.next.new.self c.in-Some.job c.in-Some.is c.next.ensures.steps in
    record {
      joined = subst (λ (n : ℕ). HasJoined c.args.memory.now (given_of c.args.keeper.now) c.join.new.keeper c.args.jobs.items c.push_reserved.new.self.items n)
          (sym (length-append c.loop-job.yielded (c.in-Some.job ∷ [])))
          (joins_one c.args.memory.now (given_of c.args.keeper.now) c.loop-job.keeper c.join.new.keeper c.args.jobs.items c.loop-job.ended.items c.push_reserved.new.self.items
          c.in-Some.job (length c.loop-job.yielded) c.loop-job.invariant.joined t.0 t.1 c.join.ensures.keeper c.join.ensures.joined c.join.ensures.own c.push_reserved.ensures.items);
      room = omega (arith, c.push_reserved.ensures.capacity, c.loop-job.invariant.room);
    }
