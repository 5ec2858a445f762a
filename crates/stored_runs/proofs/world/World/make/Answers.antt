use Rattle.std.proofs.Common.{◌<◌, length, refl, arith}
use Rattle.std.specs.Vec.{with_item}
use Rattle.stored_runs.proofs.Walked.{made_on}
use Rattle.stored_runs.proofs.world.World.make.Goals as goal

pub returns-clause-made : goal.returns-clause-made
returns-clause-made c = λ counts made left.
    let v = c.args.self.now.threads in
    let below : c.args.pick.thread < length v.items = omega (arith, v.ok.0, c.len.ensures, c.if-at-len.false) in
    made_on c.args.image.now c.args.input.now counts made c.args.pick c.in-Some.reference c.in_ok-reply.reply c.args.self.now
    (record { threads = with_item c.args.self.now.threads c.args.pick.thread c.take.new.self; memory = c.make.new.self })
    c.index_mut-thread.result.now c.wanted.new.self c.take.new.self c.args.course.now.marks c.wanted.new.course.marks left below c.index_mut-thread.ensures.value
    c.in-Some.ensures.value c.in-Some.ensures.asking c.in-Some.ensures.count
    c.in_ok-reply.ensures.reply c.in_ok-reply.ensures.bytes c.in_ok-reply.ensures.taken c.in_ok-reply.ensures.output refl
    c.take.ensures.at c.take.ensures.count c.take.ensures.retired c.in-Some.ensures.marks
