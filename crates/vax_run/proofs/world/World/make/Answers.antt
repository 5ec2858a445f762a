use Rattle.std.proofs.Common.{◌≡◌, ◌<◌, ◌≤◌, ◌++◌, [], ◌∷◌, length, refl, sym, ap, ◌∙◌, arith}
use Rattle.std.specs.Vec.{with_item}
use Rattle.vax_run.specs.declared.thread.Thread.{Thread}
use Rattle.vax_run.proofs.Standing.{thread_among, at_among, same_item}
use Rattle.vax_run.proofs.Walked.{no_thread, no_reference, made_on, gets_below}
use Rattle.vax_run.proofs.world.World.make.Goals as goal

pub returns-then-at-len : goal.returns-then-at-len
returns-then-at-len c = λ made left.
    let v = c.args.self.now.threads in
    let above : length v.items ≤ c.args.pick.thread = omega (arith, v.ok.0, c.len.ensures, c.if-at-len.true) in
    no_thread c.args.image.now c.args.input.now made c.args.pick c.args.self.now
    (record { threads = c.args.self.now.threads; memory = c.args.self.now.memory; references = c.args.self.now.references }) left above

pub wanted-requires : goal.wanted-requires
wanted-requires c =
    let v = c.args.self.now.threads in
    let below : c.args.pick.thread < length v.items = omega (arith, v.ok.0, c.len.ensures, c.if-at-len.false) in
    at_among c.args.image.now c.requires.0 c.args.pick.thread c.index.result.now
    (thread_among c.args.image.now c.requires.0 0 c.args.pick.thread c.args.image.now.threads v.items c.index.result.now c.requires.1.threads below c.index.ensures)

pub returns-in_default : goal.returns-in_default
returns-in_default c = λ made left.
    let v = c.args.self.now.threads in
    let below : c.args.pick.thread < length v.items = omega (arith, v.ok.0, c.len.ensures, c.if-at-len.false) in
    no_reference c.args.image.now c.args.input.now made c.args.pick c.args.self.now
    (record { threads = c.args.self.now.threads; memory = c.args.self.now.memory; references = c.args.self.now.references }) c.index.result.now left below c.index.ensures
    (sym c.in_default.ensures.value)

pub make-requires : goal.make-requires
make-requires c =
    let v = c.args.self.now.references in
    omega (arith, v.ok.0, v.ok.1, v.small, gets_below c.args.image.now c.requires.0 c.args.self.now c.requires.1)

pub returns : goal.returns
returns c = λ made left.
    let v = c.args.self.now.threads in
    let below : c.args.pick.thread < length v.items = omega (arith, v.ok.0, c.len.ensures, c.if-at-len.false) in
    let same : c.index_mut.result.now ≡ c.index.result.now = c.index_mut.ensures.value
    ∙ same_item v.items c.args.pick.thread c.index_mut.result.now c.index.result.now below ∙ sym c.index.ensures in
    made_on c.args.image.now c.args.input.now made c.args.pick c.in-Some.asked.reference c.in_ok-reply.reply c.in-Some.asked.place c.args.self.now
    (record { threads = with_item c.args.self.now.threads c.args.pick.thread c.take.new.self; memory = c.make.new.self; references = c.push.new.self })
    c.index.result.now c.take.new.self left below c.index.ensures (sym c.in-Some.ensures.value) c.in-Some.ensures.place
    c.in_ok-reply.ensures.reply c.in_ok-reply.ensures.bytes c.in_ok-reply.ensures.gets c.in_ok-reply.ensures.output c.in_ok-push.ensures.items refl
    (c.in_ok-take.ensures.start ∙ ap (λ (t : Thread). t.start) same)
    (c.in_ok-take.ensures.replies ∙ ap (λ (t : Thread). t.replies.items ++ c.in_ok-reply.reply ∷ []) same)
    c.in_ok-take.ensures.place c.in_ok-take.ensures.retired
