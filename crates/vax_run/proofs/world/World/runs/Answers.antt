use Rattle.std.proofs.Common.{◌<◌, ◌+◌, length, drop, sym, ap, ◌∙◌, arith}
use Rattle.vax_driven.specs.Driven.{runs_from}
use Rattle.vax_run.specs.Values.{threads_of}
use Rattle.vax_run.proofs.Standing.{thread_among, at_among, as_many}
use Rattle.vax_run.proofs.Runs.{with_runs, runs_more, runs_stop}
use Rattle.vax_run.proofs.world.World.runs.Goals as goal

pub index-requires : goal.index-requires
index-requires c =
    let v = c.args.self.now.threads in
    let many = as_many c.args.image.now c.requires.left.0 0 c.args.image.now.threads v.items c.requires.left.1.threads in
    omega (arith, v.ok.0, c.requires.counts, c.loop-at-test.true, many)

pub run-requires : goal.run-requires
run-requires c =
    let v = c.args.self.now.threads in
    let many = as_many c.args.image.now c.requires.left.0 0 c.args.image.now.threads v.items c.requires.left.1.threads in
    let among : c.loop-at.at < length v.items = omega (arith, c.requires.counts, c.loop-at-test.true, many) in
    at_among c.args.image.now c.requires.left.0 c.loop-at.at c.index.result.now
    (thread_among c.args.image.now c.requires.left.0 0 c.loop-at.at c.args.image.now.threads v.items c.index.result.now c.requires.left.1.threads among c.index.ensures)

pub returns-in_default : goal.returns-in_default
returns-in_default c = λ made left.
    let v = c.args.self.now.threads in
    let many = as_many c.args.image.now made 0 c.args.image.now.threads v.items left.threads in
    let among : c.loop-at.at < length v.items = omega (arith, c.requires.counts, c.loop-at-test.true, many) in
    runs_stop c.args.image.now made c.args.self.now left c.args.counts.now c.loop-at.at c.index.result.now among c.index.ensures
    c.loop-at-test.true c.in_default.ensures c.loop-at.runs.items (c.loop-at.invariant made left)

pub loop-at-preserved : goal.loop-at-preserved
loop-at-preserved c = λ made left.
    let v = c.args.self.now.threads in
    let many = as_many c.args.image.now made 0 c.args.image.now.threads v.items left.threads in
    let among : c.loop-at.at < length v.items = omega (arith, c.requires.counts, c.loop-at-test.true, many) in
    runs_more c.args.image.now made c.args.self.now left c.args.counts.now c.loop-at.at c.index.result.now among c.index.ensures
    c.loop-at-test.true c.in-Some.shown c.in-Some.ensures c.loop-at.runs.items (c.loop-at.invariant made left)
    ∙ ap (λ l. with_runs l (runs_from (threads_of c.args.image.now) made (c.loop-at.at + 1) (drop (c.loop-at.at + 1) c.args.counts.now))) (sym c.in_ok-push.ensures.items)
