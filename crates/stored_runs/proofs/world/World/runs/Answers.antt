use Rattle.std.proofs.Common.{◌<◌, ◌≤◌, ◌+◌, length, drop, sym, ap, ◌∙◌, arith}
use Rattle.vax_driven.specs.Driven.{runs_from}
use Rattle.vax_run.specs.Values.{threads_of}
use Rattle.stored_runs.specs.Marks.{mark_of}
use Rattle.stored_runs.proofs.Marked.{all_so_far, none_so_far, one_so_far}
use Rattle.stored_runs.proofs.Runs.{with_runs, runs_begin, runs_more, runs_stop}
use Rattle.stored_runs.proofs.Walked.{at_among, there}
use Rattle.stored_runs.proofs.world.World.runs.Goals as goal

pub loop-at-init : goal.loop-at-init
loop-at-init c = record {
  known = c.requires.known;
  runs = λ input counts made many left.
      runs_begin c.args.image.now input counts made
      ∙ ap (λ l. with_runs l (runs_from (threads_of c.args.image.now) made 0 (drop 0 counts))) (sym c.new-runs.ensures.items);
  marks = λ input counts made many left. none_so_far c.args.image.now counts made c.args.self.now.threads.items (mark_of c.args.course.now.marks) left.marked;
}

pub returns-in_default-clause-runs : goal.returns-in_default-clause-runs
returns-in_default-clause-runs c = λ input counts made many left.
    let v = c.args.self.now.threads in
    let among : c.loop-at.at < length v.items = omega (arith, v.ok.0, c.len-at-end.ensures, c.loop-at-test.true) in
    let below : c.loop-at.at < length counts = omega (arith, many, left.many, among) in
    runs_stop c.args.image.now input counts made c.args.self.now c.loop-at.at c.index-thread.result.now left among c.index-thread.ensures below
    c.in_default.ensures.run c.loop-at.runs.items (c.loop-at.invariant.runs input counts made many left)

pub loop-at-preserved : goal.loop-at-preserved
loop-at-preserved c = record {
  known = c.in-Some.ensures.known;
  runs = λ input counts made many left.
      let v = c.args.self.now.threads in
      let among : c.loop-at.at < length v.items = omega (arith, v.ok.0, c.len-at-end.ensures, c.loop-at-test.true) in
      let below : c.loop-at.at < length counts = omega (arith, many, left.many, among) in
      runs_more c.args.image.now input counts made c.args.self.now c.loop-at.at c.index-thread.result.now left among c.index-thread.ensures below
      c.in-Some.run' c.in-Some.ensures.run c.loop-at.runs.items (c.loop-at.invariant.runs input counts made many left)
      ∙ ap (λ l. with_runs l (runs_from (threads_of c.args.image.now) made (c.loop-at.at + 1) (drop (c.loop-at.at + 1) counts))) (sym c.in_ok-push.ensures.items);
  marks = λ input counts made many left.
      let v = c.args.self.now.threads in
      let among : c.loop-at.at < length v.items = omega (arith, v.ok.0, c.len-at-end.ensures, c.loop-at-test.true) in
      let here = at_among c.args.image.now input counts made c.args.self.now c.loop-at.at c.index-thread.result.now left.left among c.index-thread.ensures in
      one_so_far c.args.image.now counts made v.items c.loop-at.at c.index-thread.result.now (mark_of c.args.course.now.marks) (mark_of c.loop-at.course.marks) _
      left.marked (c.loop-at.invariant.marks input counts made many left) (there v.items c.loop-at.at c.index-thread.result.now among c.index-thread.ensures) here.count
      (c.in-Some.ensures.marks _ here.at);
}

pub returns-clause-marks : goal.returns-clause-marks
returns-clause-marks c = λ input counts made many left.
    let v = c.args.self.now.threads in
    let ends : length counts ≤ c.loop-at.at = omega (arith, many, left.left.many, v.ok.0, c.len-at-end.ensures, c.loop-at-test.false) in
    all_so_far c.args.image.now counts made c.loop-at.at (mark_of c.args.course.now.marks) (mark_of c.loop-at.course.marks) ends (c.loop-at.invariant.marks input counts made many left)
