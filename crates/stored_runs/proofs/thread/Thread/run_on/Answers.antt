use Rattle.std.proofs.Common.{◌≡◌, ◌≤◌, ◌+◌, refl, sym, ap, ◌∙◌, subst, arith}
use Rattle.vax_driven.specs.Threads.{thread_run}
use Rattle.vax_run.specs.Values.{threads_of}
use Rattle.stored_runs.specs.Marks.{mark_of}
use Rattle.stored_runs.specs.Stood.{IsMarking}
use Rattle.stored_runs.specs.Threads.{IsNoted}
use Rattle.stored_runs.proofs.Marked.{no_way, way_more}
use Rattle.stored_runs.proofs.Standing.{never_run, stage_came}
use Rattle.stored_runs.proofs.thread.Thread.run_on.Goals as goal

pub loop-init : goal.loop-init
loop-init c = record {
  at = λ replies at. at;
  retired = refl;
  count = refl;
  known = c.requires.known;
  marks = λ replies at. no_way c.args.image.now c.args.thread replies c.args.self.count c.args.self.retired (mark_of c.args.course.now.marks);
}

pub returns-then-not-retire-clause-run : goal.returns-then-not-retire-clause-run
returns-then-not-retire-clause-run c = λ replies at.
    never_run c.args.image.now c.args.thread replies c.loop.self.retired c.args.self.count (c.if-not-retire.ensures.at replies (c.loop.invariant.at replies at))
    (omega (arith, c.loop.invariant.retired, c.loop-test.true))

pub loop-preserved : goal.loop-preserved
loop-preserved c = record {
  at = λ replies at. c.if-not-retire.ensures.at replies (c.loop.invariant.at replies at);
  retired = c.if-not-retire.ensures.retired ∙ ap (λ n. n + 1) c.loop.invariant.retired;
  count = c.if-not-retire.ensures.count ∙ c.loop.invariant.count;
  known = c.if-not-retire.ensures.known;
  marks = λ replies at.
      let l = c.loop in
      let here = stage_came c.args.image.now c.args.thread replies l.self.retired l.self.state l.self.stage (l.invariant.at replies at).stage in
      subst (λ n. IsMarking c.args.image.now c.args.thread replies c.args.self.retired n c.args.self.count (mark_of c.args.course.now.marks) (mark_of c.retire.new.course.marks)) (sym c.if-not-retire.ensures.retired)
      (way_more c.args.image.now c.args.thread replies c.args.self.count c.args.self.retired l.self (mark_of c.args.course.now.marks) (mark_of l.course.marks) here.0
      (l.invariant.marks replies at) here.1 here.2 l.invariant.count c.if-not-retire.ensures.long (mark_of c.retire.new.course.marks) c.if-not-retire.ensures.marks);
}

pub returns-clause-run : goal.returns-clause-run
returns-clause-run c = λ replies at.
    let ahead : c.args.self.retired ≤ c.args.self.count =
    subst (IsNoted c.args.image.now c.args.thread replies c.args.self.retired c.args.self.count) c.requires.noted at.noted in
    let same : c.loop.self.retired ≡ c.args.self.count = omega (arith, c.loop.invariant.retired, ahead) in
    sym (ap (λ n. thread_run (threads_of c.args.image.now) c.args.thread n replies) (sym same) ∙ c.shown.ensures.shown c.args.thread replies (c.loop.invariant.at replies at))

pub returns-clause-marks : goal.returns-clause-marks
returns-clause-marks c = λ replies at.
    let ahead : c.args.self.retired ≤ c.args.self.count =
    subst (IsNoted c.args.image.now c.args.thread replies c.args.self.retired c.args.self.count) c.requires.noted at.noted in
    let same : c.loop.self.retired ≡ c.args.self.count = omega (arith, c.loop.invariant.retired, ahead) in
    let now = subst (λ n. IsMarking c.args.image.now c.args.thread replies c.args.self.retired n c.args.self.count (mark_of c.args.course.now.marks) (mark_of c.loop.course.marks)) same
    (c.loop.invariant.marks replies at) in
    subst (IsMarking c.args.image.now c.args.thread replies c.args.self.retired c.args.self.count c.args.self.count (mark_of c.args.course.now.marks)) (sym c.shown.ensures.marks) now
