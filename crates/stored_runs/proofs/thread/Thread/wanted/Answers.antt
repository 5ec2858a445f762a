use Rattle.std.proofs.Common.{◌≡◌, ℕ, ◌+◌, List, refl, sym, ap, ◌∙◌, subst, arith}
use Rattle.vax_driven.specs.Threads.{wanted}
use Rattle.vax_run.specs.Values.{threads_of}
use Rattle.stored_runs.specs.Marks.{mark_of}
use Rattle.stored_runs.specs.Stood.{IsMarking}
use Rattle.stored_runs.specs.Threads.{IsAsking, IsAt}
use Rattle.stored_runs.proofs.Marked.{no_way, way_more}
use Rattle.stored_runs.proofs.Standing.{always_some, nothing_before, never_wanted, of_some, stage_came}
use Rattle.stored_runs.proofs.thread.Thread.wanted.Goals as goal

pub returns-then-after-self-clause-value : goal.returns-then-after-self-clause-value
returns-then-after-self-clause-value c = λ replies at.
    nothing_before c.args.image.now c.args.thread replies c.args.self.now c.args.after at (omega arith)

pub loop-init : goal.loop-init
loop-init c = record {
  at = λ replies at. at;
  retired = refl;
  count = refl;
  known = c.requires.known;
  marks = λ replies at. no_way c.args.image.now c.args.thread replies c.args.self.now.count c.args.self.now.retired (mark_of c.args.course.now.marks);
}

pub returns-then-not-retire-clause-value : goal.returns-then-not-retire-clause-value
returns-then-not-retire-clause-value c = λ replies at.
    never_wanted c.args.image.now c.args.thread replies c.loop.self.retired c.args.after (c.if-not-retire.ensures.at replies (c.loop.invariant.at replies at))
    (omega (arith, c.loop.invariant.retired, c.loop-test.true))

pub loop-preserved : goal.loop-preserved
loop-preserved c = record {
  at = λ replies at. c.if-not-retire.ensures.at replies (c.loop.invariant.at replies at);
  retired = c.if-not-retire.ensures.retired ∙ ap (λ n. n + 1) c.loop.invariant.retired;
  count = c.if-not-retire.ensures.count ∙ c.loop.invariant.count;
  known = c.if-not-retire.ensures.known;
  marks = λ replies at.
      let l = c.loop in
      let here = stage_came c.args.image.now c.args.thread replies l.self.retired l.self.state l.self.stage (l.invariant.at replies at).stage in
      subst (λ n. IsMarking c.args.image.now c.args.thread replies c.args.self.now.retired n c.args.self.now.count (mark_of c.args.course.now.marks) (mark_of c.retire.new.course.marks)) (sym c.if-not-retire.ensures.retired)
      (way_more c.args.image.now c.args.thread replies c.args.self.now.count c.args.self.now.retired l.self (mark_of c.args.course.now.marks) (mark_of l.course.marks) here.0
      (l.invariant.marks replies at) here.1 here.2 l.invariant.count c.if-not-retire.ensures.long (mark_of c.retire.new.course.marks) c.if-not-retire.ensures.marks);
}

pub returns-clause-value : goal.returns-clause-value
returns-clause-value c = λ replies at.
    let same : c.loop.self.retired ≡ c.args.after = omega (arith, c.loop.invariant.retired) in
    c.asks.ensures.value c.args.thread replies (c.loop.invariant.at replies at) ∙ ap (λ n. wanted (threads_of c.args.image.now) c.args.thread n replies) same

pub returns-clause-asking : goal.returns-clause-asking
returns-clause-asking c =
    of_some (λ reference. (thread : ℕ) (replies : List ℕ) → IsAt c.args.image.now thread replies c.loop.self → IsAsking c.args.image.now thread replies reference c.asks.new.self)
    (λ reference. (replies : List ℕ) → IsAt c.args.image.now c.args.thread replies c.args.self.now → IsAsking c.args.image.now c.args.thread replies reference c.asks.new.self)
    c.asks.result (λ reference asks. λ replies at. asks c.args.thread replies (c.loop.invariant.at replies at)) c.asks.ensures.asking

pub returns-clause-marks : goal.returns-clause-marks
returns-clause-marks c =
    always_some _ c.asks.result (λ replies at.
    let l = c.loop in
    let old = c.args.self.now in
    let now = subst (λ n. IsMarking c.args.image.now c.args.thread replies old.retired n old.count (mark_of c.args.course.now.marks) (mark_of l.course.marks)) (sym c.asks.ensures.retired)
    (l.invariant.marks replies at) in
    subst (IsMarking c.args.image.now c.args.thread replies old.retired c.asks.new.self.retired old.count (mark_of c.args.course.now.marks)) (sym c.asks.ensures.marks) now)
