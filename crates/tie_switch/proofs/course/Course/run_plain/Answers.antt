-- Blocks that are kept, and such as are run through with no look back.
use Rattle.std.proofs.Common.{◌-◌, ◌+◌, sym, ◌∙◌, subst, arith}
use Rattle.alpha_machine.specs.Step.{state_of}
use Rattle.tie_switch.specs.Courses.{Goes, HoldsNone}
use Rattle.tie_switch.specs.Keeps.{AllMade, IsKeep, IsPlainRun, NoMore, NoRun, OneMore}
use Rattle.tie_switch.specs.Settings.{image_setting}
use Rattle.tie_switch.proofs.Courses.{goes_more, goes_nowhere}
use Rattle.tie_switch.proofs.Stopping.{stuck}
use Rattle.tie_switch.proofs.course.Course.run_plain.Goals as goal

pub loop-made-init : goal.loop-made-init
loop-made-init g c =
    let p = c.args.prepared.now in
    record {
      most = omega arith;
      plain = c.is_plain.ensures.plain c.if-not-is_plain.false;
      runs = NoRun;
      opcode = c.requires.opcode;
      retired = omega arith;
      goes = λ thread before nothing. goes_nowhere (image_setting p.pages p.code c.args.ranges.now) thread before c.args.self.now;
    }

pub loop-made-preserved : goal.loop-made-preserved
loop-made-preserved g c =
    let p = c.args.prepared.now in
    let s = image_setting p.pages p.code c.args.ranges.now in
    let l = c.loop-made in
    let kept = c.keep-steps in
    let glided = c.glide_on-made in
    let plain = l.invariant.plain in
    let held = glided.ensures.held ∙ kept.ensures.held in
    record {
      most = omega (arith, l.invariant.most, kept.ensures.most, glided.ensures.most);
      plain = (plain.0, subst HoldsNone (sym held) plain.1);
      runs =
          OneMore l.invariant.runs c.loop-made-test.true (subst (λ b. IsKeep p (c.args.most - l.made) l.self.cpu kept.new.self.cpu (kept.result.0, b)) c.if-rests.false kept.ensures.keeps) glided.ensures.glides;
      opcode = glided.ensures.opcode;
      retired = omega (arith, l.invariant.retired, kept.ensures.retired, glided.ensures.retired);
      goes = λ thread before nothing.
          goes_more s thread before c.args.self.now kept.new.self glided.new.self (l.made + kept.result.0) glided.result
          (goes_more s thread before c.args.self.now l.self kept.new.self l.made kept.result.0 (l.invariant.goes thread before nothing)
          (subst (λ r. Goes (image_setting p.pages p.code r) thread before l.self kept.new.self kept.result.0) (sym plain.0) (kept.ensures.goes thread before nothing)))
          (subst (λ r. Goes (image_setting p.pages p.code r) thread before kept.new.self glided.new.self glided.result) (sym plain.0) (glided.ensures.goes thread before nothing));
    }

pub returns-then-rests-clause-goes : goal.returns-then-rests-clause-goes
returns-then-rests-clause-goes g c = λ thread before nothing.
    let p = c.args.prepared.now in
    let l = c.loop-made in
    let kept = c.keep-steps in
    goes_more (image_setting p.pages p.code c.args.ranges.now) thread before c.args.self.now l.self kept.new.self l.made kept.result.0 (l.invariant.goes thread before nothing)
    (subst (λ r. Goes (image_setting p.pages p.code r) thread before l.self kept.new.self kept.result.0) (sym l.invariant.plain.0) (kept.ensures.goes thread before nothing))

pub returns-then-rests-clause-stops : goal.returns-then-rests-clause-stops
returns-then-rests-clause-stops g c = λ over thread.
    let p = c.args.prepared.now in
    let kept = c.keep-steps in
    stuck (image_setting p.pages p.code c.args.ranges.now) thread p.pages (state_of kept.new.self.cpu) (kept.ensures.inside c.if-rests.true) (c.stops_at.ensures.none over)

pub glide_on-made-requires-clause-plain : goal.glide_on-made-requires-clause-plain
glide_on-made-requires-clause-plain g c = subst HoldsNone (sym c.keep-steps.ensures.held) c.loop-made.invariant.plain.1

pub returns-then-rests-clause-runs : goal.returns-then-rests-clause-runs
returns-then-rests-clause-runs g c = λ plain.
    let p = c.args.prepared.now in
    let l = c.loop-made in
    let kept = c.keep-steps in
    subst (λ b. IsPlainRun p c.args.most c.args.self.now.cpu kept.new.self.cpu (l.made + kept.result.0, b)) (sym c.stops_at.ensures.just)
    (NoMore l.invariant.runs c.loop-made-test.true (subst (λ b. IsKeep p (c.args.most - l.made) l.self.cpu kept.new.self.cpu (kept.result.0, b)) c.if-rests.true kept.ensures.keeps))

pub returns-clause-runs : goal.returns-clause-runs
returns-clause-runs g c = λ plain. AllMade c.loop-made.invariant.runs (omega (arith, c.loop-made-test.false))
