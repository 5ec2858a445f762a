-- One round behind the others.
use Rattle.std.proofs.Common.{◌+◌, arith}
use Rattle.tie_switch.specs.Settings.{image_setting}
use Rattle.tie_switch.proofs.Courses.{goes_more, goes_nowhere}
use Rattle.tie_switch.proofs.course.Course.run.Goals as goal

pub loop-made-init : goal.loop-made-init
loop-made-init g c =
    let p = c.args.prepared.now in
    record { most = omega arith; goes = goes_nowhere (image_setting p.pages p.code c.args.ranges.now) c.args.thread c.args.before.now c.args.self.now; opcode = c.requires.opcode; retired = omega arith }

pub returns-then-is_over-clause-goes : goal.returns-then-is_over-clause-goes
returns-then-is_over-clause-goes g c =
    let p = c.args.prepared.now in
    let s = image_setting p.pages p.code c.args.ranges.now in
    goes_more s c.args.thread c.args.before.now c.args.self.now c.loop-made.self c.run_plain-steps.new.self c.loop-made.made c.run_plain-steps.result.0
    c.loop-made.invariant.goes (c.run_plain-steps.ensures.goes c.args.thread c.args.before.now c.requires.nothing)

pub returns-then-not-goes_on-clause-goes : goal.returns-then-not-goes_on-clause-goes
returns-then-not-goes_on-clause-goes g c =
    let p = c.args.prepared.now in
    let s = image_setting p.pages p.code c.args.ranges.now in
    goes_more s c.args.thread c.args.before.now c.args.self.now c.run_plain-steps.new.self c.cross-steps.new.self (c.loop-made.made + c.run_plain-steps.result.0) c.cross-steps.result.0
    (goes_more s c.args.thread c.args.before.now c.args.self.now c.loop-made.self c.run_plain-steps.new.self c.loop-made.made c.run_plain-steps.result.0
    c.loop-made.invariant.goes (c.run_plain-steps.ensures.goes c.args.thread c.args.before.now c.requires.nothing))
    c.cross-steps.ensures.goes

pub loop-made-preserved : goal.loop-made-preserved
loop-made-preserved g c =
    let p = c.args.prepared.now in
    let s = image_setting p.pages p.code c.args.ranges.now in
    record {
      most = omega (arith, c.loop-made.invariant.most, c.run_plain-steps.ensures.most, c.cross-steps.ensures.most);
      opcode = c.cross-steps.ensures.opcode;
      retired = omega (arith, c.loop-made.invariant.retired, c.run_plain-steps.ensures.retired, c.cross-steps.ensures.retired);
      goes = goes_more s c.args.thread c.args.before.now c.args.self.now c.run_plain-steps.new.self c.cross-steps.new.self (c.loop-made.made + c.run_plain-steps.result.0) c.cross-steps.result.0
          (goes_more s c.args.thread c.args.before.now c.args.self.now c.loop-made.self c.run_plain-steps.new.self c.loop-made.made c.run_plain-steps.result.0
          c.loop-made.invariant.goes (c.run_plain-steps.ensures.goes c.args.thread c.args.before.now c.requires.nothing))
          c.cross-steps.ensures.goes;
    }
