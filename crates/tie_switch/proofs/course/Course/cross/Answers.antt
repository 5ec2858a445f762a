-- Inside a block, and to the next.
use Rattle.std.proofs.Common.{◌≡◌, sym, ◌∙◌, subst}
use Rattle.tie_switch.specs.Courses.{Goes}
use Rattle.tie_switch.specs.Settings.{image_setting}
use Rattle.tie_switch.specs.declared.course.Course.{Course}
use Rattle.tie_switch.proofs.Courses.{goes_inside, goes_more}
use Rattle.tie_switch.proofs.course.Course.cross.Goals.{else-inside-most-via-then-inside-most+else-step_on, else-inside-most-via-else-inside-most}
use Rattle.tie_switch.proofs.course.Course.cross.Goals as goal

pub returns-then-step_on-clause-goes : goal.returns-then-step_on-clause-goes
returns-then-step_on-clause-goes c =
    let p = c.args.prepared.now in
    let s = image_setting p.pages p.code c.args.ranges.now in
    let old = c.args.self.now in
    let mid : Course = record old { cpu = c.run_inside-inside.new.cpu } in
    goes_more s c.args.thread c.args.before.now old mid c.step_on.new.self c.run_inside-inside.result 1
    (goes_inside s c.args.thread c.args.before.now old c.run_inside-inside.new.cpu c.run_inside-inside.result c.steps_are_turns.ensures c.run_inside-inside.ensures.ran)
    (c.step_on.ensures.goes c.if-step_on.true)

pub returns-else-inside-most-clause-goes : goal.returns-else-inside-most-clause-goes
returns-else-inside-most-clause-goes c =
    let p = c.args.prepared.now in
    let s = image_setting p.pages p.code c.args.ranges.now in
    let old = c.args.self.now in
    let mid : Course = record old { cpu = c.run_inside-inside.new.cpu } in
    let inside : Goes s c.args.thread c.args.before.now old mid c.run_inside-inside.result =
    goes_inside s c.args.thread c.args.before.now old c.run_inside-inside.new.cpu c.run_inside-inside.result c.steps_are_turns.ensures c.run_inside-inside.ensures.ran in
    let same : c.else-inside-most.self ≡ mid =
    elim c.else-inside-most.branch [
      | else-inside-most-via-then-inside-most+else-step_on w ↦ w.self-is ∙ w.step_on.ensures.stays w.if-step_on.false
      | else-inside-most-via-else-inside-most w ↦ w.self-is
    ] in
    subst (λ (x : Course). Goes s c.args.thread c.args.before.now old x c.run_inside-inside.result) (sym same) inside
