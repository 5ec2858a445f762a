-- Its turns are those from where it stands in Alpha code.
use Rattle.std.proofs.Common.{None, sym, ap, subst}
use Rattle.alpha_machine.specs.Step.{state_of}
use Rattle.tie_switch.specs.Courses.{Begins, course_of}
use Rattle.tie_switch.specs.Inside.{is_local_in}
use Rattle.tie_switch.specs.Processors.{ProcessorValue, processor_of}
use Rattle.tie_switch.specs.Settings.{image_setting}
use Rattle.tie_switch.proofs.Courses.{begins_there}
use Rattle.tie_switch.proofs.processor.Processor.course.Goals as goal

pub returns-in-Some-clause-begins : goal.returns-in-Some-clause-begins
returns-in-Some-clause-begins c =
    let p = c.args.prepared.now in
    let s = image_setting p.pages p.code c.args.ranges.now in
    let k = c.args.self.now in
    subst (λ (j : ProcessorValue). Begins s (processor_of k) (course_of k.thread k.boundary k.interpreted (record { cpu = c.in-Some.cpu; landed = None; held = j.held; retired = j.retired }) k.steps)) (sym c.self.view_is)
    (begins_there s (processor_of k) (state_of c.in-Some.cpu) c.in-Some.ensures.there)

pub returns-in-Some-clause-local : goal.returns-in-Some-clause-local
returns-in-Some-clause-local c =
    let p = c.args.prepared.now in
    ap (is_local_in (image_setting p.pages p.code c.args.ranges.now) c.args.self.now.thread) c.in-Some.ensures.there
