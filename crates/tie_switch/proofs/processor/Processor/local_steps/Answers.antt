-- Where it made no step, it stands where it stood; else where its course came to.
use Rattle.std.proofs.Common.{◌≡◌, ◌-◌, false, Some, sym, ap, ◌∙◌, subst, arith}
use Rattle.std.specs.Prelude.{min}
use Rattle.alpha_machine.specs.Step.{state_of}
use Rattle.tie_switch.specs.Courses.{Goes, course_of}
use Rattle.tie_switch.specs.Inside.{goes_on_locally, went}
use Rattle.tie_switch.specs.Processors.{ProcessorValue, processor_of}
use Rattle.tie_switch.specs.Settings.{image_setting}
use Rattle.tie_switch.proofs.Courses.{begun_went, stood}
use Rattle.tie_switch.proofs.processor.Processor.local_steps.Goals as goal

pub returns-then-made-gt0-clause-went : goal.returns-then-made-gt0-clause-went
returns-then-made-gt0-clause-went c =
    let p = c.args.prepared.now in
    let s = image_setting p.pages p.code c.args.ranges.now in
    let k = c.args.self.now in
    let made = c.run-made in
    let goes : Goes s k.thread k.boundary c.in-Some.course made.new.self made.result =
    subst (λ (x : ProcessorValue). Goes s x.thread x.boundary c.in-Some.course made.new.self made.result) c.self.view_is made.ensures.goes in
    begun_went s (processor_of k) (course_of k.thread k.boundary k.interpreted c.in-Some.course k.steps) (processor_of c.settle.new.self) made.result c.in-Some.ensures.begins c.if-made-gt0.true
    (goes k.interpreted k.steps ∙ ap Some (sym c.settle.ensures.is))

pub returns-else-made-gt0-clause-went : goal.returns-else-made-gt0-clause-went
returns-else-made-gt0-clause-went c =
    let p = c.args.prepared.now in
    let none : c.run-made.result ≡ 0 = omega (arith, c.if-made-gt0.false) in
    ap (went (image_setting p.pages p.code c.args.ranges.now) (processor_of c.args.self.now)) none

pub returns-else-made-gt0-clause-stops : goal.returns-else-made-gt0-clause-stops
returns-else-made-gt0-clause-stops c = λ few within nothing.
    let p = c.args.prepared.now in
    let s = image_setting p.pages p.code c.args.ranges.now in
    let k = c.args.self.now in
    let made = c.run-made in
    let of = c.self.view_is in
    let budget : c.self.inside.budget ≡ k.budget = ap (λ (x : ProcessorValue). x.budget) of in
    let steps : c.self.inside.steps ≡ k.steps = ap (λ (x : ProcessorValue). x.steps) of in
    let least : c.min-most.result ≡ min c.args.most (c.self.inside.budget - c.self.inside.steps) = c.min-most.ensures in
    let none : made.result ≡ 0 = omega (arith, c.if-made-gt0.false) in
    let goes : Goes s k.thread k.boundary c.in-Some.course made.new.self 0 =
    subst (λ n. Goes s k.thread k.boundary c.in-Some.course made.new.self n) none
    (subst (λ (x : ProcessorValue). Goes s x.thread x.boundary c.in-Some.course made.new.self made.result) of made.ensures.goes) in
    c.in-Some.ensures.local
    ∙ ap (goes_on_locally s k.thread) (stood s k.thread k.boundary c.in-Some.course made.new.self goes)
    ∙ subst (λ (x : ProcessorValue). goes_on_locally s x.thread (state_of made.new.self.cpu) ≡ false) of (made.ensures.stops (omega (arith, none, few, within, budget, steps, least)))
