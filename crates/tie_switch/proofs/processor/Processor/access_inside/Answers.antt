-- The access on its course is its turn.
use Rattle.std.proofs.Common.{◌≡◌, ◌+◌, Some, sym, ap, ◌∙◌, subst}
use Rattle.system_model.specs.Legal.{spent}
use Rattle.system_model.specs.Processors.{Processor, turn}
use Rattle.tie_switch.specs.Courses.{course_of}
use Rattle.tie_switch.specs.Processors.{CanStep, ProcessorValue, StandsFor, processor_of}
use Rattle.tie_switch.specs.Seen.{setting_of}
use Rattle.tie_switch.specs.Turns.{Makes}
use Rattle.tie_switch.proofs.Standing.{plain_is, plain_stands}
use Rattle.tie_switch.proofs.processor.Processor.access_inside.Goals as goal

pub access-requires-clause-has_step : goal.access-requires-clause-has_step
access-requires-clause-has_step g c =
    let k = c.args.self.now in
    let h = c.requires.has_step in
    let set_up = g.M.Memory.set_up c.args.memory.now in
    let there : h.processor ≡ course_of k.thread k.boundary k.interpreted c.in-Some.course k.steps =
    plain_is c.args.setting.pages.now k h.processor c.in-Some.ensures.plain h.stands ∙ sym c.in-Some.ensures.is in
    record {
      before = k.boundary;
      interpreted = k.interpreted;
      steps = k.steps;
      can =
          subst (λ n. CanStep (setting_of c.args.setting) set_up (course_of n k.boundary k.interpreted c.in-Some.course k.steps)) (sym (ap (λ (x : ProcessorValue). x.thread) c.self.view_is))
          (subst (CanStep (setting_of c.args.setting) set_up) there h.can);
    }

pub returns-in-Went-clause-turned : goal.returns-in-Went-clause-turned
returns-in-Went-clause-turned g c p stands =
    let s = setting_of c.args.setting in
    let k = c.args.self.now in
    let first = c.args.memory.now in
    let set_up = g.M.Memory.set_up first in
    let between = g.M.Memory.between first in
    let seen = g.M.Memory.seen first in
    let seen' = g.M.Memory.seen c.access.new.memory in
    let there : p ≡ course_of k.thread k.boundary k.interpreted c.in-Some.course k.steps =
    plain_is c.args.setting.pages.now k p c.in-Some.ensures.plain stands ∙ sym c.in-Some.ensures.is in
    let made = c.access.ensures.made (c.in_ok-turn.was ∙ ap Some c.in-Went.is) k.boundary k.interpreted k.steps in
    let q = processor_of c.settle.new.self in
    record {
      processor = q;
      stands = plain_stands c.args.setting.pages.now c.settle.new.self c.settle.ensures.plain;
      makes =
          subst (λ (x : Processor). Makes (turn s x) set_up between x q seen seen') (sym there)
          (subst (λ (x : Processor). Makes (turn s (course_of k.thread k.boundary k.interpreted c.in-Some.course k.steps)) set_up between
          (course_of k.thread k.boundary k.interpreted c.in-Some.course k.steps) x seen seen') (sym c.settle.ensures.is)
          (subst (λ n. Makes (turn s (course_of n k.boundary k.interpreted c.in-Some.course k.steps)) set_up between
          (course_of n k.boundary k.interpreted c.in-Some.course k.steps) (course_of n k.boundary k.interpreted c.access.new.self (k.steps + 1)) seen seen')
          (ap (λ (x : ProcessorValue). x.thread) c.self.view_is) made));
    }

pub returns-in-Ended-clause-turned : goal.returns-in-Ended-clause-turned
returns-in-Ended-clause-turned g c p stands =
    let s = setting_of c.args.setting in
    let k = c.args.self.now in
    let first = c.args.memory.now in
    let set_up = g.M.Memory.set_up first in
    let between = g.M.Memory.between first in
    let seen = g.M.Memory.seen first in
    let seen' = g.M.Memory.seen c.access.new.memory in
    let there : p ≡ course_of k.thread k.boundary k.interpreted c.in-Some.course k.steps =
    plain_is c.args.setting.pages.now k p c.in-Some.ensures.plain stands ∙ sym c.in-Some.ensures.is in
    let made = c.access.ensures.full (c.in_ok-turn.was ∙ ap Some c.in-Ended.is) k.boundary k.interpreted k.steps in
    record {
      processor = spent p;
      stands = subst (λ (x : Processor). StandsFor c.args.setting.pages.now c.spend.new.self (spent x)) (sym stands.same) (c.spend.ensures.stands c.args.setting.pages.now p.mode);
      makes =
          subst (λ (x : Processor). Makes (turn s x) set_up between x (spent x) seen seen') (sym there)
          (subst (λ n. Makes (turn s (course_of n k.boundary k.interpreted c.in-Some.course k.steps)) set_up between
          (course_of n k.boundary k.interpreted c.in-Some.course k.steps) (spent (course_of n k.boundary k.interpreted c.in-Some.course k.steps)) seen seen')
          (ap (λ (x : ProcessorValue). x.thread) c.self.view_is) made);
    }
