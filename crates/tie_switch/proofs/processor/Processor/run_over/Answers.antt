-- Local steps, and then each time an access and the local steps behind it.
use Rattle.std.proofs.Common.{◌≡◌, ◌+◌, ◌-◌, ◌<◌, ◌≤◌, false, Some, refl, sym, ap, ◌∙◌, subst, arith}
use Rattle.alpha_machine.specs.Step.{state_of}
use Rattle.memory_core.specs.Limits.{CountsPuts}
use Rattle.memory_core.specs.declared.entry.SetUp.{SetUp}
use Rattle.prepared_code.specs.Asks.{asks_inside}
use Rattle.prepared_code.specs.Probes.{passes}
use Rattle.system_model.specs.Legal.{spent}
use Rattle.system_model.specs.Processors.{turn}
use Rattle.tie_switch.specs.Asks.{HasCourseStep}
use Rattle.tie_switch.specs.Courses.{Goes, HasOpcode, course_of}
use Rattle.tie_switch.specs.Inside.{goes_on_locally}
use Rattle.tie_switch.specs.ManyTurns.{IsTurns, MayCome, NoAccess}
use Rattle.tie_switch.specs.Processors.{ProcessorValue, processor_of}
use Rattle.tie_switch.specs.Seen.{setting_of}
use Rattle.tie_switch.specs.Settings.{image_setting}
use Rattle.tie_switch.specs.Turns.{Makes}
use Rattle.tie_switch.specs.declared.course.Course.{Course}
use Rattle.tie_switch.proofs.Advances.{behind_turn, both}
use Rattle.tie_switch.proofs.Along.{Came, came_by, came_counted, came_nowhere, came_on, came_step, goes_prepared}
use Rattle.tie_switch.proofs.processor.Processor.run_over.Goals as goal

pub loop-made-init : goal.loop-made-init
loop-made-init g c =
    let k = c.args.self.now in
    let first = c.args.memory.now in
    record {
      most = omega arith;
      set_up = refl;
      behind = NoAccess;
      serves = λ thread. (λ a. a, λ a. a);
      read = λ none. refl;
      opcode = c.requires.opcode;
      retired = omega arith;
      came =
          came_nowhere (setting_of c.args.setting) (g.M.Memory.set_up first) (MayCome g.M.Memory.same g.M.Memory.between first) k (g.M.Memory.seen first) c.args.course.now c.requires.stands;
    }

pub run-made-requires-clause-room : goal.run-made-requires-clause-room
run-made-requires-clause-room g c = omega (arith, c.requires.retired, c.requires.room, c.loop-made.invariant.retired, c.loop-made-test.true)

pub access-requires-clause-has_step : goal.access-requires-clause-has_step
access-requires-clause-has_step g c =
    let p = c.args.prepared.now in
    let k = c.args.self.now in
    let s = setting_of c.args.setting in
    let first = c.args.memory.now in
    let u = g.M.Memory.set_up first in
    let may = MayCome g.M.Memory.same g.M.Memory.between first in
    let seen = g.M.Memory.seen first in
    let l = c.loop-made in
    let kept = l.invariant in
    let ran = c.run-made in
    let here = l.made + ran.result in
    let goes : Goes s k.thread k.boundary l.course ran.new.self ran.result =
    goes_prepared p.pages c.args.setting.pages.now p.code c.args.setting.code.now c.args.setting.ranges.now k.thread k.boundary l.course ran.new.self ran.result c.requires.code c.requires.image
    (subst (λ (x : ProcessorValue). Goes (image_setting p.pages p.code c.args.setting.ranges.now) x.thread x.boundary l.course ran.new.self ran.result) c.self.view_is ran.ensures.goes) in
    let few : k.steps + here ≤ k.budget = omega (arith, ran.ensures.most, kept.most, c.requires.steps) in
    let there : Came s u may k seen here ran.new.self (g.M.Memory.seen l.memory) =
    came_on s u may k seen l.made ran.result l.course ran.new.self (g.M.Memory.seen l.memory) kept.came goes few in
    let within : here < c.args.most = omega (arith, ran.ensures.most, kept.most, c.if-made-most.false) in
    subst (λ (x : ProcessorValue). HasCourseStep (setting_of c.args.setting) (g.M.Memory.set_up l.memory) x.thread ran.new.self) (sym c.self.view_is)
    (came_step s u may k seen (g.M.Memory.set_up l.memory) c.args.most here ran.new.self (g.M.Memory.seen l.memory) c.requires.has_steps c.requires.plain there within kept.set_up)

pub loop-made-preserved : goal.loop-made-preserved
loop-made-preserved g c =
    let p = c.args.prepared.now in
    let k = c.args.self.now in
    let s = setting_of c.args.setting in
    let first = c.args.memory.now in
    let u = g.M.Memory.set_up first in
    let may = MayCome g.M.Memory.same g.M.Memory.between first in
    let seen = g.M.Memory.seen first in
    let l = c.loop-made in
    let kept = l.invariant in
    let ran = c.run-made in
    let here = l.made + ran.result in
    let goes : Goes s k.thread k.boundary l.course ran.new.self ran.result =
    goes_prepared p.pages c.args.setting.pages.now p.code c.args.setting.code.now c.args.setting.ranges.now k.thread k.boundary l.course ran.new.self ran.result c.requires.code c.requires.image
    (subst (λ (x : ProcessorValue). Goes (image_setting p.pages p.code c.args.setting.ranges.now) x.thread x.boundary l.course ran.new.self ran.result) c.self.view_is ran.ensures.goes) in
    let few : k.steps + here ≤ k.budget = omega (arith, ran.ensures.most, kept.most, c.requires.steps) in
    let there : Came s u may k seen here ran.new.self (g.M.Memory.seen l.memory) =
    came_on s u may k seen l.made ran.result l.course ran.new.self (g.M.Memory.seen l.memory) kept.came goes few in
    let within : here < c.args.most = omega (arith, ran.ensures.most, kept.most, c.if-made-most.false) in
    let access = c.access in
    let mid = g.M.Memory.seen access.new.memory in
    let makes = access.ensures.made (c.in-Some-Went.is ∙ ap Some c.in-Some-Went.field-0-is) k.boundary k.interpreted (k.steps + here) in
    let made : Makes (turn s (course_of k.thread k.boundary k.interpreted ran.new.self (k.steps + here))) (g.M.Memory.set_up l.memory) (g.M.Memory.between l.memory)
    (course_of k.thread k.boundary k.interpreted ran.new.self (k.steps + here)) (course_of k.thread k.boundary k.interpreted access.new.self (k.steps + here + 1)) (g.M.Memory.seen l.memory) mid =
    subst (λ (x : ProcessorValue). Makes (turn s (course_of x.thread k.boundary k.interpreted ran.new.self (k.steps + here))) (g.M.Memory.set_up l.memory) (g.M.Memory.between l.memory)
    (course_of x.thread k.boundary k.interpreted ran.new.self (k.steps + here)) (course_of x.thread k.boundary k.interpreted access.new.self (k.steps + here + 1)) (g.M.Memory.seen l.memory) mid)
    c.self.view_is makes in
    let less : k.steps + here < k.budget = omega (arith, c.requires.steps, within) in
    let behind =
    came_by s u may k seen (g.M.Memory.set_up l.memory) (g.M.Memory.between l.memory) here ran.new.self (course_of k.thread k.boundary k.interpreted access.new.self (k.steps + here + 1))
    (g.M.Memory.seen l.memory) mid there less (λ entries come. record { memory = l.memory; behind = kept.behind; comes = come }) kept.set_up made in
    let count : k.steps + here + 1 ≡ k.steps + (here + 1) = omega arith in
    record {
      most = omega (arith, within);
      set_up = access.ensures.set_up ∙ kept.set_up;
      behind = behind_turn g.M.Memory.same first l.memory access.new.memory kept.behind access.ensures.place;
      serves = λ thread. both (kept.serves thread) (access.ensures.serves thread);
      read = λ none. access.ensures.read (λ entries come. none entries (record { memory = l.memory; behind = kept.behind; comes = come })) ∙ kept.read none;
      opcode = subst (HasOpcode p.pages) (sym access.ensures.landed) ran.ensures.opcode;
      retired = omega (arith, ran.ensures.retired, access.ensures.retired, kept.retired);
      came = came_counted s u may k seen (here + 1) access.new.self (k.steps + here + 1) mid count behind;
    }

pub returns-then-made-most-clause-went : goal.returns-then-made-most-clause-went
returns-then-made-most-clause-went g c = λ _.
    let p = c.args.prepared.now in
    let k = c.args.self.now in
    let s = setting_of c.args.setting in
    let first = c.args.memory.now in
    let u = g.M.Memory.set_up first in
    let may = MayCome g.M.Memory.same g.M.Memory.between first in
    let seen = g.M.Memory.seen first in
    let l = c.loop-made in
    let kept = l.invariant in
    let ran = c.run-made in
    let here = l.made + ran.result in
    let goes : Goes s k.thread k.boundary l.course ran.new.self ran.result =
    goes_prepared p.pages c.args.setting.pages.now p.code c.args.setting.code.now c.args.setting.ranges.now k.thread k.boundary l.course ran.new.self ran.result c.requires.code c.requires.image
    (subst (λ (x : ProcessorValue). Goes (image_setting p.pages p.code c.args.setting.ranges.now) x.thread x.boundary l.course ran.new.self ran.result) c.self.view_is ran.ensures.goes) in
    let few : k.steps + here ≤ k.budget = omega (arith, ran.ensures.most, kept.most, c.requires.steps) in
    let there : Came s u may k seen here ran.new.self (g.M.Memory.seen l.memory) =
    came_on s u may k seen l.made ran.result l.course ran.new.self (g.M.Memory.seen l.memory) kept.came goes few in
    there

pub returns-in-Some-Ended-clause-place : goal.returns-in-Some-Ended-clause-place
returns-in-Some-Ended-clause-place g c =
    behind_turn g.M.Memory.same c.args.memory.now c.loop-made.memory c.access.new.memory c.loop-made.invariant.behind c.access.ensures.place

pub returns-in-Some-Ended-clause-ended : goal.returns-in-Some-Ended-clause-ended
returns-in-Some-Ended-clause-ended g c = λ ended.
    let p = c.args.prepared.now in
    let k = c.args.self.now in
    let s = setting_of c.args.setting in
    let first = c.args.memory.now in
    let u = g.M.Memory.set_up first in
    let may = MayCome g.M.Memory.same g.M.Memory.between first in
    let seen = g.M.Memory.seen first in
    let l = c.loop-made in
    let kept = l.invariant in
    let ran = c.run-made in
    let here = l.made + ran.result in
    let goes : Goes s k.thread k.boundary l.course ran.new.self ran.result =
    goes_prepared p.pages c.args.setting.pages.now p.code c.args.setting.code.now c.args.setting.ranges.now k.thread k.boundary l.course ran.new.self ran.result c.requires.code c.requires.image
    (subst (λ (x : ProcessorValue). Goes (image_setting p.pages p.code c.args.setting.ranges.now) x.thread x.boundary l.course ran.new.self ran.result) c.self.view_is ran.ensures.goes) in
    let few : k.steps + here ≤ k.budget = omega (arith, ran.ensures.most, kept.most, c.requires.steps) in
    let there : Came s u may k seen here ran.new.self (g.M.Memory.seen l.memory) =
    came_on s u may k seen l.made ran.result l.course ran.new.self (g.M.Memory.seen l.memory) kept.came goes few in
    let within : here < c.args.most = omega (arith, ran.ensures.most, kept.most, c.if-made-most.false) in
    let access = c.access in
    let is = c.in-Some-Ended.is ∙ ap Some c.in-Some-Ended.field-0-is in
    let last = g.M.Memory.seen access.new.memory in
    let full = access.ensures.full is k.boundary k.interpreted (k.steps + here) in
    let makes : Makes (turn s (course_of k.thread k.boundary k.interpreted ran.new.self (k.steps + here))) (g.M.Memory.set_up l.memory) (g.M.Memory.between l.memory)
    (course_of k.thread k.boundary k.interpreted ran.new.self (k.steps + here)) (spent (course_of k.thread k.boundary k.interpreted ran.new.self (k.steps + here))) (g.M.Memory.seen l.memory) last =
    subst (λ (x : ProcessorValue). Makes (turn s (course_of x.thread k.boundary k.interpreted ran.new.self (k.steps + here))) (g.M.Memory.set_up l.memory) (g.M.Memory.between l.memory)
    (course_of x.thread k.boundary k.interpreted ran.new.self (k.steps + here)) (spent (course_of x.thread k.boundary k.interpreted ran.new.self (k.steps + here))) (g.M.Memory.seen l.memory) last)
    c.self.view_is full in
    let less : k.steps + here < k.budget = omega (arith, c.requires.steps, within) in
    subst (λ (x : Course). IsTurns s u may k.budget (processor_of k) seen (here + 1) (spent (course_of k.thread k.boundary k.interpreted x (k.steps + here))) last) (sym (access.ensures.ended is))
    (came_by s u may k seen (g.M.Memory.set_up l.memory) (g.M.Memory.between l.memory) here ran.new.self (spent (course_of k.thread k.boundary k.interpreted ran.new.self (k.steps + here)))
    (g.M.Memory.seen l.memory) last there less (λ entries come. record { memory = l.memory; behind = kept.behind; comes = come }) kept.set_up makes)

pub returns-in-Some-Ended-clause-read : goal.returns-in-Some-Ended-clause-read
returns-in-Some-Ended-clause-read g c none =
    let l = c.loop-made in
    c.access.ensures.read (λ entries come. none entries (record { memory = l.memory; behind = l.invariant.behind; comes = come })) ∙ l.invariant.read none

pub returns-in-Some-Ended-clause-allowed : goal.returns-in-Some-Ended-clause-allowed
returns-in-Some-Ended-clause-allowed g c puts =
    absurd (c.access.ensures.allowed (subst (λ (u : SetUp). CountsPuts u.limit) (sym c.loop-made.invariant.set_up) puts) (c.in-Some-Ended.is ∙ ap Some c.in-Some-Ended.field-0-is))

pub returns-in-None-clause-went : goal.returns-in-None-clause-went
returns-in-None-clause-went g c = λ _.
    let p = c.args.prepared.now in
    let k = c.args.self.now in
    let s = setting_of c.args.setting in
    let first = c.args.memory.now in
    let u = g.M.Memory.set_up first in
    let may = MayCome g.M.Memory.same g.M.Memory.between first in
    let seen = g.M.Memory.seen first in
    let l = c.loop-made in
    let kept = l.invariant in
    let ran = c.run-made in
    let here = l.made + ran.result in
    let goes : Goes s k.thread k.boundary l.course ran.new.self ran.result =
    goes_prepared p.pages c.args.setting.pages.now p.code c.args.setting.code.now c.args.setting.ranges.now k.thread k.boundary l.course ran.new.self ran.result c.requires.code c.requires.image
    (subst (λ (x : ProcessorValue). Goes (image_setting p.pages p.code c.args.setting.ranges.now) x.thread x.boundary l.course ran.new.self ran.result) c.self.view_is ran.ensures.goes) in
    let few : k.steps + here ≤ k.budget = omega (arith, ran.ensures.most, kept.most, c.requires.steps) in
    let there : Came s u may k seen here ran.new.self (g.M.Memory.seen l.memory) =
    came_on s u may k seen l.made ran.result l.course ran.new.self (g.M.Memory.seen l.memory) kept.came goes few in
    let stays = c.in-None.ensures.stays in
    subst (λ h. Came s u may k seen here c.access.new.self h) (ap g.M.Memory.seen (sym stays.1))
    (subst (λ (x : Course). Came s u may k seen here x (g.M.Memory.seen l.memory)) (sym stays.0) there)

pub returns-in-None-clause-rests : goal.returns-in-None-clause-rests
returns-in-None-clause-rests g c = λ went l.
    let p = c.args.prepared.now in
    let same = c.in-None.ensures.stays.0 in
    let ran = c.run-made in
    let few : ran.result < c.args.most - c.loop-made.made = omega (arith, l, c.loop-made.invariant.most) in
    let local =
    subst (λ (x : ProcessorValue). goes_on_locally (image_setting p.pages p.code c.args.setting.ranges.now) x.thread (state_of ran.new.self.cpu) ≡ false) c.self.view_is (ran.ensures.stops few) in
    record {
      local = subst (λ (x : Course). goes_on_locally (image_setting p.pages p.code c.args.setting.ranges.now) c.args.self.now.thread (state_of x.cpu) ≡ false) (sym same) local;
      probe = subst (λ (x : Course). passes p (state_of x.cpu) ≡ false) (sym same) (ran.ensures.probes few);
      access = subst (λ (x : Course). asks_inside p (state_of x.cpu) ≡ false) (sym same) (sym c.in-None.ensures.just);
    }
