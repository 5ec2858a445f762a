-- Through a block, or up to a probe and over it.
use Rattle.std.proofs.Common.{◌+◌, [], false, true, refl, sym, ap, ◌∙◌, subst, arith}
use Rattle.alpha_machine.specs.declared.cpu.Cpu.{Cpu}
use Rattle.tie_switch.specs.Courses.{Goes}
use Rattle.tie_switch.specs.Keeps.{IsKept, Lands, Spends, Probes, Ends, row_behind}
use Rattle.tie_switch.specs.Settings.{image_setting}
use Rattle.tie_switch.specs.declared.course.Course.{Course}
use Rattle.tie_switch.proofs.Courses.{goes_inside, goes_more, goes_over}
use Rattle.tie_switch.proofs.course.Course.keep_one.Goals as goal

pub returns-in-Ok-clause-goes : goal.returns-in-Ok-clause-goes
returns-in-Ok-clause-goes g c = λ thread before nothing.
    let p = c.args.prepared.now in
    let s = image_setting p.pages p.code [] in
    let old = c.args.self.now in
    subst (λ (x : Course). Goes s thread before old (record x { retired = x.retired + 1 }) c.in-Ok.steps) (sym c.note_there.ensures.is)
    (goes_over s p.pages old c.cross.new.cpu c.in-Ok.steps c.steps_are_turns.ensures c.landings_are_turns.ensures refl c.requires.plain c.in-Ok.ensures.crosses.1 thread before nothing)

pub returns-then-steps-most-clause-goes : goal.returns-then-steps-most-clause-goes
returns-then-steps-most-clause-goes g c = λ thread before nothing.
    let p = c.args.prepared.now in
    goes_inside (image_setting p.pages p.code []) thread before c.args.self.now c.cross.new.cpu c.in-Err.steps c.steps_are_turns.ensures c.in-Err.ensures.rests.ran

pub returns-then-probe-clause-goes : goal.returns-then-probe-clause-goes
returns-then-probe-clause-goes g c = λ thread before nothing.
    let p = c.args.prepared.now in
    let old = c.args.self.now in
    let mid : Course = record old { cpu = c.cross.new.cpu } in
    goes_more (image_setting p.pages p.code []) thread before old mid c.probe.new.self c.in-Err.steps 1
    (goes_inside (image_setting p.pages p.code []) thread before old c.cross.new.cpu c.in-Err.steps c.steps_are_turns.ensures c.in-Err.ensures.rests.ran)
    (c.probe.ensures.passes c.if-probe.true [] thread before)

pub returns-else-probe-clause-goes : goal.returns-else-probe-clause-goes
returns-else-probe-clause-goes g c = λ thread before nothing.
    let p = c.args.prepared.now in
    let old = c.args.self.now in
    subst (λ (x : Course). Goes (image_setting p.pages p.code []) thread before old x c.in-Err.steps) (sym (c.probe.ensures.stays c.if-probe.false))
    (goes_inside (image_setting p.pages p.code []) thread before old c.cross.new.cpu c.in-Err.steps c.steps_are_turns.ensures c.in-Err.ensures.rests.ran)

pub returns-in-Ok-clause-keeps : goal.returns-in-Ok-clause-keeps
returns-in-Ok-clause-keeps g c =
    let p = c.args.prepared.now in
    let there = ap (λ (x : Course). x.cpu) c.note_there.ensures.is in
    let row = c.guessed_in_a_row.ensures ∙ ap (λ (x : Cpu). row_behind p.code x c.args.row) there in
    subst (λ (x : Cpu). IsKept p c.args.most c.args.row c.args.self.now.cpu x (c.in-Ok.steps, c.guessed_in_a_row.result, false)) (sym there)
    (subst (λ r. IsKept p c.args.most c.args.row c.args.self.now.cpu c.cross.new.cpu (c.in-Ok.steps, r, false)) (sym row)
    (Lands (sym c.in-Ok.ensures.just) c.in-Ok.ensures.crosses.1))

pub returns-then-steps-most-clause-keeps : goal.returns-then-steps-most-clause-keeps
returns-then-steps-most-clause-keeps g c = Spends (sym c.in-Err.ensures.just) c.in-Err.ensures.rests c.if-steps-most.true

pub returns-then-probe-clause-keeps : goal.returns-then-probe-clause-keeps
returns-then-probe-clause-keeps g c =
    let p = c.args.prepared.now in
    let few = c.in-Err.ensures.rests.few in
    subst (λ (x : Cpu). IsKept p c.args.most c.args.row c.args.self.now.cpu x (c.in-Err.steps + 1, c.args.row, false)) (sym (c.probe.ensures.there c.if-probe.true))
    (Probes (sym c.in-Err.ensures.just) c.in-Err.ensures.rests (omega (arith, few, c.if-steps-most.false)) (sym c.probe.ensures.just ∙ c.if-probe.true))

pub returns-else-probe-clause-keeps : goal.returns-else-probe-clause-keeps
returns-else-probe-clause-keeps g c =
    let p = c.args.prepared.now in
    let few = c.in-Err.ensures.rests.few in
    subst (λ (x : Course). IsKept p c.args.most c.args.row c.args.self.now.cpu x.cpu (c.in-Err.steps, c.args.row, true)) (sym (c.probe.ensures.stays c.if-probe.false))
    (Ends (sym c.in-Err.ensures.just) c.in-Err.ensures.rests (omega (arith, few, c.if-steps-most.false)) (sym c.probe.ensures.just ∙ c.if-probe.false))
