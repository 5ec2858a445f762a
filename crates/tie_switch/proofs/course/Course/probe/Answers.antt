-- It goes on behind the probe.
use Rattle.std.proofs.Common.{◌+◌, refl}
use Rattle.tie_switch.specs.Settings.{image_setting}
use Rattle.tie_switch.proofs.Courses.{goes_behind_probe}
use Rattle.tie_switch.proofs.course.Course.probe.Goals as goal

pub returns-then-passes-clause-passes : goal.returns-then-passes-clause-passes
returns-then-passes-clause-passes g c = λ _ ranges thread before.
    let p = c.args.prepared.now in
    let cpu = c.args.self.now.cpu in
    goes_behind_probe (image_setting p.pages p.code ranges) thread before c.args.self.now (record cpu { pc = cpu.pc + 1 }) c.probes_are_turns.ensures (c.passes.ensures.passes c.if-passes.true) refl
