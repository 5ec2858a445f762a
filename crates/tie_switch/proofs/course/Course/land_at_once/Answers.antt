-- A word of which no local step is made leads to no block.
use Rattle.tie_switch.specs.Settings.{image_setting}
use Rattle.alpha_machine.specs.Step.{state_of}
use Rattle.tie_switch.proofs.Stopping.{stuck}
use Rattle.tie_switch.proofs.course.Course.land_at_once.Goals as goal

pub returns-then-stops_at-clause-stops : goal.returns-then-stops_at-clause-stops
returns-then-stops_at-clause-stops c = λ _.
    let p = c.args.prepared.now in
    stuck (image_setting p.pages p.code c.args.ranges.now) c.args.thread p.pages (state_of c.args.self.now.cpu) c.requires.inside (c.stops_at.ensures.none c.if-stops_at.true)
