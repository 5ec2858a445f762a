-- The steps so far; each round makes one.
use Rattle.std.proofs.Common.{◌≤◌, ◌-◌, ◌+◌}
use Rattle.tie_switch.specs.Courses.{Goes, HasOpcode}
use Rattle.tie_switch.specs.Settings.{image_setting}
use Rattle.tie_switch.proofs.course.Course.run.Given as goal

abbrev pub invariant-loop-made : goal.invariant-loop-made
invariant-loop-made g l = record {
  most : l.made ≤ l.most;
  goes : Goes (image_setting l.prepared.pages l.prepared.code l.ranges) l.thread l.before l.initial.self l.self l.made;
  opcode : HasOpcode l.prepared.pages l.self.landed;
  retired : l.self.retired ≤ l.initial.self.retired + l.made;
}

abbrev pub decreases-loop-made : goal.decreases-loop-made
decreases-loop-made g l = l.most - l.made
