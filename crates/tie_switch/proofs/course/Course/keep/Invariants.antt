-- The landings so far; each round makes a step.
use Rattle.std.proofs.Common.{◌≡◌, ℕ, ◌<◌, ◌≤◌, ◌-◌, ◌+◌, []}
use Rattle.tie_switch.specs.Courses.{Goes, HasOpcode}
use Rattle.tie_switch.specs.Keeps.{Rounds}
use Rattle.tie_switch.specs.Settings.{image_setting}
use Rattle.tie_switch.specs.declared.course.TheConstants.{MOST_IN_A_ROW}
use Rattle.vax_form.specs.declared.state.Pending.TheVariants.{Nothing}
use Rattle.vax_form.specs.declared.state.VaxState.{VaxState}
use Rattle.tie_switch.proofs.course.Course.keep.Given as goal

abbrev pub invariant-loop-made : goal.invariant-loop-made
invariant-loop-made g l = record {
  most : l.made ≤ l.most;
  row : l.row < MOST_IN_A_ROW;
  rounds : Rounds l.prepared l.most l.initial.self.cpu l.self.cpu l.made l.row;
  held : l.self.held ≡ l.initial.self.held;
  opcode : HasOpcode l.prepared.pages l.self.landed;
  retired : l.self.retired ≤ l.initial.self.retired + l.made;
  goes : (thread : ℕ) (before : VaxState) → before.pending ≡ Nothing → Goes (image_setting l.prepared.pages l.prepared.code []) thread before l.initial.self l.self l.made;
}

abbrev pub decreases-loop-made : goal.decreases-loop-made
decreases-loop-made g l = l.most - l.made
