-- The turns so far, and the memory that they lead to.
use Rattle.std.proofs.Common.{◌≡◌, ℕ, ◌≤◌, ◌+◌, ◌-◌, ◌↔◌}
use Rattle.tie_switch.specs.Courses.{HasOpcode}
use Rattle.tie_switch.specs.Live.{KeepsRead}
use Rattle.tie_switch.specs.ManyTurns.{IsBehind, MayCome}
use Rattle.tie_switch.specs.Seen.{setting_of}
use Rattle.tie_switch.proofs.Along.{Came}
use Rattle.tie_switch.proofs.processor.Processor.run_over.Given as goal

abbrev pub invariant-loop-made : goal.invariant-loop-made
invariant-loop-made g l = record {
  most : l.made ≤ l.most;
  set_up : g.M.Memory.set_up l.memory ≡ g.M.Memory.set_up l.fn.memory;
  behind : IsBehind g.M.Memory.same l.fn.memory l.memory;
  serves : (thread : ℕ) → g.M.Memory.serves l.fn.memory thread ↔ g.M.Memory.serves l.memory thread;
  read : KeepsRead (MayCome g.M.Memory.same g.M.Memory.between l.fn.memory) (g.M.Memory.seen l.fn.memory) (g.M.Memory.seen l.memory);
  opcode : HasOpcode l.prepared.pages l.course.landed;
  retired : l.course.retired ≤ l.fn.course.retired + l.made;
  came : Came (setting_of l.setting) (g.M.Memory.set_up l.fn.memory) (MayCome g.M.Memory.same g.M.Memory.between l.fn.memory) l.self (g.M.Memory.seen l.fn.memory) l.made l.course
      (g.M.Memory.seen l.memory);
}

abbrev pub decreases-loop-made : goal.decreases-loop-made
decreases-loop-made g l = l.most - l.made
