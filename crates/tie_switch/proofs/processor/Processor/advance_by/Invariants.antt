-- The turns so far, and the memory that they lead to.
use Rattle.std.proofs.Common.{◌≡◌, ℕ, ◌≤◌, ◌+◌, ◌-◌, ◌↔◌}
use Rattle.system_model.specs.Processors.{Processor}
use Rattle.tie_switch.specs.Known.{AreFound}
use Rattle.tie_switch.specs.ManyTurns.{IsBehind, MayCome}
use Rattle.tie_switch.specs.Processors.{HasAdvanced, StandsFor}
use Rattle.tie_switch.specs.Seen.{setting_of}
use Rattle.tie_switch.proofs.processor.Processor.advance_by.Given as goal

abbrev pub invariant-loop-made : goal.invariant-loop-made
invariant-loop-made g l = record {
  known : AreFound l.setting.pages.now l.known;
  most : l.made ≤ l.most;
  set_up : g.M.Memory.set_up l.memory ≡ g.M.Memory.set_up l.fn.memory;
  behind : IsBehind g.M.Memory.same l.fn.memory l.memory;
  serves : (thread : ℕ) → g.M.Memory.serves l.fn.memory thread ↔ g.M.Memory.serves l.memory thread;
  budget : l.self.budget ≡ l.fn.self.budget;
  thread : l.self.thread ≡ l.fn.self.thread;
  steps : l.self.steps ≡ l.fn.self.steps + l.made;
  few_steps : l.self.steps ≤ l.self.budget;
  turned : (p : Processor) → StandsFor l.setting.pages.now l.fn.self p
      → HasAdvanced (setting_of l.setting) (g.M.Memory.set_up l.fn.memory) (MayCome g.M.Memory.same g.M.Memory.between l.fn.memory) l.fn.self.budget p l.made l.self
      (g.M.Memory.seen l.fn.memory) (g.M.Memory.seen l.memory);
}

abbrev pub decreases-loop-made : goal.decreases-loop-made
decreases-loop-made g l = l.most - l.made
