-- The turns so far, and what they read.
use Rattle.std.proofs.Common.{◌≡◌, ◌≤◌, ◌+◌, ◌-◌, false}
use Rattle.memory_core.specs.Limits.{CountsPuts}
use Rattle.system_model.specs.Processors.{Processor}
use Rattle.tie_switch.specs.Known.{AreFound}
use Rattle.tie_switch.specs.Live.{AreNone, HasRead, IsSameMemory, is_spent}
use Rattle.tie_switch.specs.Processors.{HasAdvanced, StandsFor, processor_of}
use Rattle.tie_switch.specs.Seen.{setting_of}
use Rattle.tie_switch.proofs.processor.Processor.advance_waiting.Given as goal

abbrev pub invariant-loop-made : goal.invariant-loop-made
invariant-loop-made l = record {
  known : AreFound l.setting.pages.now l.known;
  most : l.made ≤ l.most;
  memory : IsSameMemory l.fn.memory l.memory;
  budget : l.self.budget ≡ l.fn.self.budget;
  thread : l.self.thread ≡ l.fn.self.thread;
  steps : l.self.steps ≡ l.fn.self.steps + l.made;
  few_steps : l.self.steps ≤ l.self.budget;
  puts : CountsPuts l.memory.contents.set_up.limit;
  read : l.input_ended ≡ false → HasRead l.fn.memory.contents → HasRead l.memory.contents;
  unspent : is_spent (processor_of l.fn.self).mode ≡ false → is_spent (processor_of l.self).mode ≡ false;
  turned : (p : Processor) → StandsFor l.setting.pages.now l.fn.self p
      → HasAdvanced (setting_of l.setting) l.fn.memory.contents.set_up AreNone l.fn.self.budget p l.made l.self l.fn.memory.contents.history l.memory.contents.history;
}

abbrev pub decreases-loop-made : goal.decreases-loop-made
decreases-loop-made l = l.most - l.made
