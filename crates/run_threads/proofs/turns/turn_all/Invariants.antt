use Rattle.std.proofs.Common.{◌≡◌, ◌+◌, ◌-◌, if◌then◌else◌}
use Rattle.shared_memory.specs.Passes.{set_up_of}
use Rattle.shared_memory.specs.Ways.{IsWayOf, seen_by}
use Rattle.tie_switch.specs.Known.{AreFound}
use Rattle.tie_switch.specs.Processors.{processor_of}
use Rattle.tie_switch.specs.Turns.{has_ended}
use Rattle.run_threads.specs.Processors.{IsUnderWay}
use Rattle.run_threads.specs.Programs.{setting_of}
use Rattle.run_threads.proofs.turns.turn_all.Given as goal

abbrev pub invariant-loop-image : goal.invariant-loop-image
invariant-loop-image g l = record {
  memory : l.port.memory.now ≡ l.fn.memory;
  known : AreFound l.fn.program.image.now.pages l.known;
  lease : IsWayOf l.fn.memory l.processor.thread l.port.way;
  thread : l.processor.thread ≡ l.fn.processor.thread;
  budget : l.processor.budget ≡ l.fn.processor.budget;
  way : IsUnderWay (setting_of l.fn.program) (set_up_of l.fn.memory) (seen_by l.port.way) l.processor;
}

-- once it has ended, no round is left
abbrev pub decreases-loop-image : goal.decreases-loop-image
decreases-loop-image g l = if has_ended (processor_of l.processor).mode then 0 else l.processor.budget - l.processor.steps + 1
