use Rattle.std.proofs.Common.{◌≡◌, length}
use Rattle.tie_switch.specs.Settings.{image_setting}
use Rattle.vest_core.specs.Worlds.{IsLegalWorld}
use Rattle.vest_core.proofs.Rounds.{rounds_left}
use Rattle.vest_core.proofs.world.World.run_alone.Given as goal

abbrev pub invariant-loop-self : goal.invariant-loop-self
invariant-loop-self l = record {
  set_up : l.self.memory.set_up ≡ l.fn.self.memory.set_up;
  budget : l.self.budget ≡ l.fn.self.budget;
  alone : length l.self.processors ≡ 1;
  legal : IsLegalWorld (image_setting l.fn.image.pages l.fn.translation l.fn.ranges) l.self;
}

abbrev pub decreases-loop-self : goal.decreases-loop-self
decreases-loop-self l = rounds_left l.self.budget l.self.processors
