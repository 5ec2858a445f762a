use Rattle.std.proofs.Common.{true, take, reverse}
use Rattle.vax_driven.specs.Driven.{walk}
use Rattle.vax_run.specs.Values.{world_of}
use Rattle.vax_run.specs.World.{IsWalked}
use Rattle.vax_run.proofs.world.World.walk.Given as goal

abbrev pub invariant-loop-pick : goal.invariant-loop-pick
invariant-loop-pick l = IsWalked l.image (walk (world_of l.image l.input) (reverse (take l.pick-index l.order))) true l.self
