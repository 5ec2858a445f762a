use Rattle.std.proofs.Common.{ℕ, true, take, reverse, [], List}
use Rattle.vax_driven.specs.Driven.{walk}
use Rattle.vax_run.specs.Values.{world_of}
use Rattle.tie_switch.specs.Known.{AreFound as AreKnown}
use Rattle.stored_runs.specs.World.{AreLeft, IsWalked}
use Rattle.stored_runs.proofs.world.World.walk.Given as goal

abbrev pub invariant-loop-pick : goal.invariant-loop-pick
invariant-loop-pick l = record {
  known : AreKnown l.image.pages l.course.known.items;
  walked : (counts : List ℕ) → AreLeft l.image l.input counts [] l.initial.self l.initial.course.marks
      → IsWalked l.image l.input counts (walk (world_of l.image l.input) (reverse (take l.pick-index l.order))) true l.self l.course.marks;
}
