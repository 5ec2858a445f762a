-- the world is ready for the next pick
use Rattle.world_rows.specs.Ready.{IsReady}
use Rattle.world_rows.proofs.interleavings.pick_each.Given as goal

abbrev pub invariant-loop-turn : goal.invariant-loop-turn
invariant-loop-turn l = IsReady l.program l.world
