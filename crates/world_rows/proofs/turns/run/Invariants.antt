-- the world is ready for the next picks
use Rattle.world_rows.specs.Ready.{IsReady}
use Rattle.world_rows.proofs.turns.run.Given as goal

abbrev pub invariant-loop-thread : goal.invariant-loop-thread
invariant-loop-thread l = IsReady l.program l.world
