use Rattle.std.proofs.Common.{◌≡◌, List, drop}
use Rattle.vax_driven.specs.Driven.{runs_from}
use Rattle.vax_meaning.specs.Made.{Made}
use Rattle.vax_run.specs.Values.{threads_of}
use Rattle.vax_run.specs.World.{IsLeft}
use Rattle.vax_run.proofs.Runs.{with_runs}
use Rattle.vax_run.proofs.world.World.runs.Given as goal

abbrev pub invariant-loop-at : goal.invariant-loop-at
invariant-loop-at l = (made : List Made) → IsLeft l.image made l.self
    → runs_from (threads_of l.image) made 0 l.counts ≡ with_runs l.runs.items (runs_from (threads_of l.image) made l.at (drop l.at l.counts))
