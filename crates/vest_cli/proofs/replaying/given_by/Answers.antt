-- The order gives nothing.
use Rattle.std.proofs.Common.{subst, sym}
use Rattle.vest_files.specs.Stages.{StopsWhere}
use Rattle.vest_stops.specs.declared.stop.Stop.{Stop}
use Rattle.vest_cli.specs.Replay.{RefusesGiven}
use Rattle.vest_cli.proofs.StoredOrders.{stops_where}
use Rattle.vest_cli.proofs.replaying.given_by.Goals as goal

pub returns-in-Err-clause-err : goal.returns-in-Err-clause-err
returns-in-Err-clause-err c =
    subst (λ (stop : Stop). StopsWhere (RefusesGiven c.args.image.now c.args.order.now) stop) (sym c.stop_of.ensures) (stops_where (λ r. r) c.args.image.now c.args.order.now c.in-Err.cause c.in-Err.ensures)
