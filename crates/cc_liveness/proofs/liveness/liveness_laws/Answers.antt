use Rattle.cc_liveness.proofs.Lives.{recursion_is_liveness}
use Rattle.cc_liveness.proofs.liveness.liveness_laws.Goals as goal

pub returns : goal.returns
returns c = record { recursion = recursion_is_liveness }
