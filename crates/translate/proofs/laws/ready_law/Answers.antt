use Rattle.translate.proofs.Asked.{always_ready}
use Rattle.translate.proofs.laws.ready_law.Goals as goal

pub returns : goal.returns
returns c = always_ready
