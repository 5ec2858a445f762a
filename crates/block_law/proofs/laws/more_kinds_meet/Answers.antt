use Rattle.block_law.proofs.MoreKinds.{more_kinds_meet}
use Rattle.block_law.proofs.laws.more_kinds_meet.Goals as goal

pub returns : goal.returns
returns c = more_kinds_meet
