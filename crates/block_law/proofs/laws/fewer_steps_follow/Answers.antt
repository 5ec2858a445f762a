use Rattle.block_law.proofs.Blocks.{fewer}
use Rattle.block_law.proofs.laws.fewer_steps_follow.Goals as goal

pub returns : goal.returns
returns c = fewer
