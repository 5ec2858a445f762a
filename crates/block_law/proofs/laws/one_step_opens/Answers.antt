use Rattle.block_law.proofs.Blocks.{open_follows}
use Rattle.block_law.proofs.laws.one_step_opens.Goals as goal

pub returns : goal.returns
returns c = open_follows
