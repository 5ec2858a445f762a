use Rattle.block_law.proofs.Blocks.{follows_same}
use Rattle.block_law.proofs.laws.same_tree_follows.Goals as goal

pub returns : goal.returns
returns c = follows_same
