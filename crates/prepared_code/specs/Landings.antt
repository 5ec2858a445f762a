-- What contracts see of a step that arrives at a block.
use Rattle.alpha_meaning.specs.State.{Alpha}
use Rattle.prepared_code.specs.Effects.{behind}
use Rattle.prepared_code.specs.Inside.{landed}
use Rattle.prepared_code.specs.declared.blocks.Block.{Block}
use Rattle.prepared_code.specs.declared.landing.Landing.{Landing}

-- the processor that it leaves, and the block there
abbrev pub landed_by : Alpha → Landing → Alpha × Block
landed_by c l = landed (behind c l.effect) l.block
