use Rattle.std.proofs.Common.{rules}
use Rattle.std.proofs.lemmas.Iterator.{items_from_collect, YieldsList-from_map, YieldsList-from_slice}
use Rattle.prepared_code.specs.Sources.{block_of}
use Rattle.prepared_code.proofs.blocks.blocks_of.Goals as goal

pub returns : goal.returns
returns c = items_from_collect _ c.list_of.ensures.ran
    (YieldsList-from_map _ (block_of c.args.points.now c.args.pages.now) (YieldsList-from_slice c.args.pairs.now cc) c.map.ensures.closure (λ x r q k. search (rules)))
