use Rattle.std.proofs.Common.{rules}
use Rattle.std.proofs.lemmas.Iterator.{items_from_collect, YieldsList-from_map, YieldsList-from_slice}
use Rattle.vest_cli.specs.Run.{range_of}
use Rattle.vest_cli.proofs.tasks.ranges_of.Goals as goal

pub returns : goal.returns
returns c = items_from_collect _ c.list_of.ensures.ran
    (YieldsList-from_map _ range_of (YieldsList-from_slice c.args.ranges.now cc) c.map.ensures.closure (λ x r q k. search (rules)))
