use Rattle.std.proofs.Common.{lit<, rules, tests}
use Rattle.std.proofs.lemmas.Iterator.Consumers.{map_from_collect}
use Rattle.std.proofs.lemmas.Iterator.Splits.{YieldsList-from_str_split}
use Rattle.row_tally.proofs.reading.pieces.Goals as goal

pub returns : goal.returns
returns c =
    let pieces = map_from_collect _ c.collect.ensures.ran (YieldsList-from_str_split 44 c.args.field.now (lit< tt) c.split.ensures.text c.split.ensures.has_more c.split.ensures.pattern) in
    search (rules, tests)
