use Rattle.std.proofs.Common.{sym, arith}
use Rattle.address_map.proofs.Entering.{end_at}
use Rattle.address_map.proofs.tables.end_page.Goals as goal

pub returns-in_default-clause-value : goal.returns-in_default-clause-value
returns-in_default-clause-value c = sym (end_at c.args.pairs.now (0, 0) (omega arith))
