use Rattle.std.proofs.Common.{arith}
use Rattle.address_map.proofs.Entering.{span_is}
use Rattle.address_map.proofs.tables.page_span.Goals as goal

pub overflow_sub-result : goal.overflow_sub-result
overflow_sub-result c = omega (arith, span_is c.args.pairs.now c.requires, c.end_page.ensures.value, c.first_page.ensures)

pub returns-clause-low : goal.returns-clause-low
returns-clause-low c = omega (arith, span_is c.args.pairs.now c.requires, c.end_page.ensures.value, c.end_page.ensures.low, c.first_page.ensures)
