-- Addresses in pages are small.
use Rattle.std.proofs.Common.{◌%◌, ◌==◌, arith}
use Rattle.alpha_meaning.specs.Memory.{stores}
use Rattle.vax_form.specs.PageTable.{IsPageTable}
use Rattle.tie_switch.proofs.Low.{quad_fits}
use Rattle.tie_switch.proofs.request.request_by.Goals as goal

pub overflow_cast-result : goal.overflow_cast-result
overflow_cast-result c =
    let table : IsPageTable c.args.setting.pages.now = c.page_table_rises.ensures in
    let low = quad_fits c.args.setting.pages.now.ranges c.args.access.address (c.args.access.address % c.args.access.bytes == 0) (stores c.args.access.kind) table.rising c.requires.defined in
    omega arith
