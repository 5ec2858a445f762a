use Rattle.std.proofs.Common.{subst}
use Rattle.vax_form.specs.PageTable.{IsPageTable}
use Rattle.translate.proofs.laws.pages_law.Goals as goal

pub returns : goal.returns
returns c = record { table = subst IsPageTable c.pages.view_is c.pages.invariant; bytes = c.page_table_has_bytes.ensures }
