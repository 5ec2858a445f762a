-- An opcode with an operation is not reserved.
use Rattle.std.proofs.Common.{sym}
use Rattle.vax_form.proofs.Rows.{operation_not_reserved}
use Rattle.vax_form.proofs.row.row_of.Goals as goal

pub returns-clause-reserved : goal.returns-clause-reserved
returns-clause-reserved c = (
  λ none. cc,
  λ is. absurd (operation_not_reserved c.in_ok-operation.operation (rw (sym c.in_ok-operation.ensures) at is)),
)
