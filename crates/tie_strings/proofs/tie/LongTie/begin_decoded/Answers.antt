-- A long instruction has a long operation.
use Rattle.std.proofs.Common.{sym, ◌∙◌}
use Rattle.vax_form.specs.Operation.{operation_at}
use Rattle.tie_strings.proofs.LongOperations.{long_has_operation}
use Rattle.tie_strings.proofs.tie.LongTie.begin_decoded.Goals as goal

pub unreachable-requires-in_default-long_operation_of : goal.unreachable-requires-in_default-long_operation_of
unreachable-requires-in_default-long_operation_of c =
    long_has_operation (operation_at c.in-Instr.instr.opcode) (rw c.in-Instr.is at c.requires.long) (sym c.long_operation_of.ensures ∙ c.in_default-long_operation_of.is)
