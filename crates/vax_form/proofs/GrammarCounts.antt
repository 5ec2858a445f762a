-- No opcode has more than six operands.
use Rattle.std.proofs.Common.{◌≡◌, ℕ, ◌≤◌, length, Some, subst, arith}
use Rattle.vax_form.specs.Operation.{operation_at}
use Rattle.vax_form.specs.Row.{operands_of, operands_of_long}
use Rattle.vax_form.specs.GrammarRows.{operand_types}
use Rattle.vax_form.proofs.GrammarFinds.{option_map-some}
use Rattle.vax_form.specs.declared.instr.Size.{Size}
use Rattle.vax_form.specs.declared.instr.Access.{Access}
use Rattle.vax_form.specs.declared.operation.LongOperation.{LongOperation}
use Rattle.vax_form.specs.declared.operation.LongOperation.TheVariants.{Index}
use Rattle.vax_form.specs.declared.operation.Operation.{Operation}
use Rattle.vax_form.specs.declared.operation.Operation.TheVariants as operations
use Rattle.std.specs.Prelude.{List}

long_most : (operation : LongOperation) → length (operands_of_long operation) ≤ 6
unfolding operands_of_long
long_most Index = omega arith
long_most _ = omega arith

pub operation_most : (operation : Operation) → length (operands_of operation) ≤ 6
unfolding operands_of
operation_most (operations.Long operation) = long_most operation
operation_most _ = omega arith

pub operand_types-most : (opcode : ℕ) (types : List (Access × Size)) → operand_types opcode ≡ Some types → length types ≤ 6
operand_types-most opcode types e =
    let x = option_map-some operands_of (operation_at opcode) types e in
    subst (λ l. length l ≤ 6) x.2 (operation_most x.0)
