-- No instruction that stands in the code has a reserved opcode.
use Rattle.std.proofs.Common.{◌≡◌, ◌≢◌, ℕ, true, Option, Some, None}
use Rattle.std.specs.Option.{is_some, option_map}
use Rattle.vax_form.specs.GrammarRows.{operand_types}
use Rattle.vax_form.specs.Operation.{operation_at}
use Rattle.vax_form.specs.Row.{class_at, class_of_binary, class_of_operation, class_where, operands_of}
use Rattle.vax_form.specs.declared.operation.BinaryOperation.{BinaryOperation}
use Rattle.vax_form.specs.declared.operation.BinaryOperation.TheVariants.{Divide}
use Rattle.vax_form.specs.declared.operation.Operation.{Operation}
use Rattle.vax_form.specs.declared.operation.Operation.TheVariants.{TwoOperands, ThreeOperands, ExtractField, InsertField, Case, Long}
use Rattle.vax_form.specs.declared.row.Class.TheVariants.{Reserved}

binary_class : (operation : BinaryOperation) → class_of_binary operation ≢ Reserved
binary_class Divide e = cc
binary_class _ e = cc

operation_class : (operation : Operation) → class_of_operation operation ≢ Reserved
unfolding class_of_operation
operation_class (TwoOperands operation width) e = binary_class operation e
operation_class (ThreeOperands operation width) e = binary_class operation e
operation_class (ExtractField signed) e = cc
operation_class InsertField e = cc
operation_class (Case width) e = cc
operation_class (Long operation) e = cc
operation_class _ e = cc

where_class : (o : Option Operation) → is_some (option_map operands_of o) ≡ true → class_where o ≢ Reserved
where_class None listed e = cc
where_class (Some operation) listed e = operation_class operation e

pub listed_class : (opcode : ℕ) → is_some (operand_types opcode) ≡ true → class_at opcode ≢ Reserved
listed_class opcode listed = where_class (operation_at opcode) listed
