-- No operation is reserved.
use Rattle.std.proofs.Common.{◌≡◌}
use Rattle.vax_form.specs.Row.{class_of_binary, class_of_operation}
use Rattle.vax_form.specs.declared.operation.BinaryOperation.{BinaryOperation}
use Rattle.vax_form.specs.declared.operation.BinaryOperation.TheVariants.{Divide}
use Rattle.vax_form.specs.declared.operation.Operation.{Operation}
use Rattle.vax_form.specs.declared.operation.Operation.TheVariants.{TwoOperands, ThreeOperands}
use Rattle.vax_form.specs.declared.row.Class.TheVariants.{Reserved}

binary_not_reserved : (operation : BinaryOperation) → class_of_binary operation ≡ Reserved → ⊥
binary_not_reserved Divide is = cc
binary_not_reserved _ is = cc

pub operation_not_reserved : (operation : Operation) → class_of_operation operation ≡ Reserved → ⊥
unfolding class_of_operation
operation_not_reserved (TwoOperands operation width) is = binary_not_reserved operation is
operation_not_reserved (ThreeOperands operation width) is = binary_not_reserved operation is
operation_not_reserved _ is = cc
