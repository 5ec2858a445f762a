-- An opcode that is long has a long operation.
use Rattle.std.proofs.Common.{◌≡◌, true, false, Option, Some, None}
use Rattle.std.specs.Option.{option_map_or}
use Rattle.vax_form.specs.Row.{is_long_operation}
use Rattle.vax_form.specs.declared.operation.Operation.{Operation}
use Rattle.vax_form.specs.declared.operation.Operation.TheVariants as operations
use Rattle.vax_long.specs.Instructions.{long_operation}

pub long_has_operation : (operation : Option Operation) → option_map_or is_long_operation operation false ≡ true → long_operation operation ≡ None → ⊥
unfolding is_long_operation long_operation
long_has_operation None is none = absurd cc
long_has_operation (Some (operations.Long operation)) is none = absurd cc
long_has_operation (Some _) is none = absurd cc
