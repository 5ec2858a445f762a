-- The operands of each opcode, as the grammar takes them.
use Rattle.std.specs.Prelude.{ℕ, List, Option, option_map}
use Rattle.vax_form.specs.Operation.{operation_at}
use Rattle.vax_form.specs.Row.{operands_of}
use Rattle.vax_form.specs.declared.instr.Size.{Size}
use Rattle.vax_form.specs.declared.instr.Access.{Access}

-- how each operand of the opcode is used, and its size; none where the opcode is reserved
abbrev pub operand_types : ℕ → Option (List (Access × Size))
operand_types opcode = option_map operands_of (operation_at opcode)
