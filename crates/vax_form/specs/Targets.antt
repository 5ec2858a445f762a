-- The addresses that the operands of an instruction name, as far as its code fixes them.
-- VAX Architecture Reference Manual, "Control Instructions", "Procedure Call Instructions", "Operand Specifier
-- Notation".
use Rattle.std.specs.Prelude.{ℕ, ◌+◌, Bool, false, List, ◌++◌, Option, Some, None, nat_eq, option_and_then, option_map, slice_index_or}
use Rattle.std.specs.List.{filter_map, list_any}
use Rattle.std.specs.Option.{option_to_list}
use Rattle.vax_form.specs.Grammar.{wrapped}
use Rattle.vax_form.specs.Operation.{operation_at}
use Rattle.vax_form.specs.declared.instr.Base.TheVariants.{Fixed}
use Rattle.vax_form.specs.declared.instr.Instr.{Instr}
use Rattle.vax_form.specs.declared.instr.Operand.{Operand}
use Rattle.vax_form.specs.declared.instr.Operand.TheVariants.{Place, Target, Unused}
use Rattle.vax_form.specs.declared.operation.LongOperation.TheVariants.{CallGeneral, CallStack}
use Rattle.vax_form.specs.declared.operation.Operation.{Operation}
use Rattle.vax_form.specs.declared.operation.Operation.TheVariants.{Jump, JumpToSubroutine, Long}

-- the address is in the list
abbrev pub has : List ℕ → ℕ → Bool
has addresses address = list_any (nat_eq address) addresses

abbrev pub operand_of : Instr → ℕ → Operand
operand_of instr number = slice_index_or instr.operands number Unused

-- the address of a branch displacement
abbrev pub branch_target : Operand → Option ℕ
branch_target (Target address) = Some address
branch_target _ = None

-- the address of an operand that is absolute or relative, neither deferred nor indexed
abbrev pub fixed_address : Operand → Option ℕ
fixed_address (Place (Fixed address false) None) = Some address
fixed_address _ = None

-- the address of a JMP or JSB whose operand fixes it
unfoldable pub jump_target : Instr → Operation → Option ℕ
jump_target instr Jump = fixed_address (operand_of instr 0)
jump_target instr JumpToSubroutine = fixed_address (operand_of instr 0)
jump_target instr _ = None

unfoldable pub jump_of : Instr → Option ℕ
jump_of instr = option_and_then (jump_target instr) (operation_at instr.opcode)

-- a procedure begins with its entry mask, a word
abbrev pub behind_mask : ℕ → ℕ
behind_mask address = wrapped (address + 2)

-- the address to which a CALLG or CALLS goes on whose destination, the second operand, is fixed
unfoldable pub call_target : Instr → Operation → Option ℕ
call_target instr (Long CallGeneral) = option_map behind_mask (fixed_address (operand_of instr 1))
call_target instr (Long CallStack) = option_map behind_mask (fixed_address (operand_of instr 1))
call_target instr _ = None

unfoldable pub call_of : Instr → Option ℕ
call_of instr = option_and_then (call_target instr) (operation_at instr.opcode)

-- the addresses of the branches of an instruction, of its jump, and of its call
unfoldable pub fixed_targets : Instr → List ℕ
fixed_targets instr = filter_map branch_target instr.operands ++ option_to_list (jump_of instr) ++ option_to_list (call_of instr)
