-- What stands at a PC where no long instruction stands has the tree of what stands there.
use Rattle.std.proofs.Common.{◌≡◌, ℕ, false, Option, Some, None, refl, sym, ap}
use Rattle.std.specs.Option.{option_map_or}
use Rattle.vax_form.specs.Grammar.{Found, instruction, reserved_instruction, reserved_mode, past}
use Rattle.vax_form.specs.Operation.{operation_at}
use Rattle.vax_form.specs.Row.{is_long_operation}
use Rattle.vax_form.specs.Tree.{instruction_tree}
use Rattle.vax_form.specs.declared.operation.LongOperation.{LongOperation}
use Rattle.vax_form.specs.declared.operation.Operation.{Operation}
use Rattle.vax_form.specs.declared.operation.Operation.TheVariants as operations
use Rattle.vax_form.specs.declared.pages.Pages.{Pages}
use Rattle.vax_form.specs.declared.state.VaxState.{VaxState}
use Rattle.vax_long.specs.Instructions.{long_operation, either_script, script_found}
use Rattle.tie_interpreter.specs.Found.{IsShort, short_tree}

short_has_none : (operation : Option Operation) → option_map_or is_long_operation operation false ≡ false → long_operation operation ≡ None
unfolding is_long_operation long_operation
short_has_none None is = refl
short_has_none (Some (operations.Long operation)) is = absurd (cc is)
short_has_none (Some _) is = refl

pub short_is : (pages : Pages) (thread : ℕ) (found : Found) (state : VaxState) → IsShort found
    → short_tree pages thread found state ≡ instruction_tree pages (script_found found thread) state
short_is pages thread (instruction instr) state short =
    ap (λ (o : Option LongOperation). instruction_tree pages (either_script o instr thread) state) (sym (short_has_none (operation_at instr.opcode) short))
short_is pages thread reserved_instruction state short = refl
short_is pages thread reserved_mode state short = refl
short_is pages thread (past address) state short = refl
