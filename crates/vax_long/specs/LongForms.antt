-- The instructions of long form: long instructions that Alpha code can stand for, by what an image shows of them.
-- VAX Architecture Reference Manual, "Procedure Call Instructions": the entry mask of a procedure.
use Rattle.std.specs.Prelude.{ℕ, Bool, true, false}
use Rattle.std.specs.Option.{option_map_or}
use Rattle.vax_form.specs.Targets.{fixed_address, operand_of}
use Rattle.vax_form.specs.declared.instr.Instr.{Instr}
use Rattle.vax_form.specs.declared.operation.LongOperation.{LongOperation}
use Rattle.vax_form.specs.declared.operation.LongOperation.TheVariants.{CallGeneral, CallStack, MoveCharacters}
use Rattle.vax_form.specs.declared.pages.Pages.{Pages}
use Rattle.vax_long.specs.Calls.{is_entry_mask}
use Rattle.vax_long.specs.CodeWord.{code_word_at}
use Rattle.vax_long.specs.Instructions.{long_at}

-- an entry mask stands at a procedure's address, and can be fetched
abbrev pub has_entry_mask : Pages → (destination : ℕ) → Bool
has_entry_mask pages destination = option_map_or is_entry_mask (code_word_at pages destination) false

-- the code fixes the destination, the second operand of a call, and an entry mask stands there
abbrev pub is_fixed_call : Instr → Pages → Bool
is_fixed_call instr pages = option_map_or (has_entry_mask pages) (fixed_address (operand_of instr 1)) false

unfoldable pub has_long_form : LongOperation → Instr → Pages → Bool
has_long_form CallGeneral instr pages = is_fixed_call instr pages
has_long_form CallStack instr pages = is_fixed_call instr pages
has_long_form MoveCharacters instr pages = true
has_long_form _ instr pages = false

-- an instruction is of long form
abbrev pub is_long_form : Instr → Pages → Bool
is_long_form instr pages = option_map_or (λ operation. has_long_form operation instr pages) (long_at instr.opcode) false
