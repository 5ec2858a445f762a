-- Which addresses of an image are mapped: those that have a block in its translation.
use Rattle.std.specs.Prelude.{◌≡◌, ◌&&◌, ◌||◌, ℕ, Bool, true, false, List, Option, Some}
use Rattle.std.specs.Option.{option_map_or}
use Rattle.vax_form.specs.Row.{class_at, is_translated}
use Rattle.vax_form.specs.declared.instr.Instr.{Instr}
use Rattle.vax_form.specs.declared.operation.LongOperation.{LongOperation}
use Rattle.vax_form.specs.declared.operation.LongOperation.TheVariants.{CallGeneral, CallStack, MoveCharacters}
use Rattle.vax_form.specs.declared.pages.Pages.{Pages}
use Rattle.vax_long.specs.Instructions.{long_at}
use Rattle.vax_long.specs.LongForms.{is_long_form}
use Rattle.flow_discovery.specs.Reach.{Member, instruction_at}

abbrev pub is_call : Option LongOperation → Bool
is_call (Some CallGeneral) = true
is_call (Some CallStack) = true
is_call operation = false

-- a call of long form
abbrev pub has_call_block : Instr → Pages → Bool
has_call_block instr pages = is_call (long_at instr.opcode) && is_long_form instr pages

abbrev pub is_string_move : Option LongOperation → Bool
is_string_move (Some MoveCharacters) = true
is_string_move operation = false

-- MOVC3
abbrev pub has_string_block : Instr → Bool
has_string_block instr = is_string_move (long_at instr.opcode)

-- an instruction has a block where its class is Translated, or where it is of long form; else it is left to the interpreter
abbrev pub has_block : Instr → Pages → Bool
has_block instr pages = is_translated (class_at instr.opcode) || is_long_form instr pages

-- an instruction stands at the address, and has a block
abbrev pub has_block_at : Pages → ℕ → Bool
has_block_at pages address = option_map_or (λ instr. has_block instr pages) (instruction_at pages address) false

-- the instruction at the address can be reached, and has a block
pub record Mapped (pages : Pages) (starts : List ℕ) (address : ℕ) : Type 0 where
  pub member : Member pages starts address
  pub built : has_block_at pages address ≡ true
