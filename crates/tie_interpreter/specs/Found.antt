-- The tree of what stands at an address where no long instruction stands.
-- VAX Architecture Reference Manual, "Exceptions and Interrupts", for what is no instruction.
use Rattle.std.specs.Prelude.{◌≡◌, ℕ, false}
use Rattle.vax_form.specs.Grammar.{Found, instruction, reserved_instruction, reserved_mode, past}
use Rattle.vax_form.specs.GrammarFound.{found}
use Rattle.vax_form.specs.Row.{is_long_at}
use Rattle.vax_form.specs.Tree.{Tree, Fault}
use Rattle.vax_form.specs.declared.pages.Pages.{Pages}
use Rattle.vax_form.specs.declared.state.Exception.TheVariants.{ReservedInstruction, ReservedMode, AccessViolation}
use Rattle.vax_form.specs.declared.state.VaxState.{VaxState}
use Rattle.vax_meaning.specs.Instructions.{tree_for}

-- no long instruction was found
abbrev pub IsShort : Found → Type 0
IsShort (instruction instr) = is_long_at instr.opcode ≡ false
IsShort reserved_instruction = Unit {0}
IsShort reserved_mode = Unit {0}
IsShort (past address) = Unit {0}

-- an instruction, or a fault where there is none
abbrev pub short_tree : Pages → (thread : ℕ) → Found → VaxState → Tree
short_tree pages thread (instruction instr) state = tree_for state instr pages thread
short_tree pages thread reserved_instruction state = Fault ReservedInstruction
short_tree pages thread reserved_mode state = Fault ReservedMode
short_tree pages thread (past address) state = Fault (AccessViolation address false)

-- at a state's PC
abbrev pub short_tree_at : Pages → (thread : ℕ) → VaxState → Tree
short_tree_at pages thread state = short_tree pages thread (found pages state.pc) state
