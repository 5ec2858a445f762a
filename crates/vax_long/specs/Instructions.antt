-- What each long instruction does, and what any instruction comes to.
-- VAX Architecture Reference Manual, "Instruction Descriptions"; for what stands at an address that is no instruction,
-- "Exceptions and Interrupts".
use Rattle.std.specs.Prelude.{ℕ, true, false, List, Option, Some, None}
use Rattle.vax_form.specs.Grammar.{Found, instruction, reserved_instruction, reserved_mode, past}
use Rattle.vax_form.specs.GrammarFound.{found}
use Rattle.vax_form.specs.Operation.{operation_at}
use Rattle.vax_form.specs.Row.{row_of_operation}
use Rattle.vax_form.specs.Script.{Script, ◌>>=◌, fail}
use Rattle.vax_form.specs.Tree.{Tree, instruction_tree, answer, outcome}
use Rattle.vax_form.specs.declared.instr.Instr.{Instr}
use Rattle.vax_form.specs.declared.operation.LongOperation.{LongOperation}
use Rattle.vax_form.specs.declared.operation.LongOperation.TheVariants.{Index, CallGeneral, CallStack, Return, PushRegisters, PopRegisters, MoveCharacters, MoveCharactersFilled, CompareCharacters, LocateCharacter, SkipCharacter}
use Rattle.vax_form.specs.declared.operation.Operation.{Operation}
use Rattle.vax_form.specs.declared.operation.Operation.TheVariants as operations
use Rattle.vax_form.specs.declared.pages.Pages.{Pages}
use Rattle.vax_form.specs.declared.script.End.{End}
use Rattle.vax_form.specs.declared.state.Exception.TheVariants.{ReservedInstruction, ReservedMode, AccessViolation}
use Rattle.vax_form.specs.declared.state.Outcome.{Outcome}
use Rattle.vax_form.specs.declared.state.VaxState.{VaxState}
use Rattle.vax_meaning.specs.declared.evaluation.Evaluated.{Evaluated}
use Rattle.vax_meaning.specs.Evaluation.{operands_from, nothings}
use Rattle.vax_meaning.specs.Instructions.{script_of}
use Rattle.vax_long.specs.Index.{index}
use Rattle.vax_long.specs.Registers.{push_by_mask, pop_by_mask}
use Rattle.vax_long.specs.Calls.{call_general, call_stack, return_from_procedure}
use Rattle.vax_long.specs.Strings.{move_characters, move_characters_filled, compare_characters, scan_characters}

-- what each does once its operands are evaluated
unfoldable pub long_body : LongOperation → Instr → List Evaluated → Script End
long_body Index instr values = index instr values
long_body CallGeneral instr values = call_general instr values
long_body CallStack instr values = call_stack instr values
long_body Return instr values = return_from_procedure
long_body PushRegisters instr values = push_by_mask instr values
long_body PopRegisters instr values = pop_by_mask instr values
long_body MoveCharacters instr values = move_characters instr values
long_body MoveCharactersFilled instr values = move_characters_filled instr values
long_body CompareCharacters instr values = compare_characters instr values
long_body LocateCharacter instr values = scan_characters instr true values
long_body SkipCharacter instr values = scan_characters instr false values

-- what each does, in order: its operands, and then its body
unfoldable pub long_script : LongOperation → Instr → Script End
long_script operation instr = do
  values ← operands_from 6 (row_of_operation (operations.Long operation)) instr nothings
  long_body operation instr values

-- the long operation of an opcode, where it has one
unfoldable pub long_operation : Option Operation → Option LongOperation
long_operation (Some (operations.Long operation)) = Some operation
long_operation _ = None

abbrev pub long_at : (opcode : ℕ) → Option LongOperation
long_at opcode = long_operation (operation_at opcode)

abbrev pub long_script_where : Option LongOperation → Instr → Script End
long_script_where None instr = fail ReservedInstruction
long_script_where (Some operation) instr = long_script operation instr

-- the script of a long instruction
abbrev pub long_script_of : Instr → Script End
long_script_of instr = long_script_where (long_at instr.opcode) instr

-- its tree: what the instruction means
abbrev pub long_tree_for : VaxState → Instr → Pages → Tree
long_tree_for state instr pages = instruction_tree pages (long_script_of instr) state

-- what a long instruction comes to with the replies so far
abbrev pub next_long_of : VaxState → Instr → Pages → (replies : List ℕ) → Outcome
next_long_of state instr pages replies = outcome state (answer pages (long_tree_for state instr pages) replies)

abbrev pub either_script : Option LongOperation → Instr → (thread : ℕ) → Script End
either_script None instr thread = script_of instr thread
either_script (Some operation) instr thread = long_script operation instr

-- the script of any instruction, long or not
abbrev pub any_script_of : Instr → (thread : ℕ) → Script End
any_script_of instr thread = either_script (long_at instr.opcode) instr thread

-- the script of what stands at an address: an instruction, or a fault where there is none
abbrev pub script_found : Found → (thread : ℕ) → Script End
script_found (instruction instr) thread = any_script_of instr thread
script_found reserved_instruction thread = fail ReservedInstruction
script_found reserved_mode thread = fail ReservedMode
script_found (past address) thread = fail (AccessViolation address false)

abbrev pub script_at : Pages → (thread : ℕ) → VaxState → Script End
script_at pages thread state = script_found (found pages state.pc) thread

-- the tree of what stands at a state's PC
abbrev pub tree_at : Pages → (thread : ℕ) → VaxState → Tree
tree_at pages thread state = instruction_tree pages (script_at pages thread state) state
