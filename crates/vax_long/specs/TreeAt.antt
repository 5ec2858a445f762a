-- What the tree of what stands at a PC is.
use Rattle.std.specs.Prelude.{◌≡◌, ℕ, false, None, Some}
use Rattle.vax_form.specs.Grammar.{instruction, reserved_instruction, reserved_mode, past}
use Rattle.vax_form.specs.GrammarFound.{found}
use Rattle.vax_form.specs.Tree.{Fault}
use Rattle.vax_form.specs.declared.instr.Instr.{Instr}
use Rattle.vax_form.specs.declared.operation.LongOperation.{LongOperation}
use Rattle.vax_form.specs.declared.pages.Pages.{Pages}
use Rattle.vax_form.specs.declared.state.Exception.TheVariants.{ReservedInstruction, ReservedMode, AccessViolation}
use Rattle.vax_form.specs.declared.state.VaxState.{VaxState}
use Rattle.vax_meaning.specs.Instructions.{tree_for}
use Rattle.vax_long.specs.Instructions.{long_at, long_tree_for, tree_at}

-- an instruction that is not long
abbrev pub ShortStands : Type 0
ShortStands = (pages : Pages) (thread : ℕ) (state : VaxState) (instr : Instr)
    → found pages state.pc ≡ instruction instr → long_at instr.opcode ≡ None → tree_at pages thread state ≡ tree_for state instr pages thread

-- a long instruction
abbrev pub LongStands : Type 0
LongStands = (pages : Pages) (thread : ℕ) (state : VaxState) (instr : Instr) (operation : LongOperation)
    → found pages state.pc ≡ instruction instr → long_at instr.opcode ≡ Some operation → tree_at pages thread state ≡ long_tree_for state instr pages

-- an opcode that is reserved
abbrev pub ReservedStands : Type 0
ReservedStands = (pages : Pages) (thread : ℕ) (state : VaxState) → found pages state.pc ≡ reserved_instruction
    → tree_at pages thread state ≡ Fault ReservedInstruction

-- a reserved addressing mode
abbrev pub BadModeStands : Type 0
BadModeStands = (pages : Pages) (thread : ℕ) (state : VaxState) → found pages state.pc ≡ reserved_mode
    → tree_at pages thread state ≡ Fault ReservedMode

-- the end of the code
abbrev pub PastStands : Type 0
PastStands = (pages : Pages) (thread : ℕ) (state : VaxState) (address : ℕ) → found pages state.pc ≡ past address
    → tree_at pages thread state ≡ Fault (AccessViolation address false)
