-- What the block of MOVC3 promises wherever it comes to stand.
use Rattle.std.specs.Prelude.{◌≡◌, ℕ, ◌≤◌, Bool, length, Some}
use Rattle.vax_form.specs.Grammar.{IsSpelled}
use Rattle.vax_form.specs.PageTable.{IsPageTable}
use Rattle.vax_form.specs.State.{IsState}
use Rattle.vax_form.specs.Targets.{operand_of}
use Rattle.vax_form.specs.declared.instr.Instr.{Instr}
use Rattle.vax_form.specs.declared.operation.LongOperation.TheVariants.{MoveCharacters}
use Rattle.vax_form.specs.declared.state.Flags.{Flags}
use Rattle.vax_form.specs.declared.state.VaxState.{VaxState}
use Rattle.vax_long.specs.Instructions.{long_at, long_tree_for}
use Rattle.alpha_meaning.specs.State.{Regs, at_place}
use Rattle.alpha_meaning.specs.Pieces.{Plain, most_words}
use Rattle.exception_records.specs.Blocks.{BlockValue}
use Rattle.exception_records.specs.Codes.{all_ready}
use Rattle.exception_records.specs.Shown.{Shows}
use Rattle.exception_records.specs.declared.rules.Rules.{Rules}
use Rattle.block_law.specs.Blocks.{Stands, ExitsLead}
use Rattle.block_law.specs.Follows.{Follows}
use Rattle.block_law.specs.Laws.{MoreKinds}
use Rattle.block_law.specs.Placements.{InForm}
use Rattle.block_law.specs.Rounds.{block_steps, new_round}
use Rattle.block_law.specs.Translations.{Meaning, Permit, Code, placed}
use Rattle.program_codegen.specs.Accesses.{needed}
use Rattle.operand_programs.specs.Pieces.{IsLongOperand}

-- the addresses that its operands fix are longwords
abbrev pub AreLongStrings : Instr → Type 0
AreLongStrings instr = IsLongOperand (operand_of instr 0) × IsLongOperand (operand_of instr 1) × IsLongOperand (operand_of instr 2)

-- MOVC3, as it was decoded
pub record IsStringMove (instr : Instr) : Type 0 where
  pub spelled : IsSpelled instr
  pub operation : long_at instr.opcode ≡ Some MoveCharacters

-- the block of the instruction at the address may make the accesses that its words need for the bytes that it moves, and
-- have a loop in which each of both allows the steps of a block
pub record MayMove (byte_word : Bool) (address : ℕ) (meaning : Meaning) (permit : Permit) : Type 0 where
  pub table : IsPageTable meaning.pages
  pub kinds : MoreKinds (needed byte_word 1) (permit.kinds address)
  pub bonus : permit.bonus address ≡ block_steps

-- Wherever the block stands, it follows the instruction's tree: from registers in form that show the state by the rules before
-- the instruction, where its exit leads to its address with all codes ready.
abbrev pub CompilesString : Instr → (before : Rules) → (byte_word : Bool) → BlockValue → Type 0
CompilesString instr before byte_word block =
    (meaning : Meaning) (permit : Permit) → MayMove byte_word instr.at meaning permit
    → (code : Code) (first thread n : ℕ) (state : VaxState) (held : Flags) (regs : Regs)
    → length code.words ≤ most_words → Stands code block first → state.pc ≡ instr.at → IsState state
    → InForm regs → Shows regs instr.at before held state
    → ExitsLead (placed meaning permit code thread state held first) block.exits first all_ready
    → Follows (placed meaning permit code thread state held first) n Plain block_steps new_round (at_place regs first) (long_tree_for state instr meaning.pages)
