-- What the block of a call promises wherever it comes to stand.
use Rattle.std.specs.Prelude.{◌≡◌, ℕ, ◌≤◌, Bool, true, Some, length, Option}
use Rattle.vax_form.specs.Grammar.{IsSpelled}
use Rattle.vax_form.specs.PageTable.{IsPageTable}
use Rattle.vax_form.specs.State.{IsState}
use Rattle.vax_form.specs.Targets.{operand_of}
use Rattle.vax_form.specs.declared.instr.Instr.{Instr}
use Rattle.vax_form.specs.declared.operation.LongOperation.{LongOperation}
use Rattle.vax_form.specs.declared.operation.LongOperation.TheVariants.{CallGeneral, CallStack}
use Rattle.vax_form.specs.declared.pages.Pages.{Pages}
use Rattle.vax_form.specs.declared.state.Flags.{Flags}
use Rattle.vax_form.specs.declared.state.VaxState.{VaxState}
use Rattle.vax_long.specs.Instructions.{long_at, long_tree_for}
use Rattle.vax_long.specs.LongForms.{is_long_form}
use Rattle.alpha_meaning.specs.State.{Regs, at_place}
use Rattle.alpha_meaning.specs.Pieces.{Plain, most_words}
use Rattle.operand_programs.specs.Pieces.{IsLongOperand}
use Rattle.exception_records.specs.Blocks.{BlockValue}
use Rattle.exception_records.specs.Codes.{all_ready}
use Rattle.exception_records.specs.Shown.{Shows}
use Rattle.exception_records.specs.declared.rules.Rules.{Rules}
use Rattle.block_law.specs.Blocks.{Stands, ExitsLead}
use Rattle.block_law.specs.Follows.{Follows}
use Rattle.block_law.specs.Laws.{MoreKinds}
use Rattle.block_law.specs.Placements.{InForm}
use Rattle.block_law.specs.Rounds.{block_steps, new_round}
use Rattle.block_law.specs.Translations.{Meaning, Permit, Code, placed}
use Rattle.program_codegen.specs.Accesses.{needed}

-- the addresses in both operands of a call are longwords
abbrev pub AreLongOperands : Instr → Type 0
AreLongOperands instr = IsLongOperand (operand_of instr 0) × IsLongOperand (operand_of instr 1)

-- CALLS or CALLG
abbrev pub IsCallOperation : Option LongOperation → Type 0
IsCallOperation (Some CallGeneral) = Unit {0}
IsCallOperation (Some CallStack) = Unit {0}
IsCallOperation operation = ⊥

-- a call that was decoded, whose destination the code fixes and at whose destination an entry mask stands
pub record IsFixedCall (instr : Instr) (pages : Pages) : Type 0 where
  pub spelled : IsSpelled instr
  pub operation : IsCallOperation (long_at instr.opcode)
  pub form : is_long_form instr pages ≡ true

-- the block of the instruction at the address may make the accesses that its words need for the longwords that it pushes
pub record MayCall (byte_word : Bool) (pages : Pages) (address : ℕ) (meaning : Meaning) (permit : Permit) : Type 0 where
  pub table : IsPageTable pages
  pub its_pages : meaning.pages ≡ pages
  pub kinds : MoreKinds (needed byte_word 4) (permit.kinds address)

-- Wherever the block stands, it follows the call's tree: from registers in form that show the state by the rules before the
-- instruction, where its exit leads to its address with all codes ready.
abbrev pub CompilesCall : Instr → Pages → (before : Rules) → (byte_word : Bool) → BlockValue → Type 0
CompilesCall instr pages before byte_word block =
    (meaning : Meaning) (permit : Permit) → MayCall byte_word pages instr.at meaning permit
    → (code : Code) (first thread n : ℕ) (state : VaxState) (held : Flags) (regs : Regs)
    → length code.words ≤ most_words → Stands code block first → state.pc ≡ instr.at → IsState state
    → InForm regs → Shows regs instr.at before held state
    → ExitsLead (placed meaning permit code thread state held first) block.exits first all_ready
    → Follows (placed meaning permit code thread state held first) n Plain block_steps new_round (at_place regs first) (long_tree_for state instr pages)
