-- What a block promises wherever it comes to stand.
use Rattle.std.specs.Prelude.{◌≡◌, ℕ, ◌≤◌, ◌==◌, Bool, true, List, Some, length, if◌then◌else◌}
use Rattle.std.specs.List.{list_all}
use Rattle.vax_form.specs.PageTable.{IsPageTable}
use Rattle.vax_form.specs.Ranges.{IsInRange}
use Rattle.vax_form.specs.Tree.{Tree}
use Rattle.vax_form.specs.declared.instr.Instr.{Instr}
use Rattle.vax_form.specs.declared.state.Flags.{Flags}
use Rattle.vax_form.specs.declared.state.VaxState.{VaxState}
use Rattle.alpha_meaning.specs.State.{Regs, at_place}
use Rattle.alpha_meaning.specs.Pieces.{Plain, most_words}
use Rattle.exception_records.specs.Blocks.{BlockValue}
use Rattle.exception_records.specs.Points.{Entry, point_at}
use Rattle.exception_records.specs.Shown.{Shows}
use Rattle.exception_records.specs.declared.points.Point.{Point}
use Rattle.exception_records.specs.declared.rules.Rules.{Rules}
use Rattle.micro_ops.specs.Meaning.{program_tree}
use Rattle.micro_ops.specs.Leaving.{CodesAgree}
use Rattle.micro_ops.specs.declared.codes.CodeSources.{CodeSources}
use Rattle.micro_ops.specs.declared.program.Micro.{Micro}
use Rattle.block_law.specs.Blocks.{Stands, ExitsLead}
use Rattle.micro_ops.specs.Sources.{codes_written_by}
use Rattle.block_law.specs.Follows.{Follows}
use Rattle.block_law.specs.Laws.{MoreKinds}
use Rattle.block_law.specs.Placements.{InForm}
use Rattle.block_law.specs.Rounds.{block_steps, new_round}
use Rattle.block_law.specs.Translations.{Meaning, Permit, Code, placed}
use Rattle.program_codegen.specs.Accesses.{needed}
use Rattle.micro_ops.specs.Uses.{has_bytes}

-- a point has the rules before the instruction, and where it is done, at a trap, those behind it
abbrev pub HasRules : (before behind : Rules) → Entry → Type 0
HasRules before behind entry = entry.1.rules ≡ (if entry.1.done == 1 then behind else before)

-- the point of its first word has these rules
abbrev pub BeginsBy : Rules → BlockValue → Type 0
BeginsBy before block = (point : Point) → point_at block.points 0 ≡ Some point → point.rules ≡ before

-- the instruction at the address writes the codes of these sources, its block may make the accesses that its words need
-- for each reference where it writes an operand of so many bytes, and the pages are those of an image
pub record Writes (sources : CodeSources) (byte_word : Bool) (bytes address : ℕ) (meaning : Meaning) (permit : Permit) : Type 0 where
  pub pages : IsPageTable meaning.pages
  pub written : meaning.written address ≡ codes_written_by sources
  pub kinds : MoreKinds (needed byte_word bytes) (permit.kinds address)

-- what the program means from a state on, with the services of a thread
abbrev pub meant : Meaning → (thread : ℕ) → Instr → List Micro → VaxState → Tree
meant meaning thread instr program state = program_tree (meaning.serve thread) program state instr.after

-- Wherever the block stands, it follows the program's tree: from registers in form that show the state by the rules
-- before the instruction, where its exits lead to their addresses by those behind it. The tree keeps its references in
-- range, and where it leaves, the codes come from the sources. Each write of the program has all the bytes of the operand
-- that is written.
abbrev pub CompilesProgram : Instr → CodeSources → List Micro → (before behind : Rules) → (byte_word : Bool) → BlockValue → Type 0
CompilesProgram instr sources program before behind byte_word block =
    (bytes : ℕ) → list_all (has_bytes bytes) program ≡ true
    → (meaning : Meaning) (permit : Permit) → Writes sources byte_word bytes instr.at meaning permit
    → (code : Code) (first thread n : ℕ) (state : VaxState) (held : Flags) (regs : Regs)
    → length code.words ≤ most_words → Stands code block first → state.pc ≡ instr.at
    → InForm regs → Shows regs instr.at before held state
    → ExitsLead (placed meaning permit code thread state held first) block.exits first behind
    → IsInRange meaning.pages (meant meaning thread instr program state)
    → CodesAgree sources program state instr.after
    → Follows (placed meaning permit code thread state held first) n Plain block_steps new_round (at_place regs first) (meant meaning thread instr program state)
