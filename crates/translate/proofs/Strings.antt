-- The blocks of MOVC3 in a translation.
use Rattle.std.proofs.Common.{◌≡◌, ℕ, ◌<◌, ◌^◌, inl, refl, sym, ap, ◌∙◌, subst, Option, Some, None, true, false}
use Rattle.std.specs.Prelude.{nat_lt}
use Rattle.std.specs.Option.{option_map_or}
use Rattle.vax_form.specs.Codes.{all}
use Rattle.vax_form.specs.Grammar.{IsSpelled, instruction}
use Rattle.vax_form.specs.GrammarFound.{found}
use Rattle.vax_form.specs.Operation.{operation_at}
use Rattle.vax_form.specs.Tree.{Tree, instruction_tree}
use Rattle.vax_form.specs.Written.{written_bytes}
use Rattle.vax_form.specs.declared.instr.Instr.{Instr}
use Rattle.vax_form.specs.declared.instr.Size.TheVariants.{Long}
use Rattle.vax_form.specs.declared.operation.LongOperation.{LongOperation}
use Rattle.vax_form.specs.declared.operation.LongOperation.TheVariants.{CallGeneral, CallStack, MoveCharacters}
use Rattle.vax_form.specs.declared.operation.Operation.{Operation}
use Rattle.vax_form.specs.declared.operation.Operation.TheVariants as operations
use Rattle.vax_form.specs.declared.pages.Pages.{Pages}
use Rattle.vax_form.specs.declared.state.Flags.{Flags}
use Rattle.vax_long.specs.Instructions.{either_script, long_at, long_operation, long_script_where, long_tree_for, script_found, tree_at}
use Rattle.micro_ops.specs.Sources.{from, sources_of}
use Rattle.micro_ops.specs.declared.codes.CodeSource.TheVariants.{Computed, Kept}
use Rattle.micro_ops.specs.declared.codes.CodeSources.{CodeSources}
use Rattle.alpha_meaning.specs.Pieces.{Plain}
use Rattle.alpha_meaning.specs.State.{at_place}
use Rattle.exception_records.specs.Blocks.{BlockValue}
use Rattle.exception_records.specs.Codes.{all_ready}
use Rattle.exception_records.specs.declared.rules.Rules.{Rules}
use Rattle.block_law.specs.Follows.{Follows}
use Rattle.block_law.specs.Rounds.{block_steps, new_round}
use Rattle.block_law.specs.Translations.{has_loop, placed}
use Rattle.image_meaning.specs.Meant.{image_meaning}
use Rattle.image_meaning.specs.Permits.{bonus_by, bonus_of_operation, bytes_by, bytes_of_operation, bytes_written, loop_bonus, permit_of}
use Rattle.image_meaning.specs.declared.target.Target.{Target}
use Rattle.code_runs.specs.Codes.{code_sources}
use Rattle.code_runs.specs.Rules.{rules_behind}
use Rattle.flag_codegen.specs.Made.{codes_made}
use Rattle.flow_discovery.specs.Mapped.{has_call_block, has_string_block, is_call, is_string_move}
use Rattle.micro_lower.specs.Lowering.{GoesTo}
use Rattle.program_codegen.specs.StringPromises.{CompilesString, IsStringMove}
use Rattle.translate.specs.Compiled.{ArePages, Compiles, has_byte_word}
use Rattle.translate.proofs.Above.{opcode_at}
use Rattle.translate.proofs.Calls.{its_call, long_there, made_either, ready_either}
use Rattle.translate.proofs.Permitted.{permitted_long}

-- ---- the operation
pub its_move : (instr : Instr) → has_string_block instr ≡ true → long_at instr.opcode ≡ Some MoveCharacters
its_move instr has = by (long_at instr.opcode) has
  where
    by : (o : Option LongOperation) → is_string_move o ≡ true → o ≡ Some MoveCharacters
    by (Some MoveCharacters) e = refl
    by (Some _) e = absurd (cc e)
    by None e = absurd (cc e)

its_operation : (instr : Instr) → has_string_block instr ≡ true → operation_at instr.opcode ≡ Some (operations.Long MoveCharacters)
its_operation instr has = long_there (operation_at instr.opcode) MoveCharacters (its_move instr has)

pub string_move : (instr : Instr) → IsSpelled instr → has_string_block instr ≡ true → IsStringMove instr
string_move instr spelled has = record { spelled = spelled; operation = its_move instr has }

-- ---- loops
-- just its block has one
loops_by : (o : Option Operation) → nat_lt 0 (bonus_of_operation o) ≡ is_string_move (long_operation o)
unfolding long_operation
loops_by None = refl
loops_by (Some (operations.Long MoveCharacters)) = refl
loops_by (Some (operations.Long _)) = refl
loops_by (Some _) = refl

pub loops_there : (target : Target) (pages : Pages) (instr : Instr) → ArePages pages → instr.at < 2 ^ 32 → found pages instr.at ≡ instruction instr → has_loop (permit_of target pages) instr.at ≡ has_string_block instr
loops_there target pages instr are fits stands = ap (λ (o : Option ℕ). nat_lt 0 (bonus_by o)) (opcode_at pages instr are fits stands) ∙ loops_by (operation_at instr.opcode)

-- a call is none
pub call_is_no_move : (instr : Instr) (pages : Pages) → has_call_block instr pages ≡ true → has_string_block instr ≡ false
call_is_no_move instr pages has = let call = its_call instr pages has in ap is_string_move call.at ∙ by call.operation call.is
  where
    by : (operation : LongOperation) → is_call (Some operation) ≡ true → is_string_move (Some operation) ≡ false
    by CallGeneral is = refl
    by CallStack is = refl
    by _ is = absurd (cc is)

-- ---- its codes
abbrev move_sources : CodeSources
move_sources = from (Computed Long) (Computed Long)

move_sources_are : (instr : Instr) → has_string_block instr ≡ true → code_sources instr ≡ move_sources
unfolding code_sources sources_of
move_sources_are instr has = ap (λ (o : Option Operation). option_map_or sources_of o (from Kept Kept)) (its_operation instr has)

-- behind it all are ready
pub ready_behind_move : (instr : Instr) (live : Flags) (before : Rules) → has_string_block instr ≡ true → rules_behind (code_sources instr) live before ≡ all_ready
ready_behind_move instr live before has =
    ap (λ (s : CodeSources). rules_behind s live before) (move_sources_are instr has)
    ∙ rw (ready_either live.n, ready_either live.z, ready_either live.v, ready_either live.c) refl

-- and all are made
pub made_by_move : (instr : Instr) (live : Flags) → has_string_block instr ≡ true → codes_made (code_sources instr) live ≡ all
made_by_move instr live has =
    ap (λ (s : CodeSources). codes_made s live) (move_sources_are instr has)
    ∙ rw (made_either live.n, made_either live.z, made_either live.v, made_either live.c) refl

-- it goes on behind itself
pub move_goes : (instr : Instr) → GoesTo instr instr.after
move_goes instr = inl refl

-- ---- what its block does
-- no operand is written that is stored as a whole
nothing_written : written_bytes (operations.Long MoveCharacters) ≡ 0
unfolding written_bytes
nothing_written = refl

pub move_in_place : (target : Target) (pages : Pages) (instr : Instr) (before : Rules) (block : BlockValue) → has_string_block instr ≡ true
    → CompilesString instr before (has_byte_word target) block → Compiles target pages instr before all_ready block
move_in_place target pages instr before block has follows are stands code first thread n state held regs few in_place lt is_state pc form shows lead =
    let moves = its_move instr has in
    let fits : instr.at < 2 ^ 32 = subst (λ a. a < 2 ^ 32) pc is_state.pc in
    let there : found pages state.pc ≡ instruction instr = ap (found pages) pc ∙ stands in
    let tree : tree_at pages thread state ≡ long_tree_for state instr pages =
    ap (λ f. instruction_tree pages (script_found f thread) state) there
    ∙ (ap (λ (o : Option LongOperation). instruction_tree pages (either_script o instr thread) state) moves ∙ sym (ap (λ (o : Option LongOperation). instruction_tree pages (long_script_where o instr) state) moves)) in
    let opcode = opcode_at pages instr are fits stands in
    let bytes : bytes_written pages instr.at ≡ 0 = ap bytes_by opcode ∙ (ap bytes_of_operation (its_operation instr has) ∙ nothing_written) in
    let bonus : loop_bonus pages instr.at ≡ block_steps = ap bonus_by opcode ∙ ap bonus_of_operation (its_operation instr has) in
    subst (λ (t : Tree). Follows (placed (image_meaning pages) (permit_of target pages) code thread state held first) n Plain block_steps new_round (at_place regs first) t) (sym tree)
    (follows (image_meaning pages) (permit_of target pages) (record { table = are.table; kinds = permitted_long target pages instr.at 1 bytes; bonus = bonus }) code first thread n state held regs few in_place pc is_state form shows lead)
