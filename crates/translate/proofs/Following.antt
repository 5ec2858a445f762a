-- A block that follows the program of an instruction follows what the instruction means.
use Rattle.std.proofs.Common.{◌≡◌, ◌<◌, ◌^◌, refl, sym, ap, ◌∙◌, subst, Option, Some, None, List}
use Rattle.std.specs.Option.{option_map_or}
use Rattle.vax_form.specs.Grammar.{instruction}
use Rattle.vax_form.specs.GrammarFound.{found}
use Rattle.vax_form.specs.Operation.{operation_at}
use Rattle.vax_form.specs.Ranges.{IsInRange}
use Rattle.vax_form.specs.Row.{class_at, class_of_operation, class_where}
use Rattle.vax_form.specs.Tree.{Tree}
use Rattle.vax_form.specs.Written.{written_bytes}
use Rattle.vax_form.specs.declared.instr.Instr.{Instr}
use Rattle.vax_form.specs.declared.operation.Operation.{Operation}
use Rattle.vax_form.specs.declared.operation.Operation.TheVariants as operations
use Rattle.vax_form.specs.declared.pages.Pages.{Pages}
use Rattle.vax_form.specs.declared.row.Class.TheVariants.{Translated}
use Rattle.vax_meaning.specs.Instructions.{tree_for}
use Rattle.vax_long.specs.Instructions.{long_at, long_operation, tree_at}
use Rattle.vax_long.proofs.TreesAt.{short_stands}
use Rattle.micro_ops.specs.Leaving.{CodesAgree}
use Rattle.micro_ops.specs.Sources.{from, sources_of, codes_written_by}
use Rattle.micro_ops.specs.declared.codes.CodeSource.TheVariants.{Kept}
use Rattle.micro_ops.specs.declared.codes.CodeSources.{CodeSources}
use Rattle.micro_ops.specs.declared.program.Micro.{Micro}
use Rattle.block_law.specs.Follows.{Follows}
use Rattle.block_law.specs.Rounds.{block_steps, new_round}
use Rattle.block_law.specs.Translations.{placed}
use Rattle.block_law.proofs.Blocks.{follows_same}
use Rattle.alpha_meaning.specs.Pieces.{Plain}
use Rattle.alpha_meaning.specs.State.{at_place}
use Rattle.exception_records.specs.Blocks.{BlockValue}
use Rattle.exception_records.specs.declared.rules.Rules.{Rules}
use Rattle.image_meaning.specs.Meant.{codes_by, codes_of, image_meaning}
use Rattle.image_meaning.specs.Permits.{bytes_by, bytes_of_operation, bytes_written, permit_of}
use Rattle.image_meaning.specs.declared.target.Target.{Target}
use Rattle.image_meaning.proofs.TreesAt.{tree_at_stays_in_range}
use Rattle.micro_lower.specs.Lowering.{IsLowered, WritesOperand}
use Rattle.code_runs.proofs.Ready.{sources_are_written, translated_can}
use Rattle.code_runs.specs.Codes.{code_sources}
use Rattle.program_codegen.specs.Promises.{CompilesProgram, Writes, meant}
use Rattle.translate.specs.Compiled.{ArePages, Compiles, has_byte_word}
use Rattle.translate.proofs.Above.{opcode_at}
use Rattle.translate.proofs.Permitted.{permitted}
use Rattle.translate.proofs.Trees.{same_range}
use Rattle.micro_ops.proofs.Trees.{same_back}

-- the operation of a translated instruction
pub record HasOperation (instr : Instr) : Type 0 where
  pub operation : Operation
  pub is : operation_at instr.opcode ≡ Some operation
  pub class : class_of_operation operation ≡ Translated

pub has_operation : (instr : Instr) → class_at instr.opcode ≡ Translated → HasOperation instr
has_operation instr h = by (operation_at instr.opcode) refl h
  where
    by : (o : Option Operation) → operation_at instr.opcode ≡ o → class_where o ≡ Translated → HasOperation instr
    by None e c = absurd (cc c)
    by (Some operation) e c = record { operation = operation; is = e; class = c }

-- it isn't long
not_long : (operation : Operation) → class_of_operation operation ≡ Translated → long_operation (Some operation) ≡ None
unfolding class_of_operation long_operation
not_long (operations.Long operation) h = absurd (cc h)
not_long operation h = refl

pub sources_are : (instr : Instr) (operation : Operation) → operation_at instr.opcode ≡ Some operation → code_sources instr ≡ sources_of operation
unfolding code_sources
sources_are instr operation e = ap (λ (o : Option Operation). option_map_or sources_of o (from Kept Kept)) e

-- ---- the codes that an instruction of an image writes are those that have a source
pub written_agrees : (pages : Pages) (instr : Instr) (operation : Operation) → ArePages pages → instr.at < 2 ^ 32 → found pages instr.at ≡ instruction instr → operation_at instr.opcode ≡ Some operation → class_of_operation operation ≡ Translated
    → (image_meaning pages).written instr.at ≡ codes_written_by (sources_of operation)
written_agrees pages instr operation are fits stands e class =
    ap codes_by (opcode_at pages instr are fits stands) ∙ ap (λ (o : Option Operation). codes_of o) e ∙ sym (sources_are_written operation (translated_can operation class))

-- how many bytes the operand has that the instruction writes
bytes_agree : (pages : Pages) (instr : Instr) (operation : Operation) → ArePages pages → instr.at < 2 ^ 32 → found pages instr.at ≡ instruction instr → operation_at instr.opcode ≡ Some operation → bytes_written pages instr.at ≡ written_bytes operation
bytes_agree pages instr operation are fits stands e = ap bytes_by (opcode_at pages instr are fits stands) ∙ ap bytes_of_operation e

-- ---- from the program to the instruction
module _ (target : Target) (pages : Pages) (instr : Instr) (program : List Micro) (before behind : Rules) (block : BlockValue) (lowered : IsLowered instr program) (written : WritesOperand instr program) (translated : class_at instr.opcode ≡ Translated) where
  pub compiles : CompilesProgram instr (code_sources instr) program before behind (has_byte_word target) block → Compiles target pages instr before behind block
  compiles follows are stands code first thread n state held regs few in_place lt is_state pc form shows lead =
      let of = has_operation instr translated in
      let fits : instr.at < 2 ^ 32 = subst (λ a. a < 2 ^ 32) pc is_state.pc in
      let same = sources_are instr of.operation of.is in
      let meaning = image_meaning pages in
      let lowers = lowered.lowers of.operation of.is in
      let found_there : found pages state.pc ≡ instruction instr = ap (found pages) pc ∙ stands in
      let short : long_at instr.opcode ≡ None = ap long_operation of.is ∙ not_long of.operation of.class in
      let tree : tree_at pages thread state ≡ tree_for state instr pages thread = short_stands pages thread state instr found_there short in
      let means = lowers.means state pages thread is_state in
      let range : IsInRange pages (tree_for state instr pages thread) = subst (IsInRange pages) tree (tree_at_stays_in_range pages thread are.bytes lt state is_state) in
      let permit = permit_of target pages in
      let bytes = written_bytes of.operation in
      let writes : Writes (code_sources instr) (has_byte_word target) (written_bytes of.operation) instr.at meaning permit = record {
        pages = are.table;
        written = written_agrees pages instr of.operation are fits stands of.is of.class ∙ ap codes_written_by (sym same);
        kinds = permitted target pages instr.at (written_bytes of.operation) (bytes_agree pages instr of.operation are fits stands of.is);
      } in
      let agree : CodesAgree (code_sources instr) program state instr.after = subst (λ (s : CodeSources). CodesAgree s program state instr.after) (sym same) (lowers.holds state is_state) in
      let followed = follows bytes (written of.operation of.is) meaning permit writes code first thread n state held regs few in_place pc form shows lead (same_range pages (meant meaning thread instr program state) (tree_for state instr pages thread) means range) agree in
      subst (λ (t : Tree). Follows (placed meaning permit code thread state held first) n Plain block_steps new_round (at_place regs first) t) (sym tree)
      (follows_same (placed meaning permit code thread state held first) n Plain block_steps new_round (at_place regs first) (meant meaning thread instr program state) (tree_for state instr pages thread)
      (same_back (meant meaning thread instr program state) (tree_for state instr pages thread) means) followed)
