use Rattle.std.proofs.Common.{◌≡◌, ◌∙◌, ℕ, ◌<◌, true, zero, suc, List, Option, Some, refl, sym, ap, subst, arith}
use Rattle.std.specs.Option.{option_map_or}
use Rattle.vax_form.specs.Operation.{operation_at}
use Rattle.vax_form.specs.declared.operation.Operation.{Operation}
use Rattle.alpha_encode.specs.declared.instr.AlphaInstr.{AlphaInstr}
use Rattle.block_law.specs.CodeWords.{LeavesCodes}
use Rattle.code_runs.specs.Codes.{code_sources}
use Rattle.exception_records.specs.Codes.{all_ready, is_ready}
use Rattle.exception_records.specs.declared.rules.Rules.{Rules}
use Rattle.micro_ops.specs.Sources.{from, sources_of}
use Rattle.micro_ops.specs.declared.codes.CodeSource.TheVariants.{Kept}
use Rattle.micro_ops.specs.declared.codes.CodeSources.{CodeSources}
use Rattle.program_codegen.specs.Programs.{rule_of}
use Rattle.block_rows.proofs.blocks.made.Goals as goal

each_is_ready : (flag : ℕ) → flag < 4 → is_ready (rule_of flag all_ready) ≡ true
each_is_ready zero lt = refl
each_is_ready (suc zero) lt = refl
each_is_ready (suc (suc zero)) lt = refl
each_is_ready (suc (suc (suc zero))) lt = refl
each_is_ready (suc (suc (suc (suc flag)))) lt = absurd (omega (arith, lt))

pub block-requires-clause-reads : goal.block-requires-clause-reads
block-requires-clause-reads c flag small reads = each_is_ready flag small

pub block-requires-clause-codes : goal.block-requires-clause-codes
unfolding code_sources
block-requires-clause-codes c =
    let words = c.in-Ok.words.items in
    let behind = c.in-Ok.behind in
    let is : operation_at c.args.opcode ≡ Some c.in-Some.operation = sym c.operation_of.ensures ∙ c.in-Some.is in
    let same : option_map_or sources_of (operation_at c.args.opcode) (from Kept Kept) ≡ c.sources_of-sources.result =
    ap (λ (o : Option Operation). option_map_or sources_of o (from Kept Kept)) is ∙ sym c.sources_of-sources.ensures in
    subst (λ (words : List AlphaInstr). LeavesCodes c.sources_of-sources.result all_ready behind words) (sym c.deref.ensures.value)
    (subst (λ (s : CodeSources). LeavesCodes s all_ready behind words) same
    (subst (λ (rules : Rules). LeavesCodes (option_map_or sources_of (operation_at c.args.opcode) (from Kept Kept)) all_ready rules words) (sym c.in-Ok.ensures.rules)
    (c.in-Ok.ensures.leaves all_ready)))
