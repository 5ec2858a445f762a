use Rattle.std.proofs.Common.{◌≡◌, ◌∙◌, ℕ, Bool, List, [], Option, Some, map, refl, sym, ap, subst, All}
use Rattle.std.specs.Prelude.{if◌then◌else◌, unwrap_or}
use Rattle.vax_form.specs.Operation.{operation_at}
use Rattle.micro_ops.specs.declared.codes.CodeSources.{CodeSources}
use Rattle.micro_ops.specs.declared.program.Micro.{Micro}
use Rattle.alpha_encode.specs.declared.instr.AlphaInstr.{AlphaInstr}
use Rattle.exception_records.specs.declared.rules.Rules.{Rules}
use Rattle.block_law.specs.Blocks.{Exit, IsBlockOf}
use Rattle.flow_discovery.specs.Mapped.{has_string_block}
use Rattle.block_law.specs.CodeWords.{LeavesCodes}
use Rattle.block_law.specs.Tidy.{codes_written}
use Rattle.exception_records.specs.Blocks.{BlockValue}
use Rattle.flag_codegen.specs.Words.{code_words}
use Rattle.code_runs.specs.Codes.{code_sources}
use Rattle.micro_ops.specs.Exits.{addresses_of}
use Rattle.program_codegen.specs.Calls.{call_block}
use Rattle.program_codegen.specs.Programs.{KeepsTogether, LeavesReady, ReadsReady}
use Rattle.program_codegen.specs.Promises.{CompilesProgram}
use Rattle.program_codegen.specs.Strings.{string_block}
use Rattle.program_codegen.specs.Blocks.{program_block}
use Rattle.translate.specs.Compiled.{block_of, has_byte_word, short_block}
use Rattle.micro_lower.specs.Rows.{program_for}
use Rattle.micro_lower.specs.Lowering.{GoesTo}
use Rattle.translate.proofs.Asked.{all_of_map, keeps_together, reads_ready}
use Rattle.translate.proofs.Following.{compiles, sources_are}
use Rattle.translate.proofs.blocks.short_block.Goals as goal

pub block-requires-clause-codes : goal.block-requires-clause-codes
block-requires-clause-codes c =
    let instr = c.args.instr.now in
    let codes = c.args.codes.now in
    let words = c.in_ok-words.words.items in
    let is : operation_at instr.opcode ≡ Some c.in-Some.operation = sym c.operation_of.ensures ∙ c.in-Some.is in
    let same : code_sources instr ≡ c.sources_of-sources.result = sources_are instr c.in-Some.operation is ∙ sym c.sources_of-sources.ensures in
    subst (λ (words : List AlphaInstr). LeavesCodes c.sources_of-sources.result codes.before codes.behind words) (sym c.deref-2.ensures.value)
    (subst (λ (s : CodeSources). LeavesCodes s codes.before codes.behind words) same
    (subst (λ (rules : Rules). LeavesCodes (code_sources instr) codes.before rules words) (sym c.requires.ready.behind) (c.in_ok-words.ensures.leaves codes.before)))

pub block-requires-clause-reads : goal.block-requires-clause-reads
block-requires-clause-reads c =
    subst (λ (program : List Micro). ReadsReady c.args.codes.now.before program) (sym c.deref.ensures.value)
    (reads_ready c.args.instr.now c.in_ok-program.program.items c.args.codes.now.before c.in_ok-program.ensures.lowered c.requires.ready.reads)

pub block-requires-clause-leaves : goal.block-requires-clause-leaves
block-requires-clause-leaves c =
    subst (λ (program : List Micro). LeavesReady c.args.codes.now.behind program) (sym c.deref.ensures.value)
    (λ computed. c.requires.ready.ends (c.in_ok-program.ensures.lowered.keeps.computed computed))

pub block-requires-clause-together : goal.block-requires-clause-together
block-requires-clause-together c = subst KeepsTogether (sym c.sources_of-sources.ensures) (keeps_together c.in-Some.operation)

pub returns : goal.returns
unfolding block_of
returns c =
    let instr = c.args.instr.now in
    let codes = c.args.codes.now in
    let operation = c.in-Some.operation in
    let program = c.in_ok-program.program.items in
    let block = c.in_ok-block.block in
    let made = c.in_ok-block.ensures in
    let is : operation_at instr.opcode ≡ Some operation = sym c.operation_of.ensures ∙ c.in-Some.is in
    let same : c.sources_of-sources.result ≡ code_sources instr = c.sources_of-sources.ensures ∙ sym (sources_are instr operation is) in
    let left : addresses_of instr.after program ≡ map (λ (exit : Exit). exit.1) block.exits = sym (made.exits ∙ ap (addresses_of instr.after) c.deref.ensures.value) in
    let target = c.args.target in
    let means : CompilesProgram instr (code_sources instr) program codes.before codes.behind (has_byte_word target) block =
    subst (λ (has : Bool). CompilesProgram instr (code_sources instr) program codes.before codes.behind has block) c.has_byte_word.ensures
    (subst (λ (s : CodeSources). CompilesProgram instr s program codes.before codes.behind c.has_byte_word.result block) same
    (subst (λ (p : List Micro). CompilesProgram instr c.sources_of-sources.result p codes.before codes.behind c.has_byte_word.result block) c.deref.ensures.value made.means)) in
    let value : block ≡ program_block instr (code_sources instr) (unwrap_or (program_for instr) []) (code_words (code_sources instr) codes.live) codes.before codes.behind (has_byte_word target) =
    made.words
    ∙ ap (λ (p : List Micro). program_block instr c.sources_of-sources.result p c.deref-2.result.now codes.before codes.behind c.has_byte_word.result) c.deref.ensures.value
    ∙ ap (λ (words : List AlphaInstr). program_block instr c.sources_of-sources.result program words codes.before codes.behind c.has_byte_word.result) (c.deref-2.ensures.value ∙ c.in_ok-words.ensures.words)
    ∙ ap (λ (s : CodeSources). program_block instr s program (code_words (code_sources instr) codes.live) codes.before codes.behind c.has_byte_word.result) same
    ∙ ap (λ (o : Option (List Micro)). program_block instr (code_sources instr) (unwrap_or o []) (code_words (code_sources instr) codes.live) codes.before codes.behind c.has_byte_word.result) (sym c.in_ok-program.ensures.value)
    ∙ ap (λ (has : Bool). program_block instr (code_sources instr) (unwrap_or (program_for instr) []) (code_words (code_sources instr) codes.live) codes.before codes.behind has) c.has_byte_word.ensures in
    record {
      value =
          ap (λ (b : BlockValue). (instr.at, b)) value
          ∙ (ap (λ (moves : Bool). (instr.at, if moves then string_block instr codes.before (has_byte_word target) else short_block target instr codes)) (sym c.requires.still)
          ∙ ap (λ (call : Bool). (instr.at, if call then call_block instr c.args.pages.now codes.before (has_byte_word target) else if has_string_block instr then string_block instr codes.before (has_byte_word target) else short_block target instr codes)) (sym c.requires.short));
      address = refl;
      shape = subst (λ (loops : Bool). IsBlockOf loops instr.at block) (sym c.requires.still) made.shape;
      exits = all_of_map (GoesTo instr) (λ (exit : Exit). exit.1) block.exits (subst (λ (addresses : List ℕ). All (GoesTo instr) addresses) left c.in_ok-program.ensures.lowered.keeps.exits);
      first = made.first;
      rules = made.rules;
      written =
          made.written
          ∙ ap codes_written c.deref-2.ensures.value
          ∙ c.in_ok-words.ensures.writes;
      means = compiles target c.args.pages.now instr program codes.before codes.behind block c.in_ok-program.ensures.lowered c.in_ok-program.ensures.written c.requires.translated means;
    }
