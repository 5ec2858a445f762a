-- What the block of a call promises.
use Rattle.std.proofs.Common.{◌≡◌, ℕ, ◌+◌, ◌^◌, ◌<◌, ◌≤◌, refl, sym, ap, ◌∙◌, arith, List, [], ◌∷◌, length, length-append, map, Bool, true, false, lit<, lit≤}
use Rattle.std.specs.Prelude.{All}
use Rattle.std.proofs.lemmas.List.{append-nil}
use Rattle.std.proofs.lemmas.Nat.{mod_below}
use Rattle.vax_form.specs.Codes.{all}
use Rattle.vax_form.specs.Targets.{behind_mask}
use Rattle.vax_form.specs.declared.instr.Instr.{Instr}
use Rattle.vax_form.specs.declared.pages.Pages.{Pages}
use Rattle.exception_records.specs.Codes.{all_ready}
use Rattle.exception_records.specs.declared.rules.Rules.{Rules}
use Rattle.micro_ops.specs.Fits.{all_keep_low}
use Rattle.micro_ops.specs.Known.{at_start}
use Rattle.micro_ops.specs.Laws.{IsLowPiece}
use Rattle.micro_ops.specs.declared.codes.CodeSources.{CodeSources}
use Rattle.micro_ops.specs.declared.program.Micro.{Micro}
use Rattle.micro_ops.proofs.Walks.{piece_keeps_low}
use Rattle.operand_programs.specs.InOrder.{no_steps}
use Rattle.operand_programs.proofs.Ordered.{all_steps_length}
use Rattle.block_law.specs.Blocks.{IsBlockOf}
use Rattle.block_law.specs.Tidy.{codes_written}
use Rattle.program_codegen.specs.declared.calls.Call.{Call}
use Rattle.program_codegen.specs.declared.lines.Line.{Line}
use Rattle.program_codegen.specs.declared.points.Site.{Site}
use Rattle.program_codegen.specs.Calls.{call_at, call_block, call_lines, call_site, destination_of, entry_words, front_program, list_program, specifiers_of, steps_of}
use Rattle.program_codegen.specs.CallPromises.{CompilesCall}
use Rattle.program_codegen.specs.Programs.{AllFitWords, AllHaveWords, AllRanged}
use Rattle.program_codegen.specs.Promises.{BeginsBy, HasRules}
use Rattle.program_codegen.specs.Words.{point_of, program_lines, with_first, words_of}
use Rattle.program_codegen.proofs.Beginning.{before, lines_begin, program_starts}
use Rattle.program_codegen.proofs.Blocking.{block_shape}
use Rattle.program_codegen.proofs.Compiled.{first_words}
use Rattle.program_codegen.proofs.Fitting.{fit_words, have_words}
use Rattle.program_codegen.proofs.Fronts.{Shape, exits_go}
use Rattle.program_codegen.proofs.Middle.{pushing}
use Rattle.program_codegen.proofs.Promised.{same_targets}
use Rattle.program_codegen.proofs.Shapes.{EachFits, first_each, has_rules}
use Rattle.program_codegen.proofs.Starting.{flags_same}
use Rattle.program_codegen.proofs.CallCompiled.{behind_front, call_compiles, frame_pushable, operands_fit, small_steps}
use Rattle.program_codegen.proofs.CallFacts.{CallFacts}
use Rattle.program_codegen.proofs.CallKnown.{end_known, front_known, left_fifteen}
use Rattle.program_codegen.proofs.CallOperations.{front_is_low, front_is_short, list_is_low, list_is_short}
use Rattle.program_codegen.proofs.CallShapes.{call_shape}

-- ---- words
pub keeps_low : (codes : CodeSources) (program : List Micro) → IsLowPiece program → all_keep_low codes program ≡ true
keeps_low codes program low = ap (all_keep_low codes) (sym (append-nil program)) ∙ piece_keeps_low codes program [] low

module _ (instr : Instr) (pages : Pages) (facts : CallFacts instr pages) where
  abbrev call : Call
  call = call_at instr pages

  pub fifteen : length (steps_of call) ≡ 15
  fifteen = all_steps_length (specifiers_of call) no_steps

  pub front_fits : (sources : CodeSources) → AllFitWords sources (front_program call)
  front_fits sources =
      let front = front_known sources call (operands_fit instr pages facts) in
      fit_words sources (front_program call) at_start front.known refl front.walks (keeps_low sources (front_program call) (front_is_low call facts.fit.placed))

  pub list_fits : (sources : CodeSources) → AllFitWords sources (list_program call.stack (steps_of call))
  list_fits sources =
      let front = front_known sources call (operands_fit instr pages facts) in
      let end = end_known sources call.stack (steps_of call) fifteen front.known front.ready front.goes_on front.registers in
      fit_words sources (list_program call.stack (steps_of call)) (pushing front.known) end.behind front.goes_on end.walks (keeps_low sources (list_program call.stack (steps_of call)) (list_is_low call.stack (steps_of call)))

  -- ---- the block
  module _ (rules : Rules) (byte_word : Bool) (after : instr.after < 2 ^ 32) (front_ranged : AllRanged (front_program call)) (list_ranged : AllRanged (list_program call.stack (steps_of call))) where
    abbrev site : Site
    site = call_site instr rules byte_word

    abbrev lines : List Line
    lines = call_lines site call

    front_words : AllHaveWords site.sources (front_program call)
    front_words = have_words site.sources (front_program call) (front_fits site.sources) front_ranged

    list_words : AllHaveWords site.sources (list_program call.stack (steps_of call))
    list_words = have_words site.sources (list_program call.stack (steps_of call)) (list_fits site.sources) list_ranged

    shape : Shape site false (entry_words call.mask) (call.entry ∷ []) 235 lines
    shape =
        call_shape site call (mod_below (destination_of instr + 2) (2 ^ 32) (lit< tt)) front_words list_words (front_is_short call facts.fit.placed) (list_is_short call.stack (steps_of call) (left_fifteen (steps_of call) fifteen))
        (frame_pushable (steps_of call) (λ number. small_steps call.stack call.first call.mask call.entry number facts.fit) call.mask).1

    pub short : length lines ≤ 256
    short = let most = shape.short in omega arith

    some : 1 ≤ length lines
    some =
        let size = length-append (program_lines site [] (front_program call)) (behind_front site call) in
        omega arith

    all_each : EachFits site 0 (with_first (point_of site) lines)
    all_each = first_each site lines shape.each

    pub is_block : IsBlockOf false instr.at (call_block instr pages rules byte_word)
    is_block = block_shape false site lines shape.each some short shape.kept

    pub goes_there : map (λ (exit : ℕ × ℕ). exit.1) (call_block instr pages rules byte_word).exits ≡ behind_mask (destination_of instr) ∷ []
    goes_there = exits_go 0 (with_first (point_of site) lines) ∙ (same_targets site lines ∙ shape.goes)

    pub rules_are : All (HasRules rules all_ready) (call_block instr pages rules byte_word).points
    rules_are = has_rules site 0 0 (with_first (point_of site) lines) all_each

    pub writes_all : codes_written (call_block instr pages rules byte_word).words ≡ all
    writes_all =
        ap codes_written (first_words (point_of site) lines)
        ∙ flags_same (codes_written (words_of lines)) (codes_written (entry_words call.mask)) (shape.writes 16 (lit≤ tt) (lit< tt)) (shape.writes 17 (lit≤ tt) (lit< tt)) (shape.writes 18 (lit≤ tt) (lit< tt)) (shape.writes 19 (lit≤ tt) (lit< tt))

    pub begins_so : BeginsBy rules (call_block instr pages rules byte_word)
    begins_so = lines_begin site lines (before site (program_lines site [] (front_program call)) (behind_front site call) (program_starts site [] (front_program call)) refl)

    pub compiles_call : CompilesCall instr pages rules byte_word (call_block instr pages rules byte_word)
    compiles_call = call_compiles instr rules byte_word after pages facts front_words list_words shape.each short
