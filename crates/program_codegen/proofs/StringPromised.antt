-- What the block of MOVC3 promises.
use Rattle.std.proofs.Common.{◌≡◌, ℕ, ◌^◌, ◌<◌, ◌≤◌, refl, ap, ◌∙◌, List, [], ◌∷◌, length, map, Bool, true}
use Rattle.std.specs.Prelude.{All}
use Rattle.vax_form.specs.Codes.{all}
use Rattle.vax_form.specs.declared.instr.Instr.{Instr}
use Rattle.exception_records.specs.Codes.{all_ready}
use Rattle.exception_records.specs.declared.rules.Rules.{Rules}
use Rattle.micro_ops.specs.Known.{at_start}
use Rattle.micro_ops.specs.declared.codes.CodeSources.{CodeSources}
use Rattle.block_law.specs.Blocks.{IsBlockOf}
use Rattle.block_law.specs.Tidy.{codes_written}
use Rattle.program_codegen.specs.declared.lines.Line.{Line}
use Rattle.program_codegen.specs.declared.points.Site.{Site}
use Rattle.program_codegen.specs.Programs.{AllFitWords, AllHaveWords, AllRanged}
use Rattle.program_codegen.specs.Promises.{BeginsBy, HasRules}
use Rattle.program_codegen.specs.StringPromises.{CompilesString}
use Rattle.program_codegen.specs.Strings.{operands_of, string_block, string_lines, string_site}
use Rattle.program_codegen.specs.Words.{point_of, program_lines, with_first, words_of}
use Rattle.program_codegen.proofs.Beginning.{before, lines_begin, program_starts}
use Rattle.program_codegen.proofs.Blocking.{block_shape}
use Rattle.program_codegen.proofs.CallPromised.{keeps_low}
use Rattle.program_codegen.proofs.Compiled.{first_words}
use Rattle.program_codegen.proofs.Fitting.{fit_words, have_words}
use Rattle.program_codegen.proofs.Fronts.{exits_go}
use Rattle.program_codegen.proofs.Promised.{same_targets}
use Rattle.program_codegen.proofs.Shapes.{EachFits, first_each, has_rules}
use Rattle.program_codegen.proofs.Starting.{flags_same}
use Rattle.program_codegen.proofs.StringCompiled.{behind_lines, string_compiles}
use Rattle.program_codegen.proofs.StringFacts.{StringFacts}
use Rattle.program_codegen.proofs.StringKnown.{move_known}
use Rattle.program_codegen.proofs.StringShapes.{operands_low, string_each, string_goes, string_keeps, string_short, string_some, string_writes}

module _ (instr : Instr) (facts : StringFacts instr) where
  pub operands_fit_words : (sources : CodeSources) → AllFitWords sources (operands_of instr)
  operands_fit_words sources =
      let front = move_known sources instr facts.fit in
      fit_words sources (operands_of instr) at_start front.known refl front.walks (keeps_low sources (operands_of instr) (operands_low instr facts.fit))

  module _ (rules : Rules) (byte_word : Bool) (after : instr.after < 2 ^ 32) (ranged : AllRanged (operands_of instr)) where
    abbrev site : Site
    site = string_site instr rules byte_word

    abbrev lines : List Line
    lines = string_lines site instr

    words : AllHaveWords site.sources (operands_of instr)
    words = have_words site.sources (operands_of instr) (operands_fit_words site.sources) ranged

    pub short : length lines ≤ 256
    short = string_short site instr after facts.fit words

    each : EachFits site 0 lines
    each = string_each site instr after facts.fit words

    pub is_block : IsBlockOf true instr.at (string_block instr rules byte_word)
    is_block = block_shape true site lines each (string_some site instr after facts.fit words) short (string_keeps site instr after facts.fit words)

    pub goes_there : map (λ (exit : ℕ × ℕ). exit.1) (string_block instr rules byte_word).exits ≡ instr.after ∷ []
    goes_there = exits_go 0 (with_first (point_of site) lines) ∙ (same_targets site lines ∙ string_goes site instr after facts.fit words)

    pub rules_are : All (HasRules rules all_ready) (string_block instr rules byte_word).points
    rules_are = has_rules site 0 0 (with_first (point_of site) lines) (first_each site lines each)

    pub writes_all : codes_written (string_block instr rules byte_word).words ≡ all
    writes_all =
        ap codes_written (first_words (point_of site) lines)
        ∙ flags_same (codes_written (words_of lines)) all (string_writes site instr after facts.fit words 16 refl) (string_writes site instr after facts.fit words 17 refl) (string_writes site instr after facts.fit words 18 refl)
        (string_writes site instr after facts.fit words 19 refl)

    pub begins_so : BeginsBy rules (string_block instr rules byte_word)
    begins_so = lines_begin site lines (before site (program_lines site [] (operands_of instr)) (behind_lines site instr) (program_starts site [] (operands_of instr)) refl)

    pub compiles_string : CompilesString instr rules byte_word (string_block instr rules byte_word)
    compiles_string = string_compiles instr rules byte_word facts words each short
