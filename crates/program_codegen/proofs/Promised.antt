-- What the block of a program that fits promises.
use Rattle.std.proofs.Common.{◌≡◌, ℕ, ◌+◌, ◌^◌, ◌<◌, ◌≤◌, refl, ap, ◌∙◌, arith, List, [], ◌∷◌, length, map, Option, Some, None, Bool, true, false, lit<, lit≤, Result, Ok, Err}
use Rattle.std.specs.Prelude.{All, IfOk, nat_le}
use Rattle.std.proofs.lemmas.Bool.Decides.{nat_tests}
use Rattle.vax_form.specs.declared.instr.Instr.{Instr}
use Rattle.alpha_encode.specs.Words.{IsEncodable}
use Rattle.alpha_encode.specs.declared.instr.AlphaInstr.{AlphaInstr}
use Rattle.exception_records.specs.declared.rules.Rules.{Rules}
use Rattle.micro_ops.specs.declared.codes.CodeSources.{CodeSources}
use Rattle.micro_ops.specs.declared.program.Micro.{Micro}
use Rattle.micro_ops.specs.Fits.{fits, walk, is_ended, all_keep_low, most_words}
use Rattle.micro_ops.specs.Known.{at_start}
use Rattle.micro_ops.specs.declared.known.Known.{Known}
use Rattle.micro_ops.specs.WordCounts.{program_words}
use Rattle.block_law.specs.Blocks.{IsBlockOf}
use Rattle.block_law.specs.CodeWords.{LeavesCodes}
use Rattle.block_law.specs.Tidy.{codes_written}
use Rattle.micro_ops.specs.Exits.{addresses_of}
use Rattle.program_codegen.specs.declared.lines.Line.{Line}
use Rattle.program_codegen.specs.declared.points.Site.{Site}
use Rattle.program_codegen.specs.Words.{point_of, with_first, words_of, block_of, site_of}
use Rattle.program_codegen.specs.Blocks.{block_lines, chosen_lines, program_block}
use Rattle.program_codegen.specs.Programs.{AllFitWords, AllHaveWords, RangedToLeave, ReadsReady, LeavesReady, KeepsTogether, is_narrow}
use Rattle.program_codegen.specs.Promises.{HasRules, CompilesProgram}
use Rattle.program_codegen.proofs.Numbers.{all_three}
use Rattle.program_codegen.proofs.Starting.{flags_same}
use Rattle.program_codegen.proofs.Chosen.{chosen_shape, chosen_some}
use Rattle.program_codegen.proofs.Compiled.{first_length, compiles, first_words}
use Rattle.program_codegen.proofs.Shapes.{EachFits, first_each, each_whole, has_rules}
use Rattle.program_codegen.proofs.Blocking.{block_shape}
use Rattle.program_codegen.proofs.Fronts.{targets, exits_go, Shape}
use Rattle.program_codegen.proofs.Fitting.{fit_words, have_words, ranged_to_end}
use Rattle.program_codegen.proofs.Departures.{leaving_follows}

pub if_ok_both : {A E : Type 0} (r : Result A E) (P R Q : A → Type 0) → ((a : A) → P a → R a → Q a) → IfOk r P → IfOk r R → IfOk r Q
if_ok_both (Ok a) P R Q f h k = f a h k
if_ok_both (Err e) P R Q f h k = h

-- ---- a program that fits
ended_some : (walked : Option Known) → is_ended walked ≡ true → (known : Known) × (walked ≡ Some known)
ended_some None e = absurd (cc e)
ended_some (Some known) e = (known, refl)

pub all_fit : (sources : CodeSources) (program : List Micro) → fits sources program ≡ true → AllFitWords sources program
all_fit sources program e =
    let x = all_three (is_ended (walk sources at_start program)) (all_keep_low sources program) (nat_le (program_words sources program) most_words) e in
    let last = ended_some (walk sources at_start program) x.0 in
    fit_words sources program at_start last.0 refl last.1 x.1

pub same_targets : (site : Site) (lines : List Line) → targets (with_first (point_of site) lines) ≡ targets lines
same_targets site [] = refl
same_targets site (line ∷ lines) = refl

module _ (site : Site) (program : List Micro) (codes : List AlphaInstr) (fit : fits site.sources program ≡ true) (leaves : LeavesCodes site.sources site.before site.behind codes) (encodable : All IsEncodable codes) (together : KeepsTogether site.sources) (after : site.after < 2 ^ 32) (ranged : RangedToLeave program) where
  abbrev parts : (is_ended (walk site.sources at_start program) ≡ true) × (all_keep_low site.sources program ≡ true) × (nat_le (program_words site.sources program) most_words ≡ true)
  parts = all_three (is_ended (walk site.sources at_start program)) (all_keep_low site.sources program) (nat_le (program_words site.sources program) most_words) fit

  ended : is_ended (walk site.sources at_start program) ≡ true
  ended = parts.0

  pub all_have : AllHaveWords site.sources program
  all_have = have_words site.sources program (all_fit site.sources program fit) (ranged_to_end site.sources program at_start ended ranged)

  shape : Shape site false codes (addresses_of site.after program) (program_words site.sources program + 59) (chosen_lines site codes program)
  shape = chosen_shape site codes after encodable leaves.few leaves.only together program ended all_have

  short : length (chosen_lines site codes program) ≤ 256
  short =
      let few : program_words site.sources program ≤ 192 = room (program_words site.sources program) parts.2 in
      let most = shape.short in
      omega arith
    where
      room : (n : ℕ) → nat_le n 192 ≡ true → n ≤ 192
      room n e = grind (arith, nat_tests, e)

  pub few_lines : length (block_lines site codes program) ≤ 256
  few_lines = let count = first_length (point_of site) (chosen_lines site codes program) in let le = short in omega arith

  all_each : EachFits site 0 (block_lines site codes program)
  all_each = first_each site (chosen_lines site codes program) shape.each

  pub is_block : IsBlockOf false site.at (block_of (block_lines site codes program))
  is_block = block_shape false site (chosen_lines site codes program) shape.each (chosen_some site codes program ended) short shape.kept

  pub goes_there : map (λ (exit : ℕ × ℕ). exit.1) (block_of (block_lines site codes program)).exits ≡ addresses_of site.after program
  goes_there = exits_go 0 (block_lines site codes program) ∙ (same_targets site (chosen_lines site codes program) ∙ shape.goes)

  pub rules_are : All (HasRules site.before site.behind) (block_of (block_lines site codes program)).points
  rules_are = has_rules site 0 0 (block_lines site codes program) all_each

  pub writes_codes : codes_written (block_of (block_lines site codes program)).words ≡ codes_written codes
  writes_codes =
      ap codes_written (first_words (point_of site) (chosen_lines site codes program))
      ∙ flags_same (codes_written (words_of (chosen_lines site codes program))) (codes_written codes)
      (shape.writes 16 (lit≤ tt) (lit< tt)) (shape.writes 17 (lit≤ tt) (lit< tt)) (shape.writes 18 (lit≤ tt) (lit< tt)) (shape.writes 19 (lit≤ tt) (lit< tt))

pub compiles_program : (instr : Instr) (sources : CodeSources) (program : List Micro) (codes : List AlphaInstr) (before behind : Rules) (byte_word : Bool) → fits sources program ≡ true → LeavesCodes sources before behind codes → All IsEncodable codes
    → ReadsReady before program → LeavesReady behind program → KeepsTogether sources → is_narrow behind.v ≡ true → instr.after < 2 ^ 32 → RangedToLeave program
    → CompilesProgram instr sources program before behind byte_word (program_block instr sources program codes before behind byte_word)
compiles_program instr sources program codes before behind byte_word fit leaves encodable reads ready together narrow after ranged =
    let site : Site = site_of instr sources before behind byte_word in
    compiles instr sources program codes before behind byte_word leaves together narrow after (all_have site program codes fit leaves encodable together after ranged) reads ready
    (ended site program codes fit leaves encodable together after ranged) (each_whole site 0 (block_lines site codes program) (all_each site program codes fit leaves encodable together after ranged))
    (short site program codes fit leaves encodable together after ranged) (λ p setting. leaving_follows p site codes setting)
