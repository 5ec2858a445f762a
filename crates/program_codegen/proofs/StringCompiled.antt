-- Wherever the block of MOVC3 stands, it follows the instruction's tree.
use Rattle.std.proofs.Common.{◌≡◌, ℕ, ◌+◌, ◌/◌, ◌^◌, ◌<◌, ◌≤◌, refl, sym, ap, ◌∙◌, subst, arith, List, [], ◌++◌, length, length-append, map, None, Bool, true, false, lit<}
use Rattle.std.specs.List.{list_all}
use Rattle.vax_form.specs.PageTable.{IsPageTable}
use Rattle.vax_form.specs.State.{IsState}
use Rattle.vax_form.specs.declared.instr.Instr.{Instr}
use Rattle.vax_long.specs.Instructions.{long_tree_for}
use Rattle.alpha_meaning.specs.Pieces.{Plain}
use Rattle.alpha_meaning.specs.State.{Regs, at_place}
use Rattle.exception_records.specs.Codes.{all_ready}
use Rattle.exception_records.specs.declared.rules.Rules.{Rules}
use Rattle.micro_ops.specs.Known.{at_start}
use Rattle.micro_ops.specs.Meaning.{Standing, course_of, started}
use Rattle.micro_ops.specs.Uses.{has_bytes}
use Rattle.micro_ops.specs.declared.known.Holding.{Holding}
use Rattle.micro_ops.specs.declared.known.Holding.TheVariants.{Longword}
use Rattle.micro_ops.specs.declared.known.Known.{Known}
use Rattle.operand_programs.specs.InOrder.{no_steps}
use Rattle.operand_programs.proofs.Agrees.{agreed, held as kept_fact}
use Rattle.operand_programs.proofs.Ordered.{all_steps_length}
use Rattle.block_law.specs.Laws.{MoreKinds}
use Rattle.block_law.specs.Placements.{Placement}
use Rattle.block_law.specs.Rounds.{block_steps, new_round}
use Rattle.block_law.specs.Translations.{placed}
use Rattle.block_law.proofs.Blocks.{follows_same}
use Rattle.block_law.proofs.Rules.{Always}
use Rattle.program_codegen.specs.declared.lines.Line.{Line}
use Rattle.program_codegen.specs.declared.points.Site.{Site}
use Rattle.program_codegen.specs.Accesses.{needed}
use Rattle.program_codegen.specs.Programs.{AllHaveWords, ReadsReady}
use Rattle.program_codegen.specs.Strings.{behind_words, move_words, operands_of, specifiers_of, steps_of, string_block, string_check, string_lines, string_site}
use Rattle.program_codegen.specs.StringPromises.{CompilesString}
use Rattle.program_codegen.specs.Words.{exit_lines, plain, point_of, program_lines, read_by, with_first, write_by}
use Rattle.program_codegen.proofs.CallOperations.{all_of, either_goes, evaluation_either, is_either, is_evaluation, reads_none}
use Rattle.program_codegen.proofs.Compiled.{within_block}
use Rattle.program_codegen.proofs.Going.{goes, goes_on, left_at}
use Rattle.program_codegen.proofs.Holding.{Holds, HoldsAs, found, tree}
use Rattle.program_codegen.proofs.Shapes.{EachFits, each_whole, first_each}
use Rattle.program_codegen.proofs.Starting.{holds_at_start}
use Rattle.program_codegen.proofs.StringFacts.{StringFacts}
use Rattle.program_codegen.proofs.StringFew.{steps_few_bytes}
use Rattle.program_codegen.proofs.StringFront.{IsShortLeft, onward, string_agrees}
use Rattle.program_codegen.proofs.StringKnown.{IsReadyToMove, KnowsMove, move_known}
use Rattle.program_codegen.proofs.StringRuns.{follows_strings}
use Rattle.program_codegen.proofs.StringShapes.{evaluation_sized, operands_are}
use Rattle.program_codegen.proofs.StringState.{IsChecked}
use Rattle.program_codegen.proofs.Walk.{Within, plain_length}
use Rattle.micro_ops.proofs.Trees.{same_back}

-- what stands behind the operands
abbrev pub behind_lines : Site → Instr → List Line
behind_lines site instr =
    string_check site 1 false ++ (string_check site 2 true ++ (map plain (behind_words (steps_of instr)) ++ (map plain (move_words site.byte_word) ++ exit_lines site.after)))

abbrev behind_need : Site → Instr → ℕ
behind_need site instr = length (behind_words (steps_of instr)) + (9 + (length (read_by site.byte_word 22 1 24) + (length (write_by site.byte_word 23 1 24) + (3 + 4)))) + 1 + 1 + 1 + 1

move_count : (byte_word : Bool) → length (move_words byte_word) ≡ 13 + (length (read_by byte_word 22 1 24) + length (write_by byte_word 23 1 24))
move_count false = refl
move_count true = refl

module _ (instr : Instr) (before : Rules) (byte_word : Bool) where
  abbrev site : Site
  site = string_site instr before byte_word

  module _ (p : Placement) (table : IsPageTable p.pages) (kinds : MoreKinds (needed byte_word 1) p.kinds) (bonus : p.bonus ≡ block_steps) (ok : IsState p.begun) (facts : StringFacts instr)
      (words : AllHaveWords site.sources (operands_of instr)) where
    abbrev front : KnowsMove site.sources instr
    front = move_known site.sources instr facts.fit

    fifteen : length (steps_of instr) ≡ 15
    fifteen = all_steps_length (specifiers_of instr) no_steps

    longword : (holding : Holding) (v r : ℕ) → holding ≡ Longword → HoldsAs holding v r → (r ≡ v) × (v < 2 ^ 32)
    longword holding v r e is = subst (λ (h : Holding). HoldsAs h v r) e is

    checked : (known : Known) (standing : Standing) (regs : Regs) → IsReadyToMove known → Holds p site known standing regs → IsChecked p.begun (standing.temps 0) (standing.temps 1) (standing.temps 2) regs
    checked known standing regs ready h = record {
      form = h.form;
      registers = λ number lt. h.registers number lt (ready.uncommitted number);
      upper = ap (λ x. x / 16) (sym (h.same_psw ready.no_codes ready.no_psw)) ∙ h.upper;
      count_in = (longword known.temp0 (standing.temps 0) (regs 21) ready.count (h.temps 0 (lit< tt))).0;
      source_in = (longword known.temp1 (standing.temps 1) (regs 22) ready.source (h.temps 1 (lit< tt))).0;
      destination_in = (longword known.temp2 (standing.temps 2) (regs 23) ready.destination (h.temps 2 (lit< tt))).0;
    }

    goes_behind : (standing : Standing) (regs : Regs) (pc : ℕ) → Within p all_ready pc (behind_lines site instr) → Holds p site front.known standing regs → standing.temps 0 < 2 ^ 16
        → Always p None (behind_need site instr) (at_place regs pc) (onward instr p.begun (left_at site standing))
    goes_behind standing regs pc w h short =
        follows_strings p site table kinds bonus refl ok (standing.temps 0) (standing.temps 1) (standing.temps 2) (steps_of instr) fifteen (steps_few_bytes instr facts.fit) short
        (longword front.known.temp1 (standing.temps 1) (regs 22) front.ready.source (h.temps 1 (lit< tt))).1
        (longword front.known.temp2 (standing.temps 2) (regs 23) front.ready.destination (h.temps 2 (lit< tt))).1 pc regs w (checked front.known standing regs front.ready h)

    either : list_all is_either (operands_of instr) ≡ true
    either = all_of is_evaluation is_either evaluation_either (operands_of instr) (operands_are instr)

    reads_ready : ReadsReady site.before (operands_of instr)
    reads_ready flag lt reads = absurd (cc (sym (reads_none flag (operands_of instr) either) ∙ reads))

    string_follows : (regs : Regs) (pc : ℕ) → Within p all_ready pc (string_lines site instr) → Holds p site at_start (started p.begun) regs
        → Always p None (length (program_lines site [] (operands_of instr)) + behind_need site instr) (at_place regs pc) (long_tree_for p.begun instr p.pages)
    string_follows regs pc w h n spare round fits =
        let agrees = string_agrees p site instr ok facts.is facts.readable facts.source facts.destination in
        let course = course_of (operands_of instr) (found p site) (started p.begun) in
        follows_same p n Plain spare round (at_place regs pc) (tree (onward instr p.begun) course) (long_tree_for p.begun instr p.pages)
        (same_back _ (long_tree_for p.begun instr p.pages) (agreed IsShortLeft (onward instr p.begun) course (long_tree_for p.begun instr p.pages) agrees))
        (goes_on p site [] table 1 kinds (onward instr p.begun) IsShortLeft (operands_of instr) (behind_lines site instr) (behind_need site instr) at_start front.known (started p.begun) regs pc w (omega arith)
        (all_of is_either goes either_goes (operands_of instr) either) (all_of is_evaluation (has_bytes 1) (evaluation_sized 1) (operands_of instr) (operands_are instr)) words reads_ready refl front.walks h
        (kept_fact IsShortLeft (onward instr p.begun) course (long_tree_for p.begun instr p.pages) agrees) goes_behind n spare round fits)

  -- how many lines there are
  total : length (string_lines site instr) ≡ length (program_lines site [] (operands_of instr)) + behind_need site instr
  total =
      let a = length-append (program_lines site [] (operands_of instr)) (behind_lines site instr) in
      let b = length-append (map plain (behind_words (steps_of instr))) (map plain (move_words byte_word) ++ exit_lines site.after) in
      let c = length-append (map plain (move_words byte_word)) (exit_lines site.after) in
      let d = plain_length (behind_words (steps_of instr)) in
      let e = plain_length (move_words byte_word) in
      let f = move_count byte_word in
      omega arith

  pub string_compiles : StringFacts instr → AllHaveWords site.sources (operands_of instr) → EachFits site 0 (string_lines site instr) → length (string_lines site instr) ≤ 256
      → CompilesString instr before byte_word (string_block instr before byte_word)
  string_compiles facts words each short meaning permit may code first thread n state held regs few stands at ok form shows leads =
      let p = placed meaning permit code thread state held first in
      let lines = string_lines site instr in
      let size = total in
      string_follows (placed meaning permit code thread state held first) may.table (subst (λ (address : ℕ). MoreKinds (needed byte_word 1) (permit.kinds address)) (sym at) may.kinds) (ap permit.bonus at ∙ may.bonus) ok facts words
      regs first
      (within_block meaning permit code thread state held first all_ready (point_of site) lines few (each_whole site 0 (with_first (point_of site) lines) (first_each site lines each)) stands leads)
      (holds_at_start p site instr.at regs form shows)
      n block_steps new_round (subst (λ (m : ℕ). m ≤ 256) size short)
