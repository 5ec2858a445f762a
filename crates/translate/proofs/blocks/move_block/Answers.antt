-- The block of MOVC3, with what is asked of it in a translation.
use Rattle.std.proofs.Common.{◌∙◌, ℕ, Bool, List, [], refl, sym, ap, subst, All}
use Rattle.std.specs.Prelude.{if◌then◌else◌}
use Rattle.std.proofs.lemmas.List.Elements.{All-cons, All-nil}
use Rattle.block_law.specs.Blocks.{Exit, IsBlockOf}
use Rattle.exception_records.specs.Blocks.{BlockValue}
use Rattle.exception_records.specs.declared.rules.Rules.{Rules}
use Rattle.flow_discovery.specs.Mapped.{has_string_block}
use Rattle.micro_lower.specs.Lowering.{GoesTo}
use Rattle.program_codegen.specs.Calls.{call_block}
use Rattle.program_codegen.specs.Promises.{HasRules}
use Rattle.program_codegen.specs.StringPromises.{CompilesString}
use Rattle.program_codegen.specs.Strings.{string_block}
use Rattle.translate.specs.Compiled.{Compiles, block_of, has_byte_word, short_block}
use Rattle.translate.proofs.Asked.{all_of_map}
use Rattle.translate.proofs.Strings.{made_by_move, move_goes, move_in_place, ready_behind_move, string_move}
use Rattle.translate.proofs.blocks.move_block.Goals as goal

pub string_block-requires : goal.string_block-requires
string_block-requires c = record { moves = string_move c.args.instr.now c.requires.spelled c.requires.moves }

pub returns : goal.returns
unfolding block_of
returns c =
    let instr = c.args.instr.now in
    let pages = c.args.pages.now in
    let codes = c.args.codes.now in
    let target = c.args.target in
    let block = c.in_ok-block.block in
    let made = c.in_ok-block.ensures in
    let ready = c.requires.ready.behind ∙ ready_behind_move instr codes.live codes.before c.requires.moves in
    let means : CompilesString instr codes.before (has_byte_word target) block = subst (λ (has : Bool). CompilesString instr codes.before has block) c.has_byte_word.ensures made.means in
    record {
      value =
          ap (λ (b : BlockValue). (instr.at, b)) (made.words ∙ ap (λ (has : Bool). string_block instr codes.before has) c.has_byte_word.ensures)
          ∙ (ap (λ (moves : Bool). (instr.at, if moves then string_block instr codes.before (has_byte_word target) else short_block target instr codes)) (sym c.requires.moves)
          ∙ ap (λ (call : Bool). (instr.at, if call then call_block instr pages codes.before (has_byte_word target) else if has_string_block instr then string_block instr codes.before (has_byte_word target) else short_block target instr codes)) (sym c.requires.no_call));
      address = refl;
      shape = subst (λ (loops : Bool). IsBlockOf loops instr.at block) (sym c.requires.moves) made.shape;
      exits = all_of_map (GoesTo instr) (λ (exit : Exit). exit.1) block.exits
          (subst (λ (addresses : List ℕ). All (GoesTo instr) addresses) (sym made.exits) (All-cons (GoesTo instr) instr.after [] (move_goes instr) (All-nil (GoesTo instr))));
      first = made.first;
      rules = subst (λ (rules : Rules). All (HasRules codes.before rules) block.points) (sym ready) made.rules;
      written = made.written ∙ sym (made_by_move instr codes.live c.requires.moves);
      means = subst (λ (rules : Rules). Compiles target pages instr codes.before rules block) (sym ready) (move_in_place target pages instr codes.before block c.requires.moves means);
    }
