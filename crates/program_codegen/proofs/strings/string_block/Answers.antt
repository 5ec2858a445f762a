-- What the block of MOVC3 promises.
use Rattle.std.proofs.Common.{◌≡◌, ℕ, ◌<◌, ◌≤◌, ◌^◌, ◌∷◌, [], length, map, true, sym, subst}
use Rattle.std.specs.Prelude.{All, IfOk}
use Rattle.vax_form.specs.Codes.{all}
use Rattle.exception_records.specs.Blocks.{BlockValue}
use Rattle.exception_records.specs.Codes.{all_ready}
use Rattle.block_law.specs.Blocks.{IsBlockOf}
use Rattle.block_law.specs.Tidy.{codes_written}
use Rattle.program_codegen.specs.Programs.{AllRanged}
use Rattle.program_codegen.specs.Promises.{BeginsBy, HasRules}
use Rattle.program_codegen.specs.StringPromises.{AreLongStrings, CompilesString}
use Rattle.program_codegen.specs.Strings.{operands_of, string_block, string_lines}
use Rattle.program_codegen.specs.Words.{block_of, point_of, with_first}
use Rattle.program_codegen.specs.declared.points.Site.{Site}
use Rattle.program_codegen.proofs.Promised.{if_ok_both}
use Rattle.program_codegen.proofs.StringFacts.{string_facts}
use Rattle.program_codegen.proofs.StringPromised.{begins_so, compiles_string, goes_there, is_block, operands_fit_words, rules_are, short, writes_all}
use Rattle.program_codegen.proofs.strings.string_block.Goals as goal

pub marked_block-requires-clause-operands : goal.marked_block-requires-clause-operands
marked_block-requires-clause-operands c =
    λ long. operands_fit_words c.args.instr.now (string_facts c.args.instr.now c.piece_laws.ensures.named long c.requires.moves) c.string_site.result.sources

pub marked_block-requires-clause-few : goal.marked_block-requires-clause-few
marked_block-requires-clause-few c =
    subst (λ (site : Site). AreLongStrings c.args.instr.now → AllRanged (operands_of c.args.instr.now) → site.after < 2 ^ 32 → length (string_lines site c.args.instr.now) ≤ 256) (sym c.string_site.ensures)
    (λ long ranged after. short c.args.instr.now (string_facts c.args.instr.now c.piece_laws.ensures.named long c.requires.moves) c.args.before c.args.byte_word after ranged)

pub returns-clause-words : goal.returns-clause-words
returns-clause-words c =
    subst (λ (site : Site). IfOk c.marked_block.result (λ (b : BlockValue). b ≡ block_of (with_first (point_of site) (string_lines site c.args.instr.now)))) c.string_site.ensures c.marked_block.ensures.block

pub returns-clause-shape : goal.returns-clause-shape
returns-clause-shape c =
    if_ok_both c.marked_block.result (λ (b : BlockValue). b ≡ string_block c.args.instr.now c.args.before c.args.byte_word) (λ b. AllRanged (operands_of c.args.instr.now)) (IsBlockOf true c.args.instr.now.at)
    (λ b e ranged. subst (IsBlockOf true c.args.instr.now.at) (sym e)
    (is_block c.args.instr.now (string_facts c.args.instr.now c.piece_laws.ensures.named c.marked_block.ensures.long c.requires.moves) c.args.before c.args.byte_word (subst (λ (site : Site). site.after < 2 ^ 32) c.string_site.ensures c.marked_block.ensures.after) ranged))
    (returns-clause-words c) c.marked_block.ensures.ranged

pub returns-clause-exits : goal.returns-clause-exits
returns-clause-exits c =
    if_ok_both c.marked_block.result (λ (b : BlockValue). b ≡ string_block c.args.instr.now c.args.before c.args.byte_word) (λ b. AllRanged (operands_of c.args.instr.now)) (λ (b : BlockValue). map (λ (exit : ℕ × ℕ). exit.1) b.exits ≡ c.args.instr.now.after ∷ [])
    (λ b e ranged. subst (λ (b : BlockValue). map (λ (exit : ℕ × ℕ). exit.1) b.exits ≡ c.args.instr.now.after ∷ []) (sym e)
    (goes_there c.args.instr.now (string_facts c.args.instr.now c.piece_laws.ensures.named c.marked_block.ensures.long c.requires.moves) c.args.before c.args.byte_word (subst (λ (site : Site). site.after < 2 ^ 32) c.string_site.ensures c.marked_block.ensures.after) ranged))
    (returns-clause-words c) c.marked_block.ensures.ranged

pub returns-clause-first : goal.returns-clause-first
returns-clause-first c =
    if_ok_both c.marked_block.result (λ (b : BlockValue). b ≡ string_block c.args.instr.now c.args.before c.args.byte_word) (λ b. AllRanged (operands_of c.args.instr.now)) (BeginsBy c.args.before)
    (λ b e ranged. subst (BeginsBy c.args.before) (sym e)
    (begins_so c.args.instr.now (string_facts c.args.instr.now c.piece_laws.ensures.named c.marked_block.ensures.long c.requires.moves) c.args.before c.args.byte_word (subst (λ (site : Site). site.after < 2 ^ 32) c.string_site.ensures c.marked_block.ensures.after) ranged))
    (returns-clause-words c) c.marked_block.ensures.ranged

pub returns-clause-rules : goal.returns-clause-rules
returns-clause-rules c =
    if_ok_both c.marked_block.result (λ (b : BlockValue). b ≡ string_block c.args.instr.now c.args.before c.args.byte_word) (λ b. AllRanged (operands_of c.args.instr.now)) (λ (b : BlockValue). All (HasRules c.args.before all_ready) b.points)
    (λ b e ranged. subst (λ (b : BlockValue). All (HasRules c.args.before all_ready) b.points) (sym e)
    (rules_are c.args.instr.now (string_facts c.args.instr.now c.piece_laws.ensures.named c.marked_block.ensures.long c.requires.moves) c.args.before c.args.byte_word (subst (λ (site : Site). site.after < 2 ^ 32) c.string_site.ensures c.marked_block.ensures.after) ranged))
    (returns-clause-words c) c.marked_block.ensures.ranged

pub returns-clause-written : goal.returns-clause-written
returns-clause-written c =
    if_ok_both c.marked_block.result (λ (b : BlockValue). b ≡ string_block c.args.instr.now c.args.before c.args.byte_word) (λ b. AllRanged (operands_of c.args.instr.now)) (λ (b : BlockValue). codes_written b.words ≡ all)
    (λ b e ranged. subst (λ (b : BlockValue). codes_written b.words ≡ all) (sym e)
    (writes_all c.args.instr.now (string_facts c.args.instr.now c.piece_laws.ensures.named c.marked_block.ensures.long c.requires.moves) c.args.before c.args.byte_word (subst (λ (site : Site). site.after < 2 ^ 32) c.string_site.ensures c.marked_block.ensures.after) ranged))
    (returns-clause-words c) c.marked_block.ensures.ranged

pub returns-clause-means : goal.returns-clause-means
returns-clause-means c =
    if_ok_both c.marked_block.result (λ (b : BlockValue). b ≡ string_block c.args.instr.now c.args.before c.args.byte_word) (λ b. AllRanged (operands_of c.args.instr.now)) (CompilesString c.args.instr.now c.args.before c.args.byte_word)
    (λ b e ranged. subst (CompilesString c.args.instr.now c.args.before c.args.byte_word) (sym e)
    (compiles_string c.args.instr.now (string_facts c.args.instr.now c.piece_laws.ensures.named c.marked_block.ensures.long c.requires.moves) c.args.before c.args.byte_word (subst (λ (site : Site). site.after < 2 ^ 32) c.string_site.ensures c.marked_block.ensures.after) ranged))
    (returns-clause-words c) c.marked_block.ensures.ranged
