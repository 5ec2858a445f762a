use Rattle.std.proofs.Common.{◌≡◌, ℕ, map, false, sym, subst}
use Rattle.std.specs.Prelude.{All}
use Rattle.exception_records.specs.Blocks.{BlockValue}
use Rattle.block_law.specs.Blocks.{IsBlockOf}
use Rattle.block_law.specs.Tidy.{codes_written}
use Rattle.micro_ops.specs.Exits.{addresses_of}
use Rattle.program_codegen.specs.Blocks.{block_lines}
use Rattle.program_codegen.specs.Words.{block_of, site_of}
use Rattle.program_codegen.specs.Programs.{RangedToLeave}
use Rattle.program_codegen.specs.Promises.{BeginsBy, HasRules, CompilesProgram}
use Rattle.program_codegen.proofs.Chosen.{begins}
use Rattle.program_codegen.proofs.Promised.{if_ok_both, all_fit, few_lines, is_block, goes_there, rules_are, writes_codes, compiles_program}
use Rattle.program_codegen.proofs.blocks.block.Goals as goal

pub block_in-requires-clause-words : goal.block_in-requires-clause-words
block_in-requires-clause-words c = all_fit c.args.sources c.args.program.now c.requires.fits

pub block_in-requires-clause-few : goal.block_in-requires-clause-few
block_in-requires-clause-few c = let i = c.args.instr.now in λ ranged after. few_lines (site_of i c.args.sources c.args.before c.args.behind c.args.byte_word) c.args.program.now c.args.codes.now c.requires.fits c.requires.codes c.requires.encodable c.requires.together after ranged

pub returns-clause-shape : goal.returns-clause-shape
returns-clause-shape c =
    let i = c.args.instr.now in
    if_ok_both c.block_in.result (λ (b : BlockValue). b ≡ block_of (block_lines (site_of i c.args.sources c.args.before c.args.behind c.args.byte_word) c.args.codes.now c.args.program.now)) (λ b. RangedToLeave c.args.program.now) (λ (b : BlockValue). IsBlockOf false i.at b)
    (λ b e ranged. subst (λ (b : BlockValue). IsBlockOf false i.at b) (sym e) (is_block (site_of i c.args.sources c.args.before c.args.behind c.args.byte_word) c.args.program.now c.args.codes.now c.requires.fits c.requires.codes c.requires.encodable c.requires.together c.block_in.ensures.after ranged)) c.block_in.ensures.block c.block_in.ensures.ranged

pub returns-clause-exits : goal.returns-clause-exits
returns-clause-exits c =
    let i = c.args.instr.now in
    if_ok_both c.block_in.result (λ (b : BlockValue). b ≡ block_of (block_lines (site_of i c.args.sources c.args.before c.args.behind c.args.byte_word) c.args.codes.now c.args.program.now)) (λ b. RangedToLeave c.args.program.now) (λ (b : BlockValue). map (λ (exit : ℕ × ℕ). exit.1) b.exits ≡ addresses_of i.after c.args.program.now)
    (λ b e ranged. subst (λ (b : BlockValue). map (λ (exit : ℕ × ℕ). exit.1) b.exits ≡ addresses_of i.after c.args.program.now) (sym e) (goes_there (site_of i c.args.sources c.args.before c.args.behind c.args.byte_word) c.args.program.now c.args.codes.now c.requires.fits c.requires.codes c.requires.encodable c.requires.together c.block_in.ensures.after ranged)) c.block_in.ensures.block c.block_in.ensures.ranged

pub returns-clause-first : goal.returns-clause-first
returns-clause-first c =
    let i = c.args.instr.now in
    if_ok_both c.block_in.result (λ (b : BlockValue). b ≡ block_of (block_lines (site_of i c.args.sources c.args.before c.args.behind c.args.byte_word) c.args.codes.now c.args.program.now)) (λ b. RangedToLeave c.args.program.now) (BeginsBy c.args.before)
    (λ b e ranged. subst (BeginsBy c.args.before) (sym e) (begins (site_of i c.args.sources c.args.before c.args.behind c.args.byte_word) c.args.codes.now c.args.program.now)) c.block_in.ensures.block c.block_in.ensures.ranged

pub returns-clause-rules : goal.returns-clause-rules
returns-clause-rules c =
    let i = c.args.instr.now in
    if_ok_both c.block_in.result (λ (b : BlockValue). b ≡ block_of (block_lines (site_of i c.args.sources c.args.before c.args.behind c.args.byte_word) c.args.codes.now c.args.program.now)) (λ b. RangedToLeave c.args.program.now) (λ (b : BlockValue). All (HasRules c.args.before c.args.behind) b.points)
    (λ b e ranged. subst (λ (b : BlockValue). All (HasRules c.args.before c.args.behind) b.points) (sym e) (rules_are (site_of i c.args.sources c.args.before c.args.behind c.args.byte_word) c.args.program.now c.args.codes.now c.requires.fits c.requires.codes c.requires.encodable c.requires.together c.block_in.ensures.after ranged)) c.block_in.ensures.block c.block_in.ensures.ranged

pub returns-clause-written : goal.returns-clause-written
returns-clause-written c =
    let i = c.args.instr.now in
    if_ok_both c.block_in.result (λ (b : BlockValue). b ≡ block_of (block_lines (site_of i c.args.sources c.args.before c.args.behind c.args.byte_word) c.args.codes.now c.args.program.now)) (λ b. RangedToLeave c.args.program.now) (λ (b : BlockValue). codes_written b.words ≡ codes_written c.args.codes.now)
    (λ b e ranged. subst (λ (b : BlockValue). codes_written b.words ≡ codes_written c.args.codes.now) (sym e) (writes_codes (site_of i c.args.sources c.args.before c.args.behind c.args.byte_word) c.args.program.now c.args.codes.now c.requires.fits c.requires.codes c.requires.encodable c.requires.together c.block_in.ensures.after ranged)) c.block_in.ensures.block c.block_in.ensures.ranged

pub returns-clause-means : goal.returns-clause-means
returns-clause-means c =
    let i = c.args.instr.now in
    if_ok_both c.block_in.result (λ (b : BlockValue). b ≡ block_of (block_lines (site_of i c.args.sources c.args.before c.args.behind c.args.byte_word) c.args.codes.now c.args.program.now)) (λ b. RangedToLeave c.args.program.now) (CompilesProgram i c.args.sources c.args.program.now c.args.before c.args.behind c.args.byte_word)
    (λ b e ranged. subst (CompilesProgram i c.args.sources c.args.program.now c.args.before c.args.behind c.args.byte_word) (sym e)
    (compiles_program i c.args.sources c.args.program.now c.args.codes.now c.args.before c.args.behind c.args.byte_word c.requires.fits c.requires.codes c.requires.encodable c.requires.reads c.requires.leaves c.requires.together c.requires.narrow c.block_in.ensures.after ranged))
    c.block_in.ensures.block c.block_in.ensures.ranged
