use Rattle.std.proofs.Common.{◌≡◌, ◌≤◌, ◌∙◌, length, ap, sym, subst}
use Rattle.std.specs.Prelude.{All}
use Rattle.alpha_encode.specs.Words.{IsEncodable}
use Rattle.micro_ops.specs.declared.codes.CodeSources.{CodeSources}
use Rattle.block_law.specs.CodeWords.{LeavesCodes}
use Rattle.block_law.specs.Tidy.{codes_written}
use Rattle.code_runs.specs.Codes.{code_sources}
use Rattle.code_runs.specs.Rules.{rules_behind}
use Rattle.flag_codegen.specs.Made.{codes_made}
use Rattle.flag_codegen.specs.Promises.{most_words}
use Rattle.flag_codegen.specs.Words.{code_words}
use Rattle.flag_codegen.proofs.Leaves.{words_leave}
use Rattle.flag_codegen.proofs.Whole.{words_few, words_write, words_encodable}
use Rattle.flag_codegen.proofs.codes.code_words.Goals as goal

pub returns-clause-leaves : goal.returns-clause-leaves
returns-clause-leaves c before =
    let sources = code_sources c.args.instr.now in
    let live = c.args.live in
    let is = c.in_ok-words_and_rules.ensures.words ∙ ap (λ (s : CodeSources). code_words s live) c.code_sources.ensures in
    subst (λ words. LeavesCodes sources before (rules_behind sources live before) words) (sym is) (words_leave c.args.instr.now live before)

pub returns-clause-writes : goal.returns-clause-writes
returns-clause-writes c =
    let sources = code_sources c.args.instr.now in
    let live = c.args.live in
    let is = c.in_ok-words_and_rules.ensures.words ∙ ap (λ (s : CodeSources). code_words s live) c.code_sources.ensures in
    subst (λ words. codes_written words ≡ codes_made sources live) (sym is) (words_write sources live)

pub returns-clause-short : goal.returns-clause-short
returns-clause-short c = subst (λ words. length words ≤ most_words) (sym c.in_ok-words_and_rules.ensures.words) (words_few c.code_sources.result c.args.live)

pub returns-clause-encodable : goal.returns-clause-encodable
returns-clause-encodable c = subst (All IsEncodable) (sym c.in_ok-words_and_rules.ensures.words) (words_encodable c.code_sources.result c.args.live)
