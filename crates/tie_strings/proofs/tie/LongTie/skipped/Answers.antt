-- What it does behind its operands is its loop.
use Rattle.std.proofs.Common.{ap, ◌∙◌, subst}
use Rattle.vax_form.specs.Tree.{feed}
use Rattle.tie_operands.specs.Steps.{Shows}
use Rattle.tie_operands.proofs.Whole.{if_want}
use Rattle.tie_strings.specs.Strings.{strings_tree}
use Rattle.tie_strings.specs.Whole.{before_of}
use Rattle.tie_strings.specs.declared.string.Strings.TheVariants.{Scans}
use Rattle.tie_strings.proofs.BegunStrings.{skipped_tree}
use Rattle.tie_strings.proofs.tie.LongTie.skipped.Goals as goal

pub returns-clause-shows : goal.returns-clause-shows
returns-clause-shows c =
    let cursor = c.args.cursor.now in
    subst (λ t. Shows (before_of c.args.self.now) (feed cursor.pages.now t cursor.replies.now) c.repeated.result)
    (ap (λ m. strings_tree cursor.pages.now (Scans m) cursor.state) c.search_begun.ensures ∙ skipped_tree cursor.pages.now c.args.instr.now c.args.values.now cursor.state) c.repeated.ensures.shows

pub returns-clause-rest : goal.returns-clause-rest
returns-clause-rest c =
    let cursor = c.args.cursor.now in
    if_want c.repeated.result
    (λ e. e ∙ ap (λ t. feed cursor.pages.now t cursor.replies.now)
    (ap (λ m. strings_tree cursor.pages.now (Scans m) cursor.state) c.search_begun.ensures ∙ skipped_tree cursor.pages.now c.args.instr.now c.args.values.now cursor.state)) c.repeated.ensures.rest
