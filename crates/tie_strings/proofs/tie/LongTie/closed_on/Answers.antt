-- What is kept of an instruction, with the next reply, is where a cursor stands.
use Rattle.std.proofs.Common.{refl, ◌∙◌, subst}
use Rattle.tie_operands.specs.Replies.{list_of, replies_of}
use Rattle.tie_operands.specs.Steps.{Shows}
use Rattle.tie_operands.proofs.Resuming.{resumed}
use Rattle.tie_operands.proofs.Whole.{if_want}
use Rattle.tie_strings.specs.Bodies.{long_of, long_tree}
use Rattle.tie_strings.specs.Whole.{before_of}
use Rattle.tie_strings.proofs.tie.LongTie.closed_on.Goals as goal

pub returns-clause-shows : goal.returns-clause-shows
returns-clause-shows c =
    let closing = c.args.closing in
    (subst (λ t. Shows (before_of c.args.self.now) t c.closed.result)
    (resumed (λ p s. long_tree p (long_of closing.operation) closing.instr closing.values s)
    c.args.pages.now _ closing.state _ (replies_of closing.kept) (list_of c.args.reply) _ refl refl (c.as_slice.ensures ∙ c.with-given.ensures))
    c.closed.ensures.shows)

pub returns-clause-rest : goal.returns-clause-rest
returns-clause-rest c =
    let closing = c.args.closing in
    (if_want c.closed.result
    (λ e. e ∙ resumed (λ p s. long_tree p (long_of closing.operation) closing.instr closing.values s)
    c.args.pages.now _ closing.state _ (replies_of closing.kept) (list_of c.args.reply) _ refl refl (c.as_slice.ensures ∙ c.with-given.ensures))
    c.closed.ensures.rest)
