-- What is kept of an instruction, with the next reply, is where a cursor stands.
use Rattle.std.proofs.Common.{refl, ◌∙◌, subst}
use Rattle.tie_operands.specs.Replies.{list_of}
use Rattle.tie_operands.specs.Rest.{operands_tree, instr_of, state_of, kept_of}
use Rattle.tie_operands.specs.Steps.{Shows}
use Rattle.tie_operands.proofs.Resuming.{resumed}
use Rattle.tie_operands.proofs.Whole.{if_want}
use Rattle.tie_strings.specs.Bodies.{long_tree}
use Rattle.tie_strings.specs.Whole.{before_of}
use Rattle.tie_strings.proofs.tie.LongTie.evaluated_on.Goals as goal

pub returns-clause-shows : goal.returns-clause-shows
returns-clause-shows c =
    let operands = c.args.operands in
    (subst (λ t. Shows (before_of c.args.self.now) t c.evaluated.result)
    (resumed (λ p s. operands_tree p operands.specifiers operands.found operands.done operands.values s (long_tree p c.args.operation (instr_of operands)))
    c.args.pages.now _ (state_of operands) _ (kept_of operands) (list_of c.args.reply) _ refl c.state.ensures (c.as_slice.ensures ∙ c.replies_with-given.ensures))
    c.evaluated.ensures.shows)

pub returns-clause-rest : goal.returns-clause-rest
returns-clause-rest c =
    let operands = c.args.operands in
    (if_want c.evaluated.result
    (λ e. e ∙ resumed (λ p s. operands_tree p operands.specifiers operands.found operands.done operands.values s (long_tree p c.args.operation (instr_of operands)))
    c.args.pages.now _ (state_of operands) _ (kept_of operands) (list_of c.args.reply) _ refl c.state.ensures (c.as_slice.ensures ∙ c.replies_with-given.ensures))
    c.evaluated.ensures.rest)
