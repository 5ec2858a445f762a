-- What is kept of an instruction, with the next reply, is where a cursor stands.
use Rattle.std.proofs.Common.{refl, ◌∙◌, subst}
use Rattle.tie_operands.specs.Replies.{list_of, replies_of}
use Rattle.tie_operands.specs.Rest.{operands_tree, instr_of, state_of, kept_of}
use Rattle.tie_operands.specs.Steps.{Shows}
use Rattle.tie_operands.proofs.Resuming.{resumed}
use Rattle.tie_operands.proofs.Whole.{if_want}
use Rattle.tie_interpreter.specs.Rest.{body_tree}
use Rattle.tie_interpreter.specs.Whole.{before_of}
use Rattle.tie_interpreter.proofs.tie.Tie.taken_on.Goals as goal

pub returns-in-Refused-clause-shows : goal.returns-in-Refused-clause-shows
returns-in-Refused-clause-shows c = rw c.in-Refused.is (c.fault.ensures c.args.pages.now (list_of c.args.reply))

pub returns-in-Evaluates-clause-shows : goal.returns-in-Evaluates-clause-shows
returns-in-Evaluates-clause-shows c =
    let operands = c.in-Evaluates.operands in
    rw c.in-Evaluates.is
    (subst (λ t. Shows (before_of c.args.self.now) t c.evaluated.result)
    (resumed (λ p s. operands_tree p operands.specifiers operands.found operands.done operands.values s (body_tree p c.in-Evaluates.operation (instr_of operands) c.args.self.now.thread))
    c.args.pages.now _ (state_of operands) _ (kept_of operands) (list_of c.args.reply) _ refl c.state.ensures (c.as_slice.ensures ∙ c.replies_with-given.ensures))
    c.evaluated.ensures.shows)

pub returns-in-Evaluates-clause-rest : goal.returns-in-Evaluates-clause-rest
returns-in-Evaluates-clause-rest c =
    let operands = c.in-Evaluates.operands in
    rw c.in-Evaluates.is
    (if_want c.evaluated.result
    (λ e. e ∙ resumed (λ p s. operands_tree p operands.specifiers operands.found operands.done operands.values s (body_tree p c.in-Evaluates.operation (instr_of operands) c.args.self.now.thread))
    c.args.pages.now _ (state_of operands) _ (kept_of operands) (list_of c.args.reply) _ refl c.state.ensures (c.as_slice.ensures ∙ c.replies_with-given.ensures))
    c.evaluated.ensures.rest)

pub returns-in-Closes-clause-shows : goal.returns-in-Closes-clause-shows
returns-in-Closes-clause-shows c =
    let closing = c.in-Closes.closing in
    rw c.in-Closes.is
    (subst (λ t. Shows (before_of c.args.self.now) t c.closed.result)
    (resumed (λ p s. body_tree p closing.operation closing.instr closing.thread closing.values s)
    c.args.pages.now _ closing.state _ (replies_of closing.kept) (list_of c.args.reply) _ refl refl (c.as_slice-in-Closes.ensures ∙ c.with-given.ensures))
    c.closed.ensures.shows)

pub returns-in-Closes-clause-rest : goal.returns-in-Closes-clause-rest
returns-in-Closes-clause-rest c =
    let closing = c.in-Closes.closing in
    rw c.in-Closes.is
    (if_want c.closed.result
    (λ e. e ∙ resumed (λ p s. body_tree p closing.operation closing.instr closing.thread closing.values s)
    c.args.pages.now _ closing.state _ (replies_of closing.kept) (list_of c.args.reply) _ refl refl (c.as_slice-in-Closes.ensures ∙ c.with-given.ensures))
    c.closed.ensures.rest)
