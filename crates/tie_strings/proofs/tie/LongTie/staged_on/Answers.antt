-- What is kept of an instruction, with the next reply, is where a cursor stands.
use Rattle.std.proofs.Common.{[], ◌∙◌, subst, sym}
use Rattle.vax_form.proofs.Trees.{feeding_twice}
use Rattle.tie_operands.specs.Replies.{list_of}
use Rattle.tie_operands.specs.Steps.{Shows}
use Rattle.tie_operands.proofs.Whole.{if_want}
use Rattle.tie_strings.specs.Strings.{loop_tree}
use Rattle.tie_strings.specs.Whole.{before_of}
use Rattle.tie_strings.proofs.tie.LongTie.staged_on.Goals as goal

pub returns-in-Repeats-clause-shows : goal.returns-in-Repeats-clause-shows
returns-in-Repeats-clause-shows c =
    rw c.in-Repeats.is
    (subst (λ t. Shows (before_of c.args.self.now) t c.answered.result) (sym (feeding_twice c.args.pages.now (loop_tree c.args.pages.now c.in-Repeats.under_way) [] (list_of c.args.reply))) c.answered.ensures.shown)

pub returns-in-Repeats-clause-rest : goal.returns-in-Repeats-clause-rest
returns-in-Repeats-clause-rest c =
    rw c.in-Repeats.is
    (if_want c.answered.result
    (λ e. e ∙ sym (feeding_twice c.args.pages.now (loop_tree c.args.pages.now c.in-Repeats.under_way) [] (list_of c.args.reply)))
    c.answered.ensures.rest)
