-- The rest of a tree, with one more reply, is its rest with all replies.
use Rattle.tie_operands.specs.Replies.{list_of}
use Rattle.tie_operands.proofs.Whole.{steps_as}
use Rattle.tie_strings.specs.Whole.{before_of, rest_of}
use Rattle.tie_strings.proofs.tie.LongTie.step.Goals as goal

pub returns-clause-answers : goal.returns-clause-answers
returns-clause-answers c = λ state tree replies stands.
    (steps_as c.args.pages.now (before_of c.args.self.now) (rest_of c.args.pages.now c.args.self.now) (rest_of c.args.pages.now c.taken_on.new.self) (list_of c.args.reply) c.taken_on.result
    c.taken_on.ensures.shows c.taken_on.ensures.rest state tree replies stands).answers

pub returns-clause-faults : goal.returns-clause-faults
returns-clause-faults c = λ state tree replies stands.
    (steps_as c.args.pages.now (before_of c.args.self.now) (rest_of c.args.pages.now c.args.self.now) (rest_of c.args.pages.now c.taken_on.new.self) (list_of c.args.reply) c.taken_on.result
    c.taken_on.ensures.shows c.taken_on.ensures.rest state tree replies stands).faults

pub returns-clause-stands : goal.returns-clause-stands
returns-clause-stands c = λ state tree replies stands.
    rw c.taken_on.ensures.before
    (steps_as c.args.pages.now (before_of c.args.self.now) (rest_of c.args.pages.now c.args.self.now) (rest_of c.args.pages.now c.taken_on.new.self) (list_of c.args.reply) c.taken_on.result
    c.taken_on.ensures.shows c.taken_on.ensures.rest state tree replies stands).stands
