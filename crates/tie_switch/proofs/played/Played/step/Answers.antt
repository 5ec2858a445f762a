-- What is told or gone through with the next reply is what the tree comes to.
use Rattle.tie_switch.proofs.Playing.{some_map, played_answers, played_stands}
use Rattle.tie_switch.specs.Interpreted.{step_with}
use Rattle.tie_switch.specs.declared.interpreted.Step.TheVariants.{Wants}
use Rattle.tie_switch.proofs.played.Played.step.Goals as goal

pub returns-in-Some-clause-answers : goal.returns-in-Some-clause-answers
returns-in-Some-clause-answers c thread state replies p =
    let taken = c.take.ensures in
    played_answers c.args.pages.now c.args.self.now c.take.new.self c.args.reply c.replies-replies.result.now (Wants c.in-Some.reference) taken.before taken.thread taken.kept c.replies-replies.ensures c.in-Some.ensures thread state replies p

pub returns-in-Some-clause-stands : goal.returns-in-Some-clause-stands
returns-in-Some-clause-stands c thread state replies p =
    let taken = c.take.ensures in
    played_stands c.args.pages.now c.args.self.now c.take.new.self c.args.reply c.replies-replies.result.now (Wants c.in-Some.reference) taken.before taken.thread taken.kept c.replies-replies.ensures c.in-Some.ensures thread state replies p

pub returns-in-None-clause-answers : goal.returns-in-None-clause-answers
returns-in-None-clause-answers c =
    let taken = c.take.ensures in
    let gone = c.go_through_known in
    some_map gone.result
    (λ came comes. λ thread state replies p. played_answers c.args.pages.now c.args.self.now c.take.new.self c.args.reply c.replies-replies.result.now (step_with came gone.new.after) taken.before taken.thread taken.kept c.replies-replies.ensures comes thread state replies p)
    gone.ensures.comes

pub returns-in-None-clause-stands : goal.returns-in-None-clause-stands
returns-in-None-clause-stands c =
    let taken = c.take.ensures in
    let gone = c.go_through_known in
    some_map gone.result
    (λ came comes. λ thread state replies p. played_stands c.args.pages.now c.args.self.now c.take.new.self c.args.reply c.replies-replies.result.now (step_with came gone.new.after) taken.before taken.thread taken.kept c.replies-replies.ensures comes thread state replies p)
    gone.ensures.comes
