-- A reply is taken where one is wanted.
use Rattle.tie_strings.proofs.Advancing.{advanced, stayed}
use Rattle.tie_strings.proofs.string.StringLoop.advance.Goals as goal

pub returns-in-Want : goal.returns-in-Want
returns-in-Want c = λ tree replies.
    advanced c.args.pages.now c.args.before.now c.args.self.now _ c.show.new.self c.args.step c.show.result c.in-Want.field-0 c.args.reply tree replies c.in-Want.is
    (c.take.ensures c.args.pages.now c.args.self.now.state) c.show.ensures.shown c.show.ensures.rest

pub returns-in_default : goal.returns-in_default
returns-in_default c = λ tree replies. stayed c.args.pages.now c.args.before.now c.args.self.now c.args.step c.args.reply tree replies c.in_default.not-Want
