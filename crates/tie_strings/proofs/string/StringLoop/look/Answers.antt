-- What is told is shown.
use Rattle.tie_strings.proofs.string.StringLoop.look.Goals as goal

pub returns-in-Some : goal.returns-in-Some
returns-in-Some c = c.in-Some.ensures.shows c.args.before.now c.args.self.now.state
