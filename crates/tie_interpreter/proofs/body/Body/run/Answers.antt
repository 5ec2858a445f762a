-- What comes behind the operands ends the tree, or stops it.
use Rattle.tie_interpreter.proofs.Bodies.{body_passes}
use Rattle.tie_interpreter.proofs.body.Body.run.Goals as goal

pub returns-clause-passes : goal.returns-clause-passes
returns-clause-passes c = body_passes c.args.before.now c.args.self.now c.args.cursor.now c.body.new.cursor c.body.result c.body.ensures.fed c.body.ensures.few
