-- What goes through a script shows the head of its tree.
use Rattle.vax_long.specs.Instructions.{long_body}
use Rattle.tie_operands.proofs.Passing.{passes}
use Rattle.tie_strings.specs.Bodies.{long_of, long_tree}
use Rattle.tie_strings.proofs.body.Body.run.Goals as goal

pub returns-clause-passes : goal.returns-clause-passes
unfolding long_tree
returns-clause-passes c =
    passes 36 c.args.before.now (long_body (long_of c.args.self.now.operation) c.args.self.now.instr c.args.self.now.values) c.args.cursor.now c.run.new.cursor c.run.result
    c.run.ensures.plays c.run.ensures.few
