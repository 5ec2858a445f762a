-- What goes through a script shows the head of its tree.
use Rattle.tie_operands.proofs.Passing.{passes}
use Rattle.tie_strings.specs.Strings.{strings_script}
use Rattle.tie_strings.proofs.string.StringLoop.run.Goals as goal

pub returns : goal.returns
returns c = passes 196607 c.args.before.now (strings_script c.args.self.now.strings) c.args.cursor.now c.run.new.cursor c.run.result c.run.ensures.plays c.run.ensures.few
