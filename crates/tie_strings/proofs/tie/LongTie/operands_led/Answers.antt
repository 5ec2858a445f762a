-- What comes behind is what the operation does.
use Rattle.tie_operands.specs.Rest.{instr_of}
use Rattle.tie_operands.proofs.Leading.{leads_to}
use Rattle.tie_strings.specs.Bodies.{long_tree}
use Rattle.tie_strings.specs.Whole.{before_of}
use Rattle.tie_strings.proofs.tie.LongTie.operands_led.Goals as goal

pub returns-clause-leads : goal.returns-clause-leads
returns-clause-leads c =
    leads_to (before_of c.args.self.now) (long_tree c.args.cursor.now.pages.now c.args.operation (instr_of c.args.operands.now)) c.args.operands.now c.evaluate.new.self
    c.args.cursor.now c.evaluate.new.cursor c.evaluate.result c.evaluate.ensures.passes
