-- What the program does.
use Rattle.operand_programs.proofs.Evaluating.{evaluates_one}
use Rattle.operand_programs.proofs.operands.put_operand.Goals as goal

pub returns-clause-evaluates : goal.returns-clause-evaluates
returns-clause-evaluates c placed = evaluates_one c.args.specifier c.args.steps.now placed

pub returns-in_err-put_access-clause-evaluates : goal.returns-in_err-put_access-clause-evaluates
returns-in_err-put_access-clause-evaluates c placed = evaluates_one c.args.specifier c.args.steps.now placed
