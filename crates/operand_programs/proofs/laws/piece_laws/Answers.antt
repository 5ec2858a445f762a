-- What pieces leave known.
use Rattle.operand_programs.proofs.Committing.{push_fits, commits_fit, finish_fits}
use Rattle.operand_programs.proofs.OperandWalks.{operand_fits, operands_fit}
use Rattle.operand_programs.proofs.laws.piece_laws.Goals as goal

pub returns-clause-operand : goal.returns-clause-operand
returns-clause-operand c = operand_fits

pub returns-clause-operands : goal.returns-clause-operands
returns-clause-operands c = operands_fit

pub returns-clause-push : goal.returns-clause-push
returns-clause-push c = push_fits

pub returns-clause-commits : goal.returns-clause-commits
returns-clause-commits c = commits_fit

pub returns-clause-finish : goal.returns-clause-finish
returns-clause-finish c = finish_fits
