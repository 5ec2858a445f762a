-- What pieces count, and the temporaries that they name.
use Rattle.operand_programs.proofs.Low.{operand_is_low, result_is_low, replacement_is_low, push_is_low, finish_is_low, commits_are_low}
use Rattle.operand_programs.proofs.Short.{operand_is_short, result_is_short, replacement_is_short, push_is_short, finish_is_short}
use Rattle.operand_programs.proofs.laws.word_laws.Goals as goal

pub returns-clause-operand_short : goal.returns-clause-operand_short
returns-clause-operand_short c = operand_is_short

pub returns-clause-operand_low : goal.returns-clause-operand_low
returns-clause-operand_low c = operand_is_low

pub returns-clause-result_short : goal.returns-clause-result_short
returns-clause-result_short c = result_is_short

pub returns-clause-result_low : goal.returns-clause-result_low
returns-clause-result_low c = result_is_low

pub returns-clause-replacement_short : goal.returns-clause-replacement_short
returns-clause-replacement_short c = replacement_is_short

pub returns-clause-replacement_low : goal.returns-clause-replacement_low
returns-clause-replacement_low c = replacement_is_low

pub returns-clause-push_short : goal.returns-clause-push_short
returns-clause-push_short c = push_is_short

pub returns-clause-push_low : goal.returns-clause-push_low
returns-clause-push_low c = push_is_low

pub returns-clause-finish_short : goal.returns-clause-finish_short
returns-clause-finish_short c = finish_is_short

pub returns-clause-finish_low : goal.returns-clause-finish_low
returns-clause-finish_low c = finish_is_low

pub returns-clause-commits_low : goal.returns-clause-commits_low
returns-clause-commits_low c = commits_are_low
