use Rattle.run_files.proofs.HintLaws.{written_is_read}
use Rattle.run_files.proofs.laws.written_hints_are_read.Goals as goal

pub returns : goal.returns
returns c = written_is_read
