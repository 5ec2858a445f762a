use Rattle.run_files.proofs.HintLaws.{read_is_written}
use Rattle.run_files.proofs.laws.read_hints_are_written.Goals as goal

pub returns : goal.returns
returns c = read_is_written
