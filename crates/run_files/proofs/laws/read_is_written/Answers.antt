use Rattle.run_files.proofs.BothWays.{read_is_written}
use Rattle.run_files.proofs.laws.read_is_written.Goals as goal

pub returns : goal.returns
returns c = read_is_written
