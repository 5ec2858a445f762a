use Rattle.run_files.proofs.BothWays.{written_is_read}
use Rattle.run_files.proofs.laws.written_is_read.Goals as goal

pub returns : goal.returns
returns c = written_is_read
