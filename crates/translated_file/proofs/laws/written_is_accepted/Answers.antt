use Rattle.translated_file.proofs.BothWays.{written_is_accepted}
use Rattle.translated_file.proofs.laws.written_is_accepted.Goals as goal

pub returns : goal.returns
returns c = written_is_accepted
