use Rattle.translated_file.proofs.BothWays.{accepted_is_written}
use Rattle.translated_file.proofs.laws.accepted_is_written.Goals as goal

pub returns : goal.returns
returns c = accepted_is_written
