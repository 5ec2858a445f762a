use Rattle.run_files.proofs.Prefixes.{prefixes_are_refused}
use Rattle.run_files.proofs.laws.prefixes_are_refused.Goals as goal

pub returns : goal.returns
returns c = prefixes_are_refused
