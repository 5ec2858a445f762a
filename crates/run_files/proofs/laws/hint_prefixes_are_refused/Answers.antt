use Rattle.run_files.proofs.HintLaws.{prefixes_are_refused}
use Rattle.run_files.proofs.laws.hint_prefixes_are_refused.Goals as goal

pub returns : goal.returns
returns c = prefixes_are_refused
