use Rattle.vest_files.proofs.Hinted.{hints_are_mapped}
use Rattle.vest_files.proofs.laws.hints_are_mapped.Goals as goal

pub returns : goal.returns
returns c = hints_are_mapped
