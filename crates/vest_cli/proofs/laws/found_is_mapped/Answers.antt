use Rattle.vest_cli.proofs.Mapped.{found_is_mapped}
use Rattle.vest_cli.proofs.laws.found_is_mapped.Goals as goal

pub returns : goal.returns
returns c = found_is_mapped c.hints_are_mapped.ensures
