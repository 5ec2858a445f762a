use Rattle.vest_cli.proofs.Mapped.{what_was_found_is_mapped}
use Rattle.vest_cli.proofs.laws.what_was_found_is_mapped.Goals as goal

pub returns : goal.returns
returns c = what_was_found_is_mapped c.written_hints_are_read.ensures c.found_is_mapped.ensures
