use Rattle.micro_lower.proofs.Written.{programs_write_operands}
use Rattle.micro_lower.proofs.laws.written_law.Goals as goal

pub returns : goal.returns
returns c = programs_write_operands
