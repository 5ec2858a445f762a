use Rattle.block_law.proofs.Kept.{unwritten_stay, same_status}
use Rattle.block_law.proofs.laws.unwritten_registers_stay.Goals as goal

pub returns : goal.returns
returns c = record { registers = unwritten_stay; status = same_status }
