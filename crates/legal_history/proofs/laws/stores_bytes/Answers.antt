use Rattle.std.proofs.Common.{arith}
use Rattle.legal_history.proofs.laws.stores_bytes.Goals as goal

pub returns : goal.returns
returns c = λ at. omega (arith, c.type_inv.stored at)
