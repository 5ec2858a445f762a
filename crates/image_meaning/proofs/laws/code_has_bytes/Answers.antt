use Rattle.std.proofs.Common.{arith}
use Rattle.image_meaning.proofs.laws.code_has_bytes.Goals as goal

pub returns : goal.returns
returns c = λ at. omega (arith, c.type_inv.code at)
