use Rattle.std.proofs.Common.{arith}
use Rattle.image_file.proofs.WriteLaws.{all_long}
use Rattle.image_parts.proofs.spelled.registers_fit.Goals as goal

pub returns-clause-fit : goal.returns-clause-fit
returns-clause-fit c = all_long c.args.first.now (λ k. omega (arith, c.type_inv.first k))
