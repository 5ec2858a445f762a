-- A quadword ends behind eight bytes.
use Rattle.std.proofs.Common.{arith}
use Rattle.tie_switch.proofs.Masks.{all_bytes}
use Rattle.tie_switch.proofs.reference.field_of.Goals as goal

pub returns-else-count-lt8 : goal.returns-else-count-lt8
returns-else-count-lt8 c = all_bytes c.args.quad c.args.at c.args.count c.ranges.quad.fits (omega (arith, c.if-count-lt8.false))
