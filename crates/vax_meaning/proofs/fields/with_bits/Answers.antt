-- Each part is below the whole, which is a quadword.
use Rattle.std.proofs.Common.{arith}
use Rattle.vax_meaning.proofs.Bits.{with_bits_below}
use Rattle.vax_meaning.proofs.fields.with_bits.Goals as goal

pub overflow_mul-result-2 : goal.overflow_mul-result-2
overflow_mul-result-2 c =
    omega (arith, with_bits_below c.args.whole c.args.position c.args.size c.args.value c.power-unit.result c.power-top.result c.power-width.result c.power-unit.ensures c.power-top.ensures c.power-width.ensures c.requires c.ranges.whole.fits)

pub overflow_add-result : goal.overflow_add-result
overflow_add-result c =
    omega (arith, with_bits_below c.args.whole c.args.position c.args.size c.args.value c.power-unit.result c.power-top.result c.power-width.result c.power-unit.ensures c.power-top.ensures c.power-width.ensures c.requires c.ranges.whole.fits)

pub overflow_add-result-2 : goal.overflow_add-result-2
overflow_add-result-2 c =
    omega (arith, with_bits_below c.args.whole c.args.position c.args.size c.args.value c.power-unit.result c.power-top.result c.power-width.result c.power-unit.ensures c.power-top.ensures c.power-width.ensures c.requires c.ranges.whole.fits)
