use Rattle.std.proofs.Common.{◌^◌, ◌<◌, arith}
use Rattle.vt_words.specs.Quad.{spread}
use Rattle.vt_words.proofs.Spreads.{product, product_spreads, product_fits}
use Rattle.vt_words.proofs.bytes.spread.Goals as goal

pub overflow_mul-result : goal.overflow_mul-result
overflow_mul-result c =
    let fits : product c.args.mask < 2 ^ 64 = product_fits c.args.mask c.ranges.mask.fits in
    rw (c.from.ensures, c.from-high.ensures) (omega (arith, fits))

pub returns : goal.returns
unfolding spread
returns c = rw (c.from.ensures, c.from-high.ensures) (product_spreads c.args.mask c.ranges.mask.fits)
