use Rattle.std.proofs.Common.{◌≡◌, ◌+◌, ◌-◌, ◌*◌, ◌^◌, ◌<◌, suc, subst, arith}
use Rattle.vax_text.proofs.Powers.{one_more, positive}
use Rattle.vax_text.proofs.numbers.+number_in.Goals as goal

pub overflow_mul-result : goal.overflow_mul-result
overflow_mul-result t c =
    let more = one_more (c.args.count - 1) 0 c.number_in.result (omega arith) (omega arith) c.number_in.ensures.fits in
    omega (arith, more.fits)

pub overflow_add-result : goal.overflow_add-result
overflow_add-result t c =
    let low : c.from.result < 256 = omega (arith, c.type_inv.bytes 0) in
    let more = one_more (c.args.count - 1) c.from.result c.number_in.result (omega arith) low c.number_in.ensures.fits in
    omega (arith, more.fits)

pub returns-in-empty-clause-fits : goal.returns-in-empty-clause-fits
returns-in-empty-clause-fits t c = positive c.args.count (omega arith)

pub returns-in-len1-up-clause-fits : goal.returns-in-len1-up-clause-fits
returns-in-len1-up-clause-fits t c =
    let low : c.from.result < 256 = omega (arith, c.type_inv.bytes 0) in
    let more = one_more (c.args.count - 1) c.from.result c.number_in.result (omega arith) low c.number_in.ensures.fits in
    let count : suc (c.args.count - 1) ≡ c.args.count = omega arith in
    subst (λ k. c.from.result + 256 * c.number_in.result < 256 ^ k) count more.below
