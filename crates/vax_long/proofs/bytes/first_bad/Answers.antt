-- Each turn passes the bytes of one page.
use Rattle.std.proofs.Common.{◌≡◌, ◌+◌, ◌-◌, ◌%◌, ◌<◌, ◌≤◌, ◌∙◌, sym, arith}
use Rattle.vax_long.proofs.PageSteps.{page_step}
use Rattle.vax_long.proofs.bytes.first_bad.Goals as goal

pub loop-left-preserved : goal.loop-left-preserved
loop-left-preserved c =
    let here = c.count_in_page-here.result in
    let left = c.loop-left.left in
    let place = c.loop-left.place in
    let whole : left ≡ here + (left - here) = omega (arith, c.count_in_page-here.ensures) in
    let within : place % 512 + here ≤ 512 = omega (arith, c.count_in_page-here.ensures) in
    let some : 0 < here = omega (arith, c.count_in_page-here.ensures, c.loop-left-test.true) in
    let fits = c.loop-left.invariant.0 in
    let passed = page_step here (left - here) left place c.args.pages.now c.args.write whole fits within (sym c.allowed.ensures ∙ c.if-not-allowed.false) some in
    (omega (arith, c.beyond-place.ensures), rw c.beyond-place.ensures (passed ∙ c.loop-left.invariant.1))
