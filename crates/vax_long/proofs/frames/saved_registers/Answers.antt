-- Each turn counts one register more, where it is in the mask.
use Rattle.std.proofs.Common.{◌≡◌, ℕ, suc, ◌+◌, refl, ap, arith}
use Rattle.vt_words.specs.Values.{bit}
use Rattle.vax_long.specs.Registers.{is_in_mask, registers_in}
use Rattle.vax_long.proofs.Counts.{one_more_first, few_registers}
use Rattle.vax_long.proofs.frames.saved_registers.Goals as goal

pub overflow_add-count : goal.overflow_add-count
overflow_add-count c =
    let more = one_more_first c.loop-number.number c.args.mask in
    let few = few_registers (suc c.loop-number.number) 0 c.args.mask in
    let one : c.bit-count.result ≡ bit (is_in_mask c.loop-number.number c.args.mask) = rw (c.bit-count.ensures, c.is_in_mask.ensures) refl in
    omega (arith, more, few, one, c.loop-number.invariant, c.loop-number-test.true)

pub loop-number-preserved : goal.loop-number-preserved
loop-number-preserved c =
    let more = one_more_first c.loop-number.number c.args.mask in
    let one : c.bit-count.result ≡ bit (is_in_mask c.loop-number.number c.args.mask) = rw (c.bit-count.ensures, c.is_in_mask.ensures) refl in
    let one_on : c.loop-number.number + 1 ≡ suc c.loop-number.number = omega arith in
    let next : registers_in (c.loop-number.number + 1) 0 c.args.mask ≡ registers_in (suc c.loop-number.number) 0 c.args.mask = ap (λ (n : ℕ). registers_in n 0 c.args.mask) one_on in
    omega (arith, more, one, next, c.loop-number.invariant)

pub returns-clause-few : goal.returns-clause-few
returns-clause-few c =
    let few = few_registers c.loop-number.number 0 c.args.mask in
    omega (arith, few, c.loop-number.invariant, c.loop-number.auto.number-end)
