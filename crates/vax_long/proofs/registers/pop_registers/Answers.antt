-- Each turn is one step of the script.
use Rattle.std.proofs.Common.{◌≡◌, ◌+◌, ◌-◌, suc, arith, sym, ◌∙◌}
use Rattle.vax_meaning.specs.Play.{view}
use Rattle.vax_long.proofs.RegisterSteps.{popped_step}
use Rattle.vax_long.proofs.registers.pop_registers.Goals as goal

pub loop-number-preserved : goal.loop-number-preserved
loop-number-preserved c =
    let left : c.args.count - c.loop-number.number ≡ suc (c.args.count - (c.loop-number.number + 1)) = omega arith in
    let step = popped_step _ _ c.loop-number.number _ _ (view c.loop-number.cursor) left c.is_in_mask.ensures in
    let popped = rw c.in_ok-pop_register_if.ensures.plays at step in
    record { plays = sym popped ∙ c.loop-number.invariant.plays; few = omega (arith, c.loop-number.invariant.few, c.in_ok-pop_register_if.ensures.few) }
