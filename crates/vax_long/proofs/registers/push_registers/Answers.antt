-- Each turn is one step of the script.
use Rattle.std.proofs.Common.{◌≡◌, ◌+◌, ◌-◌, suc, arith, sym, ◌∙◌}
use Rattle.vax_meaning.specs.Play.{view}
use Rattle.vax_long.proofs.RegisterSteps.{pushed_step}
use Rattle.vax_long.proofs.registers.push_registers.Goals as goal

pub loop-done-preserved : goal.loop-done-preserved
loop-done-preserved c =
    let left : c.args.number - c.loop-done.done ≡ suc (c.args.number - (c.loop-done.done + 1)) = omega arith in
    let step = pushed_step _ _ _ _ c.args.values.now _ (view c.loop-done.cursor) left c.is_in_mask.ensures c.register.ensures in
    let pushed = rw c.in_ok-push_checked_if.ensures.plays at step in
    record { plays = sym pushed ∙ c.loop-done.invariant.plays; few = omega (arith, c.loop-done.invariant.few, c.in_ok-push_checked_if.ensures.few) }
