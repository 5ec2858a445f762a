-- Each turn is one step of the script.
use Rattle.std.proofs.Common.{◌≡◌, ◌+◌, ◌-◌, suc, arith, sym, ◌∙◌}
use Rattle.vax_meaning.specs.Play.{view}
use Rattle.vax_long.proofs.RegisterSteps.{allowed_step}
use Rattle.vax_long.proofs.Stops.{stops}
use Rattle.vax_long.specs.Registers.{check_registers}
use Rattle.vax_long.proofs.registers.check_registers.Goals as goal

pub loop-done-preserved : goal.loop-done-preserved
loop-done-preserved c =
    let left : c.args.number - c.loop-done.done ≡ suc (c.args.number - (c.loop-done.done + 1)) = omega arith in
    let step = allowed_step _ _ _ c.loop-done.next _ (view c.loop-done.cursor) left c.is_in_mask-wanted.ensures in
    let allowed = rw c.in_ok-next.ensures.plays at step in
    record { plays = sym allowed ∙ c.loop-done.invariant.plays; few = omega (arith, c.loop-done.invariant.few, c.in_ok-next.ensures.few) }

pub returns-in_err-next-clause-plays : goal.returns-in_err-next-clause-plays
returns-in_err-next-clause-plays c =
    let left : c.args.number - c.loop-done.done ≡ suc (c.args.number - (c.loop-done.done + 1)) = omega arith in
    let step = allowed_step _ _ _ c.loop-done.next _ (view c.loop-done.cursor) left c.is_in_mask-wanted.ensures in
    let stopped = rw c.in_err-next.ensures.plays at step in
    stops (check_registers c.args.number c.args.mask c.args.top) c.args.cursor.now c.check_push_if.new.cursor c.from_residual.result _ c.from_residual.ensures.0 c.from_residual.ensures.1 (sym c.loop-done.invariant.plays ∙ stopped)
