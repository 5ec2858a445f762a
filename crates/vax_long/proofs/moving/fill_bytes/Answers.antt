-- Each turn is one step of the script.
use Rattle.std.proofs.Common.{◌≡◌, ◌+◌, ◌-◌, suc, arith, sym, ◌∙◌}
use Rattle.vax_meaning.specs.Play.{view}
use Rattle.vax_long.proofs.StringSteps.{fill_step}
use Rattle.vax_long.proofs.moving.fill_bytes.Goals as goal

pub loop-preserved : goal.loop-preserved
loop-preserved c =
    let left : c.args.count - c.loop.counter ≡ suc (c.args.count - (c.loop.counter + 1)) = omega arith in
    let step = fill_step _ _ c.loop.target c.args.byte (view c.loop.cursor) left in
    let written = rw c.in_ok-write_byte.ensures.plays at step in
    record { plays = rw c.beside-target.ensures (sym written ∙ c.loop.invariant.plays); few = omega (arith, c.loop.invariant.few, c.in_ok-write_byte.ensures.few) }
