-- Each turn is one step of the script.
use Rattle.std.proofs.Common.{◌≡◌, ◌+◌, ◌-◌, suc, arith, sym, ◌∙◌}
use Rattle.vax_meaning.specs.Play.{view}
use Rattle.vax_long.proofs.StringSteps.{scan_step, looked_on}
use Rattle.vax_long.proofs.searching.scan_bytes.Goals as goal

pub loop-done-preserved : goal.loop-done-preserved
loop-done-preserved c =
    let left : c.args.count - c.loop-done.done ≡ suc (c.args.count - (c.loop-done.done + 1)) = omega arith in
    let step = scan_step c.args.locates c.args.character _ _ c.loop-done.place (view c.loop-done.cursor) left in
    let read = rw c.in_ok-byte.ensures.plays at step in
    let passed = looked_on c.args.locates _ c.args.character _ (c.args.count - (c.loop-done.done + 1)) c.loop-done.place (view c.fetch_byte.new.cursor) c.stops_at.ensures c.if-stops_at.false in
    record { plays = rw c.beside-place.ensures (sym passed ∙ sym read ∙ c.loop-done.invariant.plays); few = omega (arith, c.loop-done.invariant.few, c.in_ok-byte.ensures.few) }
