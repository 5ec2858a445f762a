-- Each turn is one step of the script.
use Rattle.std.proofs.Common.{◌≡◌, ◌+◌, ◌-◌, suc, arith, sym, ◌∙◌}
use Rattle.vax_meaning.specs.Play.{view}
use Rattle.vax_long.proofs.StringSteps.{compare_step, compared_equal}
use Rattle.vax_long.proofs.searching.compare_bytes.Goals as goal

pub loop-done-preserved : goal.loop-done-preserved
loop-done-preserved c =
    let left : c.args.count - c.loop-done.done ≡ suc (c.args.count - (c.loop-done.done + 1)) = omega arith in
    let step = compare_step _ _ c.loop-done.place c.loop-done.against (view c.loop-done.cursor) left in
    let one = rw c.in_ok-one.ensures.plays at step in
    let other = rw c.in_ok-other.ensures.plays at one in
    let passed = compared_equal _ _ (c.args.count - (c.loop-done.done + 1)) c.loop-done.place c.loop-done.against (view c.fetch_byte-in-loop-done.new.cursor) c.if-one-other.false in
    record { plays = rw (c.beside-place.ensures, c.beside-against.ensures) (sym passed ∙ sym other ∙ c.loop-done.invariant.plays); few = omega (arith, c.loop-done.invariant.few, c.in_ok-one.ensures.few, c.in_ok-other.ensures.few) }
