use Rattle.std.proofs.Common.{◌*◌, ◌+◌, ap, ◌∙◌}
use Rattle.vax_run.proofs.Runs.{bytes_more}
use Rattle.vax_run.proofs.world.World.push_bytes.Goals as goal

pub loop-place-preserved : goal.loop-place-preserved
loop-place-preserved c =
    let first = 512 * c.args.range.now.first in
    c.in_ok-push.ensures.items
    ∙ bytes_more c.args.image.now c.args.self.now.memory c.args.bytes.now.items c.loop-place.bytes.items first c.loop-place.place c.byte.result c.loop-place.invariant
    (ap (λ b. (first + c.loop-place.place, b)) c.byte.ensures)
