use Rattle.vax_run.proofs.Runs.{rising_low}
use Rattle.vax_run.proofs.world.World.bytes.Goals as goal

pub push_bytes-requires : goal.push_bytes-requires
push_bytes-requires c =
    rw c.deref-range-items.ensures.value
    (rising_low 0 c.pages.inside.ranges.items c.loop-range.range-index _ c.pages.invariant.rising (rw c.deref-range-items.ensures.value at c.loop-range-test.true))
