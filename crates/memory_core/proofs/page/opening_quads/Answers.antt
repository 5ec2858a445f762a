use Rattle.memory_core.proofs.Placing.{rising_low}
use Rattle.memory_core.proofs.page.opening_quads.Goals as goal

pub push_range-requires-clause-low : goal.push_range-requires-clause-low
push_range-requires-clause-low c =
    let rising = c.pages.invariant.rising in
    rw c.deref-range-items.ensures.value (rising_low 0 c.pages.inside.ranges.items c.loop-range.range-index _ rising (rw c.deref-range-items.ensures.value at c.loop-range-test.true))
