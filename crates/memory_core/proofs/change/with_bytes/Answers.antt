use Rattle.memory_core.proofs.change.with_bytes.Goals as goal
use Rattle.memory_core.proofs.Masked.{masked}

pub returns : goal.returns
returns c = rw (c.kept.ensures, c.cleared.ensures) (masked c.args.mask c.args.value c.args.before c.ranges.value.fits c.ranges.before.fits)
