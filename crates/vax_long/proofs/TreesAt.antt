-- The tree of what stands at a PC is the tree of what the grammar finds there.
use Rattle.std.proofs.Common.{refl}
use Rattle.vax_long.specs.TreeAt.{ShortStands, LongStands, ReservedStands, BadModeStands, PastStands}

pub short_stands : ShortStands
short_stands pages thread state instr stands short = rw (stands, short) refl

pub long_stands : LongStands
long_stands pages thread state instr operation stands long = rw (stands, long) refl

pub reserved_stands : ReservedStands
reserved_stands pages thread state stands = rw stands refl

pub bad_mode_stands : BadModeStands
bad_mode_stands pages thread state stands = rw stands refl

pub past_stands : PastStands
past_stands pages thread state address stands = rw stands refl
