use Rattle.std.proofs.Common.{◌<◌, arith}
use Rattle.vt_words.specs.Shifts.{left_shift_of}
use Rattle.vt_words.proofs.Shifting.{shifted_out}
use Rattle.vt_words.proofs.bits.shift_left.Goals as goal

pub returns-then-count-gt31 : goal.returns-then-count-gt31
unfolding left_shift_of
returns-then-count-gt31 c =
    let h : 31 < c.args.count = omega arith in
    grind (arith, c.with_signs.ensures, shifted_out c.args.value c.args.count c.requires h)
