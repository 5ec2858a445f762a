use Rattle.std.proofs.Common.{◌-◌, length, take, drop, arith}
use Rattle.std.proofs.lemmas.Grind.{common_steps}
use Rattle.vt_outside.proofs.Taking.{taken_more}
use Rattle.vt_outside.proofs.whole.write_all.Goals as goal

pub loop-at-preserved : goal.loop-at-preserved
loop-at-preserved g c =
    let bytes = c.args.bytes.now in
    let at = c.loop-at.at in
    let took = c.in-Took.ensures in
    taken_more _ _ _ bytes (take (length bytes - at) (drop at bytes)) at c.in-Took.count c.loop-at.invariant
    (grind (arith, common_steps)) took.count_in_range.1 took.first_bytes_appended took.count_never_falls
