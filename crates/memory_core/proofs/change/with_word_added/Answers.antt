use Rattle.std.proofs.Common.{◌≡◌, ◌*◌, ◌%◌, ◌^◌, ◌/◌, ◌<◌, ◌≤◌, lit<, refl, arith}
use Rattle.std.proofs.lemmas.Nat.{shl_whole, and_mask, mod_below}
use Rattle.memory_core.proofs.change.with_word_added.Goals as goal

pub returns : goal.returns
returns c =
    let at : c.args.at ≤ 6 = omega arith in
    let mask : 3 * 2 ^ c.args.at % 2 ^ 8 ≡ 3 * 2 ^ c.args.at = shl_whole 3 2 c.args.at 8 (lit< tt) (omega arith) in
    let below : c.from.result < 2 ^ 16 = rw c.from.ensures (mod_below _ (2 ^ 16) (lit< tt)) in
    let value : c.from.result * 2 ^ (8 * c.args.at) % 2 ^ 64 ≡ c.from.result * 2 ^ (8 * c.args.at) = shl_whole c.from.result 16 (8 * c.args.at) 64 below (omega arith) in
    rw (c.with_bytes.ensures, mask, value, c.from.ensures, and_mask (c.args.before / 2 ^ (8 * c.args.at)) 16) refl
