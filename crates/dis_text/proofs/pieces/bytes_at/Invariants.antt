use Rattle.std.proofs.Common.{◌≡◌}
use Rattle.dis_text.specs.Bytes.{bytes_at}
use Rattle.dis_text.proofs.pieces.bytes_at.Given as goal

abbrev pub invariant-loop-k : goal.invariant-loop-k
invariant-loop-k l = l.bytes.items ≡ bytes_at l.pages l.at l.k
