-- The numbers copied so far.
use Rattle.std.proofs.Common.{◌≡◌, take}
use Rattle.arrayvec.specs.ArrayVec.{array_vec_len}
use Rattle.vest_stops.proofs.stop.Refusal.new.Given as goal

abbrev pub invariant-loop-number : goal.invariant-loop-number
invariant-loop-number l = record {
  items : l.copied.items ≡ take l.number-index l.numbers;
  len : array_vec_len l.copied ≡ l.number-index;
}
