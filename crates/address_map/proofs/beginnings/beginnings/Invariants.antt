use Rattle.std.proofs.Common.{◌≡◌, ◌≢◌, ℕ, ◌<◌, false, Some, get_or}
use Rattle.std.specs.Prelude.{slice_get}
use Rattle.address_map.specs.Pairs.{Pair}
use Rattle.address_map.proofs.beginnings.beginnings.Given as goal

abbrev pub invariant-loop-place : goal.invariant-loop-place
invariant-loop-place l = (word : ℕ) → slice_get l.begins.items word ≡ Some false → (k : ℕ) (d : Pair) → k < l.place → (get_or l.pairs k d).1 ≢ word
