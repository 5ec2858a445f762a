use Rattle.std.specs.List.{AllAdjacentBelow}
use Rattle.address_map.specs.Pairs.{Rises}
use Rattle.address_map.proofs.check_order.Given as goal

abbrev pub invariant-loop-place : goal.invariant-loop-place
invariant-loop-place l = AllAdjacentBelow Rises l.pairs l.place
