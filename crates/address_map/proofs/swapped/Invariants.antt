use Rattle.std.proofs.Common.{◌≡◌, map, take}
use Rattle.address_map.specs.Pairs.{swap}
use Rattle.address_map.proofs.swapped.Given as goal

abbrev pub invariant-loop-address : goal.invariant-loop-address
invariant-loop-address l = l.by_word.items ≡ map swap (take l.address-index l.pairs)
