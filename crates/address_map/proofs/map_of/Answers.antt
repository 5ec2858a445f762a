use Rattle.std.proofs.Common.{◌∙◌, sym, subst, List}
use Rattle.address_map.specs.Pairs.{Pair}
use Rattle.rising_lists.specs.Rising.{KeysRise}
use Rattle.address_map.proofs.Showing.{swapped_rise}
use Rattle.address_map.proofs.map_of.Goals as goal

pub new-requires-2 : goal.new-requires-2
new-requires-2 c = subst (λ (pairs : List Pair). KeysRise (λ (p : Pair). p.0) pairs) (sym (c.deref.ensures.value ∙ c.in_ok-by_word.ensures)) (swapped_rise c.args.pairs.now c.requires)
