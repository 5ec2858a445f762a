use Rattle.std.proofs.Common.{map, ◌∙◌}
use Rattle.address_map.specs.Pairs.{swap}
use Rattle.address_map.proofs.Showing.{swapped_word}
use Rattle.address_map.proofs.AddressMap.vax_of.Goals as goal

pub returns-in_default : goal.returns-in_default
returns-in_default c = rw (← c.self.view_is) (c.find.ensures (map swap c.self.inside.pairs.items) c.self.invariant.by_word ∙ swapped_word c.self.inside.pairs.items c.args.alpha)
