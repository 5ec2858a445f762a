use Rattle.std.proofs.Common.{◌∙◌}
use Rattle.address_map.proofs.AddressMap.first_page.Goals as goal

pub returns : goal.returns
returns c = rw (← c.self.view_is) (c.first_page.ensures ∙ c.self.invariant.by_address.first)
