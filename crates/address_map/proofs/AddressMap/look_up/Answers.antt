use Rattle.address_map.proofs.AddressMap.look_up.Goals as goal

pub returns : goal.returns
returns c = rw (← c.self.view_is) (c.find.ensures c.self.inside.pairs.items c.self.invariant.by_address)
