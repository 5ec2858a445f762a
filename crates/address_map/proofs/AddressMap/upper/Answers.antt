use Rattle.std.proofs.Common.{◌∙◌, ap, length}
use Rattle.std.specs.Prelude.{slice_index}
use Rattle.address_map.proofs.Showing.{upper_shown}
use Rattle.address_map.proofs.AddressMap.upper.Goals as goal

pub returns-clause-pages : goal.returns-clause-pages
returns-clause-pages c = rw (← c.self.view_is) (ap length c.upper.ensures ∙ c.self.invariant.by_address.span)

pub returns-clause-words : goal.returns-clause-words
returns-clause-words c = rw (← c.self.view_is) (λ page below. ap (λ words. slice_index words page) c.upper.ensures ∙ upper_shown c.self.inside.by_address c.self.inside.pairs.items c.self.invariant.by_address page below)
