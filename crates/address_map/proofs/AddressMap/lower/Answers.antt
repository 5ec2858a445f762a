use Rattle.std.proofs.Common.{◌∙◌, ap, length, List, ℕ, Option}
use Rattle.std.specs.Prelude.{slice_get}
use Rattle.address_map.specs.Tables.{lower_place}
use Rattle.address_map.proofs.Showing.{tables_shown, places_shown}
use Rattle.address_map.proofs.AddressMap.lower.Goals as goal

pub returns-clause-tables : goal.returns-clause-tables
returns-clause-tables c = rw (← c.self.view_is) (ap length c.lower.ensures ∙ tables_shown c.self.inside.by_address c.self.inside.pairs.items c.self.invariant.by_address c.self.invariant.rising)

pub returns-clause-places : goal.returns-clause-places
returns-clause-places c = rw (← c.self.view_is) (λ address had.
    ap (λ (places : List (Option ℕ)). slice_get places (lower_place c.self.inside.pairs.items address)) c.lower.ensures ∙ places_shown c.self.inside.by_address c.self.inside.pairs.items c.self.invariant.by_address address had)
