-- What the fields of a map are, by its pairs.
use Rattle.std.specs.Prelude.{◌≡◌, ℕ, Bool, false, List, Some, None, map, slice_get}
use Rattle.address_map.specs.declared.AddressMap.TheInside.{Inside}
use Rattle.address_map.specs.Pairs.{AllRise, Pair, address_at, swap}
use Rattle.address_map.specs.Tables.{AreTablesOf}

-- a word that is told to have no pair has none
abbrev pub AreBeginnings : List Bool → List Pair → Type 0
AreBeginnings begins pairs = (word : ℕ) → slice_get begins word ≡ Some false → address_at pairs word ≡ None

pub record IsSound (m : Inside) : Type 0 where
  pub rising : AllRise m.pairs.items
  pub by_address : AreTablesOf m.by_address m.pairs.items
  pub by_word : AreTablesOf m.by_word (map swap m.pairs.items)
  pub begins : AreBeginnings m.begins.items m.pairs.items
