-- What a table of texts by address has for an address.
use Rattle.std.specs.Prelude.{ℕ, List, [], Option, None, Some, Vec}
use Rattle.std.specs.Ordering.{nat_cmp}
use Rattle.std.specs.BTreeMap.{BTreeMap, get}
use Rattle.std.specs.declared.alloc.Global.{Global}

abbrev pub items_in : Option (Vec ℕ Global) → List ℕ
items_in None = []
items_in (Some text) = text.items

abbrev pub text_before : BTreeMap ℕ (Vec ℕ Global) → ℕ → List ℕ
text_before texts address = items_in (get nat_cmp texts address)
