-- Lists in which a number of each item rises.
use Rattle.std.specs.Prelude.{◌<◌, ℕ, List, length}
use Rattle.std.specs.List.{AllAdjacentBelow}

-- a number rises from each item to the next
abbrev pub KeysRise : {A : Type 0} → (A → ℕ) → List A → Type 0
KeysRise key items = AllAdjacentBelow (λ p q. key p < key q) items (length items)
