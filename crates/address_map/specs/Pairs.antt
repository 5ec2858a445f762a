-- Pairs of a VAX address and the number of an Alpha word, and what stands beside a number in a list of them.
use Rattle.std.specs.Prelude.{◌<◌, ◌==◌, ℕ, List, Option, find, length}
use Rattle.std.specs.List.{AllAdjacentBelow}
use Rattle.std.specs.Option.{option_map}

-- a VAX address, and an Alpha word number
abbrev pub Pair : Type 0
Pair = ℕ × ℕ

-- with the Alpha word in front
abbrev pub swap : Pair → Pair
swap p = (p.1, p.0)

-- the second pair is above the first in both numbers
abbrev pub Rises : Pair → Pair → Type 0
Rises p q = (p.0 < q.0) × (p.1 < q.1)

-- each pair is above its predecessor in both numbers
abbrev pub AllRise : List Pair → Type 0
AllRise pairs = AllAdjacentBelow Rises pairs (length pairs)

-- the Alpha word beside a VAX address
abbrev pub word_at : List Pair → ℕ → Option ℕ
word_at pairs address = option_map (λ p. p.1) (find (λ p. p.0 == address) pairs)

-- the VAX address beside an Alpha word
abbrev pub address_at : List Pair → ℕ → Option ℕ
address_at pairs word = option_map (λ p. p.0) (find (λ p. p.1 == word) pairs)
