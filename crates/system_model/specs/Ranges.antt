-- Which addresses run in Alpha code.
use Rattle.std.specs.Prelude.{ℕ, ◌==◌, ◌&&◌, nat_le, Bool, List, Option, None, if◌then◌else◌}
use Rattle.std.specs.List.{list_any}
use Rattle.address_map.specs.Pairs.{Pair, word_at}
use Rattle.system_model.specs.declared.translation.Range.{Range}

-- the range has that address of that thread
abbrev pub covers : (thread address : ℕ) → Range → Bool
covers thread address range = (range.thread == thread) && nat_le range.first address && nat_le address range.last

-- the word at which a thread goes on in Alpha code: that of an address that is mapped, and in no range of the thread
abbrev pub word_for : List Pair → List Range → (thread address : ℕ) → Option ℕ
word_for map ranges thread address = if list_any (covers thread address) ranges then None else word_at map address
