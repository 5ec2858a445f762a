-- An operand that is found is one of the six.
use Rattle.std.specs.Prelude.{ℕ, ◌+◌, ◌≤◌, Option, Some, None}
use Rattle.vax_meaning.specs.declared.operands.Location.{Location}

abbrev pub found_count : Option Location → ℕ
found_count None = 0
found_count (Some location) = 1

abbrev pub IsPlace : ℕ → Option Location → Type 0
IsPlace place found = place + found_count found ≤ 6
