-- What stands in a list to which operations could not all be added.
use Rattle.std.specs.Prelude.{◌≡◌, List, length, take}
use Rattle.micro_ops.specs.declared.program.Micro.{Micro}

-- all of it stands at the front of the other
abbrev pub IsFrontOf : (front whole : List Micro) → Type 0
IsFrontOf front whole = take (length front) whole ≡ front
