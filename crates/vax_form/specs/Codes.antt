-- The condition codes, and sets of them.
-- VAX Architecture Reference Manual, "Processor Status Longword".
use Rattle.std.specs.Prelude.{Bool, true, false}
use Rattle.vax_form.specs.declared.state.Flags.{Flags}

pub data Code : Type 0 where
  negative : Code
  zero_code : Code
  overflow : Code
  carry : Code

-- the code is in the set
abbrev pub holds : Code → Flags → Bool
holds negative set = set.n
holds zero_code set = set.z
holds overflow set = set.v
holds carry set = set.c

abbrev pub codes : (n z v c : Bool) → Flags
codes n z v c = record { n = n; z = z; v = v; c = c }

abbrev pub none : Flags
none = codes false false false false

abbrev pub all : Flags
all = codes true true true true

abbrev pub all_but_carry : Flags
all_but_carry = codes true true true false
