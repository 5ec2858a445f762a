-- Where programs leave.
use Rattle.std.specs.Prelude.{ℕ, Bool, true, false, List, [], ◌∷◌, flat_map}
use Rattle.micro_ops.specs.declared.program.Exit.{Exit}
use Rattle.micro_ops.specs.declared.program.Exit.TheVariants.{Next, Fixed, Computed, Choice, Service, Breakpoint}
use Rattle.micro_ops.specs.declared.program.Micro.{Micro}
use Rattle.micro_ops.specs.declared.program.Micro.TheVariants.{Leave}

-- the addresses to which an exit goes, but for one that is computed
abbrev pub exit_addresses : (after : ℕ) → Exit → List ℕ
exit_addresses after Next = after ∷ []
exit_addresses after (Fixed address) = address ∷ []
exit_addresses after (Computed temp) = []
exit_addresses after (Choice when taken other) = taken ∷ other ∷ []
exit_addresses after (Service temp) = after ∷ []
exit_addresses after Breakpoint = []

abbrev pub addresses_left : (after : ℕ) → Micro → List ℕ
addresses_left after (Leave exit) = exit_addresses after exit
addresses_left after operation = []

-- where the program leaves
abbrev pub addresses_of : (after : ℕ) → List Micro → List ℕ
addresses_of after program = flat_map (addresses_left after) program

abbrev pub leaves_computed : Micro → Bool
leaves_computed (Leave (Computed temp)) = true
leaves_computed operation = false
