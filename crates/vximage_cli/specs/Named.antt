-- The name that a halt tells.
use Rattle.std.specs.Prelude.{ℕ, List, Option, option_map}
use Rattle.vest_stops.specs.declared.stop.Stop.{Stop}
use Rattle.vximage_cli.specs.declared.halt.Fault.{Fault}
use Rattle.vximage_cli.specs.declared.halt.Fault.TheVariants.{BadName, Halted}
use Rattle.vximage_cli.specs.declared.halt.Halt.{Halt}

abbrev pub name_told : Halt → Option (List ℕ)
name_told halt = option_map (λ s. s.now) halt.name

-- why a command stops: as others do, or at a line of names
abbrev pub StopsAs : Fault → (Stops : Stop → Option (List ℕ) → Type 0) → (IsBad : ℕ → Type 0) → Type 0
StopsAs (Halted halt) Stops IsBad = Stops halt.stop (name_told halt)
StopsAs (BadName line) Stops IsBad = IsBad line
