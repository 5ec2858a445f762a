-- From where control comes to the instructions of a list.
use Rattle.std.specs.Prelude.{◌≡◌, ◌<◌, ℕ, Bool, true, false, List, [], ◌∷◌, Option, Some, None, length, slice_index_or, if◌then◌else◌}
use Rattle.vax_form.specs.declared.instr.Instr.{Instr}
use Rattle.code_runs.specs.declared.entrances.Entrance.{Entrance}
use Rattle.code_runs.specs.declared.entrances.Entrance.TheVariants.{Nowhere, Behind, Elsewhere}
use Rattle.code_runs.specs.Runs.{ending_at, instr_at, is_target}

-- of an address that is a fixed target or not, and stands behind the instructions at these places
abbrev pub entrance : (target : Bool) → (places : List ℕ) → Entrance
entrance true places = Elsewhere
entrance false [] = Nowhere
entrance false (place ∷ []) = Behind place
entrance false (place ∷ other ∷ more) = Elsewhere

abbrev pub entrance_of : List Instr → (address : ℕ) → Entrance
entrance_of instrs address = entrance (is_target instrs address) (ending_at address 0 instrs)

-- where one more instruction ends there
abbrev pub also_behind : (place : ℕ) → Entrance → Entrance
also_behind place Nowhere = Behind place
also_behind place (Behind other) = Elsewhere
also_behind place Elsewhere = Elsewhere

-- where it is a fixed target too
abbrev pub also_target : Entrance → Entrance
also_target entrance = Elsewhere

-- the place of the instruction to which it is joined
abbrev pub joined_by : Entrance → Option ℕ
joined_by Nowhere = None
joined_by (Behind place) = Some place
joined_by Elsewhere = None

abbrev pub entrance_at : List Entrance → (place : ℕ) → Entrance
entrance_at entrances place = slice_index_or entrances place Nowhere

-- the entrance of each instruction is that of its address among these
pub record AreEntrances (instrs among : List Instr) (entrances : List Entrance) : Type 0 where
  pub count : length entrances ≡ length instrs
  pub each : (place : ℕ) → place < length instrs → entrance_at entrances place ≡ entrance_of among (instr_at instrs place).at

-- the entrances of the instructions whose address passes are changed so, and no others
pub record AreChanged (instrs : List Instr) (passes : (address : ℕ) → Bool) (change : Entrance → Entrance) (old new : List Entrance) : Type 0 where
  pub count : length new ≡ length old
  pub each : (place : ℕ) → place < length instrs
      → entrance_at new place ≡ (if passes (instr_at instrs place).at then change (entrance_at old place) else entrance_at old place)

-- an instruction stands at the address, at that place
pub record StandsAt (instrs : List Instr) (address place : ℕ) : Type 0 where
  pub within : place < length instrs
  pub at : (instr_at instrs place).at ≡ address

-- no instruction stands at the address
abbrev pub NoneStandsAt : List Instr → (address : ℕ) → Type 0
NoneStandsAt instrs address = (place : ℕ) → StandsAt instrs address place → ⊥
