-- Blocks of local steps that a course runs through with no look back.
use Rattle.std.specs.Prelude.{◌≡◌, ℕ, ◌+◌, ◌-◌, ◌==◌, ◌&&◌, ◌||◌, Bool, true, false, not, nat_le, List, length, Result, Ok, Err}
use Rattle.alpha_machine.specs.Step.{state_of}
use Rattle.alpha_machine.specs.declared.cpu.Cpu.{Cpu}
use Rattle.block_law.specs.Translations.{Code}
use Rattle.prepared_code.specs.Inside.{Crosses}
use Rattle.prepared_code.specs.Known.{guess}
use Rattle.prepared_code.specs.Strides.{arrives}
use Rattle.system_model.specs.declared.translation.Range.{Range}
use Rattle.vax_form.specs.declared.state.Flags.{Flags}

-- it holds no code, and no address of any thread is interpreted
abbrev pub is_plain : List Range → Flags → Bool
is_plain ranges held = length ranges == 0 && not (held.n || held.z || held.v || held.c)

-- it is guessed to come to another block, within the steps that are left
abbrev pub is_guessed : Code → Cpu → (left : ℕ) → Bool
is_guessed code cpu left = not (guess code cpu.pc == 0) && nat_le (guess code cpu.pc) left

-- it comes there within so many steps as are guessed, as its words tell
abbrev pub comes : Code → Cpu → Bool
comes code cpu = arrives code (state_of cpu) (guess code cpu.pc)

-- block after block, each of which is guessed to be crossed and is: so many steps of at most so many
pub data Glided (code : Code) (most : ℕ) (first : Cpu) : Cpu → ℕ → Type 0 where
  NoBlock : Glided code most first first 0
  OneMore : {c d : Cpu} {made steps : ℕ} → Glided code most first c made → is_guessed code c (most - made) ≡ true → comes code c ≡ true → Crosses code c d steps
      → Glided code most first d (made + steps)

-- behind so many steps a guess fails
pub record Fails (code : Code) (most : ℕ) (first : Cpu) (made : ℕ) : Type 0 where
  pub there : Cpu
  pub glided : Glided code most first there made
  pub guessed : is_guessed code there (most - made) ≡ true
  pub fails : comes code there ≡ false

-- it goes on to the first block of which nothing is guessed within the steps that are left; or it stays where a guess fails before
abbrev pub IsGlide : Code → (most : ℕ) → (old new : Cpu) → Result ℕ ℕ → Type 0
IsGlide code most old new (Ok made) = Glided code most old new made × (is_guessed code new (most - made) ≡ false)
IsGlide code most old new (Err made) = Fails code most old made

-- how many steps it makes; none where it stays
abbrev pub glided_on : Result ℕ ℕ → ℕ
glided_on (Ok made) = made
glided_on (Err made) = 0

abbrev pub IsGlideOn : Code → (most : ℕ) → (old new : Cpu) → ℕ → Type 0
IsGlideOn code most old new told = (r : Result ℕ ℕ) × IsGlide code most old new r × (told ≡ glided_on r)
