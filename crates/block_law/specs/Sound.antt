-- Meanings of instructions that go with processors.
use Rattle.std.specs.Prelude.{◌≡◌, ◌<◌, ℕ, ◌≤◌}
use Rattle.vax_form.specs.declared.state.VaxState.{VaxState}
use Rattle.vax_form.specs.Moments.{handled}
use Rattle.vax_form.specs.Ranges.{StaysInRange}
use Rattle.vax_form.specs.declared.state.Pending.TheVariants.{Nothing}
use Rattle.block_law.specs.Rounds.{block_steps}
use Rattle.block_law.specs.Services.{service}
use Rattle.block_law.specs.Translations.{Meaning, Permit}

-- instructions keep to states and to references that memory can make, and services are the six
pub record IsSound (meaning : Meaning) : Type 0 where
  pub ranged : (thread : ℕ) → thread < 256 → StaysInRange meaning.pages (meaning.tree thread)
  pub moments_ranged : (thread : ℕ) → thread < 256 → StaysInRange meaning.pages (meaning.moment thread)
  pub moments : (thread : ℕ) (state : VaxState) → state.pending ≡ Nothing → meaning.moment thread state ≡ handled meaning.pages state (meaning.tree thread state)
  pub serves : (thread code : ℕ) (state : VaxState) → meaning.serve thread code state ≡ service thread code state

-- an access allows at most as many steps more as a block may take
abbrev pub AllowsFew : Permit → Type 0
AllowsFew permit = (address : ℕ) → permit.bonus address ≤ block_steps
