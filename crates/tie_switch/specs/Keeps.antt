-- Blocks whose landings a course keeps, and how far it runs where it is plain.
use Rattle.std.specs.Prelude.{◌≡◌, ℕ, ◌+◌, ◌-◌, ◌<◌, ◌≤◌, ◌==◌, if◌then◌else◌, Bool, true, false}
use Rattle.alpha_machine.specs.Step.{state_of}
use Rattle.alpha_machine.specs.declared.cpu.Cpu.{Cpu}
use Rattle.block_law.specs.Translations.{Code}
use Rattle.prepared_code.specs.Inside.{Crosses}
use Rattle.prepared_code.specs.Known.{guess, stops_at}
use Rattle.prepared_code.specs.Probes.{passes}
use Rattle.prepared_code.specs.Sources.{Source}
use Rattle.prepared_code.specs.Strides.{Rests, arrives}
use Rattle.tie_switch.specs.Glides.{IsGlideOn}
use Rattle.tie_switch.specs.declared.course.TheConstants.{MOST_IN_A_ROW}

-- at how many landings in a row something is guessed, with the one there
abbrev pub row_behind : Code → Cpu → (before : ℕ) → ℕ
row_behind code cpu before = if guess code cpu.pc == 0 then 0 else before + 1

-- ---- one round
-- It goes through a block, as the words tell; else it makes all steps inside one, and the probe behind them. It tells how
-- many steps, at how many landings in a row something is guessed then, and whether it made no more because there are none.
pub data IsKept (source : Source) (most row : ℕ) (old : Cpu) : Cpu → ℕ × ℕ × Bool → Type 0 where
  Lands : {new : Cpu} {steps : ℕ} → arrives source.code (state_of old) most ≡ true → Crosses source.code old new steps → IsKept source most row old new (steps, row_behind source.code new row, false)
  Spends : {new : Cpu} {steps : ℕ} → arrives source.code (state_of old) most ≡ false → Rests source.code old new most steps → steps ≡ most → IsKept source most row old new (steps, row, false)
  Probes : {there : Cpu} {steps : ℕ} → arrives source.code (state_of old) most ≡ false → Rests source.code old there most steps → steps < most → passes source (state_of there) ≡ true
      → IsKept source most row old (record there { pc = there.pc + 1 }) (steps + 1, row, false)
  Ends : {new : Cpu} {steps : ℕ} → arrives source.code (state_of old) most ≡ false → Rests source.code old new most steps → steps < most → passes source (state_of new) ≡ false
      → IsKept source most row old new (steps, row, true)

-- ---- many rounds
pub data Rounds (source : Source) (most : ℕ) (first : Cpu) : Cpu → (made row : ℕ) → Type 0 where
  NoRound : Rounds source most first first 0 0
  OneMore : {c d : Cpu} {made row steps next : ℕ} → Rounds source most first c made row → made < most → IsKept source (most - made) row c d (steps, next, false) → next < MOST_IN_A_ROW
      → Rounds source most first d (made + steps) next

-- up to the last of some landings in a row at which something is guessed, to where there are no steps, or all that it may
pub data IsKeep (source : Source) (most : ℕ) (first : Cpu) : Cpu → ℕ × Bool → Type 0 where
  InARow : {c d : Cpu} {made row steps next : ℕ} → Rounds source most first c made row → made < most → IsKept source (most - made) row c d (steps, next, false) → next ≡ MOST_IN_A_ROW
      → IsKeep source most first d (made + steps, false)
  NoMore : {c d : Cpu} {made row steps next : ℕ} → Rounds source most first c made row → made < most → IsKept source (most - made) row c d (steps, next, true) → IsKeep source most first d (made + steps, true)
  AllMade : {d : Cpu} {made row : ℕ} → Rounds source most first d made row → most ≤ made → IsKeep source most first d (made, false)

-- ---- where it is plain
-- blocks that are kept, and then such as it glides through
pub data Runs (source : Source) (most : ℕ) (first : Cpu) : Cpu → ℕ → Type 0 where
  NoRun : Runs source most first first 0
  OneMore : {c d e : Cpu} {made steps glided : ℕ} → Runs source most first c made → made < most → IsKeep source (most - made) c d (steps, false) → IsGlideOn source.code (most - (made + steps)) d e glided
      → Runs source most first e (made + steps + glided)

-- to where there are no more, and whether that is an access or a call; or all that it may
pub data IsPlainRun (source : Source) (most : ℕ) (first : Cpu) : Cpu → ℕ × Bool → Type 0 where
  NoMore : {c d : Cpu} {made steps : ℕ} → Runs source most first c made → made < most → IsKeep source (most - made) c d (steps, true) → IsPlainRun source most first d (made + steps, stops_at source.code d.pc)
  AllMade : {d : Cpu} {made : ℕ} → Runs source most first d made → most ≤ made → IsPlainRun source most first d (made, false)
