-- How far some steps came, and where they arrive at another block.
use Rattle.std.specs.Prelude.{◌≡◌, ℕ, zero, suc, ◌≤◌, ◌<◌, ◌==◌, ◌&&◌, ◌||◌, Bool, true, false, if◌then◌else◌, min, Option, Some, None, is_some, is_none}
use Rattle.alpha_machine.specs.Step.{state_of}
use Rattle.alpha_machine.specs.declared.cpu.Cpu.{Cpu}
use Rattle.alpha_meaning.specs.State.{Alpha}
use Rattle.block_law.specs.Translations.{Code}
use Rattle.prepared_code.specs.Inside.{Lands, step_in, steps_in}
use Rattle.prepared_code.specs.Known.{flat_at, most_straight, straight_words}
use Rattle.prepared_code.specs.declared.flat.Way.{Way}
use Rattle.prepared_code.specs.declared.flat.Way.TheVariants as way
use Rattle.prepared_code.specs.declared.run.Stride.{Stride}
use Rattle.prepared_code.specs.declared.run.Stride.TheVariants.{Inside, Landed}

-- so many steps inside the block, at most as many as were asked for, or one to another
abbrev pub IsStride : Code → (c d : Cpu) → (most : ℕ) → Stride → Type 0
IsStride code c d most (Inside steps) = (steps ≤ most) × (steps_in code (state_of c) steps ≡ Some (state_of d))
IsStride code c d most Landed = Lands code (state_of c) (state_of d)

-- ---- one look at a word
-- of such a word it is told that its step may lead to another block: a branch to a block or a conditional one, or an
-- operation behind which a block begins
abbrev pub tells_landing : Way → Bool
tells_landing way.Lands = true
tells_landing way.Ends = true
tells_landing (way.Forks op) = true
tells_landing _ = false

-- the word there tells so, and its step does
unfoldable pub lands_next : Code → Alpha → Bool
lands_next code c = tells_landing (flat_at code c.pc).way && is_none (step_in code c)

-- how many steps that is
abbrev pub one_of : Option Alpha → ℕ
one_of None = 0
one_of (Some d) = 1

-- how many steps inside a block one look makes: those of the words that are straight in a row, else the one that there is
unfoldable pub steps_next : Code → Alpha → (most : ℕ) → ℕ
steps_next code c most =
    if straight_words code c.pc most_straight == 0 then one_of (step_in code c) else min most (straight_words code c.pc most_straight)

abbrev pub stride_of : Code → Alpha → (most : ℕ) → Stride
stride_of code c most = if lands_next code c then Landed else Inside (steps_next code c most)

-- one step of a conditional branch, to another block where it doesn't stay inside
abbrev pub fork_of : Code → Alpha → Stride
fork_of code c = if is_some (step_in code c) then Inside 1 else Landed

-- ---- steps to another block
-- the step behind some steps leads to another block, as its word tells
abbrev pub lands_behind : Code → Option Alpha → Bool
lands_behind code None = false
lands_behind code (Some d) = lands_next code d

-- one of the first so many steps does, and those before it stay inside the block
abbrev pub arrives : Code → Alpha → (most : ℕ) → Bool
arrives code c zero = false
arrives code c (suc most) = arrives code c most || lands_behind code (steps_in code c most)

-- where it doesn't arrive it stands behind so many steps inside the block: all that there are, but at most so many
pub record Rests (code : Code) (c d : Cpu) (most steps : ℕ) : Type 0 where
  pub few : steps ≤ most
  pub ran : steps_in code (state_of c) steps ≡ Some (state_of d)
  pub stops : steps < most → step_in code (state_of d) ≡ None
