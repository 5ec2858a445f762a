-- Live condition codes along a run of instructions, each of which begins where the one before ends.
-- Source: own; the recursion is that of live variables in a basic block.
use Rattle.std.specs.Prelude.{◌≡◌, ◌⊎◌, ◌↔◌, ℕ, zero, suc, ◌<◌, ◌≤◌, ◌||◌, ◌&&◌, not, if◌then◌else◌, Bool, true, false, List, [], ◌∷◌, length}
use Rattle.vax_form.specs.declared.state.Flags.{Flags}
use Rattle.cc_liveness.specs.declared.uses.CodeUse.{CodeUse}
use Rattle.vax_form.specs.Codes.{Code, holds, codes, all}

-- there is an i-th of the list, and it has the property
abbrev pub at : {A : Type 0} → (A → Bool) → List A → ℕ → Bool
at property [] i = false
at property (x ∷ xs) zero = property x
at property (x ∷ xs) (suc i) = at property xs i

abbrev pub reads : Code → CodeUse → Bool
reads code instruction = holds code instruction.reads

abbrev pub writes : Code → CodeUse → Bool
writes code instruction = holds code instruction.writes

abbrev pub ends : CodeUse → Bool
ends instruction = instruction.ends

-- a code is live behind the i-th instruction: there is a j-th from it on, between which and it none writes the code,
-- and that ends, or is the last, or stands before one that reads the code
pub record IsLive (code : Code) (run : List CodeUse) (i : ℕ) : Type 0 where
  pub j : ℕ
  pub onward : i ≤ j
  pub unwritten : (k : ℕ) → i < k → k ≤ j → at (writes code) run k ≡ false
  pub wanted : (at ends run j ≡ true) ⊎ ((suc j ≡ length run) ⊎ (at (reads code) run (suc j) ≡ true))

-- the answers for the instructions of a run are the codes that are live behind each
pub record AreLive (run : List CodeUse) (answers : List Flags) : Type 0 where
  pub count : length answers ≡ length run
  pub live : (code : Code) (i : ℕ) → (at (holds code) answers i ≡ true) ↔ IsLive code run i

-- a code is wanted before an instruction where that reads it, or doesn't write it and it is live behind it
abbrev pub passes : (reads writes live : Bool) → Bool
passes reads writes live = reads || (not writes && live)

abbrev pub wanted_before : CodeUse → (live : Flags) → Flags
wanted_before instruction live = codes
    (passes instruction.reads.n instruction.writes.n live.n)
    (passes instruction.reads.z instruction.writes.z live.z)
    (passes instruction.reads.v instruction.writes.v live.v)
    (passes instruction.reads.c instruction.writes.c live.c)

-- all codes are live behind an instruction that ends; behind another, those that are wanted there
abbrev pub live_behind : CodeUse → (wanted : Flags) → Flags
live_behind instruction wanted = if instruction.ends then all else wanted

-- the codes that are wanted before these last instructions of a run; behind the last all are
abbrev pub wanted_by : List CodeUse → Flags
wanted_by [] = all
wanted_by (instruction ∷ rest) = wanted_before instruction (live_behind instruction (wanted_by rest))

abbrev pub live_codes : List CodeUse → List Flags
live_codes [] = []
live_codes (instruction ∷ rest) = live_behind instruction (wanted_by rest) ∷ live_codes rest

-- the recursion from the last instruction to the first finds the codes that are live
abbrev pub RecursionIsLiveness : Type 0
RecursionIsLiveness = (run : List CodeUse) → AreLive run (live_codes run)
