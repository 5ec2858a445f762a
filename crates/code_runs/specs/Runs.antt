-- Runs of instructions: each instruction of a run but the first begins where the one before ends, and control comes to it
-- from nowhere else, as far as the code shows.
-- Source: own; the basic blocks of compilers, over instructions that may overlap.
use Rattle.std.specs.Prelude.{◌≡◌, ◌≢◌, ◌<◌, ◌==◌, ℕ, suc, Bool, All, List, [], ◌∷◌, Option, Some, None, length, slice_index_or, if◌then◌else◌}
use Rattle.std.specs.List.{AllAdjacentBelow, list_any}
use Rattle.vax_form.specs.Targets.{fixed_targets, has}
use Rattle.vax_form.specs.declared.instr.Instr.{Instr}

-- ---- instructions by their places in a list
-- behind the last no instruction stands
abbrev pub no_instr : Instr
no_instr = record { at = 0; opcode = 0; count = 0; operands = []; after = 0 }

abbrev pub instr_at : List Instr → (place : ℕ) → Instr
instr_at instrs place = slice_index_or instrs place no_instr

-- addresses rise, and each instruction goes on above its own
pub record AreInOrder (instrs : List Instr) : Type 0 where
  pub rising : AllAdjacentBelow (λ i j. i.at < j.at) instrs (length instrs)
  pub onward : All (λ instr. instr.at < instr.after) instrs

-- ---- runs
-- the places, counted from that of the first, of the instructions that end where the address is
abbrev pub ending_at : (address first : ℕ) → List Instr → List ℕ
ending_at address first [] = []
ending_at address first (instr ∷ rest) =
    if instr.after == address then first ∷ ending_at address (suc first) rest else ending_at address (suc first) rest

-- the address is a fixed target of some instruction
abbrev pub is_target : List Instr → (address : ℕ) → Bool
is_target instrs address = list_any (λ instr. has (fixed_targets instr) address) instrs

-- the only one of the places
abbrev pub only : List ℕ → Option ℕ
only [] = None
only (place ∷ []) = Some place
only (place ∷ other ∷ more) = None

-- The place of the instruction to which one at the address is joined: it alone ends there, and no instruction has the
-- address as a fixed target.
unfoldable pub joined_at : List Instr → (address : ℕ) → Option ℕ
joined_at instrs address = if is_target instrs address then None else only (ending_at address 0 instrs)

-- the place of the instruction to which the one at a place is joined
abbrev pub joined_to : List Instr → (place : ℕ) → Option ℕ
joined_to instrs place = joined_at instrs (instr_at instrs place).at

-- behind the place these follow in a run: each is joined to the one before, and none to the last
abbrev pub Follow : List Instr → (place : ℕ) → (rest : List ℕ) → Type 0
Follow instrs place [] = (next : ℕ) → next < length instrs → joined_to instrs next ≢ Some place
Follow instrs place (next ∷ rest) = (next < length instrs) × (joined_to instrs next ≡ Some place) × Follow instrs next rest

-- the places of a run: the first is joined to none
abbrev pub IsRun : List Instr → (run : List ℕ) → Type 0
IsRun instrs [] = ⊥
IsRun instrs (first ∷ rest) = (first < length instrs) × (joined_to instrs first ≡ None) × Follow instrs first rest
