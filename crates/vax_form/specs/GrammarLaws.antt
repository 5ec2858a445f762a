-- What the relations and the reading of instructions have to do with each other.
use Rattle.std.specs.Prelude.{◌≡◌, ℕ, ◌<◌, ◌≤◌, List, [], ◌++◌, length, take, slice_index, Some}
use Rattle.vax_form.specs.Grammar.{Decides, Found}
use Rattle.vax_form.specs.GrammarReading.{read_instruction}

-- the list has bytes alone
abbrev pub AreBytes : List ℕ → Type 0
AreBytes bytes = (i : ℕ) → slice_index bytes i < 256

-- what a list decides is read from every list that begins with it, and no byte behind it is looked at
abbrev pub ReadBack : Type 0
ReadBack = (at : ℕ) (bytes rest : List ℕ) (found : Found) → Decides at bytes found
    → read_instruction at (bytes ++ rest) ≡ Some (found, length bytes)

-- what is read is decided by the bytes that were read
abbrev pub Decided : Type 0
Decided = (at : ℕ) (bytes : List ℕ) (found : Found) (n : ℕ) → AreBytes bytes
    → read_instruction at bytes ≡ Some (found, n) → (n ≤ length bytes) × Decides at (take n bytes) found

-- a list decides at most one thing, and no list that goes on behind it decides anything
abbrev pub DecidedOnce : Type 0
DecidedOnce = (at : ℕ) (bytes more : List ℕ) (found other : Found) → Decides at bytes found
    → Decides at (bytes ++ more) other → (more ≡ []) × (found ≡ other)
