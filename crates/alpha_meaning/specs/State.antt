-- An Alpha processor's integer registers and program counter.
-- Alpha Architecture Reference Manual, 3.1 "Alpha Registers".
use Rattle.std.specs.Prelude.{ℕ, List, ◌==◌, if◌then◌else◌, slice_index}

-- what each register holds
abbrev pub Regs : Type 0
Regs = ℕ → ℕ

-- writing a register; R31 is not written
abbrev pub put : Regs → (n value : ℕ) → Regs
put regs n value = λ m. if n == 31 then regs m else (if m == n then value else regs m)

-- the program counter counts words
pub record Alpha : Type 0 where
  pub regs : Regs
  pub pc : ℕ

abbrev pub at_place : Regs → (pc : ℕ) → Alpha
at_place regs pc = record { regs = regs; pc = pc }

-- the registers in a list of 32; R31 reads zero
unfoldable pub regs_of : List ℕ → Regs
regs_of r = λ n. if n == 31 then 0 else slice_index r n
