-- What the words promise wherever they stand.
use Rattle.std.specs.Prelude.{ℕ, ◌≡◌, ◌+◌, ◌^◌, ◌<◌, ◌≤◌, Bool, true, false, not, List, length}
use Rattle.vax_form.specs.declared.instr.Size.{Size}
use Rattle.alpha_encode.specs.declared.instr.MemoryOp.TheVariants.{Lda, Ldah}
use Rattle.alpha_encode.specs.declared.instr.AlphaInstr.{AlphaInstr}
use Rattle.alpha_encode.specs.declared.instr.AlphaInstr.TheVariants.{Memory, Branch, Operate, Jump, Pal}
use Rattle.alpha_encode.specs.Registers.{ZERO}
use Rattle.alpha_meaning.specs.Act.{links}
use Rattle.alpha_meaning.specs.State.{Regs, at_place}
use Rattle.alpha_meaning.specs.Pieces.{Fetch, Terms, Over, Plain, Runs, HasAt, piece, Only, most_words}
use Rattle.micro_ops.specs.declared.program.Arg.{Arg}
use Rattle.micro_ops.specs.declared.program.MicroOp.{MicroOp}
use Rattle.micro_ops.specs.Uses.{is_unary, is_select}
use Rattle.micro_ops.specs.Values.{low, computed}
use Rattle.compute_sequences.specs.Registers.{register_at, value_at, may_change}

-- Behind the words `to` holds what `Is` says, and only `to` and R27 have changed.
pub record Leaves (Is : ℕ → Type 0) (to : ℕ) (before : Regs) (done : Unit {0}) (regs : Regs) : Type 0 where
  pub holds : Is (regs to)
  pub only : Only (may_change to) before regs

-- The words make no access, for every number of steps, in as many steps as there are words, wherever they stand.
abbrev pub LeavesAt : (Is : ℕ → Type 0) (to : ℕ) → List AlphaInstr → Regs → Type 0
LeavesAt Is to words regs =
    (fetch : Fetch) (terms : Terms) (first n : ℕ) → first + length words ≤ most_words → HasAt fetch first words
    → Runs (piece fetch terms first (first + length words)) (Leaves Is to regs) n Plain (length words) (at_place regs first) (Over tt)

-- an instruction that makes no access, and writes no register but those that the test allows
abbrev pub changes_only : (may : ℕ → Bool) → AlphaInstr → Bool
changes_only may (Memory Lda ra rb disp) = may ra
changes_only may (Memory Ldah ra rb disp) = may ra
changes_only may (Memory op ra rb disp) = false
changes_only may (Branch op ra disp) = not (links op)
changes_only may (Operate op ra rb rc) = may rc
changes_only may (Jump ra rb) = false
changes_only may (Pal n) = false

-- a number with the low bytes of the value
abbrev pub HasLow : Size → (value : ℕ) → ℕ → Type 0
HasLow size value number = low size number ≡ low size value

-- R31 reads zero
abbrev pub LeavesConstant : (value : ℕ) → Size → (to : ℕ) → List AlphaInstr → Type 0
LeavesConstant value size to words = (regs : Regs) → regs ZERO ≡ 0 → LeavesAt (HasLow size value) to words regs

-- R31 reads zero, and what the computation reads are quadwords
pub record MayCompute (op : MicroOp) (a b : Arg) (to : ℕ) (regs : Regs) : Type 0 where
  pub zero : regs ZERO ≡ 0
  pub first : regs (register_at a) < 2 ^ 64
  pub second : is_unary op ≡ false → regs (register_at b) < 2 ^ 64
  pub held : is_select op ≡ true → regs to < 2 ^ 64

-- what the operation computes from the arguments and from what `to` held
abbrev pub IsComputed : MicroOp → Size → (a b : Arg) (to : ℕ) → Regs → ℕ → Type 0
IsComputed op size a b to regs number = number ≡ computed op size (value_at regs a) (value_at regs b) (regs to)

abbrev pub LeavesComputed : MicroOp → Size → (a b : Arg) (to : ℕ) → List AlphaInstr → Type 0
LeavesComputed op size a b to words =
    (regs : Regs) → MayCompute op a b to regs → LeavesAt (IsComputed op size a b to regs) to words regs
