-- What the sequences promise wherever they stand: which accesses count, and what the registers hold behind them.
use Rattle.std.specs.Prelude.{ℕ, ◌≡◌, ◌+◌, ◌*◌, ◌/◌, ◌%◌, ◌^◌, ◌<◌, ◌≤◌, ◌==◌, ◌&&◌, nat_le, true, false, Option, Some, None, List, length, All, if◌then◌else◌}
use Rattle.alpha_encode.specs.declared.instr.AlphaInstr.{AlphaInstr}
use Rattle.alpha_meaning.specs.declared.access.AlphaKind.TheVariants.{Load, LoadLocked, Store, StoreConditional}
use Rattle.alpha_meaning.specs.State.{Regs, at_place}
use Rattle.alpha_meaning.specs.Pieces.{Fetch, Terms, Plan, Plain, Runs, HasAt, piece, Only, most_words}
use Rattle.micro_ops.specs.declared.program.LockedOp.{LockedOp}
use Rattle.micro_ops.specs.declared.program.LockedOp.TheVariants.{AddWord, SetBit, ClearBit}
use Rattle.micro_ops.specs.Meaning.{locked_count}
use Rattle.vt_words.specs.Quad.{sign_extended}
use Rattle.vax_form.specs.Parts.{parts}
use Rattle.byte_sequences.specs.Instructions.{is_scratch, is_scratch_or}
use Rattle.byte_sequences.specs.Words.{by_count}
use Rattle.byte_sequences.specs.Plans.{quad_of_part, read_plan, write_plan, locked_plan}

-- ---- what has to be allowed
-- `loaded` gives the number of bytes of each load
pub record MayRead (loaded : (address count : ℕ) → ℕ) (terms : Terms) (address count : ℕ) : Type 0 where
  -- the operand ends within the address space
  pub within : address + count ≤ 2 ^ 32
  pub pages : All (λ part. terms.allowed false (quad_of_part part) ≡ true) (parts address count)
  pub loads : terms.kinds Load (loaded address count) ≡ true

-- The number of bytes of each load of an operand: an aligned longword is loaded as a whole. Of all others quadwords are
-- loaded, whatever the operand's size and place.
abbrev pub loaded_bytes : (address count : ℕ) → ℕ
loaded_bytes address count = if count == 4 && address % 4 == 0 then 4 else 8

-- The same with the byte-word extension: a byte, and a word at an even address, are loaded as a whole.
abbrev pub bw_loaded_bytes : (address count : ℕ) → ℕ
bw_loaded_bytes address count =
    if count == 1 then 1 else if count == 2 && address % 2 == 0 then 2 else loaded_bytes address count

-- load-locked accesses and stores conditional of whole quadwords
pub record MayRetry (terms : Terms) : Type 0 where
  pub loads : terms.kinds LoadLocked 8 ≡ true
  pub stores : terms.kinds StoreConditional 8 ≡ true

-- The number of bytes of each store of an operand: an aligned longword or quadword is stored as a whole, and a quadword
-- at 4 modulo 8 as two longwords. All others are stored by load-locked loops.
abbrev pub stored_bytes : (address count : ℕ) → Option ℕ
stored_bytes address count =
    if count == 8 && address % 8 == 0 then Some 8 else if nat_le 4 count && address % 4 == 0 then Some 4 else None

-- The same with the byte-word extension: a byte, and a word at an even address, are stored as a whole.
abbrev pub bw_stored_bytes : (address count : ℕ) → Option ℕ
bw_stored_bytes address count =
    if count == 1 then Some 1 else if count == 2 && address % 2 == 0 then Some 2 else stored_bytes address count

abbrev pub MayStore : Terms → Option ℕ → Type 0
MayStore terms (Some bytes) = terms.kinds Store bytes ≡ true
MayStore terms None = MayRetry terms

-- `stored` gives the number of bytes of each store, or none for a load-locked loop
pub record MayWrite (stored : (address count : ℕ) → Option ℕ) (terms : Terms) (address count : ℕ) : Type 0 where
  -- the operand ends within the address space
  pub within : address + count ≤ 2 ^ 32
  pub pages : All (λ part. terms.allowed true (quad_of_part part) ≡ true) (parts address count)
  -- what may be stored may be loaded
  pub readable : (quad : ℕ) → terms.allowed true quad ≡ true → terms.allowed false quad ≡ true
  pub stores : MayStore terms (stored address count)

-- a word stands in one quadword, and a byte has the bits 0 to 7
abbrev pub IsLockable : LockedOp → (address from : ℕ) → Type 0
IsLockable AddWord address from = address % 8 + 2 ≤ 8
IsLockable SetBit address from = from < 8
IsLockable ClearBit address from = from < 8

pub record MayLock (terms : Terms) (kind : LockedOp) (address from : ℕ) : Type 0 where
  pub within : address + locked_count kind ≤ 2 ^ 32
  pub operand : IsLockable kind address from
  pub page : terms.allowed true (address / 8 * 8) ≡ true
  pub readable : (quad : ℕ) → terms.allowed true quad ≡ true → terms.allowed false quad ≡ true
  pub retries : MayRetry terms

-- ---- the registers behind a sequence
-- the value of so many bytes is in the register, and only scratch has changed beside it
pub record Holds (before : Regs) (to count value : ℕ) (regs : Regs) : Type 0 where
  pub holds : regs to ≡ value
  pub fits : value < 2 ^ (8 * count)
  pub only : Only (is_scratch_or to) before regs

-- the longword is the low one of the register, which is extended with its sign, and only scratch has changed beside it
pub record HoldsExtended (before : Regs) (to value : ℕ) (regs : Regs) : Type 0 where
  pub holds : regs to % 2 ^ 32 ≡ value
  pub extended : sign_extended (regs to) 32 ≡ regs to
  pub only : Only (is_scratch_or to) before regs

-- only scratch has changed
pub record Keeps (before : Regs) (done : Unit {0}) (regs : Regs) : Type 0 where
  pub only : Only is_scratch before regs

-- ---- the promises
-- The words run the plan at each place, for every number of steps, whatever memory answers and however often a store
-- conditional fails: in as many steps as there are words, and 16 more for each store that failed.
abbrev pub RunsAt : {A : Type 0} → (fetch : Fetch) (terms : Terms) (first : ℕ) (words : List AlphaInstr) → (Ends : A → Regs → Type 0) → Regs → Plan A → Type 0
RunsAt fetch terms first words Ends regs plan =
    (n : ℕ) → Runs (piece fetch terms first (first + length words)) Ends n Plain (length words) (at_place regs first) plan

-- reads the operand at the address in `place` into `to`
abbrev pub ReadsPlan : (loaded : (address count : ℕ) → ℕ) → (place count to : ℕ) → List AlphaInstr → Type 0
ReadsPlan loaded place count to words =
    (fetch : Fetch) (terms : Terms) (first : ℕ) (regs : Regs)
    → first + length words ≤ most_words → MayRead loaded terms (regs place) count → HasAt fetch first words
    → RunsAt fetch terms first words (Holds regs to count) regs (read_plan (parts (regs place) count))

-- reads the longword at the address in `place` into `to`, extended with its sign
abbrev pub ReadsExtended : (place to : ℕ) → List AlphaInstr → Type 0
ReadsExtended place to words =
    (fetch : Fetch) (terms : Terms) (first : ℕ) (regs : Regs)
    → first + length words ≤ most_words → MayRead loaded_bytes terms (regs place) 4 → HasAt fetch first words
    → RunsAt fetch terms first words (HoldsExtended regs to) regs (read_plan (parts (regs place) 4))

-- writes the low bytes of `from` to the operand at the address in `place`
abbrev pub WritesPlan : (stored : (address count : ℕ) → Option ℕ) → (place count from : ℕ) → List AlphaInstr → Type 0
WritesPlan stored place count from words =
    (fetch : Fetch) (terms : Terms) (first : ℕ) (regs : Regs)
    → first + length words ≤ most_words → MayWrite stored terms (regs place) count → HasAt fetch first words
    → RunsAt fetch terms first words (Keeps regs) regs (write_plan (parts (regs place) count) (regs from))

-- changes the word or byte at the address in `place` by `from`, and puts what was there before into `to`
abbrev pub LockedPlan : LockedOp → (place from to : ℕ) → List AlphaInstr → Type 0
LockedPlan kind place from to words =
    (fetch : Fetch) (terms : Terms) (first : ℕ) (regs : Regs)
    → first + length words ≤ most_words → MayLock terms kind (regs place) (regs from) → HasAt fetch first words
    → RunsAt fetch terms first words (Holds regs to (locked_count kind)) regs (locked_plan kind (regs place) (regs from))

-- ---- lengths
-- the most words of a read, a write and an interlocked change
abbrev pub most_read_words : (count : ℕ) → ℕ
most_read_words count = by_count count 4 12 12 10

abbrev pub most_write_words : (count : ℕ) → ℕ
most_write_words count = by_count count 8 20 24 24

abbrev pub most_locked_words : ℕ
most_locked_words = 12
