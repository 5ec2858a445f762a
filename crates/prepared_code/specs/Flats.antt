-- Words ready to be run: an operation on registers each, or a branch, that goes on inside its block whatever the registers
-- hold.
use Rattle.std.specs.Prelude.{◌≡◌, ◌⊎◌, true, ℕ, ◌+◌, ◌^◌, ◌<◌, ◌≤◌, ◌==◌, if◌then◌else◌, List, length, slice_get, Some, None, is_some}
use Rattle.address_map.specs.Pairs.{address_at}
use Rattle.alpha_encode.specs.declared.instr.BranchOp.{BranchOp}
use Rattle.alpha_encode.specs.declared.instr.OperateOp.TheVariants.{Bis}
use Rattle.alpha_meaning.specs.Act.{taken}
use Rattle.alpha_meaning.specs.Result.{result_of}
use Rattle.alpha_meaning.specs.State.{Regs, put, at_place, regs_of}
use Rattle.block_law.specs.Translations.{Code}
use Rattle.prepared_code.specs.Inside.{local_at, step_in}
use Rattle.prepared_code.specs.declared.flat.Flat.{Flat}
use Rattle.prepared_code.specs.declared.flat.Way.{Way}
use Rattle.prepared_code.specs.declared.flat.Way.TheVariants as way

-- ---- straight words: the next one follows
-- the second operand: the literal, or a register
abbrev pub operand : Flat → Regs → ℕ
operand f regs = if f.b == 31 then f.literal else regs f.b

-- the registers behind it
abbrev pub effect : Flat → Regs → Regs
effect f regs = put regs f.c (result_of f.op (regs f.a) (operand f regs) (regs f.c))

-- the second operand is a register or the literal: one of them reads 0
pub record HasRegisters (f : Flat) : Type 0 where
  pub a : f.a < 32
  pub b : f.b < 32
  pub c : f.c < 32
  pub second : (f.b ≡ 31) ⊎ (f.literal ≡ 0)

-- it computes 0, of R31 alone
pub record IsNothing (f : Flat) : Type 0 where
  pub op : f.op ≡ Bis
  pub a : f.a ≡ 31
  pub b : f.b ≡ 31
  pub literal : f.literal ≡ 0

-- the form in which it runs: nothing but 0 goes to R31
pub record IsInForm (f : Flat) : Type 0 where
  pub registers : HasRegisters f
  pub zero : f.c ≡ 31 → IsNothing f

-- the word there does what a flat word says, and no block begins at the next
pub record IsStraight (code : Code) (place : ℕ) (f : Flat) : Type 0 where
  pub form : IsInForm f
  pub step : (r : List ℕ) → step_in code (at_place (regs_of r) place) ≡ Some (at_place (effect f (regs_of r)) (place + 1))

-- so do this many from there on
abbrev pub AreStraight : Code → List Flat → (first count : ℕ) → Type 0
AreStraight code flats first count = (k : ℕ) (f : Flat) → k < count → slice_get flats (first + k) ≡ Some f → IsStraight code (first + k) f

-- ---- branches
-- the word there goes to the literal where the branch is taken, else to the next, and no block begins at either
pub record IsBranch (code : Code) (place : ℕ) (f : Flat) (op : BranchOp) : Type 0 where
  pub register : f.a < 32
  pub target : f.literal < 2 ^ 32
  pub step : (r : List ℕ) → step_in code (at_place (regs_of r) place) ≡ Some (at_place (regs_of r) (if taken op (regs_of r f.a) then f.literal else place + 1))

-- ---- words behind which no step stays inside a block
-- the word there lets no local step be made, and so none stay inside, whatever the registers hold
pub record IsStop (code : Code) (place : ℕ) : Type 0 where
  pub none : (r : List ℕ) → local_at code (at_place (regs_of r) place) ≡ None
  pub stops : (r : List ℕ) → step_in code (at_place (regs_of r) place) ≡ None

-- the word there goes to the literal, at which a block begins, and writes nothing
pub record IsLanding (code : Code) (place : ℕ) (f : Flat) : Type 0 where
  pub target : f.literal < 2 ^ 32
  pub goes : (regs : Regs) → local_at code (at_place regs place) ≡ Some (at_place regs f.literal)
  pub begins : is_some (address_at code.map f.literal) ≡ true

-- the word there does what a flat word says, and a block begins at the next
pub record IsEnd (code : Code) (place : ℕ) (f : Flat) : Type 0 where
  pub form : IsInForm f
  pub goes : (r : List ℕ) → local_at code (at_place (regs_of r) place) ≡ Some (at_place (effect f (regs_of r)) (place + 1))
  pub begins : is_some (address_at code.map (place + 1)) ≡ true

-- where a branch by the register goes to the literal, else to the next word
abbrev pub way_out : Flat → BranchOp → (place : ℕ) → Regs → ℕ
way_out f op place regs = if taken op (regs f.a) then f.literal else place + 1

-- the word there goes so, and a block may begin at either
pub record IsFork (code : Code) (place : ℕ) (f : Flat) (op : BranchOp) : Type 0 where
  pub register : f.a < 32
  pub target : f.literal < 2 ^ 32
  pub goes : (r : List ℕ) → local_at code (at_place (regs_of r) place) ≡ Some (at_place (regs_of r) (way_out f op place (regs_of r)))

-- ---- all words
-- what a word's way says of it
abbrev pub IsItsWay : Code → (place : ℕ) → Flat → Way → Type 0
IsItsWay code place f way.Other = Unit {0}
IsItsWay code place f way.Stops = IsStop code place
IsItsWay code place f way.Lands = IsLanding code place f
IsItsWay code place f way.Ends = IsEnd code place f
IsItsWay code place f (way.Forks op) = IsFork code place f op
IsItsWay code place f (way.Branches op) = IsBranch code place f op

-- a word whose number says how many are straight from it on
pub record IsFlat (code : Code) (flats : List Flat) (place : ℕ) (f : Flat) : Type 0 where
  pub within : place + f.number ≤ length flats
  pub straight : AreStraight code flats place f.number
  pub its_way : IsItsWay code place f f.way

abbrev pub AreFlat : Code → List Flat → Type 0
AreFlat code flats = (k : ℕ) (f : Flat) → slice_get flats k ≡ Some f → IsFlat code flats k f
