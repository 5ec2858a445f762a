-- How much is known, at least, behind the parts of a program that evaluate operands, push, and commit.
use Rattle.std.specs.Prelude.{◌≡◌, ℕ, ◌+◌, ◌==◌, ◌<◌, ◌&&◌, Bool, true, false, not, List, [], ◌∷◌, length, map, min, slice_set, nat_le}
use Rattle.std.specs.List.{list_any}
use Rattle.vax_form.specs.Size.{bytes_of}
use Rattle.vax_form.specs.declared.instr.Access.{Access}
use Rattle.vax_form.specs.declared.instr.Access.TheVariants.{Read, Write, Modify, Address, Field, Branch}
use Rattle.vax_form.specs.declared.instr.Operand.{Operand}
use Rattle.vax_form.specs.declared.instr.Operand.TheVariants.{Register, Place}
use Rattle.vax_form.specs.declared.instr.Size.{Size}
use Rattle.vax_form.specs.declared.instr.Size.TheVariants.{Quad}
use Rattle.micro_ops.specs.Fits.{holding_of, walk}
use Rattle.micro_ops.specs.Known.{holds, behind_write, behind_access}
use Rattle.micro_ops.specs.declared.codes.CodeSources.{CodeSources}
use Rattle.micro_ops.specs.declared.known.Checked.TheVariants.{Nowhere, At}
use Rattle.micro_ops.specs.declared.known.Holding.{Holding}
use Rattle.micro_ops.specs.declared.known.Holding.TheVariants.{Nothing, Longword}
use Rattle.micro_ops.specs.declared.known.Known.{Known}
use Rattle.operand_programs.specs.Specifiers.{commit_program}
use Rattle.operand_programs.specs.Operands.{operand_program, IsPlaced}
use Rattle.operand_programs.specs.InOrder.{operands_program, no_steps}
use Rattle.operand_programs.specs.Results.{finish_program, push_program}
use Rattle.operand_programs.specs.Registers.{NamesRegisters}
use Rattle.operand_programs.specs.Knowing.{FitsBetween}
use Rattle.operand_programs.specs.declared.operands.Specifier.{Specifier}

-- ---- before
-- so many flags, and none of them is set
abbrev pub are_clear : (count : ℕ) → List Bool → Bool
are_clear count flags = (length flags == count) && not (list_any (λ flag. flag) flags)

-- no register was committed yet, and the program goes on
abbrev pub is_uncommitted : Known → Bool
is_uncommitted known = not known.ended && are_clear 15 known.committed

-- nothing was changed yet
abbrev pub is_unchanged : Known → Bool
is_unchanged known = not known.changed && is_uncommitted known && (length known.high == 64)

-- ---- operands
-- the temporaries 0 to 3 outlast an operand
abbrev pub lasting : Known → Known
lasting known = behind_access (record known { checked = Nowhere })

abbrev pub is_in_memory : Operand → Bool
is_in_memory (Place base index) = true
is_in_memory operand = false

-- what a value of that size is
abbrev pub value_holding : Size → Holding
value_holding size = holding_of (nat_le (bytes_of size) 4)

-- an operand in memory that is modified was checked for writing
abbrev pub behind_access_of : Access → (in_memory : Bool) → Size → (to place : ℕ) → Known → Known
behind_access_of Read in_memory size to place known = behind_write to (value_holding size) known
behind_access_of Write true size to place known = behind_write place Longword known
behind_access_of Write false size to place known = known
behind_access_of Modify true size to place known = behind_write to (value_holding size) (record (behind_write place Longword known) { checked = At place (bytes_of size) true })
behind_access_of Modify false size to place known = behind_write to (value_holding size) known
behind_access_of Address in_memory size to place known = behind_write to Longword known
behind_access_of Field true size to place known = behind_write place Longword known
behind_access_of Field false size to place known = behind_write to Longword known
behind_access_of Branch in_memory size to place known = known

-- a displacement is no operation
abbrev pub before_access : Access → Known → Known
before_access Branch known = known
before_access access known = lasting known

abbrev pub behind_operand : Specifier → Known → Known
behind_operand specifier known =
    behind_access_of specifier.access (is_in_memory specifier.operand) specifier.size specifier.to specifier.place (before_access specifier.access known)

abbrev pub behind_operands : List Specifier → Known → Known
behind_operands [] known = known
behind_operands (specifier ∷ specifiers) known = behind_operands specifiers (behind_operand specifier known)

-- its temporaries are among 0 to 3, and its registers among R0 to R14
pub record IsFit (specifier : Specifier) : Type 0 where
  pub placed : IsPlaced specifier
  pub registers : NamesRegisters specifier.operand specifier.size

abbrev pub AreFit : List Specifier → Type 0
AreFit [] = Unit {0}
AreFit (specifier ∷ specifiers) = IsFit specifier × AreFit specifiers

-- an operand fits behind whatever changed nothing
abbrev pub OperandFits : Type 0
OperandFits = (codes : CodeSources) (specifier : Specifier) (steps : List ℕ) (known : Known) → IsFit specifier → is_unchanged known ≡ true
    → FitsBetween codes known (operand_program specifier steps) (behind_operand specifier known)

-- so do several in order
abbrev pub OperandsFit : Type 0
OperandsFit = (codes : CodeSources) (specifiers : List Specifier) (steps : List ℕ) (known : Known) → AreFit specifiers → is_unchanged known ≡ true
    → FitsBetween codes known (operands_program specifiers steps) (behind_operands specifiers known)

-- ---- the stack
-- a push fits alike, whatever was added to the stack pointer
abbrev pub PushFits : Type 0
PushFits = (codes : CodeSources) (steps : List ℕ) (place from : ℕ) (known : Known) → walk codes known (push_program steps place from) ≡ walk codes known (push_program no_steps place from)

-- ---- commits
-- so many registers may be committed, and temporary 5 may be lost
abbrev pub behind_commits : (registers : List Bool) → Known → Known
behind_commits registers known = record known { temp5 = Nothing; checked = Nowhere; changed = true; committed = registers }

-- the registers with a step
abbrev pub stepping : (steps : List ℕ) → List Bool
stepping steps = map (λ step. not (step == 0)) steps

-- and those that take a result
abbrev pub finishing : Operand → Size → (steps : List ℕ) → List Bool
finishing (Register n) Quad steps = slice_set (slice_set (stepping steps) n true) (min (n + 1) 255) true
finishing (Register n) size steps = slice_set (stepping steps) n true
finishing operand size steps = stepping steps

-- the steps are committed behind whatever committed nothing
abbrev pub CommitsFit : Type 0
CommitsFit = (codes : CodeSources) (steps : List ℕ) (known : Known) → length steps ≡ 15 → is_uncommitted known ≡ true
    → FitsBetween codes known (commit_program 0 steps) (behind_commits (stepping steps) known)

-- so is the result, where its temporary holds it
abbrev pub FinishFits : Type 0
FinishFits = (codes : CodeSources) (operand : Operand) (size : Size) (steps : List ℕ) (from : ℕ) (known : Known)
    → NamesRegisters operand size → length steps ≡ 15 → from < 4 → holds known from ≡ true → is_uncommitted known ≡ true
    → FitsBetween codes known (finish_program operand size steps from) (behind_commits (finishing operand size steps) known)
