-- The part of a program that evaluates one operand, by how the instruction uses it, and what it leaves in the temporaries.
-- VAX Architecture Reference Manual, "Operand Specifiers": access types.
use Rattle.std.specs.Prelude.{◌≡◌, ℕ, ◌*◌, ◌%◌, ◌^◌, ◌<◌, ◌==◌, false, List, [], ◌++◌, length}
use Rattle.vax_form.specs.Size.{bytes_of}
use Rattle.vax_form.specs.Tree.{Tree, tree_of}
use Rattle.vax_form.specs.declared.instr.Access.{Access}
use Rattle.vax_form.specs.declared.instr.Access.TheVariants as accesses
use Rattle.vax_form.specs.declared.instr.Operand.{Operand}
use Rattle.vax_form.specs.declared.instr.Operand.TheVariants as operands
use Rattle.vax_form.specs.declared.instr.Size.{Size}
use Rattle.vax_form.specs.declared.instr.Size.TheVariants.{Long}
use Rattle.vax_form.specs.declared.pages.Pages.{Pages}
use Rattle.vax_form.specs.declared.state.VaxState.{VaxState}
use Rattle.vax_meaning.specs.Evaluation.{evaluate, nothing}
use Rattle.vax_meaning.specs.declared.evaluation.Evaluated.{Evaluated}
use Rattle.vax_meaning.specs.declared.operands.Location.{Location}
use Rattle.vax_meaning.specs.declared.operands.Location.TheVariants.{InMemory, InRegister}
use Rattle.micro_ops.specs.Leaving.{CodesComeFrom}
use Rattle.micro_ops.specs.Meaning.{Left, Temps, Found, Standing, course_of}
use Rattle.micro_ops.specs.declared.codes.CodeSources.{CodeSources}
use Rattle.micro_ops.specs.declared.program.Micro.{Micro}
use Rattle.operand_programs.specs.Specifiers.{stepped, steps_behind_operand, place_program, register_program, read_program, locate_program, modify_program}
use Rattle.operand_programs.specs.Pieces.{Agrees, Kept, with_temps, leaving, IsLong, IsReadable, IsKnownValue}
use Rattle.operand_programs.specs.declared.operands.Specifier.{Specifier}

-- ---- the programs
-- an operand in memory is checked with write intent and read; of a register the value is read
abbrev pub modified_program : Operand → Size → (steps : List ℕ) → (to place : ℕ) → List Micro
modified_program (operands.Register n) size steps to place = register_program n size steps to
modified_program (operands.Place base index) size steps to place = place_program base index size steps place to ++ modify_program size to place
modified_program operand size steps to place = []

-- the base of a field: an address, or the longword of a register
abbrev pub field_program : Operand → Size → (steps : List ℕ) → (to place : ℕ) → List Micro
field_program (operands.Register n) size steps to place = register_program n Long steps to
field_program operand size steps to place = locate_program operand size steps place to

abbrev pub access_program : Access → Operand → Size → (steps : List ℕ) → (to place : ℕ) → List Micro
access_program accesses.Read operand size steps to place = read_program operand size steps to place
access_program accesses.Write operand size steps to place = locate_program operand size steps place to
access_program accesses.Modify operand size steps to place = modified_program operand size steps to place
access_program accesses.Address operand size steps to place = locate_program operand size steps to place
access_program accesses.Field operand size steps to place = field_program operand size steps to place
access_program accesses.Branch operand size steps to place = []

abbrev pub operand_program : Specifier → (steps : List ℕ) → List Micro
operand_program specifier steps = access_program specifier.access specifier.operand specifier.size steps specifier.to specifier.place

-- what the specifier leaves added to the registers
abbrev pub steps_behind_access : Access → Operand → Size → (steps : List ℕ) → List ℕ
steps_behind_access accesses.Branch operand size steps = steps
steps_behind_access access operand size steps = steps_behind_operand operand size steps

abbrev pub steps_behind_specifier : Specifier → (steps : List ℕ) → List ℕ
steps_behind_specifier specifier steps = steps_behind_access specifier.access specifier.operand specifier.size steps

-- ---- which operands there are
-- an operand that has a place
abbrev pub IsLocated : Operand → Type 0
IsLocated (operands.Place base index) = IsLong base
IsLocated (operands.Register n) = Unit {0}
IsLocated operand = ⊥

-- an operand in memory
abbrev pub IsInMemory : Operand → Type 0
IsInMemory (operands.Place base index) = IsLong base
IsInMemory operand = ⊥

-- a branch displacement
abbrev pub IsTarget : Operand → Type 0
IsTarget (operands.Target address) = Unit {0}
IsTarget operand = ⊥

-- an operand that can be used so
abbrev pub IsFor : Access → Operand → Type 0
IsFor accesses.Read operand = IsReadable operand
IsFor accesses.Write operand = IsLocated operand
IsFor accesses.Modify operand = IsLocated operand
IsFor accesses.Address operand = IsInMemory operand
IsFor accesses.Field operand = IsLocated operand
IsFor accesses.Branch operand = IsTarget operand

-- its temporaries are two of 0 to 3
pub record IsPlaced (specifier : Specifier) : Type 0 where
  pub operand : IsFor specifier.access specifier.operand
  pub to : specifier.to < 4
  pub place : specifier.place < 4
  pub apart : (specifier.to == specifier.place) ≡ false

-- ---- what is left
-- the operand is in its register, or at the address
abbrev pub IsAt : Operand → Location → (address : ℕ) → Type 0
IsAt (operands.Place base index) location address = (location ≡ InMemory address) × (address < 2 ^ 32)
IsAt (operands.Register n) location address = location ≡ InRegister n
IsAt operand location address = ⊥

-- the value fits the size
abbrev pub IsOfSize : Size → (value : ℕ) → Type 0
IsOfSize size value = value < 2 ^ (8 * bytes_of size)

-- the base of a field, and the low longword of its registers
abbrev pub IsBase : Operand → Evaluated → (value address : ℕ) → Type 0
IsBase (operands.Register n) evaluated value address = (evaluated.location ≡ InRegister n) × (evaluated.value % 2 ^ 32 ≡ value)
IsBase operand evaluated value address = IsAt operand evaluated.location address

-- the temporaries hold the value and the address of what was evaluated
abbrev pub IsLeftAs : Access → Operand → Size → Evaluated → (value address : ℕ) → Type 0
IsLeftAs accesses.Read operand size evaluated value address = (evaluated ≡ record { location = InMemory 0; value = value }) × IsOfSize size value × IsKnownValue operand size value
IsLeftAs accesses.Write operand size evaluated value address = (evaluated.value ≡ 0) × IsAt operand evaluated.location address
IsLeftAs accesses.Modify operand size evaluated value address = (evaluated.value ≡ value) × IsOfSize size value × IsAt operand evaluated.location address
IsLeftAs accesses.Address operand size evaluated value address = (evaluated ≡ record { location = InMemory value; value = value }) × (value < 2 ^ 32)
IsLeftAs accesses.Field operand size evaluated value address = IsBase operand evaluated value address
IsLeftAs accesses.Branch operand size evaluated value address = evaluated ≡ nothing

abbrev pub IsLeft : Specifier → Evaluated → Temps → Type 0
IsLeft specifier evaluated temps = IsLeftAs specifier.access specifier.operand specifier.size evaluated (temps specifier.to) (temps specifier.place)

-- ---- one operand
-- what comes behind agrees for whatever the operand may be; other temporaries are kept
abbrev pub GoesOnBehind : (Left → Type 0) → (Left → Tree) → List Micro → Found → Standing → Specifier → (Evaluated → Tree) → Type 0
GoesOnBehind P end program found standing specifier rest = (evaluated : Evaluated) (temps : Temps) → IsLeft specifier evaluated temps → Kept specifier.place specifier.to standing.temps temps
    → Agrees P end (course_of program found (with_temps temps standing)) (rest evaluated)

-- the piece evaluates the operand as the instruction does, behind specifiers that added those steps
abbrev pub EvaluatesOne : Specifier → (steps : List ℕ) → List Micro → Type 0
EvaluatesOne specifier steps piece = (sources : CodeSources) (start : VaxState) (pages : Pages) (thread : ℕ) (program : List Micro) (found : Found) (standing : Standing)
    (rest : Evaluated → VaxState → Tree)
    → length steps ≡ length found.state.r
    → GoesOnBehind (CodesComeFrom sources start) (leaving pages thread) program found standing specifier (λ evaluated. rest evaluated (stepped (steps_behind_specifier specifier steps) found.state))
    → Agrees (CodesComeFrom sources start) (leaving pages thread) (course_of (piece ++ program) found standing)
    (tree_of pages (evaluate specifier.access specifier.size specifier.operand) (stepped steps found.state) rest)
