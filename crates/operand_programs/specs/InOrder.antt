-- Operands one after the other: each sees what the earlier ones added to the registers.
-- VAX Architecture Reference Manual, "Operand Specifiers": operands are evaluated from left to right.
use Rattle.std.specs.Prelude.{◌≡◌, ◌≤◌, ℕ, ◌==◌, false, List, [], ◌∷◌, ◌++◌, length, map, replicate}
use Rattle.vax_form.specs.Grammar.{padded}
use Rattle.vax_form.specs.Row.{row_with, filled}
use Rattle.vax_form.specs.Script.{Script, ◌>>=◌, pure}
use Rattle.vax_form.specs.State.{IsState}
use Rattle.vax_form.specs.Tree.{Tree, tree_of}
use Rattle.vax_form.specs.declared.instr.Access.{Access}
use Rattle.vax_form.specs.declared.instr.Access.TheVariants.{Read, Write, Modify, Address, Field, Branch}
use Rattle.vax_form.specs.declared.instr.Instr.{Instr}
use Rattle.vax_form.specs.declared.pages.Pages.{Pages}
use Rattle.vax_form.specs.declared.row.Row.{Row}
use Rattle.vax_form.specs.declared.state.VaxState.{VaxState}
use Rattle.vax_meaning.specs.Evaluation.{evaluate, nothing, nothings, operands_from}
use Rattle.vax_meaning.specs.declared.evaluation.Evaluated.{Evaluated}
use Rattle.micro_ops.specs.Leaving.{CodesComeFrom}
use Rattle.micro_ops.specs.Meaning.{Left, Temps, Found, Standing, course_of}
use Rattle.micro_ops.specs.declared.codes.CodeSources.{CodeSources}
use Rattle.micro_ops.specs.declared.program.Micro.{Micro}
use Rattle.operand_programs.specs.Specifiers.{stepped}
use Rattle.operand_programs.specs.Pieces.{Agrees, with_temps, leaving}
use Rattle.operand_programs.specs.Operands.{operand_program, steps_behind_specifier, IsPlaced, IsLeft}
use Rattle.operand_programs.specs.declared.operands.Specifier.{Specifier}

-- the operands' values, in order
abbrev pub evaluate_all : List Specifier → Script (List Evaluated)
evaluate_all [] = pure []
evaluate_all (specifier ∷ specifiers) = do
  first ← evaluate specifier.access specifier.size specifier.operand
  others ← evaluate_all specifiers
  pure (first ∷ others)

abbrev pub steps_behind_all : List Specifier → (steps : List ℕ) → List ℕ
steps_behind_all [] steps = steps
steps_behind_all (specifier ∷ specifiers) steps = steps_behind_all specifiers (steps_behind_specifier specifier steps)

abbrev pub operands_program : List Specifier → (steps : List ℕ) → List Micro
operands_program [] steps = []
operands_program (specifier ∷ specifiers) steps = operand_program specifier steps ++ operands_program specifiers (steps_behind_specifier specifier steps)

-- an operand uses other temporaries; a displacement uses none
abbrev pub IsOutsideOne : Access → (to place temp : ℕ) → Type 0
IsOutsideOne Branch to place temp = Unit {0}
IsOutsideOne access to place temp = ((temp == place) ≡ false) × ((temp == to) ≡ false) × ((temp == 4) ≡ false)

-- so do several
abbrev pub IsOutside : List Specifier → (temp : ℕ) → Type 0
IsOutside [] temp = Unit {0}
IsOutside (specifier ∷ specifiers) temp = IsOutsideOne specifier.access specifier.to specifier.place temp × IsOutside specifiers temp

-- what an operand leaves is outside the later ones
abbrev pub Lasts : Access → (to place : ℕ) → List Specifier → Type 0
Lasts Read to place later = IsOutside later to
Lasts Write to place later = IsOutside later place
Lasts Modify to place later = IsOutside later to × IsOutside later place
Lasts Address to place later = IsOutside later to
Lasts Field to place later = IsOutside later to × IsOutside later place
Lasts Branch to place later = Unit {0}

abbrev pub ArePlaced : List Specifier → Type 0
ArePlaced [] = Unit {0}
ArePlaced (specifier ∷ specifiers) = IsPlaced specifier × Lasts specifier.access specifier.to specifier.place specifiers × ArePlaced specifiers

-- each operand is in its temporaries
abbrev pub AreLeft : List Specifier → List Evaluated → Temps → Type 0
AreLeft [] values temps = values ≡ []
AreLeft (specifier ∷ specifiers) values temps =
    (first : Evaluated) × (others : List Evaluated) × (values ≡ first ∷ others) × IsLeft specifier first temps × AreLeft specifiers others temps

-- all other temporaries are as they were
abbrev pub KeptByAll : List Specifier → (before after : Temps) → Type 0
KeptByAll specifiers before after = (temp : ℕ) → IsOutside specifiers temp → after temp ≡ before temp

abbrev pub GoesOnBehindAll : (Left → Type 0) → (Left → Tree) → List Micro → Found → Standing → List Specifier → (List Evaluated → Tree) → Type 0
GoesOnBehindAll P end program found standing specifiers rest = (values : List Evaluated) (temps : Temps) → AreLeft specifiers values temps → KeptByAll specifiers standing.temps temps
    → Agrees P end (course_of program found (with_temps temps standing)) (rest values)

-- the piece evaluates the operands as the instruction does, behind specifiers that added those steps
abbrev pub EvaluatesAll : List Specifier → (steps : List ℕ) → List Micro → Type 0
EvaluatesAll specifiers steps piece = (sources : CodeSources) (start : VaxState) (pages : Pages) (thread : ℕ) (program : List Micro) (found : Found) (standing : Standing)
    (rest : List Evaluated → VaxState → Tree)
    → length steps ≡ length found.state.r
    → GoesOnBehindAll (CodesComeFrom sources start) (leaving pages thread) program found standing specifiers (λ values. rest values (stepped (steps_behind_all specifiers steps) found.state))
    → Agrees (CodesComeFrom sources start) (leaving pages thread) (course_of (piece ++ program) found standing)
    (tree_of pages (evaluate_all specifiers) (stepped steps found.state) rest)

-- the operands of an instruction of that row are these
abbrev pub AreOperandsOf : List Specifier → Row → Instr → Type 0
AreOperandsOf specifiers row instr =
    (row ≡ row_with (map (λ (specifier : Specifier). (specifier.access, specifier.size)) specifiers))
    × (instr.operands ≡ padded (map (λ (specifier : Specifier). specifier.operand) specifiers))

-- operands in order
abbrev pub InOrder : Type 0
InOrder = (specifiers : List Specifier) (steps : List ℕ) → ArePlaced specifiers → EvaluatesAll specifiers steps (operands_program specifiers steps)

-- and these are the operands of an instruction with at most six
abbrev pub OfInstruction : Type 0
OfInstruction = (specifiers : List Specifier) (row : Row) (instr : Instr) (pages : Pages) (state : VaxState) (rest : List Evaluated → VaxState → Tree)
    → length specifiers ≤ 6 → AreOperandsOf specifiers row instr
    → tree_of pages (operands_from 6 row instr nothings) state rest ≡ tree_of pages (evaluate_all specifiers) state (λ values. rest (filled nothing 6 values))

-- before the first operand nothing was added
abbrev pub no_steps : List ℕ
no_steps = replicate 15 0

abbrev pub NothingAdded : Type 0
NothingAdded = (state : VaxState) → IsState state → stepped no_steps state ≡ state
