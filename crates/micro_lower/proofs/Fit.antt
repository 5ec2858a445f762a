-- A program by a plan fits a block where its row does.
use Rattle.std.proofs.Common.{◌≡◌, ℕ, Bool, true, List, [], ◌∷◌, ◌++◌, Option, refl, subst, lit<}
use Rattle.vax_form.specs.declared.instr.Size.TheVariants.{Long}
use Rattle.std.specs.Prelude.{slice_index_or}
use Rattle.vax_form.specs.declared.instr.Base.{Base}
use Rattle.vax_form.specs.declared.instr.Instr.{Instr}
use Rattle.vax_form.specs.declared.instr.Operand.{Operand}
use Rattle.vax_form.specs.declared.instr.Operand.TheVariants as operands
use Rattle.micro_ops.specs.Fits.{fits}
use Rattle.micro_ops.specs.declared.codes.CodeSources.{CodeSources}
use Rattle.micro_ops.specs.declared.program.Exit.{Exit}
use Rattle.micro_ops.specs.declared.program.Micro.{Micro}
use Rattle.micro_ops.specs.declared.program.Micro.TheVariants.{Leave}
use Rattle.operand_programs.specs.declared.operands.Specifier.{Specifier}
use Rattle.micro_lower.specs.declared.plans.Slot.{Slot}
use Rattle.operand_programs.specs.Behind.{AreFit}
use Rattle.operand_programs.specs.InOrder.{no_steps}
use Rattle.operand_programs.specs.Operands.{IsLocated}
use Rattle.operand_programs.specs.Registers.{NamesRegisters}
use Rattle.operand_programs.specs.Rows.{Piece, Evaluates, Operates, Stores, Replaces, Pushes, Finishes, Commits, PiecesAreFit, row_program, row_fits}
use Rattle.operand_programs.proofs.RowWalks.{row_law}
use Rattle.micro_lower.specs.Plans.{Plan, specifiers_from, codes_program, program_of}
use Rattle.vax_meaning.specs.Evaluation.{operand}
use Rattle.micro_lower.specs.declared.plans.Target.{Target}
use Rattle.micro_lower.specs.declared.plans.Target.TheVariants as targets

abbrev pub written : Target → Piece
written targets.Nowhere = Operates []
written (targets.Result operand size) = Stores operand size 3 2
written (targets.Replacement operand size) = Replaces operand size 3 2
written targets.Stack = Pushes 3 2

abbrev pub ended : Target → Piece
ended targets.Nowhere = Commits
ended (targets.Result operand size) = Finishes operand size 2
ended (targets.Replacement operand size) = Finishes operand size 2
ended targets.Stack = Finishes (operands.Register 14) Long 3

-- the pieces of a program
abbrev pub pieces : Plan → Instr → List Piece
pieces plan instr = Evaluates (specifiers_from 0 plan.slots instr) ∷ Operates plan.before ∷ written plan.target ∷ Operates plan.behind ∷ ended plan.target ∷ []

-- what can be computed of it
abbrev pub plan_fits : CodeSources → Plan → Instr → Bool
plan_fits codes plan instr = row_fits codes (pieces plan instr) (codes_program codes ++ Leave plan.exit ∷ [])

-- a result in registers has registers
abbrev pub TargetIsNamed : Target → Type 0
TargetIsNamed (targets.Result operand size) = NamesRegisters operand size
TargetIsNamed (targets.Replacement operand size) = NamesRegisters operand size
TargetIsNamed target = Unit {0}

program_is : (codes : CodeSources) (slots : List Slot) (before behind : List Micro) (target : Target) (exit : Exit) (instr : Instr)
    → (let plan : Plan = record { slots = slots; before = before; target = target; behind = behind; exit = exit } in
    row_program (pieces plan instr) no_steps (codes_program codes ++ Leave exit ∷ []) ≡ program_of codes plan instr)
program_is codes slots before behind targets.Nowhere exit instr = refl
program_is codes slots before behind (targets.Result operand size) exit instr = refl
program_is codes slots before behind (targets.Replacement operand size) exit instr = refl
program_is codes slots before behind targets.Stack exit instr = refl

are_fit : (target : Target) (specifiers : List Specifier) (before behind : List Micro) → AreFit specifiers → TargetIsNamed target
    → PiecesAreFit (Evaluates specifiers ∷ Operates before ∷ written target ∷ Operates behind ∷ ended target ∷ [])
are_fit targets.Nowhere specifiers before behind fit named = (fit, (tt, (tt, (tt, (tt, tt)))))
are_fit (targets.Result operand size) specifiers before behind fit named = (fit, (tt, (tt, (tt, (named, tt)))))
are_fit (targets.Replacement operand size) specifiers before behind fit named = (fit, (tt, (tt, (tt, (named, tt)))))
are_fit targets.Stack specifiers before behind fit named = (fit, (tt, (tt, (tt, (lit< tt, tt)))))

pub program_fits : (codes : CodeSources) (plan : Plan) (instr : Instr) → AreFit (specifiers_from 0 plan.slots instr) → TargetIsNamed plan.target → plan_fits codes plan instr ≡ true
    → fits codes (program_of codes plan instr) ≡ true
program_fits codes plan instr fit named is =
    subst (λ (program : List Micro). fits codes program ≡ true) (program_is codes plan.slots plan.before plan.behind plan.target plan.exit instr)
    (row_law codes (pieces plan instr) (codes_program codes ++ Leave plan.exit ∷ []) (are_fit plan.target (specifiers_from 0 plan.slots instr) plan.before plan.behind fit named) is)

-- ---- cases
pub located : (operand : Operand) (X : Type 0) → IsLocated operand → ((base : Base) (index : _) → operand ≡ operands.Place base index → X) → ((n : ℕ) → operand ≡ operands.Register n → X) → X
located (operands.Place base index) X is place register = place base index refl
located (operands.Register n) X is place register = register n refl
located operands.Unused X is place register = absurd is
located (operands.Value value) X is place register = absurd is
located (operands.Target address) X is place register = absurd is

-- what computes of an instruction with an operand in memory, and of one with an operand in a register, without the others
first_in : (X : List Operand → Type 0) (list : List Operand) → IsLocated (slice_index_or list 0 operands.Unused)
    → ((base : Base) (index : Option ℕ) (more : List Operand) → X (operands.Place base index ∷ more)) → ((n : ℕ) (more : List Operand) → X (operands.Register n ∷ more)) → X list
first_in X [] is place register = absurd is
first_in X (operands.Place base index ∷ more) is place register = place base index more
first_in X (operands.Register n ∷ more) is place register = register n more
first_in X (operands.Unused ∷ more) is place register = absurd is
first_in X (operands.Value value ∷ more) is place register = absurd is
first_in X (operands.Target address ∷ more) is place register = absurd is

second_in : (X : List Operand → Type 0) (list : List Operand) → IsLocated (slice_index_or list 1 operands.Unused)
    → ((a : Operand) (base : Base) (index : Option ℕ) (more : List Operand) → X (a ∷ operands.Place base index ∷ more))
    → ((a : Operand) (n : ℕ) (more : List Operand) → X (a ∷ operands.Register n ∷ more)) → X list
second_in X [] is place register = absurd is
second_in X (a ∷ list) is place register = first_in (λ rest. X (a ∷ rest)) list is (place a) (register a)

third_in : (X : List Operand → Type 0) (list : List Operand) → IsLocated (slice_index_or list 2 operands.Unused)
    → ((a b : Operand) (base : Base) (index : Option ℕ) (more : List Operand) → X (a ∷ b ∷ operands.Place base index ∷ more))
    → ((a b : Operand) (n : ℕ) (more : List Operand) → X (a ∷ b ∷ operands.Register n ∷ more)) → X list
third_in X [] is place register = absurd is
third_in X (a ∷ list) is place register = second_in (λ rest. X (a ∷ rest)) list is (place a) (register a)

-- the instruction with these operands in place of its own
abbrev pub having : Instr → List Operand → Instr
having instr list = record { at = instr.at; opcode = instr.opcode; count = instr.count; operands = list; after = instr.after }

abbrev pub PlanFits : CodeSources → (Instr → Plan) → Instr → Type 0
PlanFits codes plan instr = plan_fits codes (plan instr) instr ≡ true

module _ (X : Instr → Type 0) (instr : Instr) where
  pub first_located : IsLocated (operand instr 0) → ((base : Base) (index : Option ℕ) (more : List Operand) → X (having instr (operands.Place base index ∷ more)))
      → ((n : ℕ) (more : List Operand) → X (having instr (operands.Register n ∷ more))) → X instr
  first_located is place register = first_in (λ list. X (having instr list)) instr.operands is place register

  pub second_located : IsLocated (operand instr 1) → ((a : Operand) (base : Base) (index : Option ℕ) (more : List Operand) → X (having instr (a ∷ operands.Place base index ∷ more)))
      → ((a : Operand) (n : ℕ) (more : List Operand) → X (having instr (a ∷ operands.Register n ∷ more))) → X instr
  second_located is place register = second_in (λ list. X (having instr list)) instr.operands is place register

  pub third_located : IsLocated (operand instr 2) → ((a b : Operand) (base : Base) (index : Option ℕ) (more : List Operand) → X (having instr (a ∷ b ∷ operands.Place base index ∷ more)))
      → ((a b : Operand) (n : ℕ) (more : List Operand) → X (having instr (a ∷ b ∷ operands.Register n ∷ more))) → X instr
  third_located is place register = third_in (λ list. X (having instr list)) instr.operands is place register
