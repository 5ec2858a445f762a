-- EMUL's program lowers it, and keeps to it.
use Rattle.std.proofs.Common.{◌≡◌, ℕ, true, List, [], ◌∷◌, ◌++◌, Some, refl, sym, subst, lit<, lit≤}
use Rattle.vax_form.specs.Grammar.{IsSpelled, padded}
use Rattle.vax_form.specs.Operation.{operation_at}
use Rattle.vax_form.specs.Row.{operands_of}
use Rattle.vax_form.specs.declared.instr.Access.TheVariants as accesses
use Rattle.vax_form.specs.declared.instr.Instr.{Instr}
use Rattle.vax_form.specs.declared.instr.Operand.{Operand}
use Rattle.vax_form.specs.declared.instr.Size.TheVariants.{Long, Quad}
use Rattle.vax_form.specs.declared.operation.Operation.TheVariants as operations
use Rattle.vax_meaning.specs.Evaluation.{operand, evaluated_row}
use Rattle.cc_liveness.specs.Uses.{code_use_of}
use Rattle.micro_ops.specs.Fits.{step, fits}
use Rattle.micro_ops.specs.Sources.{sources_of}
use Rattle.micro_ops.specs.declared.program.Exit.TheVariants as exits
use Rattle.micro_ops.specs.declared.program.Micro.{Micro}
use Rattle.micro_ops.specs.declared.program.Micro.TheVariants.{Leave}
use Rattle.operand_programs.specs.Behind.{AreFit}
use Rattle.operand_programs.specs.InOrder.{ArePlaced, operands_program, steps_behind_all, no_steps}
use Rattle.operand_programs.specs.Operands.{IsLocated}
use Rattle.operand_programs.specs.Rows.{Piece, Evaluates, Operates, Stores, Finishes, row_fits}
use Rattle.operand_programs.proofs.RowWalks.{row_law}
use Rattle.micro_lower.specs.Lowering.{Lowers, KeepsTo, AreLongOperands}
use Rattle.micro_lower.specs.Plans.{write_program, end_program, codes_program, rest_program}
use Rattle.micro_lower.specs.Rows.{read, written, product_program, extended_multiply_plan, extended_multiply_program}
use Rattle.micro_lower.specs.declared.plans.Slot.{Slot}
use Rattle.micro_lower.proofs.Fit.{located}
use Rattle.micro_lower.proofs.Inner.{operands_inner, target_inner, end_inner, codes_inner}
use Rattle.micro_lower.proofs.Keeping.{Ends, keeps, ends_behind, ends_all, next_keeps}
use Rattle.micro_lower.proofs.Lowered.{AreFitting, fitting}
use Rattle.micro_lower.proofs.Plain.{lowers}
use Rattle.micro_lower.proofs.ProductRows.{factors_of, others_of, product_does}
use Rattle.micro_lower.proofs.Slots.{Fits, FitSlots}
use Rattle.micro_lower.proofs.Spelled.{with_operands}

abbrev all_slots : List Slot
all_slots = read Long 0 1 ∷ read Long 1 2 ∷ read Long 1 2 ∷ written Quad ∷ []

-- ---- the operands
record Facts (instr : Instr) : Type 0 where
  pub first : Fits accesses.Read Long (operand instr 0)
  pub second : Fits accesses.Read Long (operand instr 1)
  pub third : Fits accesses.Read Long (operand instr 2)
  pub last : Fits accesses.Write Quad (operand instr 3)
  pub all : instr.operands ≡ padded (operand instr 0 ∷ operand instr 1 ∷ operand instr 2 ∷ operand instr 3 ∷ [])

facts_of : (list : List Operand) (at opcode count after : ℕ) → FitSlots all_slots list → Facts (with_operands at opcode count after list)
facts_of [] at opcode count after fit = absurd fit
facts_of (x ∷ []) at opcode count after fit = absurd fit.1
facts_of (x ∷ y ∷ []) at opcode count after fit = absurd fit.1.1
facts_of (x ∷ y ∷ z ∷ []) at opcode count after fit = absurd fit.1.1.1
facts_of (x ∷ y ∷ z ∷ w ∷ []) at opcode count after fit = record { first = fit.0; second = fit.1.0; third = fit.1.1.0; last = fit.1.1.1.0; all = refl }
facts_of (x ∷ y ∷ z ∷ w ∷ v ∷ more) at opcode count after fit = absurd fit.1.1.1.1

module _ (instr : Instr) (facts : Facts instr) where
  factors_placed : ArePlaced (factors_of instr)
  factors_placed = (
    record { operand = facts.first.0.0; to = lit< tt; place = lit< tt; apart = refl },
    ((refl, refl, refl), tt),
    (record { operand = facts.second.0.0; to = lit< tt; place = lit< tt; apart = refl }, tt, tt),
  )

  others_placed : ArePlaced (others_of instr)
  others_placed = (
    record { operand = facts.third.0.0; to = lit< tt; place = lit< tt; apart = refl },
    ((refl, refl, refl), tt),
    (record { operand = facts.last.0.0; to = lit< tt; place = lit< tt; apart = refl }, tt, tt),
  )

  factors_fit : AreFit (factors_of instr)
  factors_fit = (record { placed = factors_placed.0; registers = facts.first.1 }, (record { placed = factors_placed.2.0; registers = facts.second.1 }, tt))

  others_fit : AreFit (others_of instr)
  others_fit = (record { placed = others_placed.0; registers = facts.third.1 }, (record { placed = others_placed.2.0; registers = facts.last.1 }, tt))

-- ---- what fits
pieces_of : Instr → List Piece
pieces_of instr =
    let plan = extended_multiply_plan instr in
    Evaluates (factors_of instr) ∷ Operates product_program ∷ Evaluates (others_of instr) ∷ Operates plan.before ∷ Stores (operand instr 3) Quad 3 2 ∷ Operates plan.behind ∷ Finishes (operand instr 3) Quad 2 ∷ []

product_row_fits : (instr : Instr) → IsLocated (operand instr 3)
    → row_fits (sources_of operations.ExtendedMultiply) (pieces_of instr) (codes_program (sources_of operations.ExtendedMultiply) ++ Leave exits.Next ∷ []) ≡ true
unfolding sources_of step pieces_of
product_row_fits instr is = located (operand instr 3) _ is (λ base index e. rw e refl) (λ n e. rw e refl)

product_fits : (instr : Instr) → Facts instr → fits (sources_of operations.ExtendedMultiply) (extended_multiply_program instr) ≡ true
unfolding pieces_of
product_fits instr facts =
    row_law (sources_of operations.ExtendedMultiply) (pieces_of instr) (codes_program (sources_of operations.ExtendedMultiply) ++ Leave exits.Next ∷ [])
    (factors_fit instr facts, (tt, (others_fit instr facts, (tt, (tt, (tt, (facts.last.1, tt))))))) (product_row_fits instr facts.last.0.0)

pub product_lowers : (instr : Instr) (program : List Micro) → IsSpelled instr → AreLongOperands instr → operation_at instr.opcode ≡ Some operations.ExtendedMultiply
    → program ≡ extended_multiply_program instr → Lowers operations.ExtendedMultiply instr program
unfolding operands_of evaluated_row sources_of
product_lowers instr program spelled long is made =
    let f : AreFitting all_slots instr = fitting operations.ExtendedMultiply instr all_slots spelled long is refl (lit≤ tt) in
    let facts : Facts instr = subst Facts (sym f.is_instr) (facts_of f.operands instr.at instr.opcode instr.count instr.after f.fit) in
    subst (λ (p : List Micro). Lowers operations.ExtendedMultiply instr p) (sym made)
    (lowers operations.ExtendedMultiply instr (extended_multiply_program instr)
    (product_does instr is (refl, facts.all) (factors_placed instr facts) (others_placed instr facts) facts.last.0.1)
    (product_fits instr facts))

-- ---- what it keeps to
pub product_keeps : (instr : Instr) (program : List Micro) → operation_at instr.opcode ≡ Some operations.ExtendedMultiply → program ≡ extended_multiply_program instr → KeepsTo instr program
unfolding code_use_of
product_keeps instr program is made =
    let set = (code_use_of operations.ExtendedMultiply).reads in
    let codes = sources_of operations.ExtendedMultiply in
    let plan = extended_multiply_plan instr in
    let steps = steps_behind_all (factors_of instr) no_steps in
    let behind = steps_behind_all (others_of instr) steps in
    let rest = operands_program (others_of instr) steps ++ rest_program codes plan behind in
    keeps operations.ExtendedMultiply instr exits.Next program is (subst (Ends set exits.Next) (sym made)
    (ends_behind set exits.Next (operands_program (factors_of instr) no_steps) (product_program ++ rest) (operands_inner set (factors_of instr) no_steps)
    (ends_behind set exits.Next product_program rest refl
    (ends_all set exits.Next (operands_program (others_of instr) steps) plan.before (write_program plan.target behind) plan.behind (end_program plan.target behind) (codes_program codes)
    (operands_inner set (others_of instr) steps) refl (target_inner set plan.target behind) refl (end_inner set plan.target behind) (codes_inner set codes.nzv codes.c))))) refl (next_keeps instr exits.Next refl refl)
