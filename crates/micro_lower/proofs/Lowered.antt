-- An instruction that is spelled has the program of its row.
use Rattle.std.proofs.Common.{◌≡◌, ℕ, ◌≤◌, ◌+◌, true, List, [], ◌∷◌, length, Some, refl, sym, ap, subst, suc, arith}
use Rattle.vax_form.specs.Grammar.{IsSpelled, SpecifyAll, padded}
use Rattle.vax_form.specs.Operation.{operation_at}
use Rattle.vax_form.specs.Row.{operands_of, row_with}
use Rattle.vax_form.specs.declared.instr.Access.{Access}
use Rattle.vax_form.specs.declared.instr.Instr.{Instr}
use Rattle.vax_form.specs.declared.instr.Operand.{Operand}
use Rattle.vax_form.specs.declared.instr.Operand.TheVariants.{Unused}
use Rattle.vax_form.specs.declared.instr.Size.{Size}
use Rattle.vax_form.specs.declared.operation.Operation.{Operation}
use Rattle.vax_meaning.specs.Evaluation.{operand, evaluated_row}
use Rattle.micro_ops.specs.Sources.{sources_of}
use Rattle.micro_ops.specs.declared.program.Micro.{Micro}
use Rattle.std.specs.Prelude.{slice_index_or}
use Rattle.operand_programs.specs.InOrder.{AreOperandsOf}
use Rattle.micro_lower.specs.Lowering.{Lowers, AreLongOperands}
use Rattle.micro_lower.specs.Plans.{Plan, specifiers_from, program_of}
use Rattle.micro_lower.specs.declared.plans.Slot.{Slot}
use Rattle.micro_lower.proofs.Fit.{TargetIsNamed, plan_fits, program_fits}
use Rattle.micro_lower.proofs.Plain.{lowers}
use Rattle.micro_lower.proofs.Planned.{AllDo, plan_does}
use Rattle.micro_lower.proofs.Slots.{AreSlots, AreLong, FitSlots, Fits, types_of, fit_slots, are_slots, are_apart}
use Rattle.micro_lower.proofs.Spelled.{Given, given, with_operands}

-- as many operands as types
counted : (types : List (Access × Size)) (at : ℕ) (bytes : List ℕ) (operands : List Operand) → SpecifyAll types at bytes operands → length operands ≡ length types
counted [] at bytes operands are = rw are.1 refl
counted (t ∷ types) at bytes operands are = rw are.5 (ap suc (counted types (at + length are.0) are.1 are.3 are.7))

are_long : (at opcode count after : ℕ) (operands : List Operand) → length operands ≤ 4 → AreLongOperands (with_operands at opcode count after operands) → AreLong operands
are_long at opcode count after [] few long = tt
are_long at opcode count after (a ∷ []) few long = (long.0, tt)
are_long at opcode count after (a ∷ b ∷ []) few long = (long.0, (long.1, tt))
are_long at opcode count after (a ∷ b ∷ c ∷ []) few long = (long.0, (long.1, (long.2, tt)))
are_long at opcode count after (a ∷ b ∷ c ∷ d ∷ []) few long = (long.0, (long.1, (long.2, (long.3, tt))))
are_long at opcode count after (a ∷ b ∷ c ∷ d ∷ e ∷ more) few long = absurd (omega (arith, few))

-- ---- one of the operands
first_of : (a : Slot) (more : List Slot) (operands : List Operand) → FitSlots (a ∷ more) operands → Fits a.access a.size (slice_index_or (padded operands) 0 Unused)
first_of a more [] fit = absurd fit
first_of a more (x ∷ operands) fit = fit.0

second_of : (a b : Slot) (more : List Slot) (operands : List Operand) → FitSlots (a ∷ b ∷ more) operands → Fits b.access b.size (slice_index_or (padded operands) 1 Unused)
second_of a b more [] fit = absurd fit
second_of a b more (x ∷ []) fit = absurd fit.1
second_of a b more (x ∷ y ∷ operands) fit = fit.1.0

third_of : (a b c : Slot) (more : List Slot) (operands : List Operand) → FitSlots (a ∷ b ∷ c ∷ more) operands → Fits c.access c.size (slice_index_or (padded operands) 2 Unused)
third_of a b c more [] fit = absurd fit
third_of a b c more (x ∷ []) fit = absurd fit.1
third_of a b c more (x ∷ y ∷ []) fit = absurd fit.1.1
third_of a b c more (x ∷ y ∷ z ∷ operands) fit = fit.1.1.0

pub first : (a : Slot) (more : List Slot) (instr : Instr) → AreSlots (a ∷ more) instr → Fits a.access a.size (operand instr 0)
first a more instr slots = subst (λ (i : Instr). Fits a.access a.size (operand i 0)) (sym slots.is_instr) (first_of a more slots.operands slots.fit)

pub second : (a b : Slot) (more : List Slot) (instr : Instr) → AreSlots (a ∷ b ∷ more) instr → Fits b.access b.size (operand instr 1)
second a b more instr slots = subst (λ (i : Instr). Fits b.access b.size (operand i 1)) (sym slots.is_instr) (second_of a b more slots.operands slots.fit)

pub third : (a b c : Slot) (more : List Slot) (instr : Instr) → AreSlots (a ∷ b ∷ c ∷ more) instr → Fits c.access c.size (operand instr 2)
third a b c more instr slots = subst (λ (i : Instr). Fits c.access c.size (operand i 2)) (sym slots.is_instr) (third_of a b c more slots.operands slots.fit)

fourth_of : (a b c d : Slot) (more : List Slot) (operands : List Operand) → FitSlots (a ∷ b ∷ c ∷ d ∷ more) operands → Fits d.access d.size (slice_index_or (padded operands) 3 Unused)
fourth_of a b c d more [] fit = absurd fit
fourth_of a b c d more (x ∷ []) fit = absurd fit.1
fourth_of a b c d more (x ∷ y ∷ []) fit = absurd fit.1.1
fourth_of a b c d more (x ∷ y ∷ z ∷ []) fit = absurd fit.1.1.1
fourth_of a b c d more (x ∷ y ∷ z ∷ w ∷ operands) fit = fit.1.1.1.0

pub fourth : (a b c d : Slot) (more : List Slot) (instr : Instr) → AreSlots (a ∷ b ∷ c ∷ d ∷ more) instr → Fits d.access d.size (operand instr 3)
fourth a b c d more instr slots = subst (λ (i : Instr). Fits d.access d.size (operand i 3)) (sym slots.is_instr) (fourth_of a b c d more slots.operands slots.fit)

types_length : (slots : List Slot) → length (types_of slots) ≡ length slots
types_length [] = refl
types_length (slot ∷ slots) = ap suc (types_length slots)

-- the operands fit the slots, whatever the temporaries
pub record AreFitting (slots : List Slot) (instr : Instr) : Type 0 where
  pub operands : List Operand
  pub fit : FitSlots slots operands
  pub is_instr : instr ≡ with_operands instr.at instr.opcode instr.count instr.after operands

pub fitting : (operation : Operation) (instr : Instr) (slots : List Slot) → IsSpelled instr → AreLongOperands instr → operation_at instr.opcode ≡ Some operation → types_of slots ≡ operands_of operation → length slots ≤ 4
    → AreFitting slots instr
fitting operation instr slots spelled long is types few =
    let here : Given (operands_of operation) instr = given instr operation spelled is in
    let specified : SpecifyAll (types_of slots) (instr.at + 1) here.bytes here.operands =
    subst (λ (t : List (Access × Size)). SpecifyAll t (instr.at + 1) here.bytes here.operands) (sym types) here.are_operands in
    let count : length here.operands ≤ 4 = omega (arith, few, counted (types_of slots) (instr.at + 1) here.bytes here.operands specified, types_length slots) in
    let long_here : AreLong here.operands = are_long instr.at instr.opcode instr.count instr.after here.operands count (subst AreLongOperands here.is_instr long) in
    record { operands = here.operands; fit = fit_slots slots (instr.at + 1) here.bytes here.operands specified long_here; is_instr = here.is_instr }

-- ---- the law
module _ (operation : Operation) (instr : Instr) (plan : Plan) (program : List Micro) (spelled : IsSpelled instr) (long : AreLongOperands instr) (is : operation_at instr.opcode ≡ Some operation)
    (made : program ≡ program_of (sources_of operation) plan instr) where
  pub slots_of : types_of plan.slots ≡ operands_of operation → are_apart plan.slots ≡ true → length plan.slots ≤ 4 → AreSlots plan.slots instr
  slots_of types apart few =
      let f = fitting operation instr plan.slots spelled long is types few in
      are_slots plan.slots instr f.operands f.fit apart few f.is_instr

  pub lowers_by_plan : AreSlots plan.slots instr → evaluated_row operation ≡ row_with (types_of plan.slots) → length (specifiers_from 0 plan.slots instr) ≤ 6
      → AllDo operation instr plan → TargetIsNamed plan.target → plan_fits (sources_of operation) plan instr ≡ true → Lowers operation instr program
  lowers_by_plan slots row few does named fits =
      subst (λ (p : List Micro). Lowers operation instr p) (sym made)
      (lowers operation instr (program_of (sources_of operation) plan instr)
      (plan_does operation instr plan is few (subst (λ r. AreOperandsOf (specifiers_from 0 plan.slots instr) r instr) (sym row) slots.of_instruction) slots.placed does)
      (program_fits (sources_of operation) plan instr slots.registers named fits))
