-- ADAWI's program lowers it, whether its operand is a register or in memory.
use Rattle.std.proofs.Common.{◌≡◌, ℕ, true, List, Option, [], ◌∷◌, Some, refl, sym, ap, ◌∙◌, subst, lit≤}
use Rattle.vax_form.specs.Grammar.{IsSpelled}
use Rattle.vax_form.specs.Operation.{operation_at}
use Rattle.vax_form.specs.Row.{operands_of}
use Rattle.vax_form.specs.declared.instr.Base.{Base}
use Rattle.vax_form.specs.declared.instr.Instr.{Instr}
use Rattle.vax_form.specs.declared.instr.Operand.{Operand}
use Rattle.vax_form.specs.declared.instr.Operand.TheVariants as operands
use Rattle.vax_form.specs.declared.instr.Size.TheVariants.{Word}
use Rattle.vax_form.specs.declared.operation.Operation.TheVariants as operations
use Rattle.vax_meaning.specs.Evaluation.{operand, evaluated_row}
use Rattle.micro_ops.specs.Fits.{step}
use Rattle.micro_ops.specs.Sources.{sources_of}
use Rattle.micro_ops.specs.declared.program.Micro.{Micro}
use Rattle.operand_programs.specs.Registers.{NamesRegisters}
use Rattle.micro_lower.specs.Lowering.{Lowers, AreLongOperands}
use Rattle.micro_lower.specs.Plans.{program_of}
use Rattle.micro_lower.specs.Rows.{read, written, modified, add_aligned_plan_for, add_aligned_plan}
use Rattle.micro_lower.specs.declared.plans.Slot.{Slot}
use Rattle.micro_lower.proofs.AlignedRows.{memory_all, register_does}
use Rattle.micro_lower.proofs.Fit.{plan_fits, program_fits, located}
use Rattle.micro_lower.proofs.Lowered.{slots_of, lowers_by_plan, second}
use Rattle.micro_lower.proofs.Plain.{lowers}
use Rattle.micro_lower.proofs.Slots.{AreSlots, FitSlots, are_slots}

abbrev modified_slots : List Slot
modified_slots = read Word 1 2 ∷ modified Word 0 ∷ []

abbrev written_slots : List Slot
written_slots = read Word 1 2 ∷ written Word ∷ []

-- what can be modified can be written
refit : (list : List Operand) → FitSlots modified_slots list → FitSlots written_slots list
refit [] fit = absurd fit
refit (x ∷ []) fit = absurd fit.1
refit (x ∷ y ∷ []) fit = (fit.0, (fit.1.0, tt))
refit (x ∷ y ∷ z ∷ more) fit = absurd fit.1.1

memory_fits : (base : Base) (index : Option ℕ) (instr : Instr) → operand instr 1 ≡ operands.Place base index → plan_fits (sources_of operations.AddAlignedWord) (add_aligned_plan_for (operands.Place base index) instr) instr ≡ true
unfolding sources_of step
memory_fits base index instr is = rw is refl

register_fits : (n : ℕ) (instr : Instr) → operand instr 1 ≡ operands.Register n → plan_fits (sources_of operations.AddAlignedWord) (add_aligned_plan_for (operands.Register n) instr) instr ≡ true
unfolding sources_of step
register_fits n instr is = rw is refl

pub add_aligned_lowers : (instr : Instr) (program : List Micro) → IsSpelled instr → AreLongOperands instr → operation_at instr.opcode ≡ Some operations.AddAlignedWord
    → program ≡ program_of (sources_of operations.AddAlignedWord) (add_aligned_plan instr) instr → Lowers operations.AddAlignedWord instr program
unfolding operands_of evaluated_row sources_of
add_aligned_lowers instr program spelled long is made =
    let codes = sources_of operations.AddAlignedWord in
    let other = add_aligned_plan_for (operands.Register 0) instr in
    let slots : AreSlots modified_slots instr = slots_of operations.AddAlignedWord instr other (program_of codes other instr) spelled long is refl refl refl (lit≤ tt) in
    let written : AreSlots written_slots instr = are_slots written_slots instr slots.operands (refit slots.operands slots.fit) refl (lit≤ tt) slots.is_instr in
    let fit = second _ _ _ instr slots in
    located (operand instr 1) (Lowers operations.AddAlignedWord instr program) fit.0.0
    (λ base index in_memory.
    let plan = add_aligned_plan_for (operands.Place base index) instr in
    let here : program ≡ program_of codes plan instr = made ∙ ap (λ (o : Operand). program_of codes (add_aligned_plan_for o instr) instr) in_memory in
    lowers_by_plan operations.AddAlignedWord instr plan program spelled long is here written refl (lit≤ tt) (memory_all instr base index in_memory) tt (memory_fits base index instr in_memory))
    (λ n in_register.
    let plan = add_aligned_plan_for (operands.Register n) instr in
    let here : program ≡ program_of codes plan instr = made ∙ ap (λ (o : Operand). program_of codes (add_aligned_plan_for o instr) instr) in_register in
    let named : NamesRegisters (operands.Register n) Word = subst (λ (o : Operand). NamesRegisters o Word) in_register fit.1 in
    subst (λ (p : List Micro). Lowers operations.AddAlignedWord instr p) (sym here)
    (lowers operations.AddAlignedWord instr (program_of codes plan instr) (register_does instr n is in_register slots.placed.0 written.of_instruction)
    (program_fits codes plan instr slots.registers named (register_fits n instr in_register))))
