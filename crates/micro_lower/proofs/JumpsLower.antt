-- The programs of JMP and JSB lower their instructions.
use Rattle.std.proofs.Common.{◌≡◌, ℕ, true, false, List, Some, None, ◌⊎◌, inl, inr, refl, sym, subst, lit≤}
use Rattle.vax_form.specs.Grammar.{IsSpelled}
use Rattle.vax_form.specs.Operation.{operation_at}
use Rattle.vax_form.specs.Row.{operands_of}
use Rattle.vax_form.specs.declared.instr.Base.TheVariants.{Fixed}
use Rattle.vax_form.specs.declared.instr.Instr.{Instr}
use Rattle.vax_form.specs.declared.instr.Operand.{Operand}
use Rattle.vax_form.specs.declared.instr.Operand.TheVariants.{Place}
use Rattle.vax_form.specs.declared.operation.Operation.TheVariants as operations
use Rattle.vax_meaning.specs.Evaluation.{operand, evaluated_row}
use Rattle.micro_ops.specs.Fits.{step}
use Rattle.micro_ops.specs.Sources.{sources_of}
use Rattle.micro_ops.specs.declared.program.Micro.{Micro}
use Rattle.micro_lower.specs.Lowering.{Lowers, AreLongOperands}
use Rattle.micro_lower.specs.Plans.{program_of}
use Rattle.micro_lower.specs.Rows.{jump_plan, jump_to_subroutine_plan}
use Rattle.micro_lower.proofs.Fit.{plan_fits, program_fits}
use Rattle.micro_lower.proofs.JumpRows.{IsComputed, jump_all, jump_to_subroutine_all, jump_fixed_does, call_fixed_does}
use Rattle.micro_lower.proofs.Lowered.{slots_of, lowers_by_plan}
use Rattle.micro_lower.proofs.Plain.{lowers}
use Rattle.micro_lower.proofs.Spelled.{given}
use Rattle.operand_programs.specs.Pieces.{IsLongOperand}

-- an address that the code fixes
abbrev IsFixed : Operand → Type 0
IsFixed operand = (address : ℕ) × (operand ≡ Place (Fixed address false) None)

either : (operand : Operand) → IsComputed operand ⊎ IsFixed operand
either (Place (Fixed address false) None) = inr (address, refl)
either _ = inl refl

jump_fits : (instr : Instr) → IsComputed (operand instr 0) ⊎ IsFixed (operand instr 0) → plan_fits (sources_of operations.Jump) (jump_plan instr) instr ≡ true
unfolding sources_of step
jump_fits instr (inl computed) = rw computed refl
jump_fits instr (inr fixed) = rw fixed.1 refl

call_fits : (instr : Instr) → IsComputed (operand instr 0) ⊎ IsFixed (operand instr 0) → plan_fits (sources_of operations.JumpToSubroutine) (jump_to_subroutine_plan instr) instr ≡ true
unfolding sources_of step
call_fits instr (inl computed) = rw computed refl
call_fits instr (inr fixed) = rw fixed.1 refl

pub jump_lowers : (instr : Instr) (program : List Micro) → IsSpelled instr → AreLongOperands instr → operation_at instr.opcode ≡ Some operations.Jump
    → program ≡ program_of (sources_of operations.Jump) (jump_plan instr) instr → Lowers operations.Jump instr program
unfolding operands_of evaluated_row
jump_lowers instr program spelled long is made = elim (either (operand instr 0)) [
  | inl computed ↦ lowers_by_plan operations.Jump instr (jump_plan instr) program spelled long is made (slots_of operations.Jump instr (jump_plan instr) program spelled long is made refl refl (lit≤ tt)) refl (lit≤ tt)
      (jump_all instr computed) tt (jump_fits instr (inl computed))
  | inr fixed ↦ (let slots = slots_of operations.Jump instr (jump_plan instr) program spelled long is made refl refl (lit≤ tt) in
      subst (λ (p : List Micro). Lowers operations.Jump instr p) (sym made)
      (lowers operations.Jump instr _ (jump_fixed_does instr fixed.0 (subst IsLongOperand fixed.1 long.0) is fixed.1 slots.of_instruction)
      (program_fits (sources_of operations.Jump) (jump_plan instr) instr slots.registers tt (jump_fits instr (inr fixed)))))
]

pub call_lowers : (instr : Instr) (program : List Micro) → IsSpelled instr → AreLongOperands instr → operation_at instr.opcode ≡ Some operations.JumpToSubroutine
    → program ≡ program_of (sources_of operations.JumpToSubroutine) (jump_to_subroutine_plan instr) instr → Lowers operations.JumpToSubroutine instr program
unfolding operands_of evaluated_row
call_lowers instr program spelled long is made = elim (either (operand instr 0)) [
  | inl computed ↦ lowers_by_plan operations.JumpToSubroutine instr (jump_to_subroutine_plan instr) program spelled long is made
      (slots_of operations.JumpToSubroutine instr (jump_to_subroutine_plan instr) program spelled long is made refl refl (lit≤ tt)) refl (lit≤ tt)
      (jump_to_subroutine_all instr computed (given instr _ spelled is).within) tt (call_fits instr (inl computed))
  | inr fixed ↦ (let slots = slots_of operations.JumpToSubroutine instr (jump_to_subroutine_plan instr) program spelled long is made refl refl (lit≤ tt) in
      subst (λ (p : List Micro). Lowers operations.JumpToSubroutine instr p) (sym made)
      (lowers operations.JumpToSubroutine instr _ (call_fixed_does instr fixed.0 (subst IsLongOperand fixed.1 long.0) (given instr _ spelled is).within is fixed.1 slots.of_instruction)
      (program_fits (sources_of operations.JumpToSubroutine) (jump_to_subroutine_plan instr) instr slots.registers tt (call_fits instr (inr fixed)))))
]
