-- The programs are right for instructions that are spelled.
use Rattle.std.proofs.Common.{◌≡◌, ℕ, List, [], ◌∷◌, Some, sym, ap, ◌∙◌, subst}
use Rattle.std.proofs.lemmas.Option.{same_Some}
use Rattle.vax_form.specs.Grammar.{IsSpelled}
use Rattle.vax_form.specs.Operation.{operation_at}
use Rattle.vax_form.specs.Row.{operands_of}
use Rattle.vax_form.specs.Size.{size_of}
use Rattle.vax_form.specs.declared.instr.Access.TheVariants as accesses
use Rattle.vax_form.specs.declared.instr.Size.{Size}
use Rattle.vax_form.specs.declared.instr.Size.TheVariants.{Byte}
use Rattle.vax_form.specs.declared.instr.Width.{Width}
use Rattle.vax_form.specs.declared.instr.Instr.{Instr}
use Rattle.vax_form.specs.declared.instr.Operand.TheVariants.{Target}
use Rattle.vax_form.specs.declared.operation.Condition.{Condition}
use Rattle.vax_form.specs.declared.operation.Operation.{Operation}
use Rattle.vax_form.specs.declared.operation.Operation.TheVariants as operations
use Rattle.vax_meaning.specs.Branches.{target}
use Rattle.vax_meaning.specs.Evaluation.{operand}
use Rattle.micro_ops.specs.declared.program.Micro.{Micro}
use Rattle.micro_lower.specs.Lowering.{Lowers}
use Rattle.micro_lower.specs.Programs.{plain_program_of, no_operation_program, breakpoint_program, branch_program, branch_if_program, subroutine_program, return_program}
use Rattle.micro_lower.proofs.Spelled.{Given, given, with_operands}
use Rattle.micro_lower.proofs.Plain.{lowers, no_operation_does, no_operation_fits, breakpoint_does, breakpoint_fits, branch_does, branch_fits, branch_if_does, branch_if_fits, subroutine_does, subroutine_fits, return_does, return_fits}

-- an instruction that has no operands
pub bare : (instr : Instr) → Given [] instr → instr ≡ with_operands instr.at instr.opcode instr.count instr.after []
bare instr g = g.is_instr ∙ ap (with_operands instr.at instr.opcode instr.count instr.after) g.are_operands.1

-- the address that its one operand, a displacement, names
pub targeted : (instr : Instr) (size : Size) → Given ((accesses.Branch, size) ∷ []) instr
    → (address : ℕ) × (instr ≡ with_operands instr.at instr.opcode instr.count instr.after (Target address ∷ []))
targeted instr size g =
    let o = g.are_operands in
    (_, g.is_instr ∙ ap (with_operands instr.at instr.opcode instr.count instr.after) (o.5 ∙ ap (λ xs. o.2 ∷ xs) o.7.1 ∙ ap (λ x. x ∷ []) o.6.1))

no_operation_lowers : (instr : Instr) (program : List Micro) → IsSpelled instr → operation_at instr.opcode ≡ Some operations.NoOperation
    → program ≡ no_operation_program → Lowers operations.NoOperation instr program
unfolding operands_of
no_operation_lowers instr program spelled is made =
    rw made (subst (λ i. Lowers operations.NoOperation i no_operation_program) (sym (bare instr (given instr _ spelled is)))
    (lowers _ _ _ (no_operation_does instr.at instr.opcode instr.count instr.after is) no_operation_fits))

breakpoint_lowers : (instr : Instr) (program : List Micro) → IsSpelled instr → operation_at instr.opcode ≡ Some operations.Breakpoint
    → program ≡ breakpoint_program → Lowers operations.Breakpoint instr program
unfolding operands_of
breakpoint_lowers instr program spelled is made =
    rw made (subst (λ i. Lowers operations.Breakpoint i breakpoint_program) (sym (bare instr (given instr _ spelled is)))
    (lowers _ _ _ (breakpoint_does instr.at instr.opcode instr.count instr.after is) breakpoint_fits))

return_lowers : (instr : Instr) (program : List Micro) → IsSpelled instr → operation_at instr.opcode ≡ Some operations.ReturnFromSubroutine
    → program ≡ return_program → Lowers operations.ReturnFromSubroutine instr program
unfolding operands_of
return_lowers instr program spelled is made =
    rw made (subst (λ i. Lowers operations.ReturnFromSubroutine i return_program) (sym (bare instr (given instr _ spelled is)))
    (lowers _ _ _ (return_does instr.at instr.opcode instr.count instr.after is) return_fits))

branch_lowers : (instr : Instr) (width : Width) (program : List Micro) → IsSpelled instr → operation_at instr.opcode ≡ Some (operations.Branch width)
    → program ≡ branch_program (target (operand instr 0)) → Lowers (operations.Branch width) instr program
unfolding operands_of
branch_lowers instr width program spelled is made =
    let t = targeted instr (size_of width) (given instr _ spelled is) in
    rw made (subst (λ i. Lowers (operations.Branch width) i (branch_program (target (operand i 0)))) (sym t.1)
    (lowers _ _ _ (branch_does instr.at instr.opcode instr.count instr.after t.0 width is) (branch_fits width t.0)))

branch_if_lowers : (instr : Instr) (condition : Condition) (program : List Micro) → IsSpelled instr → operation_at instr.opcode ≡ Some (operations.BranchIf condition)
    → program ≡ branch_if_program condition (target (operand instr 0)) instr.after → Lowers (operations.BranchIf condition) instr program
unfolding operands_of
branch_if_lowers instr condition program spelled is made =
    let t = targeted instr Byte (given instr _ spelled is) in
    rw made (subst (λ i. Lowers (operations.BranchIf condition) i (branch_if_program condition (target (operand i 0)) i.after)) (sym t.1)
    (lowers _ _ _ (branch_if_does condition instr.at instr.opcode instr.count instr.after t.0 is) (branch_if_fits condition t.0 instr.after)))

subroutine_lowers : (instr : Instr) (width : Width) (program : List Micro) → IsSpelled instr → operation_at instr.opcode ≡ Some (operations.BranchToSubroutine width)
    → program ≡ subroutine_program (target (operand instr 0)) instr.after → Lowers (operations.BranchToSubroutine width) instr program
unfolding operands_of
subroutine_lowers instr width program spelled is made =
    let g = given instr _ spelled is in
    let t = targeted instr (size_of width) g in
    rw made (subst (λ i. Lowers (operations.BranchToSubroutine width) i (subroutine_program (target (operand i 0)) i.after)) (sym t.1)
    (lowers _ _ _ (subroutine_does instr.at instr.opcode instr.count instr.after t.0 width g.within is) (subroutine_fits width t.0 instr.after)))

pub plain_lower : (operation : Operation) (instr : Instr) (program : List Micro) → IsSpelled instr → operation_at instr.opcode ≡ Some operation
    → plain_program_of operation instr ≡ Some program → Lowers operation instr program
unfolding plain_program_of
plain_lower operations.NoOperation instr program spelled is made = no_operation_lowers instr program spelled is (sym (same_Some _ _ made))
plain_lower operations.Breakpoint instr program spelled is made = breakpoint_lowers instr program spelled is (sym (same_Some _ _ made))
plain_lower (operations.Branch width) instr program spelled is made = branch_lowers instr width program spelled is (sym (same_Some _ _ made))
plain_lower (operations.BranchIf condition) instr program spelled is made = branch_if_lowers instr condition program spelled is (sym (same_Some _ _ made))
plain_lower (operations.BranchToSubroutine width) instr program spelled is made = subroutine_lowers instr width program spelled is (sym (same_Some _ _ made))
plain_lower operations.ReturnFromSubroutine instr program spelled is made = return_lowers instr program spelled is (sym (same_Some _ _ made))
plain_lower _ instr program spelled is made = cc
