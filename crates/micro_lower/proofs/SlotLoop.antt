-- One operand more is put in its slot.
use Rattle.std.proofs.Common.{◌≡◌, ◌∙◌, ℕ, ◌+◌, ◌<◌, ◌≤◌, List, ◌++◌, drop, get_or, length, sym}
use Rattle.std.proofs.lemmas.List.{at_drop_more, at_drop_all, append_assoc, append-nil}
use Rattle.vax_form.specs.declared.instr.Instr.{Instr}
use Rattle.micro_ops.specs.declared.program.Micro.{Micro}
use Rattle.operand_programs.specs.InOrder.{operands_program, steps_behind_all}
use Rattle.operand_programs.specs.Operands.{operand_program, steps_behind_specifier}
use Rattle.micro_lower.specs.Plans.{specifier_at, specifiers_from}
use Rattle.micro_lower.specs.declared.plans.Slot.{Slot}

module _ (slots : List Slot) (i : ℕ) (default : Slot) (instr : Instr) (steps before : List ℕ) (below : i < length slots)
    (behind : steps ≡ steps_behind_specifier (specifier_at i (get_or slots i default) instr) before) where
  pub program_more : (items old all : List Micro) → items ≡ old ++ operand_program (specifier_at i (get_or slots i default) instr) before
      → old ++ operands_program (specifiers_from i (drop i slots) instr) before ≡ all
      → items ++ operands_program (specifiers_from (i + 1) (drop (i + 1) slots) instr) steps ≡ all
  program_more items old all put is =
      rw (put, behind) (append_assoc old _ _ ∙ sym (at_drop_more (λ (rest : List Slot). old ++ operands_program (specifiers_from i rest instr) before) slots i default below) ∙ is)

  pub steps_more : (all : List ℕ) → steps_behind_all (specifiers_from i (drop i slots) instr) before ≡ all
      → steps_behind_all (specifiers_from (i + 1) (drop (i + 1) slots) instr) steps ≡ all
  steps_more all is = rw behind (sym (at_drop_more (λ (rest : List Slot). steps_behind_all (specifiers_from i rest instr) before) slots i default below) ∙ is)

module _ (slots : List Slot) (i : ℕ) (instr : Instr) (steps : List ℕ) (end : length slots ≤ i) where
  pub program_all : (items all : List Micro) → items ++ operands_program (specifiers_from i (drop i slots) instr) steps ≡ all → items ≡ all
  program_all items all is =
      sym (append-nil items) ∙ sym (at_drop_all (λ (rest : List Slot). items ++ operands_program (specifiers_from i rest instr) steps) slots i end) ∙ is

  pub steps_all : (all : List ℕ) → steps_behind_all (specifiers_from i (drop i slots) instr) steps ≡ all → steps ≡ all
  steps_all all is = sym (at_drop_all (λ (rest : List Slot). steps_behind_all (specifiers_from i rest instr) steps) slots i end) ∙ is
