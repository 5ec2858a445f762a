-- An instruction that has a program is translated, and lowered by it.
use Rattle.std.proofs.Common.{◌≡◌, true, List, Some, None, Option, refl, sym, ◌∙◌, subst}
use Rattle.std.proofs.lemmas.Option.{same_Some}
use Rattle.std.specs.Prelude.{◌↔◌}
use Rattle.std.specs.Option.{option_or}
use Rattle.vax_form.specs.Grammar.{IsSpelled}
use Rattle.vax_form.specs.Operation.{operation_at}
use Rattle.vax_form.specs.Row.{class_at, class_of_operation, is_translated}
use Rattle.vax_form.specs.declared.instr.Instr.{Instr}
use Rattle.vax_form.specs.declared.operation.BinaryOperation.TheVariants as binary
use Rattle.vax_form.specs.declared.operation.Operation.{Operation}
use Rattle.vax_form.specs.declared.operation.Operation.TheVariants as operations
use Rattle.vax_form.specs.declared.row.Class.{Class}
use Rattle.vax_form.specs.declared.row.Class.TheVariants.{Translated, Tie, Reserved}
use Rattle.vax_meaning.specs.Evaluation.{operand}
use Rattle.micro_ops.specs.Sources.{sources_of}
use Rattle.micro_ops.specs.declared.program.Micro.{Micro}
use Rattle.micro_lower.specs.Lowering.{Lowers, KeepsTo, IsLowered, AreLongOperands, ProgramsAreTranslated}
use Rattle.micro_lower.specs.Plans.{program_of}
use Rattle.micro_lower.specs.Programs.{plain_program_of}
use Rattle.micro_lower.specs.Rows.{move_row, arithmetic_row, control_row, own_program_of, program_of_operation, has_program, program_for, arithmetic_shift_plan, literal_shift_by}
use Rattle.micro_lower.proofs.ByRow.{rows_lower}
use Rattle.micro_lower.proofs.Covered.{plain_lower}
use Rattle.micro_lower.proofs.KeptRows.{plain_keep, rows_keep}

-- it comes from the one, or from the other
from_either : (plain row : Option (List Micro)) (program : List Micro) (X : Type 0) → option_or plain row ≡ Some program → (plain ≡ Some program → X) → (row ≡ Some program → X) → X
from_either None row program X is by_plain by_row = by_row is
from_either (Some made) row program X is by_plain by_row = by_plain is

pub is_lowered_by : (instr : Instr) (operation : Operation) (program : List Micro) → IsSpelled instr → AreLongOperands instr → operation_at instr.opcode ≡ Some operation
    → program_of_operation operation instr ≡ Some program → IsLowered instr program
is_lowered_by instr operation program spelled long is made = record {
  lowers = λ other at. subst (λ o. Lowers o instr program) (same_Some operation other (sym is ∙ at))
      (from_either _ _ program (Lowers operation instr program) made (plain_lower operation instr program spelled is) (rows_lower operation instr program spelled long is));
  keeps = from_either _ _ program (KeepsTo instr program) made (plain_keep operation instr program spelled long is) (rows_keep operation instr program spelled long is);
}

-- ---- what has a program
one_of_both : (first : Option (List Micro)) (second : List Micro) → option_or first (Some second) ≡ None → ⊥
one_of_both None second none = absurd (cc none)
one_of_both (Some first) second none = absurd (cc none)

lowered_has : (operation : Operation) (instr : Instr) → is_translated (class_of_operation operation) ≡ true → program_of_operation operation instr ≡ None → ⊥
unfolding class_of_operation plain_program_of own_program_of move_row arithmetic_row control_row
lowered_has (operations.TwoOperands binary.Add width) instr has none = cc
lowered_has (operations.TwoOperands binary.Subtract width) instr has none = cc
lowered_has (operations.TwoOperands binary.Multiply width) instr has none = cc
lowered_has (operations.TwoOperands binary.Divide width) instr has none = cc
lowered_has (operations.TwoOperands binary.BitSet width) instr has none = cc
lowered_has (operations.TwoOperands binary.BitClear width) instr has none = cc
lowered_has (operations.TwoOperands binary.ExclusiveOr width) instr has none = cc
lowered_has (operations.ThreeOperands binary.Add width) instr has none = cc
lowered_has (operations.ThreeOperands binary.Subtract width) instr has none = cc
lowered_has (operations.ThreeOperands binary.Multiply width) instr has none = cc
lowered_has (operations.ThreeOperands binary.Divide width) instr has none = cc
lowered_has (operations.ThreeOperands binary.BitSet width) instr has none = cc
lowered_has (operations.ThreeOperands binary.BitClear width) instr has none = cc
lowered_has (operations.ThreeOperands binary.ExclusiveOr width) instr has none = cc
lowered_has operations.ArithmeticShift instr has none =
    one_of_both (literal_shift_by (operand instr 0) instr) (program_of (sources_of operations.ArithmeticShift) (arithmetic_shift_plan instr) instr) none
lowered_has _ instr has none = cc

pub program_is : (instr : Instr) (operation : Operation) (program : List Micro) → operation_at instr.opcode ≡ Some operation → program_of_operation operation instr ≡ Some program → program_for instr ≡ Some program
unfolding program_for
program_is instr operation program is made = rw is made

pub has_it : (instr : Instr) (operation : Operation) → operation_at instr.opcode ≡ Some operation → has_program instr ≡ true → program_of_operation operation instr ≡ None → ⊥
unfolding has_program
has_it instr operation is has none = lowered_has operation instr (rw is at has) none

is_class : (class : Class) → (is_translated class ≡ true) ↔ (class ≡ Translated)
is_class Translated = (λ is. refl, λ is. refl)
is_class Tie = (λ is. cc, λ is. cc)
is_class Reserved = (λ is. cc, λ is. cc)

pub programs_are_translated : ProgramsAreTranslated
unfolding has_program
programs_are_translated instr = is_class (class_at instr.opcode)
