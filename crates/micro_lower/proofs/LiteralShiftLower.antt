-- The program of ASHL by a literal count lowers it, and keeps to it.
use Rattle.std.proofs.Common.{◌≡◌, ℕ, ◌%◌, Bool, true, false, List, [], ◌∷◌, ◌++◌, Some, refl, sym, subst, lit≤}
use Rattle.std.specs.Prelude.{nat_lt}
use Rattle.vax_form.specs.Grammar.{IsSpelled}
use Rattle.vax_form.specs.Operation.{operation_at}
use Rattle.vax_form.specs.Row.{operands_of}
use Rattle.vax_form.specs.declared.instr.Instr.{Instr}
use Rattle.vax_form.specs.declared.instr.Operand.TheVariants as operands
use Rattle.vax_form.specs.declared.instr.Size.TheVariants.{Byte, Long}
use Rattle.vax_form.specs.declared.operation.Operation.TheVariants as operations
use Rattle.vax_form.specs.declared.state.Flags.{Flags}
use Rattle.vax_meaning.specs.Evaluation.{operand, evaluated_row}
use Rattle.cc_liveness.specs.Uses.{code_use_of}
use Rattle.micro_ops.specs.Fits.{step, fits}
use Rattle.micro_ops.specs.Sources.{sources_of}
use Rattle.micro_ops.specs.declared.program.Exit.TheVariants as exits
use Rattle.micro_ops.specs.declared.program.Micro.{Micro}
use Rattle.micro_ops.specs.declared.program.Micro.TheVariants.{Leave}
use Rattle.operand_programs.specs.InOrder.{operands_program, steps_behind_all, no_steps}
use Rattle.operand_programs.specs.Operands.{IsLocated}
use Rattle.operand_programs.specs.Rows.{Piece, Evaluates, Operates, Stores, Finishes, row_fits}
use Rattle.operand_programs.proofs.RowWalks.{row_law}
use Rattle.micro_lower.specs.Lowering.{Lowers, KeepsTo, AreLongOperands}
use Rattle.micro_lower.specs.Plans.{specifiers_from, write_program, end_program, codes_program}
use Rattle.micro_lower.specs.Rows.{read, later_slots, shifted_by, overflow_of_shift_by, literal_shift_plan, literal_shift_program}
use Rattle.micro_lower.specs.declared.plans.Slot.{Slot}
use Rattle.micro_lower.proofs.Fit.{located}
use Rattle.micro_lower.proofs.Inner.{IsInner, operands_inner, target_inner, end_inner, codes_inner}
use Rattle.micro_lower.proofs.Keeping.{Ends, keeps, ends_all, next_keeps}
use Rattle.micro_lower.proofs.LiteralShifts.{shift_does}
use Rattle.micro_lower.proofs.Lowered.{AreFitting, fitting, third}
use Rattle.micro_lower.proofs.Plain.{lowers}
use Rattle.micro_lower.proofs.Slots.{AreSlots, are_slots}

-- all operands, with the count
abbrev all_slots : List Slot
all_slots = read Byte 0 1 ∷ later_slots

-- ---- what fits
pieces_of : (left : Bool) (count : ℕ) → Instr → List Piece
pieces_of left count instr =
    Evaluates (specifiers_from 1 later_slots instr) ∷ Operates (shifted_by left count) ∷ Stores (operand instr 2) Long 3 2 ∷ Operates (overflow_of_shift_by left count) ∷ Finishes (operand instr 2) Long 2 ∷ []

shift_row_fits : (left : Bool) (count : ℕ) (instr : Instr) → IsLocated (operand instr 2)
    → row_fits (sources_of operations.ArithmeticShift) (pieces_of left count instr) (codes_program (sources_of operations.ArithmeticShift) ++ Leave exits.Next ∷ []) ≡ true
unfolding sources_of step pieces_of
shift_row_fits true count instr is = located (operand instr 2) _ is (λ base index e. rw e refl) (λ n e. rw e refl)
shift_row_fits false count instr is = located (operand instr 2) _ is (λ base index e. rw e refl) (λ n e. rw e refl)

shift_fits : (left : Bool) (count : ℕ) (instr : Instr) → AreSlots all_slots instr → fits (sources_of operations.ArithmeticShift) (literal_shift_program left count instr) ≡ true
unfolding pieces_of
shift_fits left count instr slots =
    let fit = third _ _ _ _ instr slots in
    row_law (sources_of operations.ArithmeticShift) (pieces_of left count instr) (codes_program (sources_of operations.ArithmeticShift) ++ Leave exits.Next ∷ [])
    (slots.registers.1, (tt, (tt, (tt, (fit.1, tt))))) (shift_row_fits left count instr fit.0.0)

pub literal_shift_lowers : (instr : Instr) (program : List Micro) (literal : ℕ) → operand instr 0 ≡ operands.Value literal → IsSpelled instr → AreLongOperands instr
    → operation_at instr.opcode ≡ Some operations.ArithmeticShift → program ≡ literal_shift_program (nat_lt (literal % 256) 128) (literal % 256) instr → Lowers operations.ArithmeticShift instr program
unfolding operands_of evaluated_row sources_of
literal_shift_lowers instr program literal here spelled long is made =
    let left = nat_lt (literal % 256) 128 in
    let f : AreFitting all_slots instr = fitting operations.ArithmeticShift instr all_slots spelled long is refl (lit≤ tt) in
    let slots : AreSlots all_slots instr = are_slots all_slots instr f.operands f.fit refl (lit≤ tt) f.is_instr in
    let fit = third _ _ _ _ instr slots in
    subst (λ (p : List Micro). Lowers operations.ArithmeticShift instr p) (sym made)
    (lowers operations.ArithmeticShift instr (literal_shift_program left (literal % 256) instr)
    (shift_does instr literal here left refl is slots.of_instruction slots.placed.2 fit.0.1)
    (shift_fits left (literal % 256) instr slots))

-- ---- what it keeps to
before_inner : (set : Flags) (left : Bool) (count : ℕ) → IsInner set (shifted_by left count)
before_inner set true count = refl
before_inner set false count = refl

behind_inner : (set : Flags) (left : Bool) (count : ℕ) → IsInner set (overflow_of_shift_by left count)
behind_inner set true count = refl
behind_inner set false count = refl

pub literal_shift_keeps : (instr : Instr) (program : List Micro) (left : Bool) (count : ℕ) → operation_at instr.opcode ≡ Some operations.ArithmeticShift
    → program ≡ literal_shift_program left count instr → KeepsTo instr program
unfolding code_use_of
literal_shift_keeps instr program left count is made =
    let set = (code_use_of operations.ArithmeticShift).reads in
    let codes = sources_of operations.ArithmeticShift in
    let plan = literal_shift_plan left count instr in
    let later = specifiers_from 1 later_slots instr in
    let steps = steps_behind_all later no_steps in
    keeps operations.ArithmeticShift instr exits.Next program is (subst (Ends set exits.Next) (sym made)
    (ends_all set exits.Next (operands_program later no_steps) plan.before (write_program plan.target steps) plan.behind (end_program plan.target steps) (codes_program codes)
    (operands_inner set later no_steps) (before_inner set left count) (target_inner set plan.target steps) (behind_inner set left count) (end_inner set plan.target steps) (codes_inner set codes.nzv codes.c)))
    refl (next_keeps instr exits.Next refl refl)
