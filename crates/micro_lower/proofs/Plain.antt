-- The programs of operations that evaluate no operand specifier.
use Rattle.std.proofs.Common.{◌≡◌, ℕ, ◌+◌, ◌/◌, ◌%◌, ◌^◌, ◌<◌, true, List, [], ◌∷◌, Some, ◌⊎◌, refl, arith, inl, inr, lit<}
use Rattle.vax_form.specs.Operation.{operation_at}
use Rattle.vax_form.specs.Row.{operands_of}
use Rattle.vax_form.specs.State.{IsState}
use Rattle.vax_form.specs.declared.instr.Instr.{Instr}
use Rattle.vax_form.specs.declared.instr.Operand.TheVariants.{Target}
use Rattle.vax_form.specs.declared.operation.Operation.{Operation}
use Rattle.vax_form.specs.declared.operation.Operation.TheVariants as operations
use Rattle.vax_form.specs.declared.pages.Pages.{Pages}
use Rattle.vax_form.specs.declared.state.VaxState.{VaxState}
use Rattle.vax_meaning.specs.Evaluation.{evaluated_row, operands_from, find, obtain, read_found}
use Rattle.vax_meaning.specs.Operands.{locate}
use Rattle.vax_meaning.specs.Instructions.{tree_for, operation_script, body}
use Rattle.micro_ops.specs.Fits.{fits, step}
use Rattle.micro_ops.specs.Meaning.{Left, departed, denote}
use Rattle.micro_ops.specs.Values.{value_from}
use Rattle.micro_ops.specs.declared.codes.CodeSources.{CodeSources}
use Rattle.micro_ops.specs.declared.program.Micro.{Micro}
use Rattle.micro_ops.specs.Sources.{sources_of}
use Rattle.micro_lower.specs.Lowering.{Lowers}
use Rattle.operand_programs.specs.Pieces.{service}
use Rattle.micro_ops.specs.Leaving.{CodesComeFrom}
use Rattle.micro_lower.specs.Programs.{no_operation_program, breakpoint_program, branch_program, branch_if_program, subroutine_program, return_program}
use Rattle.micro_lower.proofs.Spelled.{with_operands}
use Rattle.operand_programs.proofs.Agrees.{Agrees, agreed, held}
use Rattle.operand_programs.proofs.Accesses.{reads_agree, writes_agree, register_below}
use Rattle.std.proofs.Math.Nat.{mod-eq_of_lt}
use Rattle.std.proofs.lemmas.Bool.{cases_lt}
use Rattle.std.proofs.lemmas.Nat.{mod_below}
use Rattle.vax_form.specs.State.{register}
use Rattle.vax_form.specs.declared.instr.Width.{Width}
use Rattle.vax_form.specs.declared.operation.Condition.{Condition}
use Rattle.vax_form.specs.declared.operation.Condition.TheVariants.{NotEqual, Equal, Greater, LessOrEqual, GreaterOrEqual, Less, GreaterUnsigned, LessOrEqualUnsigned, OverflowClear, OverflowSet, CarryClear, CarrySet}
use Rattle.vax_meaning.specs.Branches.{branch_if, holds, return_from_subroutine}
use Rattle.vax_meaning.specs.Moves.{push}

-- both halves at once
abbrev pub Does : CodeSources → Instr → List Micro → Type 0
Does sources instr program = (state : VaxState) (pages : Pages) (thread : ℕ) → IsState state
    → Agrees (CodesComeFrom sources state) (λ (left : Left). departed (service pages thread) left.departure) (denote program state instr.after) (tree_for state instr pages thread)

no_pages : Pages
no_pages = record { ranges = []; code = [] }

pub lowers : (operation : Operation) (instr : Instr) (program : List Micro) → Does (sources_of operation) instr program → fits (sources_of operation) program ≡ true → Lowers operation instr program
lowers operation instr program does fit = record {
  means = λ state pages thread is. agreed (CodesComeFrom (sources_of operation) state) _ _ _ (does state pages thread is);
  holds = λ state is. held (CodesComeFrom (sources_of operation) state) _ _ _ (does state no_pages 0 is);
  fits = fit;
}

pub no_operation_does : (at opcode count after : ℕ) → operation_at opcode ≡ Some operations.NoOperation
    → Does (sources_of operations.NoOperation) (with_operands at opcode count after []) no_operation_program
unfolding operation_script operands_from evaluated_row operands_of find obtain read_found locate body sources_of value_from
no_operation_does at opcode count after is state pages thread ok = rw is (record { signs = (refl, refl, refl); carry = refl }, refl)

pub no_operation_fits : fits (sources_of operations.NoOperation) no_operation_program ≡ true
unfolding sources_of step
no_operation_fits = refl

pub breakpoint_does : (at opcode count after : ℕ) → operation_at opcode ≡ Some operations.Breakpoint
    → Does (sources_of operations.Breakpoint) (with_operands at opcode count after []) breakpoint_program
unfolding operation_script operands_from evaluated_row operands_of find obtain read_found locate body sources_of value_from
breakpoint_does at opcode count after is state pages thread ok = rw is refl

pub breakpoint_fits : fits (sources_of operations.Breakpoint) breakpoint_program ≡ true
unfolding sources_of step
breakpoint_fits = refl

pub branch_does : (at opcode count after target : ℕ) (width : Width) → operation_at opcode ≡ Some (operations.Branch width)
    → Does (sources_of (operations.Branch width)) (with_operands at opcode count after (Target target ∷ [])) (branch_program target)
unfolding operation_script operands_from evaluated_row operands_of find obtain read_found locate body sources_of value_from
branch_does at opcode count after target width is state pages thread ok = rw is (record { signs = (refl, refl, refl); carry = refl }, refl)

pub branch_fits : (width : Width) (target : ℕ) → fits (sources_of (operations.Branch width)) (branch_program target) ≡ true
unfolding sources_of step
branch_fits width target = refl

bit_cases : (x : ℕ) → (x % 2 ≡ 0) ⊎ (x % 2 ≡ 1)
bit_cases x = elim (cases_lt (x % 2) 1) [ inl below ↦ inl (omega arith) | inr above ↦ inr (omega arith) ]

-- C is bit 0
whole : (x : ℕ) → x / 1 ≡ x
whole x = omega arith

-- the program leaves as the branch does
abbrev pub LeavesAs : Condition → Type 0
LeavesAs condition = (at opcode count after target : ℕ) → operation_at opcode ≡ Some (operations.BranchIf condition)
    → Does (sources_of (operations.BranchIf condition)) (with_operands at opcode count after (Target target ∷ [])) (branch_if_program condition target after)

pub branch_if_does : (condition : Condition) → LeavesAs condition
unfolding operation_script operands_from evaluated_row operands_of find obtain read_found locate body sources_of value_from branch_if holds
branch_if_does NotEqual at opcode count after target is state pages thread ok =
    rw is (elim (bit_cases (state.psw / 4)) [ inl z ↦ rw z (record { signs = (refl, refl, refl); carry = refl }, refl) | inr z ↦ rw z (record { signs = (refl, refl, refl); carry = refl }, refl) ])
branch_if_does Equal at opcode count after target is state pages thread ok =
    rw is (elim (bit_cases (state.psw / 4)) [ inl z ↦ rw z (record { signs = (refl, refl, refl); carry = refl }, refl) | inr z ↦ rw z (record { signs = (refl, refl, refl); carry = refl }, refl) ])
branch_if_does Greater at opcode count after target is state pages thread ok =
    rw is (elim (bit_cases (state.psw / 8)) [
      | inl n ↦ elim (bit_cases (state.psw / 4)) [ inl z ↦ rw (n, z) (record { signs = (refl, refl, refl); carry = refl }, refl) | inr z ↦ rw (n, z) (record { signs = (refl, refl, refl); carry = refl }, refl) ]
      | inr n ↦ elim (bit_cases (state.psw / 4)) [ inl z ↦ rw (n, z) (record { signs = (refl, refl, refl); carry = refl }, refl) | inr z ↦ rw (n, z) (record { signs = (refl, refl, refl); carry = refl }, refl) ]
    ])
branch_if_does LessOrEqual at opcode count after target is state pages thread ok =
    rw is (elim (bit_cases (state.psw / 8)) [
      | inl n ↦ elim (bit_cases (state.psw / 4)) [ inl z ↦ rw (n, z) (record { signs = (refl, refl, refl); carry = refl }, refl) | inr z ↦ rw (n, z) (record { signs = (refl, refl, refl); carry = refl }, refl) ]
      | inr n ↦ elim (bit_cases (state.psw / 4)) [ inl z ↦ rw (n, z) (record { signs = (refl, refl, refl); carry = refl }, refl) | inr z ↦ rw (n, z) (record { signs = (refl, refl, refl); carry = refl }, refl) ]
    ])
branch_if_does GreaterOrEqual at opcode count after target is state pages thread ok =
    rw is (elim (bit_cases (state.psw / 8)) [ inl n ↦ rw n (record { signs = (refl, refl, refl); carry = refl }, refl) | inr n ↦ rw n (record { signs = (refl, refl, refl); carry = refl }, refl) ])
branch_if_does Less at opcode count after target is state pages thread ok =
    rw is (elim (bit_cases (state.psw / 8)) [ inl n ↦ rw n (record { signs = (refl, refl, refl); carry = refl }, refl) | inr n ↦ rw n (record { signs = (refl, refl, refl); carry = refl }, refl) ])
branch_if_does GreaterUnsigned at opcode count after target is state pages thread ok =
    rw (is, whole state.psw) (elim (bit_cases state.psw) [
      | inl c ↦ elim (bit_cases (state.psw / 4)) [ inl z ↦ rw (c, z) (record { signs = (refl, refl, refl); carry = refl }, refl) | inr z ↦ rw (c, z) (record { signs = (refl, refl, refl); carry = refl }, refl) ]
      | inr c ↦ elim (bit_cases (state.psw / 4)) [ inl z ↦ rw (c, z) (record { signs = (refl, refl, refl); carry = refl }, refl) | inr z ↦ rw (c, z) (record { signs = (refl, refl, refl); carry = refl }, refl) ]
    ])
branch_if_does LessOrEqualUnsigned at opcode count after target is state pages thread ok =
    rw (is, whole state.psw) (elim (bit_cases state.psw) [
      | inl c ↦ elim (bit_cases (state.psw / 4)) [ inl z ↦ rw (c, z) (record { signs = (refl, refl, refl); carry = refl }, refl) | inr z ↦ rw (c, z) (record { signs = (refl, refl, refl); carry = refl }, refl) ]
      | inr c ↦ elim (bit_cases (state.psw / 4)) [ inl z ↦ rw (c, z) (record { signs = (refl, refl, refl); carry = refl }, refl) | inr z ↦ rw (c, z) (record { signs = (refl, refl, refl); carry = refl }, refl) ]
    ])
branch_if_does OverflowClear at opcode count after target is state pages thread ok =
    rw is (elim (bit_cases (state.psw / 2)) [ inl v ↦ rw v (record { signs = (refl, refl, refl); carry = refl }, refl) | inr v ↦ rw v (record { signs = (refl, refl, refl); carry = refl }, refl) ])
branch_if_does OverflowSet at opcode count after target is state pages thread ok =
    rw is (elim (bit_cases (state.psw / 2)) [ inl v ↦ rw v (record { signs = (refl, refl, refl); carry = refl }, refl) | inr v ↦ rw v (record { signs = (refl, refl, refl); carry = refl }, refl) ])
branch_if_does CarryClear at opcode count after target is state pages thread ok =
    rw (is, whole state.psw) (elim (bit_cases state.psw) [ inl c ↦ rw c (record { signs = (refl, refl, refl); carry = refl }, refl) | inr c ↦ rw c (record { signs = (refl, refl, refl); carry = refl }, refl) ])
branch_if_does CarrySet at opcode count after target is state pages thread ok =
    rw (is, whole state.psw) (elim (bit_cases state.psw) [ inl c ↦ rw c (record { signs = (refl, refl, refl); carry = refl }, refl) | inr c ↦ rw c (record { signs = (refl, refl, refl); carry = refl }, refl) ])

pub branch_if_fits : (condition : Condition) (target after : ℕ) → fits (sources_of (operations.BranchIf condition)) (branch_if_program condition target after) ≡ true
unfolding sources_of step
branch_if_fits NotEqual target after = refl
branch_if_fits Equal target after = refl
branch_if_fits Greater target after = refl
branch_if_fits LessOrEqual target after = refl
branch_if_fits GreaterOrEqual target after = refl
branch_if_fits Less target after = refl
branch_if_fits GreaterUnsigned target after = refl
branch_if_fits LessOrEqualUnsigned target after = refl
branch_if_fits OverflowClear target after = refl
branch_if_fits OverflowSet target after = refl
branch_if_fits CarryClear target after = refl
branch_if_fits CarrySet target after = refl

pub subroutine_does : (at opcode count after target : ℕ) (width : Width) → after < 2 ^ 32 → operation_at opcode ≡ Some (operations.BranchToSubroutine width)
    → Does (sources_of (operations.BranchToSubroutine width)) (with_operands at opcode count after (Target target ∷ [])) (subroutine_program target after)
unfolding operation_script operands_from evaluated_row operands_of find obtain read_found locate body sources_of value_from push
subroutine_does at opcode count after target width within is state pages thread ok =
    let low : register 14 state % 2 ^ 32 ≡ register 14 state = mod-eq_of_lt (register_below state ok 14) in
    let same : after % 2 ^ 32 ≡ after = mod-eq_of_lt within in
    let wrap : (register 14 state + 4294967292) % 2 ^ 32 % 2 ^ 32 ≡ (register 14 state + 4294967292) % 2 ^ 32 = mod-eq_of_lt (mod_below _ (2 ^ 32) (lit< tt)) in
    rw (is, low, same) (refl, refl, refl, writes_agree (CodesComeFrom (sources_of (operations.BranchToSubroutine width)) state) _ pages _ 4 after state _ _ (lit< tt) (record { signs = (refl, refl, refl); carry = refl }, rw wrap refl))

pub subroutine_fits : (width : Width) (target after : ℕ) → fits (sources_of (operations.BranchToSubroutine width)) (subroutine_program target after) ≡ true
unfolding sources_of step
subroutine_fits width target after = refl

pub return_does : (at opcode count after : ℕ) → operation_at opcode ≡ Some operations.ReturnFromSubroutine
    → Does (sources_of operations.ReturnFromSubroutine) (with_operands at opcode count after []) return_program
unfolding operation_script operands_from evaluated_row operands_of find obtain read_found locate body sources_of value_from return_from_subroutine
return_does at opcode count after is state pages thread ok =
    let low : register 14 state % 2 ^ 32 ≡ register 14 state = mod-eq_of_lt (register_below state ok 14) in
    let wrap : (register 14 state + 4) % 2 ^ 32 % 2 ^ 32 ≡ (register 14 state + 4) % 2 ^ 32 = mod-eq_of_lt (mod_below _ (2 ^ 32) (lit< tt)) in
    rw (is, low) (refl, refl, refl, reads_agree (CodesComeFrom (sources_of operations.ReturnFromSubroutine) state) _ pages _ 4 state _ _ (lit< tt) (λ value below. (record { signs = (refl, refl, refl); carry = refl }, rw wrap refl)))

pub return_fits : fits (sources_of operations.ReturnFromSubroutine) return_program ≡ true
unfolding sources_of step
return_fits = refl
