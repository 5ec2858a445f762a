-- Branches on the low bit, and jumps.
use Rattle.std.proofs.Common.{◌≡◌, ℕ, ◌%◌, ◌^◌, ◌<◌, ◌==◌, Bool, true, false, List, [], ◌∷◌, ◌++◌, length, refl, sym, ap, ◌∙◌, subst, lit≤, Some, arith, inl, inr}
use Rattle.std.proofs.lemmas.Bool.{cases_lt}
use Rattle.std.proofs.Math.Nat.{mod-eq_of_lt}
use Rattle.vax_form.specs.Operation.{operation_at}
use Rattle.vax_form.specs.Script.{◌>>◌, change}
use Rattle.vax_form.specs.State.{IsState}
use Rattle.vax_form.specs.Tree.{Tree, tree_of, ends_with}
use Rattle.vax_form.specs.declared.instr.Instr.{Instr}
use Rattle.vax_form.specs.declared.instr.Size.{Size}
use Rattle.vax_form.specs.declared.instr.Size.TheVariants.{Byte, Word, Long}
use Rattle.vax_form.specs.declared.operation.Operation.TheVariants as operations
use Rattle.vax_form.specs.declared.pages.Pages.{Pages}
use Rattle.vax_form.specs.declared.state.VaxState.{VaxState}
use Rattle.vax_meaning.specs.Codes.{go_to}
use Rattle.vax_meaning.specs.Evaluation.{evaluated_row, operand}
use Rattle.vax_meaning.specs.Instructions.{body}
use Rattle.micro_ops.specs.Sources.{sources_of, from}
use Rattle.micro_ops.specs.Values.{value_from}
use Rattle.micro_ops.specs.declared.codes.CodeSource.TheVariants.{Kept}
use Rattle.micro_ops.specs.declared.program.Exit.TheVariants.{Next}
use Rattle.micro_lower.specs.Plans.{program_of}
use Rattle.micro_lower.proofs.Coding.{GoesTo}
use Rattle.micro_lower.proofs.Endings.{found_at, with, DoesSo}
use Rattle.micro_lower.proofs.Planned.{AllDo, BodyDoes}
use Rattle.vax_form.specs.declared.instr.Operand.{Operand}
use Rattle.micro_ops.specs.Meaning.{Temps, course_of, started}
use Rattle.micro_ops.specs.Leaving.{CodesComeFrom}
use Rattle.micro_ops.specs.declared.program.Micro.TheVariants.{Leave}
use Rattle.operand_programs.specs.Pieces.{Agrees, leaving}
use Rattle.operand_programs.specs.Specifiers.{stepped}
use Rattle.micro_lower.specs.Plans.{steps_of}
use Rattle.micro_lower.proofs.Plain.{Does}
use Rattle.micro_lower.proofs.Ready.{effect, IsLowExit}
use Rattle.std.proofs.Common.{lit<}
use Rattle.std.specs.Prelude.{bit_xor}
use Rattle.std.proofs.lemmas.Nat.{and_mask}
use Rattle.vax_form.specs.declared.instr.Base.TheVariants as bases
use Rattle.vax_form.specs.declared.instr.Operand.TheVariants as operands
use Rattle.vax_meaning.specs.Branches.{target, pc_after}
use Rattle.micro_ops.specs.Meaning.{Found}
use Rattle.micro_ops.specs.declared.program.Exit.TheVariants as exits
use Rattle.micro_lower.specs.Rows.{low_bit_plan, jump_plan, jump_to_subroutine_plan, jump_exit, test_exit}
use Rattle.micro_lower.specs.Plans.{Plan}
use Rattle.micro_lower.proofs.Endings.{nowhere, pushed, closes_kept}
use Rattle.micro_lower.proofs.Planned.{only_read, only_address, after_read, after_branch, after_all}
use Rattle.vax_form.specs.declared.instr.Access.TheVariants.{Read, Branch}
use Rattle.vax_meaning.specs.Evaluation.{nothing}
use Rattle.vax_meaning.specs.declared.evaluation.Evaluated.{Evaluated}
use Rattle.operand_programs.specs.InOrder.{AreLeft}
use Rattle.operand_programs.specs.Operands.{IsOfSize}
use Rattle.micro_lower.proofs.Planned.{specifier, value, address}
use Rattle.micro_lower.proofs.TestRows.{room}
use Rattle.std.proofs.Common.{None}
use Rattle.vax_form.specs.Row.{filled}
use Rattle.vax_form.specs.State.{with_pc}
use Rattle.vax_form.specs.Tree.{Same}
use Rattle.vax_form.specs.Tree as trees
use Rattle.vax_meaning.specs.Control.{serve, change_mode}
use Rattle.operand_programs.specs.InOrder.{evaluate_all, operands_program, steps_behind_all, no_steps}
use Rattle.operand_programs.specs.Results.{with_registers_of}
use Rattle.operand_programs.specs.declared.operands.Specifier.{Specifier}
use Rattle.micro_lower.specs.Plans.{rest_program}
use Rattle.micro_lower.specs.Rows.{change_mode_plan}
use Rattle.micro_lower.proofs.Endings.{Closes}
use Rattle.vax_form.specs.declared.instr.Access.TheVariants.{Address}
use Rattle.vax_form.specs.declared.operation.Operation.{Operation}
use Rattle.vax_meaning.specs.Evaluation.{find, obtain}
use Rattle.vax_meaning.specs.Instructions.{operation_script}
use Rattle.vax_meaning.specs.Operands.{locate, place_address, base_address}
use Rattle.micro_ops.specs.Meaning.{with_temp, no_temps}
use Rattle.operand_programs.specs.InOrder.{AreOperandsOf}
use Rattle.operand_programs.proofs.Ordered.{of_instruction, all_steps_length}
use Rattle.operand_programs.proofs.Stepped.{nothing_added}
use Rattle.micro_lower.specs.Plans.{specifiers_from}
use Rattle.micro_lower.specs.Rows.{addressed}
use Rattle.micro_lower.specs.declared.plans.Slot.{Slot}
use Rattle.micro_lower.proofs.Plain.{Does}
use Rattle.std.specs.Prelude.{if◌then◌else◌}

-- ---- branches
-- an instruction goes on at an address
abbrev pub go_end : Pages → (pc : ℕ) → VaxState → Tree
go_end pages pc state = tree_of pages (go_to pc) state ends_with

pub is_read_then_branch : (values : List Evaluated) (temps : Temps) (P : List Evaluated → Type 0) (size size' : Size) (a b : Operand) (to from to' from' : ℕ)
    → AreLeft (specifier Read size a to from ∷ specifier Branch size' b to' from' ∷ []) values temps
    → (IsOfSize size (temps to) → P (value (temps to) ∷ nothing ∷ [])) → P values
is_read_then_branch values temps P size size' a b to from to' from' left goes =
    after_read size a to from (specifier Branch size' b to' from' ∷ []) values temps P left (λ others left' fits.
    after_branch size' b to' from' [] others temps (λ others. P (value (temps to) ∷ others)) left' (λ none left''.
    after_all none temps (λ none. P (value (temps to) ∷ nothing ∷ none)) left'' (goes fits)))

pub set_test : (x : ℕ) (taken other : ℕ) → (if x % 2 == 0 then other else taken) ≡ (if x % 2 == 1 then taken else other)
set_test x taken other = elim (cases_lt (x % 2) 1) [
  | inl below ↦ (let z : x % 2 ≡ 0 = omega (arith, below) in rw z refl)
  | inr above ↦ (let o : x % 2 ≡ 1 = omega (arith, above) in rw o refl)
]

pub test_low : (state : Bool) (instr : Instr) (number : ℕ) → IsLowExit (test_exit state instr number)
test_low true instr number = lit< tt
test_low false instr number = lit< tt

low_bit : (x : ℕ) → x % 256 % 2 ≡ x % 4294967296 % 2
low_bit x = omega arith

pub low_bit_all : (branches : Bool) (instr : Instr) → AllDo (operations.BranchOnLowBit branches) instr (low_bit_plan branches instr)
unfolding body sources_of value_from
low_bit_all true instr state pages thread temps values ok same left =
    let plan = low_bit_plan true instr in
    let x = temps 0 % 2 ^ 32 in
    is_read_then_branch values temps (BodyDoes (operations.BranchOnLowBit true) instr plan state pages thread temps) Long Byte (operand instr 0) (operand instr 1) 0 1 0 1 left (λ fits.
    nowhere (from Kept Kept) state pages thread instr.after ok _ (go_end pages (pc_after instr 1 (x % 2 == 1))) _ (closes_kept state pages thread instr.after plan.exit (pc_after instr 1 (x % 2 == 1))) [] refl (steps_of plan.slots instr)
    (effect plan.before (found_at state instr.after) temps) same
    (record { low = lit< tt; goes = rw (and_mask (temps 0 % 256) 1, low_bit (temps 0)) (set_test x (target (operand instr 1)) instr.after) }))
low_bit_all false instr state pages thread temps values ok same left =
    let plan = low_bit_plan false instr in
    let x = temps 0 % 2 ^ 32 in
    is_read_then_branch values temps (BodyDoes (operations.BranchOnLowBit false) instr plan state pages thread temps) Long Byte (operand instr 0) (operand instr 1) 0 1 0 1 left (λ fits.
    nowhere (from Kept Kept) state pages thread instr.after ok _ (go_end pages (pc_after instr 1 (x % 2 == 0))) _ (closes_kept state pages thread instr.after plan.exit (pc_after instr 1 (x % 2 == 0))) [] refl (steps_of plan.slots instr)
    (effect plan.before (found_at state instr.after) temps) same
    (record { low = lit< tt; goes = rw (and_mask (temps 0 % 256) 1, low_bit (temps 0)) refl }))

-- ---- jumps
-- where a jump goes, for what its operand left
abbrev pub Jumps : Instr → VaxState → Temps → Type 0
Jumps instr state temps = IsLowExit (jump_exit (operand instr 0)) × GoesTo (jump_exit (operand instr 0)) (found_at state instr.after) temps (temps 0 % 2 ^ 32)

-- a jump goes by 0 alone, if the code does not fix its target
still_jumps : (operand : Operand) (found : Found) (temps temps' : Temps) (pc : ℕ) → temps' 0 ≡ temps 0 → GoesTo (jump_exit operand) found temps pc → GoesTo (jump_exit operand) found temps' pc
still_jumps (operands.Place (bases.Fixed address false) None) found temps temps' pc is goes = goes
still_jumps _ found temps temps' pc is goes = ap (λ n. n % 2 ^ 32) is ∙ goes

jump_body : (instr : Instr) (state : VaxState) (pages : Pages) (thread : ℕ) (temps : Temps) → IsState state → length (steps_of (jump_plan instr).slots instr) ≡ length state.r → Jumps instr state temps
    → BodyDoes operations.Jump instr (jump_plan instr) state pages thread temps (address (temps 0) ∷ [])
unfolding body sources_of
jump_body instr state pages thread temps ok same jumps =
    let plan = jump_plan instr in
    nowhere (from Kept Kept) state pages thread instr.after ok _ (go_end pages (temps 0 % 2 ^ 32)) _ (closes_kept state pages thread instr.after plan.exit (temps 0 % 2 ^ 32)) [] refl (steps_of plan.slots instr) temps same
    (record { low = jumps.0; goes = jumps.1 })

call_body : (instr : Instr) (state : VaxState) (pages : Pages) (thread : ℕ) (temps : Temps) → IsState state → length (steps_of (jump_to_subroutine_plan instr).slots instr) ≡ length state.r → instr.after < 2 ^ 32
    → Jumps instr state temps → BodyDoes operations.JumpToSubroutine instr (jump_to_subroutine_plan instr) state pages thread temps (address (temps 0) ∷ [])
unfolding body sources_of value_from
call_body instr state pages thread temps ok same within jumps =
    let plan = jump_to_subroutine_plan instr in
    let after = effect plan.before (found_at state instr.after) temps in
    pushed (from Kept Kept) state pages thread instr.after ok _ (go_end pages (temps 0 % 2 ^ 32)) _ (closes_kept state pages thread instr.after plan.exit (temps 0 % 2 ^ 32)) (steps_of plan.slots instr) instr.after after same
    (room state (steps_of plan.slots instr) ok same) (mod-eq_of_lt within)
    (λ temps' kept. record { low = jumps.0; goes = still_jumps (operand instr 0) (found_at state instr.after) after temps' (temps 0 % 2 ^ 32) (kept 0 refl refl refl) (still_jumps (operand instr 0) (found_at state instr.after) temps after (temps 0 % 2 ^ 32) refl jumps.1) })

-- a target that the code does not fix
abbrev pub IsComputed : Operand → Type 0
IsComputed operand = jump_exit operand ≡ exits.Computed 0

computed_jumps : (instr : Instr) (state : VaxState) (temps : Temps) → IsComputed (operand instr 0) → Jumps instr state temps
computed_jumps instr state temps computed = rw computed (lit< tt, refl)

pub jump_all : (instr : Instr) → IsComputed (operand instr 0) → AllDo operations.Jump instr (jump_plan instr)
jump_all instr computed state pages thread temps values ok same left =
    only_address values temps (BodyDoes operations.Jump instr (jump_plan instr) state pages thread temps) Byte (operand instr 0) 0 1 left (λ fits.
    jump_body instr state pages thread temps ok same (computed_jumps instr state temps computed))

pub jump_to_subroutine_all : (instr : Instr) → IsComputed (operand instr 0) → instr.after < 2 ^ 32 → AllDo operations.JumpToSubroutine instr (jump_to_subroutine_plan instr)
jump_to_subroutine_all instr computed within state pages thread temps values ok same left =
    only_address values temps (BodyDoes operations.JumpToSubroutine instr (jump_to_subroutine_plan instr) state pages thread temps) Byte (operand instr 0) 0 1 left (λ fits.
    call_body instr state pages thread temps ok same within (computed_jumps instr state temps computed))

-- ---- fixed targets
-- the operand is the address, without a reference
module _ (operation : Operation) (instr : Instr) (plan : Plan) (target : ℕ) (lt : target < 2 ^ 32) (is : operation_at instr.opcode ≡ Some operation)
    (slots : plan.slots ≡ addressed Byte 0 ∷ []) (fixed : operand instr 0 ≡ operands.Place (bases.Fixed target false) None)
    (are : AreOperandsOf (specifiers_from 0 plan.slots instr) (evaluated_row operation) instr) where
  pub fixed_does : ((state : VaxState) (pages : Pages) (thread : ℕ) → IsState state → length (steps_of plan.slots instr) ≡ length state.r
      → BodyDoes operation instr plan state pages thread (with_temp 0 target no_temps) (address target ∷ [])) → Does (sources_of operation) instr (program_of (sources_of operation) plan instr)
  unfolding operation_script find obtain locate place_address base_address value_from
  fixed_does goes state pages thread ok =
      let specifiers = specifiers_from 0 plan.slots instr in
      let rest : List Evaluated → VaxState → Tree = λ values after. tree_of pages (body operation instr thread values) after ends_with in
      let one : specifiers ≡ specifier Address Byte (operands.Place (bases.Fixed target false) None) 0 1 ∷ [] = ap (λ (s : List Slot). specifiers_from 0 s instr) slots ∙ ap (λ (o : Operand). specifier Address Byte o 0 1 ∷ []) fixed in
      let found = found_at state instr.after in
      let codes = sources_of operation in
      let at : Temps → List Specifier → VaxState → Type 0 = λ temps s after. Agrees (CodesComeFrom codes state) (leaving pages thread) (course_of (rest_program codes plan (steps_behind_all s no_steps)) found (with state temps))
      (tree_of pages (body operation instr thread (filled nothing 6 (address target ∷ []))) after ends_with) in
      let same : length (steps_of plan.slots instr) ≡ length state.r = all_steps_length specifiers no_steps ∙ sym ok.registers in
      let there : at (with_temp 0 target no_temps) specifiers (stepped (steps_of plan.slots instr) state) = goes state pages thread ok same in
      let moved : at (with_temp 0 target no_temps) (specifier Address Byte (operands.Place (bases.Fixed target false) None) 0 1 ∷ []) (stepped no_steps state) =
      subst (λ (s : List Specifier). at (with_temp 0 target no_temps) s (stepped (steps_behind_all s no_steps) state)) one there in
      let here : at (with_temp 0 target no_temps) (specifier Address Byte (operands.Place (bases.Fixed target false) None) 0 1 ∷ []) state =
      subst (λ (s : VaxState). at (with_temp 0 target no_temps) (specifier Address Byte (operands.Place (bases.Fixed target false) None) 0 1 ∷ []) s) (nothing_added state ok) moved in
      rw (is, of_instruction specifiers (evaluated_row operation) instr pages state rest (rw one (lit≤ tt)) are)
      (subst (λ (s : List Specifier). Agrees (CodesComeFrom codes state) (leaving pages thread)
      (course_of (operands_program s no_steps ++ rest_program codes plan (steps_behind_all s no_steps)) found (started state))
      (tree_of pages (evaluate_all s) state (λ values after. tree_of pages (body operation instr thread (filled nothing 6 values)) after ends_with))) (sym one)
      (subst (λ (n : ℕ). at (with_temp 0 n no_temps) (specifier Address Byte (operands.Place (bases.Fixed target false) None) 0 1 ∷ []) state) (sym (mod-eq_of_lt lt)) here))

fixed_jumps : (instr : Instr) (target : ℕ) (state : VaxState) (temps : Temps) → operand instr 0 ≡ operands.Place (bases.Fixed target false) None → target < 2 ^ 32 → temps 0 ≡ target → Jumps instr state temps
fixed_jumps instr target state temps fixed lt zero = rw fixed (tt, sym (ap (λ n. n % 2 ^ 32) zero ∙ mod-eq_of_lt lt))

pub jump_fixed_does : (instr : Instr) (target : ℕ) → target < 2 ^ 32 → operation_at instr.opcode ≡ Some operations.Jump → operand instr 0 ≡ operands.Place (bases.Fixed target false) None
    → AreOperandsOf (specifiers_from 0 (jump_plan instr).slots instr) (evaluated_row operations.Jump) instr → Does (sources_of operations.Jump) instr (program_of (sources_of operations.Jump) (jump_plan instr) instr)
jump_fixed_does instr target lt is fixed are =
    fixed_does operations.Jump instr (jump_plan instr) target lt is refl fixed are
    (λ state pages thread ok same. jump_body instr state pages thread (with_temp 0 target no_temps) ok same (fixed_jumps instr target state (with_temp 0 target no_temps) fixed lt refl))

pub call_fixed_does : (instr : Instr) (target : ℕ) → target < 2 ^ 32 → instr.after < 2 ^ 32 → operation_at instr.opcode ≡ Some operations.JumpToSubroutine → operand instr 0 ≡ operands.Place (bases.Fixed target false) None
    → AreOperandsOf (specifiers_from 0 (jump_to_subroutine_plan instr).slots instr) (evaluated_row operations.JumpToSubroutine) instr
    → Does (sources_of operations.JumpToSubroutine) instr (program_of (sources_of operations.JumpToSubroutine) (jump_to_subroutine_plan instr) instr)
call_fixed_does instr target lt within is fixed are =
    fixed_does operations.JumpToSubroutine instr (jump_to_subroutine_plan instr) target lt is refl fixed are
    (λ state pages thread ok same. call_body instr state pages thread (with_temp 0 target no_temps) ok same within (fixed_jumps instr target state (with_temp 0 target no_temps) fixed lt refl))

-- ---- services
same_tree : (tree : Tree) → Same tree tree
same_tree (trees.Check address count write tree) = (refl, refl, refl, same_tree tree)
same_tree (trees.Ask reference on) = (refl, λ reply answers. same_tree (on reply))
same_tree (trees.Fault exception) = refl
same_tree (trees.Ends ending) = refl

-- a service is asked for, behind the instruction
abbrev pub service_end : Pages → (thread code after : ℕ) → VaxState → Tree
service_end pages thread code after state = tree_of pages (change (with_pc after) >> serve code thread) state ends_with

closes_service : (start : VaxState) (pages : Pages) (thread after code : ℕ)
    → Closes (from Kept Kept) start pages thread after (Leave (exits.Service 0) ∷ []) (service_end pages thread code after) (λ temps. temps 0 % 2 ^ 16 ≡ code)
closes_service start pages thread after code state temps temps' is kept holds =
    let standing = with_registers_of state temps' (with start temps) in
    subst (λ (s : VaxState). DoesSo (from Kept Kept) start pages thread after (Leave (exits.Service 0) ∷ []) standing (service_end pages thread code after s)) is
    (rw (kept 0 refl, holds) (record { signs = (refl, refl, refl); carry = refl }, same_tree _))

pub change_mode_all : (instr : Instr) → AllDo operations.ChangeMode instr change_mode_plan
unfolding body change_mode sources_of
change_mode_all instr state pages thread temps values ok same left =
    only_read values temps (BodyDoes operations.ChangeMode instr change_mode_plan state pages thread temps) Word (operand instr 0) 0 1 left (λ fits.
    nowhere (from Kept Kept) state pages thread instr.after ok _ (service_end pages thread (temps 0 % 2 ^ 16) instr.after) _ (closes_service state pages thread instr.after (temps 0 % 2 ^ 16)) [] refl (steps_of change_mode_plan.slots instr) temps same refl)
