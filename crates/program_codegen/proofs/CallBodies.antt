-- The script of a call from its operands on, as the checks of its pushes and what comes behind them.
use Rattle.std.proofs.Common.{◌≡◌, ℕ, ◌+◌, ◌-◌, ◌*◌, ◌/◌, ◌%◌, ◌^◌, ◌<◌, refl, ap, ◌∙◌, arith, List, [], ◌∷◌, length, Some, None, Bool, true, false, lit≤}
use Rattle.std.specs.Prelude.{unwrap_or}
use Rattle.std.proofs.Math.Nat.{mod-eq_of_lt}
use Rattle.vax_form.specs.Grammar.{padded}
use Rattle.vax_form.specs.Row.{filled, operands_of, operands_of_long, row_of_operation}
use Rattle.vax_form.specs.State.{register}
use Rattle.vax_form.specs.Tree.{Tree, Check, tree_of, ends_with}
use Rattle.vax_form.specs.declared.instr.Access.TheVariants.{Read, Address}
use Rattle.vax_form.specs.declared.instr.Base.TheVariants.{Fixed}
use Rattle.vax_form.specs.declared.instr.Instr.{Instr}
use Rattle.vax_form.specs.declared.instr.Operand.{Operand}
use Rattle.vax_form.specs.declared.instr.Operand.TheVariants.{Place}
use Rattle.vax_form.specs.declared.instr.Size.TheVariants.{Byte, Long}
use Rattle.vax_form.specs.declared.operation.LongOperation.{LongOperation}
use Rattle.vax_form.specs.declared.operation.LongOperation.TheVariants.{CallGeneral, CallStack}
use Rattle.vax_form.specs.declared.operation.Operation.TheVariants as operations
use Rattle.vax_form.specs.declared.pages.Pages.{Pages}
use Rattle.vax_form.specs.declared.state.VaxState.{VaxState}
use Rattle.vax_meaning.specs.Evaluation.{evaluate, find, obtain, nothing}
use Rattle.vax_meaning.specs.Operands.{base_address, locate, place_address}
use Rattle.vax_meaning.specs.declared.evaluation.Evaluated.{Evaluated}
use Rattle.vax_meaning.specs.declared.operands.Location.TheVariants.{InMemory}
use Rattle.vax_long.specs.Calls.{aligned, call_general, call_stack, check_frame, enter, entry_mask, push_frame}
use Rattle.vax_long.specs.CodeWord.{code_word_at}
use Rattle.vax_long.specs.Instructions.{long_at, long_body, long_script, long_script_where, long_tree_for}
use Rattle.vax_long.specs.LongForms.{has_entry_mask}
use Rattle.vax_long.specs.Registers.{below, check_push, push_checked}
use Rattle.operand_programs.specs.declared.operands.Specifier.{Specifier}
use Rattle.operand_programs.proofs.Ordered.{of_instruction}
use Rattle.program_codegen.specs.Calls.{first_specifier, frame_of}
use Rattle.program_codegen.proofs.Frame.{checked_from}
use Rattle.program_codegen.proofs.CallTrees.{frame_checks}
use Rattle.program_codegen.proofs.CallScripts.{mask_read}

-- the destination, which the code fixes
abbrev pub destination_specifier : (destination : ℕ) → Specifier
destination_specifier destination = record { access = Address; size = Byte; operand = Place (Fixed destination false) None; to = 1; place = 2 }

abbrev pub values_with : Evaluated → (destination : ℕ) → List Evaluated
values_with first destination = filled nothing 6 (first ∷ record { location = InMemory destination; value = destination } ∷ [])

aligned_below : (n : ℕ) → n < 2 ^ 32 → n / 4 * 4 < 2 ^ 32
aligned_below n lt = omega arith

below_small : (n : ℕ) → (n + (2 ^ 32 - 4)) % 2 ^ 32 < 2 ^ 32
below_small n = omega arith

module _ (pages : Pages) (instr : Instr) (destination : ℕ) (fits : destination < 2 ^ 32) (has : has_entry_mask pages destination ≡ true) where
  abbrev pub mask_at : ℕ
  mask_at = unwrap_or (code_word_at pages destination) 0

  -- behind the checks of a frame, with the count and its place
  abbrev pub stacked_tree : (count list : ℕ) → VaxState → Tree
  stacked_tree count list state =
      tree_of pages (push_checked count) state (λ pushed s. tree_of pages (push_frame instr.after true mask_at) s (λ done s. tree_of pages (enter destination mask_at list) s ends_with))

  -- the same with the address of the list
  abbrev pub listed_tree : (list : ℕ) → VaxState → Tree
  listed_tree list state = tree_of pages (push_frame instr.after false mask_at) state (λ done s. tree_of pages (enter destination mask_at list) s ends_with)

  -- CALLS
  pub stack_body : (first : Evaluated) (state : VaxState)
      → tree_of pages (call_stack instr (values_with first destination)) state ends_with
      ≡ Check (below (register 14 state)) 4 true
      (checked_from (aligned (below (register 14 state))) 1 (length (frame_of mask_at)) (stacked_tree (first.value % 2 ^ 32) (below (register 14 state)) state))
  unfolding call_stack check_push
  stack_body first state =
      ap (λ (x : ℕ). tree_of pages (entry_mask x) state (behind x)) (mod-eq_of_lt fits)
      ∙ (mask_read pages destination state (behind destination) has
      ∙ ap (λ (t : Tree). Check (below (register 14 state)) 4 true t)
      (frame_checks pages (aligned (below (register 14 state))) (aligned_below (below (register 14 state)) (below_small (register 14 state))) mask_at state
      (λ done s. stacked_tree (first.value % 2 ^ 32) (below (register 14 state)) s)))
    where
      behind : (destination mask : ℕ) → VaxState → Tree
      behind destination mask s0 =
          Check (below (register 14 s0)) 4 true
          (tree_of pages (check_frame mask (aligned (below (register 14 s0)))) s0
          (λ checked s1. tree_of pages (push_checked (first.value % 2 ^ 32)) s1
          (λ pushed s2. tree_of pages (push_frame instr.after true mask) s2 (λ done s3. tree_of pages (enter destination mask (below (register 14 s0))) s3 ends_with))))

  -- CALLG
  pub general_body : (first : Evaluated) (state : VaxState) → register 14 state < 2 ^ 32
      → tree_of pages (call_general instr (values_with first destination)) state ends_with
      ≡ checked_from (aligned (register 14 state)) 1 (length (frame_of mask_at)) (listed_tree (first.value % 2 ^ 32) state)
  unfolding call_general
  general_body first state small =
      ap (λ (x : ℕ). tree_of pages (entry_mask x) state (behind x)) (mod-eq_of_lt fits)
      ∙ (mask_read pages destination state (behind destination) has
      ∙ frame_checks pages (aligned (register 14 state)) (aligned_below (register 14 state) small) mask_at state (λ done s. listed_tree (first.value % 2 ^ 32) s))
    where
      behind : (destination mask : ℕ) → VaxState → Tree
      behind destination mask s0 =
          tree_of pages (check_frame mask (aligned (register 14 s0))) s0
          (λ checked s1. tree_of pages (push_frame instr.after false mask) s1 (λ done s3. tree_of pages (enter destination mask (first.value % 2 ^ 32)) s3 ends_with))

-- ---- the whole instruction
abbrev pub operation_by : (stack : Bool) → LongOperation
operation_by true = CallStack
operation_by false = CallGeneral

-- a call of that kind, by its operands
pub record IsCallTo (stack : Bool) (instr : Instr) (first : Operand) (destination : ℕ) : Type 0 where
  pub operation : long_at instr.opcode ≡ Some (operation_by stack)
  pub operands : instr.operands ≡ padded (first ∷ Place (Fixed destination false) None ∷ [])

module _ (pages : Pages) (instr : Instr) (first : Operand) (destination : ℕ) (state : VaxState) where
  -- CALLS
  pub stack_tree : IsCallTo true instr first destination
      → long_tree_for state instr pages ≡ tree_of pages (evaluate Read Long first) state (λ value s. tree_of pages (call_stack instr (values_with value destination)) s ends_with)
  unfolding long_script long_body find obtain locate place_address base_address operands_of operands_of_long
  stack_tree is =
      ap (λ operation. tree_of pages (long_script_where operation instr) state ends_with) is.operation
      ∙ of_instruction (first_specifier true first ∷ destination_specifier destination ∷ []) (row_of_operation (operations.Long CallStack)) instr pages state
      (λ values s. tree_of pages (call_stack instr values) s ends_with) (lit≤ tt) (refl, is.operands)

  -- CALLG
  pub general_tree : IsCallTo false instr first destination
      → long_tree_for state instr pages ≡ tree_of pages (evaluate Address Byte first) state (λ value s. tree_of pages (call_general instr (values_with value destination)) s ends_with)
  unfolding long_script long_body find obtain locate place_address base_address operands_of operands_of_long
  general_tree is =
      ap (λ operation. tree_of pages (long_script_where operation instr) state ends_with) is.operation
      ∙ of_instruction (first_specifier false first ∷ destination_specifier destination ∷ []) (row_of_operation (operations.Long CallGeneral)) instr pages state
      (λ values s. tree_of pages (call_general instr values) s ends_with) (lit≤ tt) (refl, is.operands)
