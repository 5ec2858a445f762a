-- The script of MOVC3 as a tree: its operands, the checks of both strings, the bytes one after the other, and the state behind.
use Rattle.std.proofs.Common.{◌≡◌, ℕ, zero, suc, ◌%◌, ◌^◌, ◌<◌, refl, ap, ◌∙◌, List, [], ◌∷◌, Some, Bool, true, false, not, lit≤}
use Rattle.std.specs.Prelude.{nat_le}
use Rattle.std.proofs.Math.Nat.{mod-eq_of_lt}
use Rattle.vax_form.specs.Grammar.{padded}
use Rattle.vax_form.specs.Row.{filled, operands_of, operands_of_long, row_of_operation}
use Rattle.vax_form.specs.State.{with_pc}
use Rattle.vax_form.specs.Tree.{Tree, Check, Ask, Ends, Finish, tree_of, ends_with}
use Rattle.vax_form.specs.declared.instr.Access.TheVariants.{Read, Address}
use Rattle.vax_form.specs.declared.instr.Instr.{Instr}
use Rattle.vax_form.specs.declared.instr.Operand.{Operand}
use Rattle.vax_form.specs.declared.instr.Size.TheVariants.{Byte, Word}
use Rattle.vax_form.specs.declared.operation.LongOperation.TheVariants.{MoveCharacters}
use Rattle.vax_form.specs.declared.operation.Operation.TheVariants as operations
use Rattle.vax_form.specs.declared.pages.Pages.{Pages}
use Rattle.vax_form.specs.declared.state.RefKind.TheVariants as references
use Rattle.vax_form.specs.declared.state.VaxState.{VaxState}
use Rattle.vax_meaning.specs.Codes.{with_codes}
use Rattle.vax_meaning.specs.Evaluation.{evaluate, nothing}
use Rattle.vax_meaning.specs.declared.evaluation.Evaluated.{Evaluated}
use Rattle.vax_meaning.specs.declared.operands.Location.TheVariants.{InMemory}
use Rattle.vax_long.specs.Instructions.{long_at, long_body, long_script, long_script_where, long_tree_for}
use Rattle.vax_long.specs.Strings.{beyond, beside, beginning, move_bytes, move_string, move_characters, with_moved}
use Rattle.operand_programs.proofs.Ordered.{of_instruction}
use Rattle.program_codegen.specs.Strings.{destination_specifier, length_specifier, source_specifier}
use Rattle.program_codegen.proofs.StringLoop.{moving}

-- ---- the bytes
bytes_moved : (pages : Pages) (down : Bool) (count from to : ℕ) (state : VaxState) (rest : Unit {0} → VaxState → Tree) → tree_of pages (move_bytes down count from to) state rest ≡ moving down count from to (rest tt state)
unfolding move_bytes
bytes_moved pages down zero from to state rest = refl
bytes_moved pages down (suc count) from to state rest =
    ap (λ (t : Tree). Ask (record { address = from; count = 1; kind = references.Read }) (λ reply. Ask (record { address = to; count = 1; kind = references.Write (reply % 2 ^ 8 % 2 ^ 8) }) (λ done. t)))
    (bytes_moved pages down count (beside down from) (beside down to) state rest)

-- ---- behind the operands
-- the state behind the instruction
abbrev pub moved_state : (after count source destination : ℕ) → VaxState → VaxState
moved_state after count source destination state =
    with_pc after (with_codes false true false false (with_moved 0 (beyond source count) (beyond destination count) state))

-- downward where the destination is above the source
abbrev pub goes_down : (source destination : ℕ) → Bool
goes_down source destination = not (nat_le destination source)

abbrev pub bytes_tree : (count source destination : ℕ) → Tree → Tree
bytes_tree count source destination end =
    moving (goes_down source destination) count (beginning (goes_down source destination) source count) (beginning (goes_down source destination) destination count) end

-- both strings are checked, and then the bytes are moved
abbrev pub strings_tree : (after count source destination : ℕ) → VaxState → Tree
strings_tree after count source destination state =
    Check source count false (Check destination count true (bytes_tree count source destination (Ends (Finish (moved_state after count source destination state)))))

-- a value that was read, and an address
abbrev pub read_as : (value : ℕ) → Evaluated
read_as value = record { location = InMemory 0; value = value }

abbrev pub located_at : (address : ℕ) → Evaluated
located_at address = record { location = InMemory address; value = address }

abbrev pub values_with : (first second third : Evaluated) → List Evaluated
values_with first second third = filled nothing 6 (first ∷ second ∷ third ∷ [])

pub string_body : (pages : Pages) (instr : Instr) (count source destination : ℕ) (state : VaxState) → count < 2 ^ 16 → source < 2 ^ 32 → destination < 2 ^ 32
    → tree_of pages (move_characters instr (values_with (read_as count) (located_at source) (located_at destination))) state ends_with ≡ strings_tree instr.after count source destination state
unfolding move_characters move_string
string_body pages instr count source destination state few small small' =
    ap (λ (c : ℕ). chain c (source % 2 ^ 32) (destination % 2 ^ 32)) (mod-eq_of_lt few)
    ∙ (ap (λ (s : ℕ). chain count s (destination % 2 ^ 32)) (mod-eq_of_lt small)
    ∙ (ap (λ (d : ℕ). chain count source d) (mod-eq_of_lt small')
    ∙ ap (λ (t : Tree). Check source count false (Check destination count true t))
    (bytes_moved pages (goes_down source destination) count (beginning (goes_down source destination) source count) (beginning (goes_down source destination) destination count) state (ending count source destination))))
  where
    ending : (c s d : ℕ) → Unit {0} → VaxState → Tree
    ending c s d done state = Ends (Finish (moved_state instr.after c s d state))

    chain : (c s d : ℕ) → Tree
    chain c s d = Check s c false (Check d c true (tree_of pages (move_bytes (goes_down s d) c (beginning (goes_down s d) s c) (beginning (goes_down s d) d c)) state (ending c s d)))

-- ---- the whole instruction
-- MOVC3, by its operands
pub record IsMoveOf (instr : Instr) (first second third : Operand) : Type 0 where
  pub operation : long_at instr.opcode ≡ Some MoveCharacters
  pub operands : instr.operands ≡ padded (first ∷ second ∷ third ∷ [])

pub string_tree : (pages : Pages) (instr : Instr) (first second third : Operand) (state : VaxState) → IsMoveOf instr first second third
    → long_tree_for state instr pages
    ≡ tree_of pages (evaluate Read Word first) state (λ a s. tree_of pages (evaluate Address Byte second) s (λ b s'. tree_of pages (evaluate Address Byte third) s' (λ c s''. tree_of pages (move_characters instr (values_with a b c)) s'' ends_with)))
unfolding long_script long_body operands_of operands_of_long
string_tree pages instr first second third state is =
    ap (λ operation. tree_of pages (long_script_where operation instr) state ends_with) is.operation
    ∙ of_instruction (length_specifier first ∷ source_specifier second ∷ destination_specifier third ∷ []) (row_of_operation (operations.Long MoveCharacters)) instr pages state
    (λ values s. tree_of pages (move_characters instr values) s ends_with) (lit≤ tt) (refl, is.operands)
