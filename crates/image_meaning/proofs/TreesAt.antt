-- What stands at an address keeps to states and to references within quadwords.
use Rattle.std.proofs.Common.{◌≡◌, ℕ, ◌<◌, arith, true, false, List, Option, Some, None, refl}
use Rattle.vax_form.specs.Grammar.{Found, instruction, reserved_instruction, reserved_mode, past}
use Rattle.vax_form.specs.GrammarFound.{found}
use Rattle.vax_form.specs.GrammarLaws.{AreBytes}
use Rattle.vax_form.specs.State.{IsState}
use Rattle.vax_form.specs.declared.state.VaxState.{VaxState}
use Rattle.vax_form.specs.Row.{row_of_operation}
use Rattle.vax_form.specs.declared.instr.Instr.{Instr}
use Rattle.vax_form.specs.declared.operation.LongOperation.{LongOperation}
use Rattle.vax_form.specs.declared.operation.LongOperation.TheVariants.{Index, CallGeneral, CallStack, Return, PushRegisters, PopRegisters, MoveCharacters, MoveCharactersFilled, CompareCharacters, LocateCharacter, SkipCharacter}
use Rattle.vax_form.specs.declared.operation.Operation.TheVariants as operations
use Rattle.vax_meaning.specs.declared.evaluation.Evaluated.{Evaluated}
use Rattle.vax_meaning.specs.Evaluation.{nothings}
use Rattle.vax_long.specs.Instructions.{long_at, long_body, long_script, either_script, script_found, script_at, tree_at}
use Rattle.vax_form.specs.declared.pages.Pages.{Pages}
use Rattle.image_meaning.specs.Laws.{TreeAtStaysInRange, TreeAtFailsByFaults}
use Rattle.image_meaning.proofs.Keeping.{Keeps, Any, keep_bind, keep_fail, keep_written, keeps_tree}
use Rattle.image_meaning.proofs.Ranged.{Ranged, is_in_range, fails_by_faults}
use Rattle.image_meaning.proofs.Evaluations.{FitsValues, nothings_are_fit, keep_operands_from}
use Rattle.image_meaning.proofs.Codes.{FitsInstr}
use Rattle.image_meaning.proofs.Bodies.{keep_script_of}
use Rattle.image_meaning.proofs.Decoded.{found_fits}
use Rattle.image_meaning.proofs.Registers.{keep_push_by_mask, keep_pop_by_mask}
use Rattle.image_meaning.proofs.Calls.{keep_call_general, keep_call_stack, keep_return_from_procedure}
use Rattle.image_meaning.proofs.Strings.{keep_move_characters, keep_move_characters_filled, keep_compare_characters, keep_scan_characters, keep_index}

keep_long_body : {pages : Pages} (operation : LongOperation) (instr : Instr) (values : List Evaluated) → FitsInstr instr → FitsValues values → Keeps pages false true Any (long_body operation instr values)
unfolding long_body
keep_long_body Index instr values fits all = keep_index instr values fits all
keep_long_body CallGeneral instr values fits all = keep_call_general instr values
keep_long_body CallStack instr values fits all = keep_call_stack instr values
keep_long_body Return instr values fits all = keep_written keep_return_from_procedure
keep_long_body PushRegisters instr values fits all = keep_push_by_mask instr values fits
keep_long_body PopRegisters instr values fits all = keep_written (keep_pop_by_mask instr values fits)
keep_long_body MoveCharacters instr values fits all = keep_move_characters instr values fits
keep_long_body MoveCharactersFilled instr values fits all = keep_move_characters_filled instr values fits
keep_long_body CompareCharacters instr values fits all = keep_written (keep_compare_characters instr values fits)
keep_long_body LocateCharacter instr values fits all = keep_written (keep_scan_characters instr true values fits)
keep_long_body SkipCharacter instr values fits all = keep_written (keep_scan_characters instr false values fits)

keep_long_script : {pages : Pages} (operation : LongOperation) (instr : Instr) → FitsInstr instr → Keeps pages false true Any (long_script operation instr)
unfolding long_script
keep_long_script operation instr fits =
    keep_bind (keep_operands_from 6 (row_of_operation (operations.Long operation)) instr nothings fits.operands (omega arith) (nothings_are_fit (row_of_operation (operations.Long operation))))
    (λ values are. keep_long_body operation instr values fits are.fits)

keep_either_script : {pages : Pages} (operation : Option LongOperation) (instr : Instr) (thread : ℕ) → thread < 256 → FitsInstr instr → Keeps pages false true Any (either_script operation instr thread)
keep_either_script None instr thread few fits = keep_script_of instr thread few fits
keep_either_script (Some operation) instr thread few fits = keep_long_script operation instr fits

keep_script_found : {pages : Pages} (f : Found) (thread : ℕ) → thread < 256 → ((instr : Instr) → f ≡ instruction instr → FitsInstr instr) → Keeps pages false true Any (script_found f thread)
keep_script_found (instruction instr) thread few fits = keep_either_script (long_at instr.opcode) instr thread few (fits instr refl)
keep_script_found reserved_instruction thread few fits = keep_fail tt
keep_script_found reserved_mode thread few fits = keep_fail tt
keep_script_found (past address) thread few fits = keep_fail tt

tree_ranged : (pages : Pages) (thread : ℕ) (state : VaxState) → AreBytes pages.code → thread < 256 → IsState state → Ranged pages false (tree_at pages thread state)
tree_ranged pages thread state code few is =
    keeps_tree pages false true (script_at pages thread state) state
    (keep_script_found (found pages state.pc) thread few (λ instr stands. found_fits pages state.pc instr code stands)) is

pub tree_at_stays_in_range : TreeAtStaysInRange
tree_at_stays_in_range pages thread code few state is = is_in_range false pages (tree_at pages thread state) (tree_ranged pages thread state code few is)

pub tree_at_fails_by_faults : TreeAtFailsByFaults
tree_at_fails_by_faults pages thread code few state is = fails_by_faults false pages (tree_at pages thread state) (tree_ranged pages thread state code few is)
