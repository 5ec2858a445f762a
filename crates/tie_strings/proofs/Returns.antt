-- A RET without operands wants what its body wants.
use Rattle.std.proofs.Common.{◌≡◌, ℕ, List, [], Option, Some, None, Ok, Err, refl, ap, ◌∙◌}
use Rattle.std.specs.Prelude.{IfSome}
use Rattle.vax_form.specs.Row.{row_of_operation, operands_of, operands_of_long}
use Rattle.vax_form.specs.Script.{Moment, run, then_do}
use Rattle.vax_form.specs.Targets.{operand_of}
use Rattle.vax_form.specs.Tree.{answer, behind, ends_with, instruction_tree}
use Rattle.vax_form.specs.Tree as trees
use Rattle.vax_form.specs.declared.instr.Instr.{Instr}
use Rattle.vax_form.specs.declared.instr.Operand.TheVariants.{Unused}
use Rattle.vax_form.specs.declared.operation.LongOperation.TheVariants as long
use Rattle.vax_form.specs.declared.operation.Operation.TheVariants as operations
use Rattle.vax_form.specs.declared.pages.Pages.{Pages}
use Rattle.vax_form.specs.declared.script.Stop.TheVariants.{Wants}
use Rattle.vax_form.specs.declared.state.Reference.{Reference}
use Rattle.vax_form.specs.declared.state.VaxState.{VaxState}
use Rattle.vax_form.proofs.Feeding.{answering_is_running}
use Rattle.vax_meaning.specs.Evaluation.{find, nothings, obtain, operands_from, read_found}
use Rattle.vax_meaning.specs.Operands.{locate}
use Rattle.vax_long.specs.Calls.{return_from_procedure}
use Rattle.vax_long.specs.Instructions.{long_body, long_script}

pub record HasNone (instr : Instr) : Type 0 where
  pub first : operand_of instr 0 ≡ Unused
  pub second : operand_of instr 1 ≡ Unused
  pub third : operand_of instr 2 ≡ Unused
  pub fourth : operand_of instr 3 ≡ Unused
  pub fifth : operand_of instr 4 ≡ Unused
  pub sixth : operand_of instr 5 ≡ Unused

none_evaluated : (instr : Instr) (moment : Moment) → HasNone instr → run (operands_from 6 (row_of_operation (operations.Long long.Return)) instr nothings) moment ≡ Ok (nothings, moment)
unfolding operands_from find obtain read_found locate operands_of operands_of_long
none_evaluated instr moment none =
    rw (none.first, none.second, none.third, none.fourth, none.fifth, none.sixth) refl

return_runs : (instr : Instr) (moment : Moment) → HasNone instr → run (long_script long.Return instr) moment ≡ run return_from_procedure moment
unfolding long_script long_body
return_runs instr moment none = ap (λ r. then_do r (λ values. run (long_body long.Return instr values))) (none_evaluated instr moment none)

return_answers : (instr : Instr) (state : VaxState) (pages : Pages) (replies : List ℕ) (reference : Reference) → HasNone instr
    → run return_from_procedure (record { state = state; pages = pages; replies = replies }) ≡ Err (Wants reference, [])
    → answer pages (instruction_tree pages (long_script long.Return instr) state) replies ≡ trees.Wants reference
return_answers instr state pages replies reference none wants =
    let moment : Moment = record { state = state; pages = pages; replies = replies } in
    answering_is_running _ (long_script long.Return instr) moment ends_with
    ∙ (ap (λ r. behind r ends_with) (return_runs instr moment none) ∙ ap (λ r. behind r ends_with) wants)

pub return_told : (instr : Instr) (state : VaxState) (pages : Pages) (replies : List ℕ) (told : Option Reference) → HasNone instr
    → IfSome told (λ reference. run return_from_procedure (record { state = state; pages = pages; replies = replies }) ≡ Err (Wants reference, []))
    → IfSome told (λ reference. answer pages (instruction_tree pages (long_script long.Return instr) state) replies ≡ trees.Wants reference)
return_told instr state pages replies None none wants = tt
return_told instr state pages replies (Some reference) none wants = return_answers instr state pages replies reference none wants
