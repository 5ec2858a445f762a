-- An instruction is its operands, and what its operation does.
use Rattle.std.proofs.Common.{◌≡◌, ℕ, [], Option, Some, ap, ◌∙◌}
use Rattle.vax_form.specs.Tree.{tree_of, feed}
use Rattle.vax_form.specs.Tree.{instruction_tree}
use Rattle.vax_form.specs.declared.instr.Instr.{Instr}
use Rattle.vax_form.specs.declared.operation.Operation.{Operation}
use Rattle.vax_form.specs.declared.pages.Pages.{Pages}
use Rattle.vax_form.specs.declared.row.Row.{Row}
use Rattle.vax_form.specs.declared.state.VaxState.{VaxState}
use Rattle.vax_meaning.specs.Evaluation.{evaluated_row, operands_from, nothings}
use Rattle.vax_meaning.specs.Instructions.{script_where, operation_script}
use Rattle.tie_operands.specs.Rest.{Behind, instr_of, operands_rest}
use Rattle.tie_operands.specs.declared.operands.Operands.{Operands}
use Rattle.tie_interpreter.specs.Rest.{body_tree}

pub begun_with : (operands : Operands) (operation : Operation) (row : Row) (instr : Instr) (state : VaxState) (where_found : Option Operation)
    → Some operation ≡ where_found → row ≡ evaluated_row operation → instr_of operands ≡ instr
    → ((pages : Pages) (behind : Behind) → operands_rest pages operands behind ≡ feed pages (tree_of pages (operands_from 6 row instr nothings) state behind) [])
    → (pages : Pages) (thread : ℕ)
    → operands_rest pages operands (body_tree pages operation (instr_of operands) thread) ≡ feed pages (instruction_tree pages (script_where where_found instr thread) state) []
unfolding body_tree operation_script
begun_with operands operation row instr state where_found is of same begins pages thread =
    ap (λ i. operands_rest pages operands (body_tree pages operation i thread)) same
    ∙ begins pages (body_tree pages operation instr thread)
    ∙ ap (λ r. feed pages (tree_of pages (operands_from 6 r instr nothings) state (body_tree pages operation instr thread)) []) of
    ∙ ap (λ o. feed pages (instruction_tree pages (script_where o instr thread) state) []) is
