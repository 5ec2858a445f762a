-- A long instruction is its operands, and what its operation does; a move is its checks, and its loop.
use Rattle.std.proofs.Common.{◌≡◌, [], ap, ◌∙◌}
use Rattle.vax_form.specs.Tree.{tree_of, feed, instruction_tree}
use Rattle.vax_form.specs.declared.instr.Instr.{Instr}
use Rattle.vax_form.specs.declared.operation.LongOperation.{LongOperation}
use Rattle.vax_form.specs.declared.operation.Operation.TheVariants as operations
use Rattle.vax_form.specs.declared.pages.Pages.{Pages}
use Rattle.vax_form.specs.declared.row.Row.{Row}
use Rattle.vax_form.specs.declared.state.VaxState.{VaxState}
use Rattle.vax_form.specs.Row.{row_of_operation}
use Rattle.vax_meaning.specs.Evaluation.{operands_from, nothings}
use Rattle.vax_long.specs.Instructions.{long_script}
use Rattle.tie_operands.specs.Rest.{Behind, instr_of, operands_rest}
use Rattle.tie_operands.specs.declared.operands.Operands.{Operands}
use Rattle.tie_strings.specs.Bodies.{long_tree}

pub begun_with : (operands : Operands) (operation : LongOperation) (row : Row) (instr : Instr) (state : VaxState)
    → row ≡ row_of_operation (operations.Long operation) → instr_of operands ≡ instr
    → ((pages : Pages) (behind : Behind) → operands_rest pages operands behind ≡ feed pages (tree_of pages (operands_from 6 row instr nothings) state behind) [])
    → (pages : Pages)
    → operands_rest pages operands (long_tree pages operation (instr_of operands)) ≡ feed pages (instruction_tree pages (long_script operation instr) state) []
unfolding long_tree long_script
begun_with operands operation row instr state of same begins pages =
    ap (λ i. operands_rest pages operands (long_tree pages operation i)) same
    ∙ begins pages (long_tree pages operation instr)
    ∙ ap (λ r. feed pages (tree_of pages (operands_from 6 r instr nothings) state (long_tree pages operation instr)) []) of
