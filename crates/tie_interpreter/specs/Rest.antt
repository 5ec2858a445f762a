-- The rest of the tree of an instruction behind its operands.
use Rattle.std.specs.Prelude.{ℕ, List, Result, Ok, Err}
use Rattle.vax_form.specs.Tree.{Tree, tree_of, ends_with, feed, ending, ending_outcome}
use Rattle.vax_form.specs.declared.instr.Instr.{Instr}
use Rattle.vax_form.specs.declared.operation.Operation.{Operation}
use Rattle.vax_form.specs.declared.pages.Pages.{Pages}
use Rattle.vax_form.specs.declared.script.End.{End}
use Rattle.vax_form.specs.declared.script.Stop.{Stop}
use Rattle.vax_form.specs.declared.script.Stop.TheVariants.{Wants, Fails}
use Rattle.vax_form.specs.declared.state.VaxState.{VaxState}
use Rattle.vax_meaning.specs.Instructions.{body}
use Rattle.vax_meaning.specs.declared.cursor.Cursor.{Cursor}
use Rattle.vax_meaning.specs.declared.evaluation.Evaluated.{Evaluated}
use Rattle.tie_operands.specs.Replies.{replies_of}
use Rattle.tie_operands.specs.Rest.{instr_of, rest_with, LeadsTo}
use Rattle.tie_operands.specs.Steps.{Shows, step_of}
use Rattle.tie_operands.specs.declared.operands.Operands.{Operands}
use Rattle.tie_operands.specs.declared.step.TieStep.TheVariants.{Want, Raised}
use Rattle.tie_interpreter.specs.declared.body.Body.{Body}

-- what an operation does once its operands are evaluated, to its end
unfoldable pub body_tree : Pages → Operation → Instr → (thread : ℕ) → List Evaluated → VaxState → Tree
body_tree pages operation instr thread values state = tree_of pages (body operation instr thread values) state ends_with

-- what is left of it with the replies that are kept
abbrev pub body_rest : Pages → Body → Tree
body_rest pages closing = feed pages (body_tree pages closing.operation closing.instr closing.thread closing.values closing.state) (replies_of closing.kept)

-- and with the state and the replies of a cursor
abbrev pub body_at : Body → Cursor → Tree
body_at closing cursor = feed cursor.pages.now (body_tree cursor.pages.now closing.operation closing.instr closing.thread closing.values cursor.state) cursor.replies.now

-- going through it shows its head
abbrev pub PassesBody : VaxState → Body → Cursor → Result End Stop → Cursor → Type 0
PassesBody before closing old (Ok end) new = Shows before (body_at closing old) (step_of (ending_outcome (ending end new.state)))
PassesBody before closing old (Err (Wants reference)) new = Shows before (body_at closing old) (Want reference)
PassesBody before closing old (Err (Fails exception)) new = Shows before (body_at closing old) (Raised exception before)

-- what is left of operands and of what an operation does behind them, with the state and the replies of a cursor
abbrev pub led : Operation → (thread : ℕ) → Operands → Cursor → Tree
led operation thread operands cursor = rest_with operands cursor (body_tree cursor.pages.now operation (instr_of operands) thread)

-- evaluating the operands of an operation leads to what it does
abbrev pub LeadsToBody : VaxState → Operation → (thread : ℕ) → Operands → Cursor → Result (List Evaluated) Stop → Operands → Cursor → Type 0
LeadsToBody before operation thread operands old result after new =
    LeadsTo before (body_tree old.pages.now operation (instr_of operands) thread) operands old result after new
