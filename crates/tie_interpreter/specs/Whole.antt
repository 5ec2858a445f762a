-- For what a `Tie` stands.
use Rattle.std.specs.Prelude.{ℕ, List, false}
use Rattle.vax_form.specs.Tree.{Tree, Fault}
use Rattle.vax_form.specs.declared.pages.Pages.{Pages}
use Rattle.vax_form.specs.declared.state.Exception.{Exception}
use Rattle.vax_form.specs.declared.state.Exception.TheVariants.{ReservedInstruction, ReservedMode, AccessViolation}
use Rattle.vax_form.specs.declared.state.VaxState.{VaxState}
use Rattle.tie_operands.specs.Rest.{instr_of, operands_rest}
use Rattle.tie_operands.specs.Steps.{StandsFor}
use Rattle.tie_interpreter.specs.Rest.{body_tree, body_rest}
use Rattle.tie_interpreter.specs.declared.tie.Refusal.{Refusal}
use Rattle.tie_interpreter.specs.declared.tie.Refusal.TheVariants.{Reserved, BadMode, Past}
use Rattle.tie_interpreter.specs.declared.tie.Stage.{Stage}
use Rattle.tie_interpreter.specs.declared.tie.Stage.TheVariants.{Refused, Evaluates, Closes}
use Rattle.tie_interpreter.specs.declared.tie.Tie.{Tie}

-- the fault where there is no instruction
abbrev pub exception_of : Refusal → Exception
exception_of Reserved = ReservedInstruction
exception_of BadMode = ReservedMode
exception_of (Past address) = AccessViolation address false

abbrev pub stage_rest : Pages → (thread : ℕ) → Stage → Tree
stage_rest pages thread (Refused refusal) = Fault (exception_of refusal)
stage_rest pages thread (Evaluates operation operands) = operands_rest pages operands (body_tree pages operation (instr_of operands) thread)
stage_rest pages thread (Closes closing) = body_rest pages closing

-- the rest of the tree, with the checks that hold behind it
abbrev pub rest_of : Pages → Tie → Tree
rest_of pages tie = stage_rest pages tie.thread tie.stage

abbrev pub before_of : Tie → VaxState
before_of tie = tie.before

-- it stands for the instruction of that tree, begun in that state, with those replies made
abbrev pub Stands : Pages → Tie → VaxState → Tree → List ℕ → Type 0
Stands pages tie state tree replies = StandsFor pages (before_of tie) (rest_of pages tie) state tree replies
