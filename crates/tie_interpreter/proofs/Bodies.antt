-- Going through a body shows the head of its tree.
use Rattle.std.proofs.Common.{Result, Ok, Err, refl}
use Rattle.vax_form.specs.Tree.{ends_with}
use Rattle.vax_form.specs.declared.script.End.{End}
use Rattle.vax_form.specs.declared.script.Stop.{Stop}
use Rattle.vax_form.specs.declared.script.Stop.TheVariants.{Wants, Fails}
use Rattle.vax_form.specs.declared.state.VaxState.{VaxState}
use Rattle.vax_meaning.specs.Fed.{Fed}
use Rattle.vax_meaning.specs.Play.{Uses}
use Rattle.vax_meaning.specs.Instructions.{body}
use Rattle.vax_meaning.specs.declared.cursor.Cursor.{Cursor}
use Rattle.tie_operands.specs.declared.step.TieStep.TheVariants.{Want, Raised}
use Rattle.tie_operands.proofs.Whole.{shows_stop}
use Rattle.tie_operands.proofs.Passing.{shows_end}
use Rattle.tie_interpreter.specs.Rest.{body_tree, body_at, PassesBody}
use Rattle.tie_interpreter.specs.declared.body.Body.{Body}

pub body_passes : (before : VaxState) (closing : Body) (old new : Cursor) (result : Result End Stop)
    → Fed (body closing.operation closing.instr closing.thread closing.values) old result new → Uses 4 old result new → PassesBody before closing old result new
unfolding body_tree
body_passes before closing old new (Ok end) fed few = shows_end before (body_at closing old) end new.state (fed.1 ends_with)
body_passes before closing old new (Err (Wants reference)) fed few = shows_stop before (body_at closing old) (Wants reference) (Want reference) refl tt (fed ends_with before)
body_passes before closing old new (Err (Fails exception)) fed few = shows_stop before (body_at closing old) (Fails exception) (Raised exception before) refl few (fed ends_with before)
