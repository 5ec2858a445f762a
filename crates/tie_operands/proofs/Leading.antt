-- Evaluating operands leads to what comes behind them, as a step shows it.
use Rattle.std.proofs.Common.{List, Result, Ok, Err, refl}
use Rattle.vax_form.specs.declared.script.Stop.{Stop}
use Rattle.vax_form.specs.declared.script.Stop.TheVariants.{Wants, Fails}
use Rattle.vax_form.specs.declared.state.VaxState.{VaxState}
use Rattle.vax_meaning.specs.declared.cursor.Cursor.{Cursor}
use Rattle.vax_meaning.specs.declared.evaluation.Evaluated.{Evaluated}
use Rattle.tie_operands.specs.Rest.{Behind, rest_with, PassesOperands, LeadsTo}
use Rattle.tie_operands.specs.declared.operands.Operands.{Operands}
use Rattle.tie_operands.specs.declared.step.TieStep.TheVariants.{Want, Raised}
use Rattle.tie_operands.proofs.Whole.{shows_stop}

pub leads_to : (before : VaxState) (behind : Behind) (operands after : Operands) (old new : Cursor) (result : Result (List Evaluated) Stop)
    → PassesOperands operands old result after new → LeadsTo before behind operands old result after new
leads_to before behind operands after old new (Ok values) passes = (passes.0, passes.1 behind)
leads_to before behind operands after old new (Err (Wants reference)) passes =
    (shows_stop before (rest_with operands old behind) (Wants reference) (Want reference) refl tt ((passes behind).shown before), (passes behind).rest)
leads_to before behind operands after old new (Err (Fails exception)) passes =
    shows_stop before (rest_with operands old behind) (Fails exception) (Raised exception before) refl passes.0 (passes.1 behind before)
