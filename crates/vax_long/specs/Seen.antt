-- What is seen of a script that was run.
use Rattle.std.specs.Prelude.{Result, Ok, Err}
use Rattle.vax_form.specs.Tree.{ending, ending_outcome}
use Rattle.vax_form.specs.declared.script.End.{End}
use Rattle.vax_form.specs.declared.script.Stop.{Stop}
use Rattle.vax_form.specs.declared.script.Stop.TheVariants.{Wants, Fails}
use Rattle.vax_form.specs.declared.state.Outcome.{Outcome}
use Rattle.vax_form.specs.declared.state.Outcome.TheVariants as outcomes
use Rattle.vax_form.specs.declared.state.VaxState.{VaxState}

-- a fault shows the state before, and an end the one behind it
abbrev pub seen_of : (before after : VaxState) → Result End Stop → Outcome
seen_of before after (Ok end) = ending_outcome (ending end after)
seen_of before after (Err (Wants reference)) = outcomes.Wants reference
seen_of before after (Err (Fails exception)) = outcomes.Raises exception before
