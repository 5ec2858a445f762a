-- What is seen of a script that was run is what is seen of its tree.
use Rattle.std.proofs.Common.{◌≡◌, Result, Ok, Err, sym, ap, ◌∙◌}
use Rattle.vax_form.specs.Script.{Script}
use Rattle.vax_form.specs.Tree.{answer, outcome, run_outcome, instruction_tree}
use Rattle.vax_form.specs.declared.script.End.{End}
use Rattle.vax_form.specs.declared.script.Stop.{Stop}
use Rattle.vax_form.specs.declared.script.Stop.TheVariants.{Wants, Fails}
use Rattle.vax_form.proofs.Feeding.{outcome_by_tree}
use Rattle.vax_meaning.specs.declared.cursor.Cursor.{Cursor}
use Rattle.vax_meaning.specs.Play.{Plays}
use Rattle.vax_long.specs.Seen.{seen_of}

pub seen_by_tree : (script : Script End) (old new : Cursor) (run : Result End Stop) → Plays script old run new
    → seen_of old.state new.state run ≡ outcome old.state (answer old.pages.now (instruction_tree old.pages.now script old.state) old.replies.now)
seen_by_tree script old new (Ok end) plays = ap (run_outcome old.state) (sym plays) ∙ outcome_by_tree script old.state old.pages.now old.replies.now
seen_by_tree script old new (Err (Wants reference)) plays = ap (run_outcome old.state) (sym plays) ∙ outcome_by_tree script old.state old.pages.now old.replies.now
seen_by_tree script old new (Err (Fails exception)) plays = ap (run_outcome old.state) (sym plays) ∙ outcome_by_tree script old.state old.pages.now old.replies.now
