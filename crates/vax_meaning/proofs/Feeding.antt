-- A function that does what a script does passes what feeding its tree passes.
use Rattle.std.proofs.Common.{Result, Ok, Err}
use Rattle.vax_form.specs.Script.{Script}
use Rattle.vax_form.specs.Tree.{Fault}
use Rattle.vax_form.specs.declared.script.Stop.{Stop}
use Rattle.vax_form.specs.declared.state.Exception.TheVariants.{ReservedInstruction}
use Rattle.vax_form.proofs.Feeding.{feeding_is_running}
use Rattle.vax_meaning.specs.declared.cursor.Cursor.{Cursor}
use Rattle.vax_meaning.specs.Play.{Plays, view}
use Rattle.vax_meaning.specs.Fed.{Fed}

pub fed_of_plays : {A : Type 0} (script : Script A) (old new : Cursor) (result : Result A Stop) → Plays script old result new → Fed script old result new
fed_of_plays script old new (Ok x) plays = (
  (rw plays at (feeding_is_running _ script (view old) (λ y state. Fault ReservedInstruction))).0,
  λ rest. (rw plays at (feeding_is_running _ script (view old) rest)).1,
)
fed_of_plays script old new (Err stop) plays = λ rest. rw plays at (feeding_is_running _ script (view old) rest)
