-- An instruction that is gone through from its begin comes to what its tree comes to.
use Rattle.std.proofs.Common.{ℕ, Result, Ok, Err}
use Rattle.vax_form.specs.Script.{Script}
use Rattle.vax_form.specs.Tree.{instruction_tree}
use Rattle.vax_form.specs.declared.script.End.{End}
use Rattle.vax_form.specs.declared.script.Stop.{Stop}
use Rattle.vax_meaning.specs.Play.{Plays, Uses}
use Rattle.vax_meaning.specs.declared.cursor.Cursor.{Cursor}
use Rattle.tie_operands.specs.Steps.{SeenAs, step_by}
use Rattle.tie_operands.proofs.Passing.{passes}
use Rattle.tie_operands.proofs.Whole.{seen_as}

pub played : (most : ℕ) (script : Script End) (old new : Cursor) (result : Result End Stop) → Plays script old result new → Uses most old result new
    → SeenAs old.pages.now old.state (instruction_tree old.pages.now script old.state) old.replies.now (step_by old.state result new.state)
played most script old new (Ok end) plays few = seen_as old.pages.now old.state _ old.replies.now _ (passes most old.state script old new (Ok end) plays few)
played most script old new (Err stop) plays few = seen_as old.pages.now old.state _ old.replies.now _ (passes most old.state script old new (Err stop) plays few)
