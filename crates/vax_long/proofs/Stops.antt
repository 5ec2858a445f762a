-- A script that stops.
use Rattle.std.proofs.Common.{◌≡◌, Result, Ok, Err}
use Rattle.std.specs.Result.{IsErr, IsErrAnd}
use Rattle.vax_form.specs.Script.{Script, run}
use Rattle.vax_form.specs.declared.script.Stop.{Stop}
use Rattle.vax_meaning.specs.declared.cursor.Cursor.{Cursor}
use Rattle.vax_meaning.specs.Play.{Plays, view}

pub stops : {A : Type 0} (script : Script A) (old new : Cursor) (result : Result A Stop) (stop : Stop)
    → IsErr result → IsErrAnd result (λ e. e ≡ stop) → run script (view old) ≡ Err (stop, new.replies.now) → Plays script old result new
stops script old new (Ok x) stop is same runs = absurd same
stops script old new (Err e) stop is same runs = rw same runs
