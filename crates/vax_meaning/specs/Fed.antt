-- What a function of the code does to a cursor, said by the tree of its script: for what goes on one reply at a time.
use Rattle.std.specs.Prelude.{◌≡◌, Result, Ok, Err}
use Rattle.vax_form.specs.Script.{Script}
use Rattle.vax_form.specs.Tree.{Tree, tree_of, feed, head_outcome, stop_outcome}
use Rattle.vax_form.specs.declared.script.Stop.{Stop}
use Rattle.vax_form.specs.declared.state.VaxState.{VaxState}
use Rattle.vax_meaning.specs.declared.cursor.Cursor.{Cursor}

-- it passes what feeding the script's tree passes, whatever comes behind the script; where it stops, the head of the fed
-- tree shows why
abbrev pub Fed : {A : Type 0} → Script A → Cursor → Result A Stop → Cursor → Type 0
Fed {A = A} script old (Ok x) new = (new.pages.now ≡ old.pages.now)
    × ((rest : A → VaxState → Tree) → feed old.pages.now (tree_of old.pages.now script old.state rest) old.replies.now ≡ feed old.pages.now (rest x new.state) new.replies.now)
Fed {A = A} script old (Err stop) new = (rest : A → VaxState → Tree) (before : VaxState)
    → head_outcome before (feed old.pages.now (tree_of old.pages.now script old.state rest) old.replies.now) ≡ stop_outcome before stop
