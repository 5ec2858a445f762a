-- Further replies change nothing of what a thread reached before them.
use Rattle.std.proofs.Common.{◌≡◌, ℕ, zero, suc, List, ◌++◌, Option, Some, None, refl}
use Rattle.vax_form.specs.Tree.{Tree, Ending, Finish, Exit, Trap, Answer, Wants, Fails, Comes, answer, Life, Runs, Exited, Trapped, Retired, retires}
use Rattle.vax_form.specs.TreeLaws.{AnswersAreKept}
use Rattle.vax_form.specs.declared.pages.Pages.{Pages}
use Rattle.vax_form.specs.declared.state.VaxState.{VaxState}
use Rattle.vax_form.proofs.Trees.{more_replies}
use Rattle.vax_form.specs.After.{if_runs, one_more, after, KeepsRetired, AfterWithMore}

ending_kept : (pages : Pages) (tree : Tree) (replies more : List ℕ) (e : Ending) (left : List ℕ)
    → answer pages tree (replies ++ more) ≡ Comes e (left ++ more) → KeepsRetired (retires (answer pages tree (replies ++ more))) more (retires (Comes e left))
ending_kept pages tree replies more (Finish state) left is = rw is refl
ending_kept pages tree replies more (Exit state) left is = rw is refl
ending_kept pages tree replies more (Trap kind state) left is = rw is refl

retired_kept : (pages : Pages) (tree : Tree) (replies more : List ℕ) (a : Answer)
    → AnswersAreKept more pages tree replies a → KeepsRetired (retires (answer pages tree (replies ++ more))) more (retires a)
retired_kept pages tree replies more (Wants reference) kept = tt
retired_kept pages tree replies more (Fails exception) kept = tt
retired_kept pages tree replies more (Comes e left) kept = ending_kept pages tree replies more e left kept

goes_on : (life : Life) (more : List ℕ) (later next : Option Retired) → KeepsRetired later more next → KeepsRetired (if_runs life later) more (if_runs life next)
goes_on Runs more later next kept = kept
goes_on Exited more later next kept = tt
goes_on (Trapped kind) more later next kept = tt

one_more_kept : (tree : VaxState → Tree) (pages : Pages) (more : List ℕ) (later before : Option Retired)
    → KeepsRetired later more before → KeepsRetired (one_more tree pages later) more (one_more tree pages before)
one_more_kept tree pages more later None kept = tt
one_more_kept tree pages more later (Some before) kept =
    rw kept (goes_on before.life more _ _ (retired_kept pages (tree before.state) before.left more _ (more_replies pages (tree before.state) before.left more)))

pub after_with_more : AfterWithMore
after_with_more tree pages start zero replies more = refl
after_with_more tree pages start (suc count) replies more =
    one_more_kept tree pages more (after tree pages start count (replies ++ more)) (after tree pages start count replies) (after_with_more tree pages start count replies more)
