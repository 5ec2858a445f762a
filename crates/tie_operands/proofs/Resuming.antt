-- Replies that are kept, with the next one, are the replies of a cursor.
use Rattle.std.proofs.Common.{◌≡◌, ℕ, List, ◌++◌, sym}
use Rattle.vax_form.specs.Tree.{Tree, feed}
use Rattle.vax_form.specs.declared.pages.Pages.{Pages}
use Rattle.vax_form.specs.declared.state.VaxState.{VaxState}
use Rattle.vax_form.proofs.Trees.{feeding_twice}

-- a tree of a state, fed with what is kept and then with the next reply, is that tree with the replies of a cursor
pub resumed : (tree : Pages → VaxState → Tree) (pages pages' : Pages) (state state' : VaxState) (kept reply replies : List ℕ)
    → pages' ≡ pages → state' ≡ state → replies ≡ kept ++ reply
    → feed pages' (tree pages' state') replies ≡ feed pages (feed pages (tree pages state) kept) reply
resumed tree pages pages' state state' kept reply replies a b c = rw (a, b, c) (sym (feeding_twice pages (tree pages state) kept reply))
