-- A tree that is the same as another.
use Rattle.std.proofs.Common.{sym, subst}
use Rattle.vax_form.specs.State.{Answers}
use Rattle.vax_form.specs.Tree.{Ask, Check, Ends, Fault, Same, Tree}
use Rattle.vax_form.specs.declared.state.Reference.{Reference}

pub same_back : (t u : Tree) → Same t u → Same u t
same_back (Check address count write t) (Check address' count' write' u) h = (sym h.0, sym h.1, sym h.2, same_back t u h.3)
same_back (Ask r on) (Ask r' on') h = (sym h.0, λ reply answers. same_back (on reply) (on' reply) (h.1 reply (subst (λ (x : Reference). Answers x reply) (sym h.0) answers)))
same_back (Fault e) (Fault e') h = sym h
same_back (Ends e) (Ends e') h = sym h
same_back _ _ h = absurd h
