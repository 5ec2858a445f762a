-- Trees that are the same as an end, or as a reference.
use Rattle.std.proofs.Common.{◌≡◌, ℕ, sym, ap, subst}
use Rattle.vax_form.specs.State.{Answers}
use Rattle.vax_form.specs.Tree.{Tree, Check, Ask, Fault, Ends, Ending, Same}
use Rattle.vax_form.specs.declared.state.Reference.{Reference}

pub same_ends : (t : Tree) (e : Ending) → Same t (Ends e) → t ≡ Ends e
same_ends (Ends x) e h = ap Ends h
same_ends (Check _ _ _ _) e h = absurd h
same_ends (Ask _ _) e h = absurd h
same_ends (Fault _) e h = absurd h

pub record IsAsk (t : Tree) (r : Reference) (on : ℕ → Tree) : Type 0 where
  pub next : ℕ → Tree
  pub is : t ≡ Ask r next
  pub same : (reply : ℕ) → Answers r reply → Same (next reply) (on reply)

pub same_ask : (t : Tree) (r : Reference) (on : ℕ → Tree) → Same t (Ask r on) → IsAsk t r on
same_ask (Ask q next) r on h = record { next = next; is = ap (λ x. Ask x next) h.0; same = λ v ok. h.1 v (subst (λ x. Answers x v) (sym h.0) ok) }
same_ask (Check _ _ _ _) r on h = absurd h
same_ask (Ends _) r on h = absurd h
same_ask (Fault _) r on h = absurd h
