-- Orders either way round.
use Rattle.std.proofs.Common.{◌≡◌, Bool, true, false, if◌then◌else◌, List, [], ◌∷◌, ◌++◌, reverse, refl, sym, ap, ◌∙◌}
use Rattle.std.specs.Prelude.{map, filter}
use Rattle.std.proofs.lemmas.List.{append-nil}
use Rattle.std.proofs.lemmas.Grind.{reverse_onto}
use Rattle.memory_core.specs.declared.entry.Entry.{Entry}
use Rattle.system_model.specs.Counted.{is_counted, pick_of, order}
use Rattle.system_model.specs.Laws.{OrderTurns}

-- the picks of two histories one after the other
order-append : (first second : List Entry) → order (first ++ second) ≡ order first ++ order second
order-append [] second = refl
order-append (e ∷ first) second = counted (is_counted e) e (filter is_counted (first ++ second)) (filter is_counted first) (filter is_counted second) (order-append first second)
  where
    counted : (b : Bool) (e : Entry) (both first second : List Entry) → map pick_of both ≡ map pick_of first ++ map pick_of second
        → map pick_of (if b then e ∷ both else both) ≡ map pick_of (if b then e ∷ first else first) ++ map pick_of second
    counted true e both first second h = ap (λ picks. pick_of e ∷ picks) h
    counted false e both first second h = h

single : (b : Bool) (e : Entry) (rest : List Entry) → reverse (map pick_of rest) ++ map pick_of (if b then e ∷ [] else []) ≡ reverse (map pick_of (if b then e ∷ rest else rest))
single true e rest = sym (reverse_onto (map pick_of rest) (pick_of e) [])
single false e rest = append-nil (reverse (map pick_of rest))

pub order_turns : OrderTurns
order_turns [] = refl
order_turns (e ∷ history) =
    ap order (reverse_onto history e []) ∙ order-append (reverse history) (e ∷ [])
    ∙ ap (λ picks. picks ++ order (e ∷ [])) (order_turns history) ∙ single (is_counted e) e (filter is_counted history)
