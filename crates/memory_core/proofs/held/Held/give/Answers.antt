use Rattle.std.proofs.Common.{◌∙◌, ◌++◌, ◌∷◌, [], ℕ, List, ap, length, reverse}
use Rattle.std.proofs.lemmas.Bool.{eqb-true}
use Rattle.memory_core.specs.Held.{Holding}
use Rattle.memory_core.specs.Live.{wants_input}
use Rattle.memory_core.specs.Order.{gets}
use Rattle.memory_core.specs.Sound.{set_up_of}
use Rattle.memory_core.proofs.GoingOn.{given_sound}
use Rattle.memory_core.proofs.held.Held.give.Goals as goal

pub invariant_of-self : goal.invariant_of-self
invariant_of-self c =
    let m = c.self.inside in
    let wants = ap (λ (v : Holding). wants_input v.contents) c.self.view_is ∙ c.requires.read in
    let gone = c.and-self-inside.ensures ∙ ap (λ (xs : List ℕ). m.behind.bytes ++ xs) c.as_slice.ensures.value in
    let one = c.push_reserved.ensures.items ∙ ap (λ (xs : List ℕ). xs ++ c.args.byte ∷ []) c.clear.ensures.items in
    given_sound m c.self.invariant c.args.byte c.and-self-inside.result c.push_reserved.new.self gone one
    (eqb-true (gets (reverse m.history.entries)) (length (set_up_of m).input) wants)
