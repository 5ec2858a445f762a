use Rattle.std.proofs.Common.{◌*◌, ◌++◌, ap, ◌∙◌, [], ◌∷◌, List, ℕ, append_assoc, sym}
use Rattle.memory_core.specs.Places.{quads_from}
use Rattle.memory_core.proofs.Placing.{quads_from-push}
use Rattle.memory_core.proofs.page.push_range.Goals as goal

pub loop-n-preserved : goal.loop-n-preserved
loop-n-preserved c =
    let first = 512 * c.args.range.now.first in
    c.in_ok-push.ensures.items
    ∙ ap (λ (xs : List ℕ). xs ++ c.opening_quad.result ∷ []) c.loop-n.invariant
    ∙ append_assoc c.args.quads.now.items (quads_from c.args.image.now first c.loop-n.n) (c.opening_quad.result ∷ [])
    ∙ ap (λ (v : ℕ). c.args.quads.now.items ++ (quads_from c.args.image.now first c.loop-n.n ++ v ∷ [])) c.opening_quad.ensures
    ∙ ap (λ (xs : List ℕ). c.args.quads.now.items ++ xs) (sym (quads_from-push c.args.image.now first c.loop-n.n))
