use Rattle.std.proofs.Common.{map, ℕ, List, sym, ap, ◌∙◌, arith}
use Rattle.std.proofs.lemmas.List.{take_all}
use Rattle.std.proofs.lemmas.Simd.{map-map}
use denote.Ref.{Bor}
use Rattle.row_tally.specs.Rows.{number_of}
use Rattle.row_tally.proofs.lists.longwords.Goals as goal

pub returns : goal.returns
returns c =
    let numbers : List (Bor (List ℕ)) → List ℕ = map (λ (piece : Bor (List ℕ)). number_of piece.now) in
    let all = take_all c.loop-piece.piece-index c.deref-piece-items.result.now (omega (arith, c.loop-piece-test.false)) in
    c.loop-piece.invariant ∙ (ap numbers (all ∙ c.deref-piece-items.ensures.value) ∙ (sym (map-map number_of (λ (piece : Bor (List ℕ)). piece.now) _) ∙ ap (map number_of) c.in_ok-pieces.ensures))
