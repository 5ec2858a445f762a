use Rattle.std.proofs.Common.{map, take, ℕ, List, sym, ap, subst, ◌∙◌, arith}
use Rattle.std.specs.List.{AllZip}
use Rattle.std.proofs.lemmas.List.{take_all, map_more}
use Rattle.std.proofs.lemmas.Slice.Zip.{all_zipped_more}
use denote.Ref.{Bor}
use Rattle.row_tally.specs.Rows.{IsPair}
use Rattle.row_tally.proofs.lists.pairs.Goals as goal

abbrev texts : List (Bor (List ℕ)) → List (List ℕ)
texts = map (λ piece. piece.now)

pub loop-piece-preserved : goal.loop-piece-preserved
loop-piece-preserved c =
    let is-piece = c.in_ok-pair.ensures in
    let more = all_zipped_more IsPair (texts (take c.loop-piece.piece-index c.deref-piece-items.result.now)) c.loop-piece.pairs.items _ c.in_ok-pair.field-0 c.loop-piece.invariant is-piece in
    let longer = map_more (λ (piece : Bor (List ℕ)). piece.now) c.deref-piece-items.result.now c.loop-piece.piece-index _ c.loop-piece-test.true in
    subst (λ pieces. AllZip IsPair pieces c.push.new.self.items) (sym longer) (subst (AllZip IsPair _) (sym {A = List (ℕ × ℕ)} c.in_ok-push.ensures.items) more)

pub returns : goal.returns
returns c =
    let all = take_all c.loop-piece.piece-index c.deref-piece-items.result.now (omega (arith, c.loop-piece-test.false)) in
    subst (λ pieces. AllZip IsPair pieces c.loop-piece.pairs.items) (ap texts (all ∙ c.deref-piece-items.ensures.value) ∙ c.in_ok-pieces.ensures) c.loop-piece.invariant
