use Rattle.std.proofs.Common.{map, take, ℕ, List}
use Rattle.std.specs.List.{AllZip}
use denote.Ref.{Bor}
use Rattle.row_tally.specs.Rows.{IsPair}
use Rattle.row_tally.proofs.lists.pairs.Given as goal

abbrev pub invariant-loop-piece : goal.invariant-loop-piece
invariant-loop-piece l = AllZip IsPair (map (λ (piece : Bor (List ℕ)). piece.now) (take l.piece-index l.piece-items)) l.pairs.items
