use Rattle.std.proofs.Common.{◌≡◌, map, take, ℕ, List}
use denote.Ref.{Bor}
use Rattle.row_tally.specs.Rows.{number_of}
use Rattle.row_tally.proofs.lists.longwords.Given as goal

abbrev pub invariant-loop-piece : goal.invariant-loop-piece
invariant-loop-piece l = l.longwords.items ≡ map (λ (piece : Bor (List ℕ)). number_of piece.now) (take l.piece-index l.piece-items)
