use Rattle.std.proofs.Common.{◌≡◌, ℕ, ◌+◌, ◌-◌, ◌*◌, ◌/◌, List, ◌++◌, ap, sym, ◌∙◌}
use Rattle.std.specs.Prelude.{min}
use Rattle.std.specs.List.{flat_map}
use Rattle.std.proofs.lemmas.List.{append-nil}
use Rattle.dis_text.specs.Listing.{piece_text}
use Rattle.dis_text.specs.Made.{listed}
use Rattle.dis_text.specs.Pieces.{Piece, bytes, lines_from}
use Rattle.dis_text.proofs.Lines.{line_next, line_none, piece_done}
use Rattle.dis_text.proofs.pieces.put_lines.Goals as goal

pub loop-line-preserved : goal.loop-line-preserved
loop-line-preserved c =
    let text : Piece → List ℕ = piece_text (listed c.args.listing.now) in
    let count = (c.saturating_sub.result + 7) / 8 in
    let line = c.loop-line.line in
    let at = c.args.at + 8 * line in
    let n : c.min.result ≡ min 8 (c.args.end - at) = c.min.ensures ∙ ap (min 8) c.saturating_sub-in-loop-line.ensures in
    piece_done text (bytes at (min 8 (c.args.end - at))) (lines_from (count - line) at c.args.end) (lines_from (count - (line + 1)) (c.args.at + 8 * (line + 1)) c.args.end)
    c.loop-line.out.items _ _ (line_next count line c.args.at c.args.end c.loop-line-test.true) c.loop-line.invariant
    (c.in_ok-put_bytes.ensures ∙ ap (λ k. c.loop-line.out.items ++ text (bytes at k)) n)

pub returns : goal.returns
returns c =
    let text : Piece → List ℕ = piece_text (listed c.args.listing.now) in
    let count = (c.saturating_sub.result + 7) / 8 in
    let line = c.loop-line.line in
    sym (append-nil c.loop-line.out.items)
    ∙ ap (λ ps. c.loop-line.out.items ++ flat_map text ps) (sym (line_none count line (c.args.at + 8 * line) c.args.end c.loop-line-test.false))
    ∙ c.loop-line.invariant
