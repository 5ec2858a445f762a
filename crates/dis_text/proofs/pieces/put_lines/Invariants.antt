use Rattle.std.proofs.Common.{◌≡◌, ◌++◌, ◌+◌, ◌-◌, ◌*◌}
use Rattle.std.specs.List.{flat_map}
use Rattle.dis_text.specs.Listing.{piece_text}
use Rattle.dis_text.specs.Made.{listed}
use Rattle.dis_text.specs.Pieces.{byte_lines, lines_from}
use Rattle.dis_text.proofs.pieces.put_lines.Given as goal

abbrev pub invariant-loop-line : goal.invariant-loop-line
invariant-loop-line l =
    l.out.items ++ flat_map (piece_text (listed l.listing)) (lines_from (l.count - l.line) (l.at + 8 * l.line) l.end)
    ≡ l.fn.out.items ++ flat_map (piece_text (listed l.listing)) (byte_lines l.at l.end)
