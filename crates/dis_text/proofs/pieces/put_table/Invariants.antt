use Rattle.std.proofs.Common.{◌≡◌, ◌++◌, map}
use Rattle.std.specs.List.{flat_map, range_with_len}
use Rattle.dis_text.specs.Listing.{piece_text}
use Rattle.dis_text.specs.Made.{listed}
use Rattle.dis_text.specs.Pieces.{table_word}
use Rattle.dis_text.proofs.pieces.put_table.Given as goal

abbrev pub invariant-loop-number : goal.invariant-loop-number
invariant-loop-number l = l.out.items ≡ l.fn.out.items ++ flat_map (piece_text (listed l.listing)) (map (table_word l.listing.pages.now l.table) (range_with_len 0 l.number))
