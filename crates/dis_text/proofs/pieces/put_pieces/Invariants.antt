use Rattle.std.proofs.Common.{◌≡◌, ◌<◌, ◌^◌, ◌++◌, drop}
use Rattle.std.specs.Prelude.{filter}
use Rattle.std.specs.List.{flat_map}
use Rattle.dis_text.specs.Listing.{begins_in, end_of, piece_text}
use Rattle.dis_text.specs.Made.{covered_value, listed}
use Rattle.dis_text.specs.Pieces.{pieces}
use Rattle.dis_text.proofs.pieces.put_pieces.Given as goal

abbrev pub invariant-loop-instr : goal.invariant-loop-instr
invariant-loop-instr l = record {
  text : l.out.items ++ flat_map (piece_text (listed l.listing)) (pieces l.listing.pages.now l.stored (end_of l.section) (covered_value l.covered) (filter (begins_in l.section) (drop l.instr-index l.instrs)))
      ≡ l.fn.out.items ++ flat_map (piece_text (listed l.listing)) (pieces l.listing.pages.now l.stored (end_of l.section) (covered_value l.fn.before) (filter (begins_in l.section) l.instrs));
  low : l.covered.end < 2 ^ 33;
}
