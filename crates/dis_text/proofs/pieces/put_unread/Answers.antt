use Rattle.std.proofs.Common.{List, ℕ, ◌++◌, ap, sym, ◌∙◌}
use Rattle.std.specs.Prelude.{max, min}
use Rattle.std.specs.List.{flat_map}
use Rattle.dis_text.specs.Listing.{piece_text}
use Rattle.dis_text.specs.Made.{listed}
use Rattle.dis_text.specs.Pieces.{Piece, byte_lines, unread, zero_line}
use Rattle.dis_text.proofs.Appended.{two}
use Rattle.dis_text.proofs.Lines.{text_both}
use Rattle.dis_text.proofs.pieces.put_unread.Goals as goal

pub returns : goal.returns
unfolding unread
returns c =
    let text : Piece → List ℕ = piece_text (listed c.args.listing.now) in
    let first = byte_lines c.args.at (min c.args.end c.args.stored) in
    let second = zero_line (max c.args.at c.args.stored) c.args.end in
    two c.args.out.now.items (flat_map text first) (flat_map text second) c.put_lines.new.out.items _
    (c.in_ok-put_lines.ensures ∙ ap (λ e. c.args.out.now.items ++ flat_map text (byte_lines c.args.at e)) c.min.ensures)
    (c.in_ok-put_zeros.ensures ∙ ap (λ a. c.put_lines.new.out.items ++ flat_map text (zero_line a c.args.end)) c.max.ensures)
    ∙ ap (λ t. c.args.out.now.items ++ t) (sym (text_both text first second))
