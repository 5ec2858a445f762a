use Rattle.std.proofs.Common.{List, ℕ, ◌+◌, ◌*◌, ◌++◌, ap, map, sym, ◌∙◌}
use Rattle.std.specs.List.{flat_map, range_with_len}
use Rattle.dis_text.specs.Listing.{piece_text}
use Rattle.dis_text.specs.Made.{covered_value, listed}
use Rattle.dis_text.specs.Pieces.{Piece, gap, table_word, table_words, unread}
use Rattle.dis_text.proofs.Appended.{two}
use Rattle.dis_text.proofs.Lines.{text_both}
use Rattle.dis_text.proofs.pieces.put_gap.Goals as goal

pub returns : goal.returns
unfolding gap
returns c =
    let text : Piece → List ℕ = piece_text (listed c.args.listing.now) in
    let end = c.args.covered.end in
    let words = table_words (covered_value c.args.covered) c.args.to in
    let table : ℕ → List Piece = λ n. map (table_word c.args.listing.now.pages.now end) (range_with_len 0 n) in
    let rest : ℕ → List Piece = λ n. unread c.args.stored (end + 2 * n) c.args.to in
    two c.args.out.now.items (flat_map text (table words)) (flat_map text (rest words)) c.put_table.new.out.items _
    (c.in_ok-put_table.ensures ∙ ap (λ n. c.args.out.now.items ++ flat_map text (table n)) c.words_to-words.ensures)
    (c.in_ok-put_unread.ensures ∙ ap (λ n. c.put_table.new.out.items ++ flat_map text (rest n)) c.words_to-words.ensures)
    ∙ ap (λ t. c.args.out.now.items ++ t) (sym (text_both text (table words) (rest words)))
