use Rattle.std.proofs.Common.{◌≡◌, ◌+◌, ◌*◌, ◌∙◌, sym, ap, length}
use Rattle.translated_file.specs.Values.{PartsValue}
use Rattle.translated_file.specs.Spelling.{tail_words}
use Rattle.translated_file.specs.Comparing.{tail_place, length_compared}
use Rattle.translated_file.proofs.Differences.{refused, whole_part, tail_decides, tail_count}
use Rattle.translated_file.proofs.comparing.compare.Goals as goal

pub returns : goal.returns
returns c =
    let parts = c.args.parts.now in
    let words = c.args.words.now in
    let pairs : c.pairs-pairs.result.now ≡ c.args.map.now = c.pairs-pairs.ensures.pairs in
    let tail : c.deref.result.now ≡ parts.tail = c.deref.ensures.value ∙ ap (λ (p : PartsValue). p.tail) c.parts.view_is in
    let differs = c.check_tail.ensures ∙ (λ i. refused (whole_part words (pairs i) (tail i))) in
    let count : 2 + length words + 2 * length c.pairs-pairs.result.now ≡ length (tail_words words c.args.map.now) = (λ i. 2 + length words + 2 * length (pairs i)) ∙ sym (tail_count words c.args.map.now) in
    let long = c.check_length.ensures ∙ ap (λ n. length_compared (tail_place parts) (length parts.tail) (4 * n)) count in
    c.and.ensures ∙ tail_decides (tail_place parts) parts.tail (tail_words words c.args.map.now) c.check_tail.result c.check_length.result differs long
