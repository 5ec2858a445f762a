use Rattle.std.proofs.Common.{sym, ap, ◌∙◌, refl, get_or}
use Rattle.translated_file.proofs.Differences.{refused, from_begin, words_end, word_differs, word_agrees}
use Rattle.translated_file.proofs.comparing.check_words.Goals as goal

pub returns-then-tail-at : goal.returns-then-tail-at
returns-then-tail-at c =
    sym (ap refused (sym (from_begin c.args.place c.args.wanted.now c.args.tail.now) ∙ words_end c.args.place c.loop-number.number c.args.wanted.now c.args.tail.now c.if-tail-at.true c.loop-number.invariant))

pub returns-then-found-wanted : goal.returns-then-found-wanted
returns-then-found-wanted c =
    let want = get_or c.args.wanted.now c.loop-number.number 0 in
    let differs = word_differs c.args.place c.loop-number.number c.args.wanted.now c.args.tail.now c.word_at-found.result want c.loop-number-test.true refl c.if-tail-at.false c.word_at-found.ensures c.if-found-wanted.true c.loop-number.invariant in
    sym (ap refused (sym (from_begin c.args.place c.args.wanted.now c.args.tail.now) ∙ differs))

pub loop-number-preserved : goal.loop-number-preserved
loop-number-preserved c =
    let want = get_or c.args.wanted.now c.loop-number.number 0 in
    word_agrees c.args.place c.loop-number.number c.args.wanted.now c.args.tail.now c.word_at-found.result want c.loop-number-test.true refl c.if-tail-at.false c.word_at-found.ensures c.if-found-wanted.false c.loop-number.invariant
