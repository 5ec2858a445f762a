use Rattle.std.proofs.lemmas.Result.{err_from_is_err_and}
use Rattle.translated_file.proofs.Differences.{second_refuses, third_refuses, last_decides}
use Rattle.translated_file.proofs.comparing.check_tail.Goals as goal

pub returns-in_err-check_words-2 : goal.returns-in_err-check_words-2
returns-in_err-check_words-2 c =
    let p = err_from_is_err_and c.from_residual-in_err-check_words-2.result c.from_residual-in_err-check_words-2.ensures.1 in
    rw (p.1, p.2) (second_refuses c.args.words.now c.args.pairs.now c.args.tail.now c.in_ok-check_words.field-0 c.in_err-check_words-2.field-0.0 c.in_ok-check_words.ensures c.in_err-check_words-2.ensures)

pub returns-in_err-check_words-3 : goal.returns-in_err-check_words-3
returns-in_err-check_words-3 c =
    let p = err_from_is_err_and c.from_residual-in_err-check_words-3.result c.from_residual-in_err-check_words-3.ensures.1 in
    rw (p.1, p.2) (third_refuses c.args.words.now c.args.pairs.now c.args.tail.now c.in_ok-check_words.field-0 c.in_ok-check_words-2.field-0 c.in_err-check_words-3.field-0.0 c.in_ok-check_words.ensures c.in_ok-check_words-2.ensures c.in_err-check_words-3.ensures)

pub returns : goal.returns
returns c =
    last_decides c.args.words.now c.args.pairs.now c.args.tail.now c.in_ok-check_words.field-0 c.in_ok-check_words-2.field-0 c.in_ok-check_words-3.field-0 c.check_pairs.result
    c.in_ok-check_words.ensures c.in_ok-check_words-2.ensures c.in_ok-check_words-3.ensures c.check_pairs.ensures
