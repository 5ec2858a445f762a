use Rattle.translated_file.proofs.Differences.{pair_agrees}
use Rattle.translated_file.proofs.comparing.check_pairs.Goals as goal

pub loop-number-preserved : goal.loop-number-preserved
loop-number-preserved c = pair_agrees c.args.place c.loop-number.number c.args.pairs.now c.args.tail.now c.in_ok-check_words.field-0 c.loop-number-test.true c.in_ok-check_words.ensures c.loop-number.invariant
