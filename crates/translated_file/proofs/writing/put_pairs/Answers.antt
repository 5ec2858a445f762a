use Rattle.std.proofs.Common.{arith}
use Rattle.std.proofs.lemmas.Grind.{common_steps}
use Rattle.translated_file.proofs.WriteLaws.{pair_fits}
use Rattle.translated_file.proofs.writing.put_pairs.Goals as goal

pub loop-pair-preserved : goal.loop-pair-preserved
loop-pair-preserved c = record {
  bytes = grind (arith, common_steps);
  fit = pair_fits c.args.pairs.now c.loop-pair.pair-index c.loop-pair-test.true c.loop-pair.invariant.fit c.in_ok-put_words.ensures.fit;
}
