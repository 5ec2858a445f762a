use Rattle.vt_words.specs.Quad.{two}
use Rattle.loop_rows.proofs.block.measured_words.Goals as goal

pub read_words-requires-clause-count : goal.read_words-requires-clause-count
read_words-requires-clause-count c = two
