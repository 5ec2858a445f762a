use Rattle.vt_words.specs.Quad.{one, two, four, eight}
use Rattle.alpha_meaning.proofs.memory.bytes_of.Goals as goal

pub returns-in-Ldl-clause-count : goal.returns-in-Ldl-clause-count
returns-in-Ldl-clause-count c = four

pub returns-in-Lda-clause-count : goal.returns-in-Lda-clause-count
returns-in-Lda-clause-count c = eight

pub returns-in-Ldbu-clause-count : goal.returns-in-Ldbu-clause-count
returns-in-Ldbu-clause-count c = one

pub returns-in-Ldwu-clause-count : goal.returns-in-Ldwu-clause-count
returns-in-Ldwu-clause-count c = two
