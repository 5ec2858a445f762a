use Rattle.vt_words.proofs.Extended.{products}
use Rattle.vt_words.proofs.extensions.quadword_laws.Goals as goal

pub returns-clause-products : goal.returns-clause-products
returns-clause-products c = products
