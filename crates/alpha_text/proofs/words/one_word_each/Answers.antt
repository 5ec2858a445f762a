use Rattle.alpha_text.proofs.OneWord.{one_word}
use Rattle.alpha_text.proofs.words.one_word_each.Goals as goal

pub returns : goal.returns
returns c = one_word
