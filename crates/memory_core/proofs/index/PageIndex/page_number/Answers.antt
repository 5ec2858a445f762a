use Rattle.memory_core.specs.Places.{page_number}
use Rattle.memory_core.proofs.Indexing.{number_of_word}
use Rattle.memory_core.proofs.index.PageIndex.page_number.Goals as goal

pub returns-clause-value : goal.returns-clause-value
returns-clause-value c = number_of_word (page_number c.args.self.now c.args.page) c.checked_sub.result c.word.result c.word.ensures.value c.checked_sub.ensures
