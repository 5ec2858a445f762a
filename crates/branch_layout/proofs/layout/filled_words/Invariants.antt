use Rattle.branch_layout.proofs.Filled.{FilledTo}
use Rattle.branch_layout.proofs.Filling.{IsFilledUpTo}
use Rattle.branch_layout.proofs.layout.filled_words.Given as goal

abbrev pub invariant-loop-word : goal.invariant-loop-word
invariant-loop-word l =
    IsFilledUpTo l.map l.first l.fn.block l.words.items l.word-index
    × FilledTo l.map l.first l.fn.block l.words.items l.word-index
