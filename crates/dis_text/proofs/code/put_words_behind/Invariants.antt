use Rattle.std.proofs.Common.{◌≡◌, ◌++◌, drop}
use Rattle.dis_text.specs.Words.{lines_behind}
use Rattle.dis_text.proofs.code.put_words_behind.Given as goal

abbrev pub invariant-loop-word : goal.invariant-loop-word
invariant-loop-word l = l.out.items ++ lines_behind l.map l.number (drop l.word-index l.words) ≡ l.fn.out.items ++ lines_behind l.map l.first l.words
