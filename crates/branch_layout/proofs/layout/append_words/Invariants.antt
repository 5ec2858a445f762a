use Rattle.std.proofs.Common.{◌≡◌, ◌++◌, map, take}
use Rattle.alpha_encode.specs.Words.{word_of}
use Rattle.branch_layout.proofs.layout.append_words.Given as goal

abbrev pub invariant-loop-instr : goal.invariant-loop-instr
invariant-loop-instr l = l.words.items ≡ l.initial.words.items ++ map word_of (take l.instr-index l.instrs)
