use Rattle.std.proofs.Common.{◌≡◌, ◌++◌, ◌≤◌, length, map}
use Rattle.std.proofs.Math.ListN.{take}
use Rattle.program_codegen.specs.Words.{plain}
use Rattle.program_codegen.proofs.lines.push_words.Given as goal

abbrev pub invariant-loop-word : goal.invariant-loop-word
invariant-loop-word l = record {
  within : l.word-index ≤ length l.words;
  pushed : l.lines.items ≡ l.fn.lines.items ++ map plain (take l.word-index l.words);
}
