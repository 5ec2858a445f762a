use Rattle.std.proofs.Common.{◌≡◌, ◌≤◌, length}
use Rattle.std.proofs.Math.ListN.{take}
use Rattle.program_codegen.specs.Words.{words_of, points_from, exits_from}
use Rattle.program_codegen.proofs.lines.push_lines.Given as goal

abbrev pub invariant-loop-word : goal.invariant-loop-word
invariant-loop-word l = record {
  within : l.word ≤ length l.lines;
  words : l.block-inside.words.items ≡ words_of (take l.word l.lines);
  exits : l.block-inside.exits.items ≡ exits_from 0 (take l.word l.lines);
  points : l.block-inside.points.items ≡ points_from 0 (take l.word l.lines);
}
