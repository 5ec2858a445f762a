use Rattle.std.proofs.Common.{◌≡◌, ◌≤◌, ◌++◌, length, take}
use Rattle.std.specs.Prelude.{drop}
use Rattle.branch_layout.specs.Layouts.{laid_points, laid_words, placed_sizes, words_of}
use Rattle.branch_layout.proofs.layout.code.Given as goal

abbrev pub invariant-loop-place : goal.invariant-loop-place
invariant-loop-place l = record {
  within : l.place ≤ length l.blocks;
  first : length l.words.items ≡ words_of (take l.place (placed_sizes l.small l.mapped l.blocks));
  words_are : l.words.items ++ laid_words l.small l.mapped l.map (length l.words.items) (drop l.place l.blocks) ≡ laid_words l.fn.small l.fn.mapped l.fn.map 0 l.fn.blocks;
  points_are : l.points.items ++ laid_points l.small l.mapped (length l.words.items) (drop l.place l.blocks) ≡ laid_points l.fn.small l.fn.mapped 0 l.fn.blocks;
}
