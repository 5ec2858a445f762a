use Rattle.std.proofs.Common.{◌≡◌, ◌≤◌, ◌*◌, ◌++◌, length}
use Rattle.std.specs.Prelude.{drop}
use Rattle.branch_layout.specs.Layouts.{AreEnds, placed_sizes, places}
use Rattle.branch_layout.proofs.layout.places.Given as goal

abbrev pub invariant-loop-place : goal.invariant-loop-place
invariant-loop-place l = record {
  within : l.place ≤ length l.blocks;
  pairs : l.places.items ++ places l.first (placed_sizes l.small l.mapped (drop l.place l.blocks)) ≡ places 0 (placed_sizes l.fn.small l.fn.mapped l.fn.blocks);
  ends : AreEnds l.small l.mapped l.blocks l.place l.ends.items;
  low : l.first ≤ 256 * l.place;
}
