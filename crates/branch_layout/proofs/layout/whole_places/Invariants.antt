use Rattle.std.proofs.Common.{◌≡◌, ◌+◌, ◌≤◌, ◌*◌, ◌++◌, length}
use Rattle.std.specs.Prelude.{drop}
use Rattle.branch_layout.specs.Layouts.{places, whole_sizes, words_of}
use Rattle.branch_layout.proofs.layout.whole_places.Given as goal

abbrev pub invariant-loop-address : goal.invariant-loop-address
invariant-loop-address l = record {
  within : l.address-index ≤ length l.blocks;
  pairs : l.places.items ++ places l.first (whole_sizes (drop l.address-index l.blocks)) ≡ places 0 (whole_sizes l.fn.blocks);
  first : l.first + words_of (whole_sizes (drop l.address-index l.blocks)) ≡ words_of (whole_sizes l.fn.blocks);
  low : l.first ≤ 256 * l.address-index;
}
