use Rattle.std.proofs.Common.{◌≡◌, ◌≤◌, length}
use Rattle.std.specs.Prelude.{drop}
use Rattle.branch_layout.specs.Ends.{all_stay}
use Rattle.branch_layout.proofs.ends.all_stay.Given as goal

abbrev pub invariant-loop-place : goal.invariant-loop-place
invariant-loop-place l = record {
  within : l.place ≤ length l.words;
  same : all_stay l.last 0 l.fn.words ≡ all_stay l.last l.place (drop l.place l.words);
}
