use Rattle.std.proofs.Common.{◌≡◌, ◌≤◌, length}
use Rattle.std.specs.Prelude.{drop}
use Rattle.branch_layout.specs.Ends.{none_behind}
use Rattle.branch_layout.proofs.ends.none_behind.Given as goal

abbrev pub invariant-loop-i : goal.invariant-loop-i
invariant-loop-i l = record {
  within : l.i ≤ length l.points;
  same : none_behind l.last l.fn.points ≡ none_behind l.last (drop l.i l.points);
}
