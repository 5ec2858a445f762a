use Rattle.std.proofs.Common.{◌≡◌, ◌++◌, take}
use Rattle.branch_layout.specs.Layouts.{shifted}
use Rattle.branch_layout.proofs.layout.append_points.Given as goal

abbrev pub invariant-loop-word : goal.invariant-loop-word
invariant-loop-word l = l.points.items ≡ l.initial.points.items ++ shifted l.first (take l.word-index l.of_block)
