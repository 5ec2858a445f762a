use Rattle.std.proofs.Common.{◌≡◌, drop}
use Rattle.image_file.specs.Rows.{first_overlap}
use Rattle.image_file.proofs.checks.first_overlap.Given as goal

abbrev pub invariant-loop-low : goal.invariant-loop-low
invariant-loop-low l = first_overlap l.low (drop l.low l.rows) ≡ first_overlap 0 l.rows
