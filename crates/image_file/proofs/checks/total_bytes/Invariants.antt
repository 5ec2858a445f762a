use Rattle.std.proofs.Common.{◌≡◌, ◌≤◌, ◌+◌, ◌*◌, ◌^◌, drop}
use Rattle.image_file.specs.Rows.{total_bytes}
use Rattle.image_file.proofs.checks.total_bytes.Given as goal

abbrev pub invariant-loop-row : goal.invariant-loop-row
invariant-loop-row l = (l.total + total_bytes (drop l.row-index l.rows) ≡ total_bytes l.rows) × (l.total ≤ l.row-index * 2 ^ 41)
