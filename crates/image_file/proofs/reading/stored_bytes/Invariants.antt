use Rattle.std.proofs.Common.{◌≡◌, ◌≤◌, ◌+◌, ◌*◌, ◌^◌, drop}
use Rattle.image_file.specs.Rows.{stored_bytes}
use Rattle.image_file.proofs.reading.stored_bytes.Given as goal

abbrev pub invariant-loop-row : goal.invariant-loop-row
invariant-loop-row l = (l.bytes + stored_bytes (drop l.row-index l.rows) ≡ stored_bytes l.rows) × (l.bytes ≤ l.row-index * 2 ^ 32)
