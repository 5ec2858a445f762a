use Rattle.std.proofs.Common.{◌≡◌, length, take}
use Rattle.address_map.specs.Tables.{page_span, tables, HasTables}
use Rattle.address_map.proofs.tables.Tables.new.Given as goal

abbrev pub invariant-loop-place : goal.invariant-loop-place
invariant-loop-place l = record {
  span : length l.upper.items ≡ page_span l.pairs;
  entered : HasTables (tables l.first l.upper.items l.lower.items) (take l.place l.pairs);
}
