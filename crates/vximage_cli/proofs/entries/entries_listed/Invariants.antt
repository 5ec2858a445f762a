-- What is listed so far, and the line that has begun.
use Rattle.std.proofs.Common.{◌≡◌, ◌≤◌, drop}
use Rattle.std.specs.Prelude.{slice_range}
use Rattle.vximage_cli.specs.Entries.{entries_listed, lines_behind, listed_from}
use Rattle.vximage_cli.proofs.entries.entries_listed.Given as goal

abbrev pub invariant-loop-place : goal.invariant-loop-place
invariant-loop-place l = record {
  begun : l.begun ≤ l.place;
  listed : entries_listed l.bytes ≡ listed_from l.entries.items (lines_behind (slice_range l.bytes l.begun l.place) (drop l.place l.bytes));
}
