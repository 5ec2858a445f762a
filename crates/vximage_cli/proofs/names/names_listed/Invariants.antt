-- What is named so far, and the line that has begun.
use Rattle.std.proofs.Common.{◌≡◌, ◌≤◌, drop, map}
use Rattle.std.specs.Prelude.{slice_range}
use Rattle.dis_text.specs.Made.{name_value}
use Rattle.vximage_cli.specs.Entries.{lines_behind}
use Rattle.vximage_cli.specs.Names.{named_from, names_listed}
use Rattle.vximage_cli.proofs.names.names_listed.Given as goal

abbrev pub invariant-loop-place : goal.invariant-loop-place
invariant-loop-place l = record {
  begun : l.begun ≤ l.place;
  named : names_listed l.bytes ≡ named_from (map name_value l.names.items) (lines_behind (slice_range l.bytes l.begun l.place) (drop l.place l.bytes));
}
