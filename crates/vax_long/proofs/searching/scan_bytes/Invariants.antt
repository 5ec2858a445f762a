-- scanning what is left from here is scanning all from the beginning
use Rattle.std.proofs.Common.{◌≡◌, ◌-◌, ◌≤◌, length, ◌+◌}
use Rattle.vax_form.specs.Script.{run}
use Rattle.vax_meaning.specs.Play.{view}
use Rattle.vax_long.specs.Strings.{scan_bytes}
use Rattle.vax_long.proofs.searching.scan_bytes.Given as goal

abbrev pub invariant-loop-done : goal.invariant-loop-done
invariant-loop-done l = record {
  plays : run (scan_bytes l.locates l.character (l.count - l.done) l.place) (view l.cursor) ≡ run (scan_bytes l.locates l.character l.count l.fn.address) (view l.fn.cursor);
  few : length l.fn.cursor.replies.now ≤ length l.cursor.replies.now + l.done;
}
