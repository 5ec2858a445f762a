-- comparing what is left from here is comparing all from the beginning
use Rattle.std.proofs.Common.{◌≡◌, ◌-◌, ◌≤◌, length, ◌+◌, ◌*◌}
use Rattle.vax_form.specs.Script.{run}
use Rattle.vax_meaning.specs.Play.{view}
use Rattle.vax_long.specs.Strings.{compare_bytes}
use Rattle.vax_long.proofs.searching.compare_bytes.Given as goal

abbrev pub invariant-loop-done : goal.invariant-loop-done
invariant-loop-done l = record {
  plays : run (compare_bytes (l.count - l.done) l.place l.against) (view l.cursor) ≡ run (compare_bytes l.count l.fn.first l.fn.second) (view l.fn.cursor);
  few : length l.fn.cursor.replies.now ≤ length l.cursor.replies.now + 2 * l.done;
}
