-- filling what is left from here is filling all from the beginning
use Rattle.std.proofs.Common.{◌≡◌, ◌-◌, ◌≤◌, length, ◌+◌}
use Rattle.vax_form.specs.Script.{run}
use Rattle.vax_meaning.specs.Play.{view}
use Rattle.vax_long.specs.Strings.{fill_bytes}
use Rattle.vax_long.proofs.moving.fill_bytes.Given as goal

abbrev pub invariant-loop : goal.invariant-loop
invariant-loop l = record {
  plays : run (fill_bytes (l.count - l.counter) l.target l.byte) (view l.cursor) ≡ run (fill_bytes l.count l.fn.to l.byte) (view l.fn.cursor);
  few : length l.fn.cursor.replies.now ≤ length l.cursor.replies.now + l.counter;
}
