-- moving what is left from here is moving all from the beginning
use Rattle.std.proofs.Common.{◌≡◌, ◌-◌, ◌≤◌, length, ◌+◌, ◌*◌}
use Rattle.vax_form.specs.Script.{run}
use Rattle.vax_meaning.specs.Play.{view}
use Rattle.vax_long.specs.Strings.{move_bytes}
use Rattle.vax_long.proofs.moving.move_bytes.Given as goal

abbrev pub invariant-loop : goal.invariant-loop
invariant-loop l = record {
  plays : run (move_bytes l.down (l.count - l.counter) l.source l.target) (view l.cursor) ≡ run (move_bytes l.down l.count l.fn.from l.fn.to) (view l.fn.cursor);
  few : length l.fn.cursor.replies.now ≤ length l.cursor.replies.now + 2 * l.counter;
}
