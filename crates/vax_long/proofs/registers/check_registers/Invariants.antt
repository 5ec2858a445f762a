-- checking what is left from here is checking all from the top
use Rattle.std.proofs.Common.{◌≡◌, ◌-◌, ◌≤◌, length}
use Rattle.vax_form.specs.Script.{run}
use Rattle.vax_meaning.specs.Play.{view}
use Rattle.vax_long.specs.Registers.{check_registers}
use Rattle.vax_long.proofs.registers.check_registers.Given as goal

abbrev pub invariant-loop-done : goal.invariant-loop-done
invariant-loop-done l = record {
  plays : run (check_registers (l.number - l.done) l.mask l.next) (view l.cursor) ≡ run (check_registers l.number l.mask l.fn.top) (view l.fn.cursor);
  few : length l.fn.cursor.replies.now ≤ length l.cursor.replies.now;
}
