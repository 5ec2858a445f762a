-- pushing what is left from here is pushing all from the beginning
use Rattle.std.proofs.Common.{◌≡◌, ◌-◌, ◌≤◌, length, ◌+◌, ◌*◌}
use Rattle.vax_form.specs.Script.{run}
use Rattle.vax_meaning.specs.Play.{view}
use Rattle.vax_long.specs.Registers.{push_registers}
use Rattle.vax_long.proofs.registers.push_registers.Given as goal

abbrev pub invariant-loop-done : goal.invariant-loop-done
invariant-loop-done l = record {
  plays : run (push_registers (l.number - l.done) l.mask l.values) (view l.cursor) ≡ run (push_registers l.number l.mask l.fn.values) (view l.fn.cursor);
  few : length l.fn.cursor.replies.now ≤ length l.cursor.replies.now + 2 * l.done;
}
