-- popping what is left from here is popping all from the beginning
use Rattle.std.proofs.Common.{◌≡◌, ◌-◌, ◌≤◌, length, ◌+◌, ◌*◌}
use Rattle.vax_form.specs.Script.{run}
use Rattle.vax_meaning.specs.Play.{view}
use Rattle.vax_long.specs.Registers.{pop_registers}
use Rattle.vax_long.proofs.registers.pop_registers.Given as goal

abbrev pub invariant-loop-number : goal.invariant-loop-number
invariant-loop-number l = record {
  plays : run (pop_registers (l.count - l.number) l.number l.mask) (view l.cursor) ≡ run (pop_registers l.count 0 l.mask) (view l.fn.cursor);
  few : length l.fn.cursor.replies.now ≤ length l.cursor.replies.now + 2 * l.number;
}
