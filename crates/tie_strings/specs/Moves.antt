-- A string that is being moved.
use Rattle.std.specs.Prelude.{ℕ, ◌-◌, Bool, Option, Some, None}
use Rattle.vax_form.specs.Script.{Script, ◌>>◌, change}
use Rattle.vax_form.specs.declared.instr.Width.TheVariants.{Word}
use Rattle.vax_form.specs.declared.script.End.{End}
use Rattle.vax_meaning.specs.Codes.{go_to}
use Rattle.vax_meaning.specs.Memory.{write_part}
use Rattle.vax_meaning.specs.Moves.{with_comparison}
use Rattle.vax_long.specs.Strings.{beside, move_bytes, fill_bytes, with_moved}
use Rattle.tie_strings.specs.declared.moving.Fill.{Fill}
use Rattle.tie_strings.specs.declared.moving.Moved.{Moved}

-- a byte that was read is written, and what is left is moved
unfoldable pub move_on : Option ℕ → (down : Bool) → (left from to : ℕ) → Script (Unit {0})
move_on None down left from to = move_bytes down left from to
move_on (Some byte) down left from to = do
  write_part to 1 byte
  move_bytes down (left - 1) (beside down from) (beside down to)

-- what is left of MOVC3 or MOVC5: MOVC3 fills nothing, and its codes are those of equal lengths
unfoldable pub moving_script : Option ℕ → (down : Bool) → (left from to : ℕ) → Fill → Moved → Script End
moving_script byte down left from to fill moved = do
  move_on byte down left from to
  fill_bytes fill.left fill.to fill.byte
  change (with_moved moved.left moved.source moved.destination)
  change (with_comparison Word moved.length moved.room)
  go_to moved.after
