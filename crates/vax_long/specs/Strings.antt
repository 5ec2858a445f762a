-- Character strings: one reference for each byte.
-- VAX Architecture Reference Manual, "Character String Instructions"; the entry is named at each.
use Rattle.std.specs.Prelude.{ℕ, zero, suc, ◌+◌, ◌-◌, ◌%◌, ◌^◌, min, nat_le, ◌==◌, List, Bool, true, false, not, if◌then◌else◌}
use Rattle.vax_form.specs.State.{with_register}
use Rattle.vax_form.specs.Script.{Script, ◌>>=◌, ◌>>◌, pure, change, when◌then◌else◌}
use Rattle.vax_form.specs.declared.instr.Size.TheVariants.{Byte, Word, Long}
use Rattle.vax_form.specs.declared.instr.Width.TheVariants as widths
use Rattle.vax_form.specs.declared.instr.Instr.{Instr}
use Rattle.vax_form.specs.declared.script.End.{End}
use Rattle.vax_form.specs.declared.state.VaxState.{VaxState}
use Rattle.vax_meaning.specs.declared.evaluation.Evaluated.{Evaluated}
use Rattle.vax_meaning.specs.Memory.{check, read_part, write_part}
use Rattle.vax_meaning.specs.Operands.{set_register}
use Rattle.vax_meaning.specs.Evaluation.{value_of_place}
use Rattle.vax_meaning.specs.Codes.{with_codes, go_to}
use Rattle.vax_meaning.specs.Moves.{with_comparison}

-- so many bytes beyond an address
abbrev pub beyond : (address count : ℕ) → ℕ
beyond address count = (address + count) % 2 ^ 32

-- the address before or behind another
abbrev pub beside : (down : Bool) → (address : ℕ) → ℕ
beside down address = if down then (address + (2 ^ 32 - 1)) % 2 ^ 32 else (address + 1) % 2 ^ 32

-- the byte at which a string of so many is begun: its first, or its last
abbrev pub beginning : (down : Bool) → (address count : ℕ) → ℕ
beginning down address count = if down then beside true (beyond address count) else address

-- moves so many bytes, one after the other: each is read and then written
unfoldable pub move_bytes : (down : Bool) → (count from to : ℕ) → Script (Unit {0})
move_bytes down zero from to = pure tt
move_bytes down (suc count) from to = do
  byte ← read_part from 1
  write_part to 1 byte
  move_bytes down count (beside down from) (beside down to)

-- moves a string: downward where the destination is above the source
unfoldable pub move_string : (count source destination : ℕ) → Script (Unit {0})
move_string count source destination = do
  let down = not (nat_le destination source)
  move_bytes down count (beginning down source count) (beginning down destination count)

-- writes a byte so many times, upward
unfoldable pub fill_bytes : (count to byte : ℕ) → Script (Unit {0})
fill_bytes zero to byte = pure tt
fill_bytes (suc count) to byte = do
  write_part to 1 byte
  fill_bytes count (beside false to) byte

-- the registers behind a move: the bytes that were not moved, the end of the source, and the end of the destination
abbrev pub with_moved : (left source destination : ℕ) → VaxState → VaxState
with_moved left source destination state =
    with_register 5 0 (with_register 4 0 (with_register 3 destination (with_register 2 0 (with_register 1 source (with_register 0 left state)))))

-- MOVC3: all bytes of both strings are checked before the first reference
unfoldable pub move_characters : Instr → List Evaluated → Script End
move_characters instr values = do
  let count = value_of_place values 0 Word
  let source = value_of_place values 1 Long
  let destination = value_of_place values 2 Long
  check source count false
  check destination count true
  move_string count source destination
  change (with_moved 0 (beyond source count) (beyond destination count))
  change (with_codes false true false false)
  go_to instr.after

-- MOVC5: the smaller length is moved, and the rest of the destination filled; the codes compare the lengths
unfoldable pub move_characters_filled : Instr → List Evaluated → Script End
move_characters_filled instr values = do
  let length = value_of_place values 0 Word
  let source = value_of_place values 1 Long
  let fill = value_of_place values 2 Byte
  let room = value_of_place values 3 Word
  let destination = value_of_place values 4 Long
  let count = min length room
  check source count false
  check destination room true
  move_string count source destination
  fill_bytes (room - count) (beyond destination count) fill
  change (with_moved (length - count) (beyond source count) (beyond destination room))
  change (with_comparison widths.Word length room)
  go_to instr.after

-- checks a byte just before it is read
unfoldable pub fetch_byte : (address : ℕ) → Script ℕ
fetch_byte address = do
  check address 1 false
  read_part address 1

-- compares bytes until two differ or none is left, sets the codes by the last two, and gives the number of bytes left
-- with those that differ
unfoldable pub compare_bytes : (count first second : ℕ) → Script ℕ
compare_bytes zero first second = do
  change (with_codes false true false false)
  pure 0
compare_bytes (suc count) first second = do
  one ← fetch_byte first
  other ← fetch_byte second
  when one == other
      then compare_bytes count (beside false first) (beside false second)
      else (do
        change (with_comparison widths.Byte one other)
        pure (suc count))

-- CMPC3
unfoldable pub compare_characters : Instr → List Evaluated → Script End
compare_characters instr values = do
  let count = value_of_place values 0 Word
  let first = value_of_place values 1 Long
  let second = value_of_place values 2 Long
  left ← compare_bytes count first second
  set_register 0 left
  set_register 1 (beyond first (count - left))
  set_register 2 left
  set_register 3 (beyond second (count - left))
  go_to instr.after

-- LOCC stops at a byte that is the character, SKPC at one that is not
abbrev pub stops_at : (locates : Bool) → (character byte : ℕ) → Bool
stops_at locates character byte = if locates then byte == character else not (byte == character)

-- reads bytes until one stops it or none is left, and gives the number of bytes left with that one
unfoldable pub scan_bytes : (locates : Bool) → (character count address : ℕ) → Script ℕ
scan_bytes locates character zero address = pure 0
scan_bytes locates character (suc count) address = do
  byte ← fetch_byte address
  when stops_at locates character byte
      then pure (suc count)
      else scan_bytes locates character count (beside false address)

-- LOCC and SKPC
unfoldable pub scan_characters : Instr → (locates : Bool) → List Evaluated → Script End
scan_characters instr locates values = do
  let count = value_of_place values 1 Word
  let address = value_of_place values 2 Long
  left ← scan_bytes locates (value_of_place values 0 Byte) count address
  set_register 0 left
  set_register 1 (beyond address (count - left))
  change (with_codes false (left == 0) false false)
  go_to instr.after
