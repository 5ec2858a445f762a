-- Instructions with strings, before their first reference.
use Rattle.std.specs.Prelude.{◌≡◌, ℕ, ◌-◌, min, not, nat_le, Bool, true, false, List, None, Result, Ok, Err}
use Rattle.vax_form.specs.Script.{Script, ◌>>◌}
use Rattle.vax_form.specs.Tree.{feed, stop_outcome}
use Rattle.vax_form.specs.declared.instr.Instr.{Instr}
use Rattle.vax_form.specs.declared.instr.Size.TheVariants.{Byte, Word, Long}
use Rattle.vax_form.specs.declared.operation.LongOperation.{LongOperation}
use Rattle.vax_form.specs.declared.script.Stop.{Stop}
use Rattle.vax_form.specs.declared.script.Stop.TheVariants.{Wants, Fails}
use Rattle.vax_form.specs.declared.state.VaxState.{VaxState}
use Rattle.vax_meaning.specs.Memory.{check}
use Rattle.vax_meaning.specs.Evaluation.{value_of_place}
use Rattle.vax_meaning.specs.declared.cursor.Cursor.{Cursor}
use Rattle.vax_meaning.specs.declared.evaluation.Evaluated.{Evaluated}
use Rattle.vax_long.specs.Strings.{beginning, beyond}
use Rattle.tie_operands.specs.Steps.{Shows, step_of}
use Rattle.tie_strings.specs.Bodies.{long_tree}
use Rattle.tie_strings.specs.Strings.{strings_tree}
use Rattle.tie_strings.specs.declared.comparing.Comparing.{Comparing}
use Rattle.tie_strings.specs.declared.comparing.Pair.TheVariants.{First}
use Rattle.tie_strings.specs.declared.moving.Moving.{Moving}
use Rattle.tie_strings.specs.declared.scanning.Scanning.{Scanning}
use Rattle.tie_strings.specs.declared.string.Strings.TheVariants.{Moves}

-- both strings are checked before the first reference
unfoldable pub check_strings : (source count destination room : ℕ) → Script (Unit {0})
check_strings source count destination room = do
  check source count false
  check destination room true

-- a move goes downward where its destination is above its source
abbrev pub goes_down : (source destination : ℕ) → Bool
goes_down source destination = not (nat_le destination source)

-- a move before its first byte: nothing is filled, and the codes are those of equal lengths
abbrev pub move_of : (count source destination after : ℕ) → Moving
move_of count source destination after = record {
  down = goes_down source destination;
  left = count;
  from = beginning (goes_down source destination) source count;
  to = beginning (goes_down source destination) destination count;
  byte = None;
  fill = record { left = 0; to = 0; byte = 0 };
  moved = record { left = 0; source = beyond source count; destination = beyond destination count; length = 0; room = 0; after = after };
}

-- the same with a fill behind it
abbrev pub filled_move_of : (length source byte room destination after : ℕ) → Moving
filled_move_of length source byte room destination after = record {
  down = goes_down source destination;
  left = min length room;
  from = beginning (goes_down source destination) source (min length room);
  to = beginning (goes_down source destination) destination (min length room);
  byte = None;
  fill = record { left = room - min length room; to = beyond destination (min length room); byte = byte };
  moved = record {
    left = length - min length room;
    source = beyond source (min length room);
    destination = beyond destination room;
    length = length;
    room = room;
    after = after;
  };
}

-- a comparison before its first byte
abbrev pub compare_of : Instr → List Evaluated → Comparing
compare_of instr values = record {
  left = value_of_place values 0 Word;
  first = value_of_place values 1 Long;
  second = value_of_place values 2 Long;
  pair = First;
  checked = false;
  compared = record {
    count = value_of_place values 0 Word;
    first = value_of_place values 1 Long;
    second = value_of_place values 2 Long;
    after = instr.after;
  };
}

-- a search before its first byte
abbrev pub scan_of : Instr → (locates : Bool) → List Evaluated → Scanning
scan_of instr locates values = record {
  left = value_of_place values 1 Word;
  address = value_of_place values 2 Long;
  stopped = false;
  checked = false;
  scanned = record {
    locates = locates;
    character = value_of_place values 0 Byte;
    count = value_of_place values 1 Word;
    address = value_of_place values 2 Long;
    after = instr.after;
  };
}

-- a stop that is a fault
abbrev pub IsFailure : Stop → Type 0
IsFailure (Wants reference) = ⊥
IsFailure (Fails exception) = Unit {0}

-- a move that is begun leads to what is left of it, or fails before its first reference
abbrev pub BeginsMove : LongOperation → Instr → List Evaluated → Cursor → Result Moving Stop → Cursor → Type 0
BeginsMove operation instr values old (Ok moving) new =
    (new.pages.now ≡ old.pages.now)
    × (feed old.pages.now (long_tree old.pages.now operation instr values old.state) old.replies.now
    ≡ feed old.pages.now (strings_tree old.pages.now (Moves moving) new.state) new.replies.now)
BeginsMove operation instr values old (Err stop) new =
    IsFailure stop × ((before : VaxState) → Shows before (feed old.pages.now (long_tree old.pages.now operation instr values old.state) old.replies.now) (step_of (stop_outcome before stop)))
