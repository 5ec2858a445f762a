-- What stands in a read-only section, piece by piece, in rising order of address.
use Rattle.std.specs.Prelude.{ℕ, zero, suc, ◌+◌, ◌-◌, ◌*◌, ◌/◌, ◌==◌, nat_lt, min, max, if◌then◌else◌, List, [], ◌∷◌, ◌++◌, map, Option, Some, None, unwrap_or}
use Rattle.std.specs.List.{range_with_len}
use Rattle.vax_form.specs.Operation.{operation_at}
use Rattle.vax_form.specs.Targets.{operand_of}
use Rattle.vax_form.specs.declared.instr.Instr.{Instr}
use Rattle.vax_form.specs.declared.instr.Operand.{Operand}
use Rattle.vax_form.specs.declared.instr.Operand.TheVariants.{Value}
use Rattle.vax_form.specs.declared.operation.Operation.{Operation}
use Rattle.vax_form.specs.declared.operation.Operation.TheVariants.{Case}
use Rattle.vax_form.specs.declared.pages.Pages.{Pages}
use Rattle.flow_discovery.specs.Flow.{table_limit, table_target}
use Rattle.dis_text.specs.Bytes.{count_of}

pub data Piece : Type 0 where
  -- an instruction that was reached, and the one inside which it begins, where it does
  instruction : Instr → (inside : Option ℕ) → Piece
  -- a word of the table of a CASE, and its target
  word : (at target : ℕ) → Piece
  -- up to eight bytes that no instruction covers
  bytes : (at count : ℕ) → Piece
  -- bytes of pages that are not stored
  zeros : (at count : ℕ) → Piece

-- ---- bytes that are no code

-- lines of eight bytes, and a last one of what is left
unfoldable pub lines_from : (count at end : ℕ) → List Piece
lines_from zero at end = []
lines_from (suc n) at end = bytes at (min 8 (end - at)) ∷ lines_from n (at + 8) end

abbrev pub byte_lines : (at end : ℕ) → List Piece
byte_lines at end = lines_from ((end - at + 7) / 8) at end

abbrev pub zero_line : (at end : ℕ) → List Piece
zero_line at end = if nat_lt at end then zeros at (end - at) ∷ [] else []

-- the bytes of pages that are stored, which end at that address, and of those that aren't
unfoldable pub unread : (stored at end : ℕ) → List Piece
unread stored at end = byte_lines at (min end stored) ++ zero_line (max at stored) end

-- ---- the table of a CASE that the flow follows

abbrev pub followed_words : (base limit : Operand) → ℕ
followed_words (Value base) (Value limit) = if nat_lt limit table_limit then limit + 1 else 0
followed_words base limit = 0

abbrev pub words_by : Instr → Option Operation → ℕ
words_by instr (Some (Case width)) = followed_words (operand_of instr 1) (operand_of instr 2)
words_by instr operation = 0

-- how many words the table behind an instruction has
abbrev pub words_behind : Instr → ℕ
words_behind instr = words_by instr (operation_at instr.opcode)

abbrev pub table_word : Pages → (table number : ℕ) → Piece
table_word pages table number = word (table + 2 * number) (unwrap_or (table_target pages table number) 0)

-- ---- what the instructions so far cover

-- the address behind them, the one of them that goes so far, and how many words of a table stand there
pub record Covered : Type 0 where
  pub end : ℕ
  pub by : ℕ
  pub words : ℕ

abbrev pub end_of_instr : Instr → ℕ
end_of_instr instr = instr.at + count_of instr

-- of two that end at one address either may have a table
abbrev pub covered_by : Instr → Covered → Covered
covered_by instr c =
    if nat_lt c.end (end_of_instr instr) then record { end = end_of_instr instr; by = instr.at; words = words_behind instr }
    else if end_of_instr instr == c.end then record c { words = max c.words (words_behind instr) } else c

abbrev pub inside : Covered → Instr → Option ℕ
inside c instr = if nat_lt instr.at c.end then Some c.by else None

-- so many words of the table stand before that address
abbrev pub table_words : Covered → (to : ℕ) → ℕ
table_words c to = min c.words ((to - c.end) / 2)

-- from what is covered to that address: the table's words, and what is no code
unfoldable pub gap : Pages → (stored : ℕ) → Covered → (to : ℕ) → List Piece
gap pages stored c to =
    map (table_word pages c.end) (range_with_len 0 (table_words c to)) ++ unread stored (c.end + 2 * table_words c to) to

-- ---- a section

-- the pieces from what is covered to the section's end, by the instructions that begin in it, in rising order
unfoldable pub pieces : Pages → (stored end : ℕ) → Covered → List Instr → List Piece
pieces pages stored end c [] = gap pages stored c end
pieces pages stored end c (instr ∷ instrs) =
    gap pages stored c instr.at ++ instruction instr (inside c instr) ∷ pieces pages stored end (covered_by instr c) instrs
