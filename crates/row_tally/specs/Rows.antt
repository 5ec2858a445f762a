-- How tables of rows are written.
use Rattle.std.specs.Prelude.{◌≡◌, ℕ, ◌==◌, ◌&&◌, Bool, false, not, if◌then◌else◌, List, [], ◌∷◌, ◌++◌, length, filter, slice_index}
use Rattle.std.specs.List.{slice_split}
use Rattle.std.specs.Str.Lines.{lines}
use Rattle.std.specs.Str.Parse.{digits_value, without_leading_plus}

-- whether a line is a row: it is not empty, and no comment, which begins with #
abbrev pub is_row : List ℕ → Bool
is_row line = if length line == 0 then false else not (slice_index line 0 == 35)

-- the rows of a table, in order
abbrev pub rows_of : List ℕ → List (List ℕ)
rows_of table = filter is_row (lines table)

-- the fields of a row, which have one space between
abbrev pub fields_of : List ℕ → List (List ℕ)
fields_of row = slice_split (λ b. b == 32) row

-- whether a field is - alone
abbrev pub is_none : List ℕ → Bool
is_none field = length field == 1 && slice_index field 0 == 45

-- the pieces of a field, which have one comma between; a lone - is none
abbrev pub pieces_of : List ℕ → List (List ℕ)
pieces_of field = if is_none field then [] else slice_split (λ b. b == 44) field

-- the number that hexadecimal digits spell
abbrev pub number_of : List ℕ → ℕ
number_of digits = digits_value 16 (without_leading_plus digits)

-- FIRST=SECOND is a piece of these two numbers
pub record IsPair (piece : List ℕ) (pair : ℕ × ℕ) : Type 0 where
  pub first : List ℕ
  pub second : List ℕ
  pub spelled : piece ≡ first ++ 61 ∷ second
  pub are : pair ≡ (number_of first, number_of second)
