-- Names that a file lists: an address, perhaps a letter, and a name on each line, as `nm` prints them.
use Rattle.std.specs.Prelude.{◌≡◌, ℕ, ◌+◌, ◌==◌, ◌&&◌, not, List, [], ◌∷◌, ◌++◌, Option, Some, None, drop, length, position, take, unwrap_or, nat_lt, Result, Ok, Err, if◌then◌else◌}
use Rattle.dis_text.specs.Labels.{NameValue}
use Rattle.vximage_cli.specs.Entries.{address_in, is_blank, lines_of}
use Rattle.vximage_cli.specs.declared.entries.ListFault.{ListFault}
use Rattle.vximage_cli.specs.declared.entries.ListFault.TheVariants.{NoAddress, WantOfMemory}

-- ---- the fields of a line
abbrev pub field_end : List ℕ → ℕ
field_end line = unwrap_or (position is_blank line) (length line)

abbrev pub field : List ℕ → List ℕ
field line = take (field_end line) line

abbrev pub blanks_end : List ℕ → ℕ
blanks_end rest = unwrap_or (position (λ b. not (is_blank b)) rest) (length rest)

-- from the second field on
abbrev pub behind_field : List ℕ → List ℕ
behind_field line = drop (blanks_end (drop (field_end line) line)) (drop (field_end line) line)

-- the second field; where that is one letter and something stands behind it, the third
abbrev pub name_from : (second third : List ℕ) → List ℕ
name_from second third = if (field_end second == 1) && nat_lt 0 (length third) then field third else field second

abbrev pub name_in : List ℕ → List ℕ
name_in line = name_from (behind_field line) (behind_field (behind_field line))

-- ---- the lines
abbrev pub named : List ℕ → ℕ → NameValue
named line address = record { address = address; text = name_in line }

abbrev pub on_name : Option ℕ → (none : Result (List NameValue) ℕ) → (some : ℕ → Result (List NameValue) ℕ) → Result (List NameValue) ℕ
on_name None none some = none
on_name (Some address) none some = some address

-- the names of lines, behind those of the lines before; or the number of the first line that begins with no address, from 1
abbrev pub named_from : (before : List NameValue) → (lines : List (List ℕ)) → Result (List NameValue) ℕ
named_from before [] = Ok before
named_from before (line ∷ lines) = on_name (address_in line) (Err (length before + 1)) (λ address. named_from (before ++ named line address ∷ []) lines)

unfoldable pub names_listed : List ℕ → Result (List NameValue) ℕ
names_listed bytes = named_from [] (lines_of bytes)

-- a call's answer is that, unless memory ran out
abbrev pub IsBadLine : ListFault → Result (List NameValue) ℕ → Type 0
IsBadLine (NoAddress line) listed = listed ≡ Err line
IsBadLine WantOfMemory listed = Unit {0}
