-- Entries that a file lists: each line begins with an address, as `nm` prints them.
use Rattle.std.specs.Prelude.{◌≡◌, ℕ, ◌+◌, ◌==◌, ◌||◌, Bool, List, [], ◌∷◌, ◌++◌, Option, Some, None, length, position, take, unwrap_or, Result, Ok, Err, if◌then◌else◌, Vec}
use Rattle.std.specs.declared.alloc.Global.{Global}
use Rattle.vximage_words.specs.Numbers.{hexadecimal}
use Rattle.vximage_cli.specs.declared.entries.ListFault.{ListFault}
use Rattle.vximage_cli.specs.declared.entries.ListFault.TheVariants.{NoAddress, WantOfMemory}

-- a line feed ends a line; behind the last one there is a line only where something stands
abbrev pub LINE_FEED : ℕ
LINE_FEED = 10

abbrev pub last_line : List ℕ → List (List ℕ)
last_line [] = []
last_line (b ∷ bs) = (b ∷ bs) ∷ []

-- the lines of the bytes, of which the first has begun
abbrev pub lines_behind : (begun : List ℕ) → List ℕ → List (List ℕ)
lines_behind begun [] = last_line begun
lines_behind begun (b ∷ bs) = if b == LINE_FEED then begun ∷ lines_behind [] bs else lines_behind (begun ++ b ∷ []) bs

abbrev pub lines_of : List ℕ → List (List ℕ)
lines_of bytes = lines_behind [] bytes

-- a blank, a tab and a carriage return
abbrev pub is_blank : ℕ → Bool
is_blank b = b == 32 || b == 9 || b == 13

-- the address at the beginning of a line, up to the first blank
abbrev pub address_in : List ℕ → Option ℕ
address_in line = hexadecimal (take (unwrap_or (position is_blank line) (length line)) line)

abbrev pub on_address : Option ℕ → (none : Result (List ℕ) ℕ) → (some : ℕ → Result (List ℕ) ℕ) → Result (List ℕ) ℕ
on_address None none some = none
on_address (Some address) none some = some address

-- the addresses of lines, behind those of the lines before; or the number of the first line that has none, from 1
abbrev pub listed_from : (before : List ℕ) → (lines : List (List ℕ)) → Result (List ℕ) ℕ
listed_from before [] = Ok before
listed_from before (line ∷ lines) = on_address (address_in line) (Err (length before + 1)) (λ address. listed_from (before ++ address ∷ []) lines)

unfoldable pub entries_listed : List ℕ → Result (List ℕ) ℕ
entries_listed bytes = listed_from [] (lines_of bytes)

-- a call's answer is that, unless memory ran out
abbrev pub IsFault : ListFault → Result (List ℕ) ℕ → Type 0
IsFault (NoAddress line) listed = listed ≡ Err line
IsFault WantOfMemory listed = Unit {0}

abbrev pub ListGives : Result (Vec ℕ Global) ListFault → Result (List ℕ) ℕ → Type 0
ListGives (Ok entries) listed = listed ≡ Ok entries.items
ListGives (Err fault) listed = IsFault fault listed
