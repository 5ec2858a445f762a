-- Laws of what programs mean.
use Rattle.std.specs.Prelude.{◌≡◌, ℕ, ◌+◌, ◌-◌, ◌*◌, ◌/◌, ◌%◌, ◌^◌, ◌<◌, ◌≤◌, true, false, List, ◌++◌, option_and_then, sum_by}
use Rattle.std.specs.List.{list_all}
use Rattle.vax_form.specs.Parts.{parts}
use Rattle.vax_form.specs.declared.state.RefKind.TheVariants.{Read, Write}
use Rattle.micro_ops.specs.declared.codes.CodeSources.{CodeSources}
use Rattle.micro_ops.specs.declared.known.Known.{Known}
use Rattle.micro_ops.specs.declared.program.Micro.{Micro}
use Rattle.micro_ops.specs.Course.{Course, Ask, read_parts, write_parts}
use Rattle.micro_ops.specs.Meaning.{Left}
use Rattle.micro_ops.specs.LeftOut.{is_left_out}
use Rattle.micro_ops.specs.WordCounts.{words_of, program_words}
use Rattle.micro_ops.specs.Fits.{walk, names_low, all_keep_low}

-- how many of the bytes stand in the aligned quadword of the first
abbrev pub room_at : (address : ℕ) → ℕ
room_at address = 8 - address % 8

-- where the next quadword begins
abbrev pub next_quad : (address : ℕ) → ℕ
next_quad address = (address + room_at address) % 2 ^ 32

-- an operand within a quadword is read by one reference
abbrev pub ReadsInOne : Type 0
ReadsInOne = (address count : ℕ) (on : ℕ → Course Left) → 0 < count → count ≤ room_at address
    → read_parts (parts address count) on ≡ Ask (record { address = address; count = count; kind = Read }) (λ reply. on (reply % 2 ^ (8 * count)))

-- and one that crosses to the next by two, the lower bytes first
abbrev pub ReadsInTwo : Type 0
ReadsInTwo = (address count : ℕ) (on : ℕ → Course Left) → room_at address < count
    → read_parts (parts address count) on
    ≡ Ask (record { address = address; count = room_at address; kind = Read })
    (λ low. Ask (record { address = next_quad address; count = count - room_at address; kind = Read })
    (λ high. on (low % 2 ^ (8 * room_at address) + high % 2 ^ (8 * (count - room_at address)) * 2 ^ (8 * room_at address))))

-- the same of writing
abbrev pub WritesInOne : Type 0
WritesInOne = (address count value : ℕ) (on : Course Left) → 0 < count → count ≤ room_at address
    → write_parts (parts address count) value on ≡ Ask (record { address = address; count = count; kind = Write (value % 2 ^ (8 * count)) }) (λ reply. on)

abbrev pub WritesInTwo : Type 0
WritesInTwo = (address count value : ℕ) (on : Course Left) → room_at address < count
    → write_parts (parts address count) value on
    ≡ Ask (record { address = address; count = room_at address; kind = Write (value % 2 ^ (8 * room_at address)) })
    (λ reply. Ask (record { address = next_quad address; count = count - room_at address; kind = Write (value / 2 ^ (8 * room_at address) % 2 ^ (8 * (count - room_at address))) })
    (λ reply. on))

-- ---- programs in pieces
-- the walk over two lists joined
abbrev pub WalksJoined : Type 0
WalksJoined = (codes : CodeSources) (known : Known) (first second : List Micro)
    → walk codes known (first ++ second) ≡ option_and_then (λ behind. walk codes behind second) (walk codes known first)

-- each operation names the temporaries 0 to 5 alone
abbrev pub IsLowPiece : List Micro → Type 0
IsLowPiece piece = list_all names_low piece ≡ true

-- none of its operations is left out, whatever stands behind
abbrev pub NoneLeftOut : Type 0
NoneLeftOut = (codes : CodeSources) (operation : Micro) (behind : List Micro) → names_low operation ≡ true → is_left_out codes operation behind ≡ false

abbrev pub piece_words : List Micro → ℕ
piece_words piece = sum_by words_of piece

-- the words of lists joined
abbrev pub WordsJoined : Type 0
WordsJoined = (first second : List Micro) → piece_words (first ++ second) ≡ piece_words first + piece_words second

-- such a piece has the same words before any program
abbrev pub WordsOfPiece : Type 0
WordsOfPiece = (codes : CodeSources) (piece program : List Micro) → IsLowPiece piece
    → program_words codes (piece ++ program) ≡ piece_words piece + program_words codes program

-- and it names what has a register
abbrev pub PieceKeepsLow : Type 0
PieceKeepsLow = (codes : CodeSources) (piece program : List Micro) → IsLowPiece piece
    → all_keep_low codes (piece ++ program) ≡ all_keep_low codes program
