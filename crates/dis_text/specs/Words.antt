-- The Alpha words of an instruction's block.
use Rattle.std.specs.Prelude.{ℕ, ◌+◌, ◌==◌, if◌then◌else◌, List, [], ◌∷◌, ◌++◌, codes, drop, is_some, Option, Some, None}
use Rattle.std.specs.Option.{option_map_or}
use Rattle.std.specs.Int.{cast_unsigned, w32}
use Rattle.address_map.specs.Pairs.{Pair, address_at}
use Rattle.alpha_encode.specs.Calls.{INTERPRET, LOOK_UP, PROBE, RAISE, SERVE, SWITCH, TRAP}
use Rattle.alpha_encode.specs.declared.instr.AlphaInstr.{AlphaInstr}
use Rattle.alpha_encode.specs.declared.instr.AlphaInstr.TheVariants.{Branch, Jump, Memory, Operate, Pal}
use Rattle.alpha_encode.specs.Words.{instr_at}
use Rattle.alpha_text.specs.Text.{word_text}
use Rattle.report_text.specs.Digits.{eight_digits}
use Rattle.vax_form.specs.Grammar.{wrapped}

-- what a PALcode call is here
abbrev pub call_name : ℕ → List ℕ
call_name call =
    if call == PROBE then codes " ; probe"
    else if call == LOOK_UP then codes " ; look up"
    else if call == SERVE then codes " ; service"
    else if call == RAISE then codes " ; exception"
    else if call == TRAP then codes " ; trap"
    else if call == INTERPRET then codes " ; interpret"
    else if call == SWITCH then codes " ; switch"
    else []

abbrev pub to_text : Option ℕ → List ℕ
to_text None = []
to_text (Some address) = codes " ; to " ++ eight_digits address

-- what a call is; and of a branch to a block's first word the block's address. A branch counts words from the next one.
abbrev pub note_by : List Pair → (number : ℕ) → AlphaInstr → List ℕ
note_by pairs number (Pal call) = call_name call
note_by pairs number (Branch op ra words) = to_text (address_at pairs (wrapped (number + 1 + cast_unsigned w32 words)))
note_by pairs number (Memory op ra rb displacement) = []
note_by pairs number (Operate op ra rb rc) = []
note_by pairs number (Jump ra rb) = []

abbrev pub note_of : List Pair → (number word : ℕ) → List ℕ
note_of pairs number word = option_map_or (note_by pairs number) (instr_at word) []

abbrev pub behind_blanks : List ℕ → List ℕ
behind_blanks text = codes "  " ++ text

-- the word's number, the word, and its text, each behind two blanks
abbrev pub alpha_line : List Pair → (number word : ℕ) → List ℕ
alpha_line pairs number word =
    behind_blanks (eight_digits number) ++ behind_blanks (eight_digits word) ++ behind_blanks (word_text word) ++ note_of pairs number word ++ codes "\n"

-- the lines of words up to the next one with which a block begins; numbers are longwords
abbrev pub lines_behind : List Pair → (number : ℕ) → List ℕ → List ℕ
lines_behind pairs number [] = []
lines_behind pairs number (word ∷ words) =
    if is_some (address_at pairs number) then [] else alpha_line pairs number word ++ lines_behind pairs (wrapped (number + 1)) words

abbrev pub block_lines : List Pair → (number : ℕ) → List ℕ → List ℕ
block_lines pairs number [] = []
block_lines pairs number (word ∷ words) = alpha_line pairs number word ++ lines_behind pairs (wrapped (number + 1)) words

-- the block that begins with that word, where there is one
abbrev pub block_text : (words : List ℕ) → List Pair → (first : Option ℕ) → List ℕ
block_text words pairs None = []
block_text words pairs (Some first) = block_lines pairs first (drop first words)
