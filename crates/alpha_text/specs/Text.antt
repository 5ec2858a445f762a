-- Alpha instructions and words as text, which the GNU assembler reads back.
use Rattle.std.specs.Prelude.{◌≡◌, ℕ, ◌<◌, ◌^◌, ℤ, pos, negsuc, suc, ◌+ℤ◌, ◌*ℤ◌, Bool, true, false, if◌then◌else◌}
use Rattle.std.specs.Prelude.{List, [], ◌++◌, codes, Option, Some, None}
use Rattle.std.specs.Fmt.{decimal, signed_decimal}
use Rattle.array_text.specs.Hexadecimal.{hexadecimal}
use Rattle.alpha_encode.specs.declared.instr.OperateOp.{OperateOp}
use Rattle.alpha_encode.specs.declared.instr.OperateOp.TheVariants as row
use Rattle.alpha_encode.specs.declared.instr.Second.{Second}
use Rattle.alpha_encode.specs.declared.instr.Second.TheVariants.{Register, Literal}
use Rattle.alpha_encode.specs.declared.instr.AlphaInstr.{AlphaInstr}
use Rattle.alpha_encode.specs.declared.instr.AlphaInstr.TheVariants.{Memory, Branch, Operate, Jump, Pal}
use Rattle.alpha_encode.specs.Words.{instr_at}
use Rattle.alpha_text.specs.Names.{branch_name, memory_name, operate_name}

-- $26
abbrev pub register_text : ℕ → List ℕ
register_text n = codes "$" ++ decimal n

abbrev pub second_text : Second → List ℕ
second_text (Register n) = register_text n
second_text (Literal n) = decimal n

-- so many bytes from the instruction itself
abbrev pub distance_text : ℤ → List ℕ
distance_text (pos n) = codes ".+" ++ decimal n
distance_text (negsuc n) = codes ".-" ++ decimal (suc n)

-- a branch counts words from the next one
abbrev pub distance_of : (words : ℤ) → ℤ
distance_of words = pos 4 *ℤ words +ℤ pos 4

-- an instruction with one operand, Rb
unfoldable pub is_single : OperateOp → Bool
is_single row.Sextb = true
is_single row.Sextw = true
is_single op = false

abbrev pub first_text : OperateOp → ℕ → List ℕ
first_text op ra = if is_single op then [] else register_text ra ++ codes ","

abbrev pub instr_text : AlphaInstr → List ℕ
instr_text (Memory op ra rb displacement) =
    memory_name op ++ codes " " ++ register_text ra ++ codes "," ++ signed_decimal displacement ++ codes "(" ++ register_text rb ++ codes ")"
instr_text (Branch op ra words) = branch_name op ++ codes " " ++ register_text ra ++ codes "," ++ distance_text (distance_of words)
instr_text (Operate op ra rb rc) =
    operate_name op ++ codes " " ++ first_text op ra ++ second_text rb ++ codes "," ++ register_text rc
instr_text (Jump ra rb) = codes "jmp " ++ register_text ra ++ codes ",(" ++ register_text rb ++ codes "),0"
instr_text (Pal number) = codes "call_pal 0x" ++ hexadecimal number

-- a word that spells no instruction is a number
abbrev pub text_where : (word : ℕ) → Option AlphaInstr → List ℕ
text_where word None = codes ".long 0x" ++ hexadecimal word
text_where word (Some instr) = instr_text instr

unfoldable pub word_text : (word : ℕ) → List ℕ
word_text word = text_where word (instr_at word)

-- two words with the same text are the same word
abbrev pub OneWordEach : Type 0
OneWordEach = (v w : ℕ) → v < 2 ^ 32 → w < 2 ^ 32 → word_text v ≡ word_text w → v ≡ w
