-- Listings worked by hand.
use Rattle.std.proofs.Common.{◌≡◌, ◌∷◌, ℕ, [], List, false, true, refl, Some}
use Rattle.std.specs.Prelude.{codes, replicate}
use Rattle.std.specs.Fmt.{digits}
use Rattle.address_map.specs.Pairs.{Pair, word_at}
use Rattle.alpha_text.specs.Names.{branch_name, memory_name, operate_name}
use Rattle.alpha_text.specs.Text.{is_single, word_text}
use Rattle.array_text.specs.Hexadecimal.{digits_within, hexadecimal}
use Rattle.image_file.specs.Pages.{pages_of}
use Rattle.image_file.specs.Values.{ImageValue, SectionValue}
use Rattle.report_text.specs.Digits.{digits_from, eight_digits, two_digits}
use Rattle.vax_form.specs.GrammarModes.{mode_of, extension_size}
use Rattle.vax_form.specs.Operation.{integer_opcodes, control_opcodes, mixed_opcodes, move_opcodes, bit_opcodes, operation_at}
use Rattle.vax_form.specs.Row.{operands_of_long, operands_of}
use Rattle.vax_form.specs.declared.instr.Instr.{Instr}
use Rattle.vax_form.specs.declared.instr.Operand.{Operand}
use Rattle.vax_form.specs.declared.instr.Operand.TheVariants.{Unused, Value}
use Rattle.vax_text.specs.Names.{low_names, byte_names, word_names, long_names, high_names, name_of}
use Rattle.vax_text.specs.Operands.{mode_text, plain, base, by_mode, general, target, specifier}
use Rattle.vax_text.specs.Text.{operands_text, walk}
use Rattle.dis_text.specs.Labels.{NameValue}
use Rattle.dis_text.specs.Listing.{listing_text}
use Rattle.dis_text.specs.Made.{asked}
use Rattle.dis_text.specs.Pieces.{gap, lines_from, pieces, unread}
use Rattle.dis_text.specs.Words.{block_text}
use Rattle.dis_text.specs.declared.pieces.Range.{Range}

-- ---- what rows say

-- an image of these sections, of which a thread starts at 200
image_of : List SectionValue → ImageValue
image_of sections = record {
  version = 1;
  threads = record { pc = 0x200; sp = 0x1200; first = replicate 14 0 } ∷ [];
  sections = sections;
  entries = [];
  pages = pages_of sections;
}

code_at : (start size : ℕ) → List ℕ → SectionValue
code_at start size stored = record { start = start; size = size; writable = false; stored = stored }

-- the listing asks an instruction alone for its place and its opcode, and a CASE for its base and limit
instr_with : (at opcode after : ℕ) → List Operand → Instr
instr_with at opcode after operands = record { at = at; opcode = opcode; count = 0; operands = operands; after = after }

instr_at : (at opcode after : ℕ) → Instr
unfolding instr_with
instr_at at opcode after = instr_with at opcode after (replicate 6 Unused)

all_addresses : Range
all_addresses = record { first = 0; last = 0xFFFFFFFF }

listing : List SectionValue → (hints : List ℕ) → List NameValue → List Pair → List Instr → Range → List ℕ
unfolding listing_text image_of
listing sections hints names pairs instrs range = listing_text (asked (image_of sections) hints names [] pairs false range) instrs sections

-- ---- a program that writes a text

-- MOVAB, MOVZBL, BEQL, CHMK, BRB, CHMK, and a text behind them
hello : listing (code_at 0x200 27 (158 ∷ 175 ∷ 12 ∷ 81 ∷ 154 ∷ 129 ∷ 80 ∷ 19 ∷ 4 ∷ 188 ∷ 2 ∷ 17 ∷ 247 ∷ 188 ∷ 1 ∷ 104 ∷ 101 ∷ 108 ∷ 108 ∷ 111 ∷ 44 ∷ 32 ∷ 86 ∷ 65 ∷ 88 ∷ 10 ∷ 0 ∷ []) ∷ []) [] [] ((0x200, 0) ∷ (0x204, 1) ∷ (0x207, 2) ∷ (0x209, 3) ∷ (0x20B, 4) ∷ (0x20D, 5) ∷ []) (instr_at 0x200 0x9E 0x204 ∷ instr_at 0x204 0x9A 0x207 ∷ instr_at 0x207 0x13 0x209 ∷ instr_at 0x209 0xBC 0x20B ∷ instr_at 0x20B 0x11 0x20D ∷ instr_at 0x20D 0xBC 0x20F ∷ []) all_addresses
    ≡ codes "; section 0 00000200 to 0000021A read-only\n; thread 0\n00000200  9E AF 0C 51               MOVAB B^20F,R1\n00000204  9A 81 50                  MOVZBL (R1)+,R0\n00000207  13 04                     BEQL 20D\n00000209  BC 02                     CHMK #2\n0000020B  11 F7                     BRB 204\n0000020D  BC 01                     CHMK #1\n0000020F  68 65 6C 6C 6F 2C 20 56   ; hello, V\n00000217  41 58 0A 00               ; AX..\n"
unfolding listing listing_text image_of code_at instr_at instr_with all_addresses pages_of pieces gap unread lines_from mode_of extension_size integer_opcodes control_opcodes mixed_opcodes move_opcodes bit_opcodes operation_at operands_of_long operands_of digits_within hexadecimal low_names byte_names word_names long_names high_names name_of mode_text plain base by_mode general target specifier operands_text walk eight_digits two_digits digits_from digits
hello = refl

-- of some addresses: from inside the second instruction to the fourth
some : listing (code_at 0x200 27 (158 ∷ 175 ∷ 12 ∷ 81 ∷ 154 ∷ 129 ∷ 80 ∷ 19 ∷ 4 ∷ 188 ∷ 2 ∷ 17 ∷ 247 ∷ 188 ∷ 1 ∷ 104 ∷ 101 ∷ 108 ∷ 108 ∷ 111 ∷ 44 ∷ 32 ∷ 86 ∷ 65 ∷ 88 ∷ 10 ∷ 0 ∷ []) ∷ []) [] [] ((0x200, 0) ∷ (0x204, 1) ∷ (0x207, 2) ∷ (0x209, 3) ∷ (0x20B, 4) ∷ (0x20D, 5) ∷ []) (instr_at 0x200 0x9E 0x204 ∷ instr_at 0x204 0x9A 0x207 ∷ instr_at 0x207 0x13 0x209 ∷ instr_at 0x209 0xBC 0x20B ∷ instr_at 0x20B 0x11 0x20D ∷ instr_at 0x20D 0xBC 0x20F ∷ []) (record { first = 0x205; last = 0x209 })
    ≡ codes "; section 0 00000200 to 0000021A read-only\n00000207  13 04                     BEQL 20D\n00000209  BC 02                     CHMK #2\n"
unfolding listing listing_text image_of code_at instr_at instr_with all_addresses pages_of pieces gap unread lines_from mode_of extension_size integer_opcodes control_opcodes mixed_opcodes move_opcodes bit_opcodes operation_at operands_of_long operands_of digits_within hexadecimal low_names byte_names word_names long_names high_names name_of mode_text plain base by_mode general target specifier operands_text walk eight_digits two_digits digits_from digits
some = refl

-- a hint and two names of one address; and without its block it is interpreted
labelled : listing (code_at 0x200 27 (158 ∷ 175 ∷ 12 ∷ 81 ∷ 154 ∷ 129 ∷ 80 ∷ 19 ∷ 4 ∷ 188 ∷ 2 ∷ 17 ∷ 247 ∷ 188 ∷ 1 ∷ 104 ∷ 101 ∷ 108 ∷ 108 ∷ 111 ∷ 44 ∷ 32 ∷ 86 ∷ 65 ∷ 88 ∷ 10 ∷ 0 ∷ []) ∷ []) (0x20D ∷ []) (record { address = 0x20D; text = codes "done" } ∷ record { address = 0x20D; text = codes "over" } ∷ []) [] (instr_at 0x200 0x9E 0x204 ∷ instr_at 0x204 0x9A 0x207 ∷ instr_at 0x207 0x13 0x209 ∷ instr_at 0x209 0xBC 0x20B ∷ instr_at 0x20B 0x11 0x20D ∷ instr_at 0x20D 0xBC 0x20F ∷ []) (record { first = 0x20D; last = 0x20D })
    ≡ codes "; section 0 00000200 to 0000021A read-only\n; hint 0\n; done\n; over\n0000020D  BC 01                     CHMK #1 ; interpreted\n"
unfolding listing listing_text image_of code_at instr_at instr_with all_addresses pages_of pieces gap unread lines_from mode_of extension_size integer_opcodes control_opcodes mixed_opcodes move_opcodes bit_opcodes operation_at operands_of_long operands_of digits_within hexadecimal low_names byte_names word_names long_names high_names name_of mode_text plain base by_mode general target specifier operands_text walk eight_digits two_digits digits_from digits
labelled = refl

-- CHMK #1 inside MOVL #1BC,R0
overlapping : listing (code_at 0x200 7 (208 ∷ 143 ∷ 188 ∷ 1 ∷ 0 ∷ 0 ∷ 80 ∷ []) ∷ []) [] [] ((0x200, 0) ∷ (0x202, 1) ∷ []) (instr_at 0x200 0xD0 0x207 ∷ instr_at 0x202 0xBC 0x204 ∷ []) all_addresses
    ≡ codes "; section 0 00000200 to 00000206 read-only\n; thread 0\n00000200  D0 8F BC 01 00 00 50      MOVL #1BC,R0\n00000202  BC 01                     CHMK #1 ; inside 00000200\n"
unfolding listing listing_text image_of code_at instr_at instr_with all_addresses pages_of pieces gap unread lines_from mode_of extension_size integer_opcodes control_opcodes mixed_opcodes move_opcodes bit_opcodes operation_at operands_of_long operands_of digits_within hexadecimal low_names byte_names word_names long_names high_names name_of mode_text plain base by_mode general target specifier operands_text walk eight_digits two_digits digits_from digits
overlapping = refl

-- CASEB R0,#0,#1 with its table
cases : listing (code_at 0x200 12 (143 ∷ 80 ∷ 0 ∷ 1 ∷ 4 ∷ 0 ∷ 6 ∷ 0 ∷ 188 ∷ 1 ∷ 188 ∷ 1 ∷ []) ∷ []) [] [] ((0x200, 0) ∷ (0x208, 1) ∷ (0x20A, 2) ∷ []) (instr_with 0x200 0x8F 0x204 (Unused ∷ Value 0 ∷ Value 1 ∷ replicate 3 Unused) ∷ instr_at 0x208 0xBC 0x20A ∷ instr_at 0x20A 0xBC 0x20C ∷ []) all_addresses
    ≡ codes "; section 0 00000200 to 0000020B read-only\n; thread 0\n00000200  8F 50 00 01               CASEB R0,#0,#1\n00000204  04 00                     .WORD 208\n00000206  06 00                     .WORD 20A\n00000208  BC 01                     CHMK #1\n0000020A  BC 01                     CHMK #1\n"
unfolding listing listing_text image_of code_at instr_at instr_with all_addresses pages_of pieces gap unread lines_from mode_of extension_size integer_opcodes control_opcodes mixed_opcodes move_opcodes bit_opcodes operation_at operands_of_long operands_of digits_within hexadecimal low_names byte_names word_names long_names high_names name_of mode_text plain base by_mode general target specifier operands_text walk eight_digits two_digits digits_from digits
cases = refl

-- sections in rising order of address, without the writable one; pages that are not stored are one line
unstored : listing (code_at 0x800 0x400 [] ∷ code_at 0x200 0x20 (0xBC ∷ 1 ∷ []) ∷ record { start = 0x600; size = 0x200; writable = true; stored = [] } ∷ []) [] [] ((0x200, 0) ∷ []) (instr_at 0x200 0xBC 0x202 ∷ []) all_addresses
    ≡ codes "; section 1 00000200 to 0000021F read-only\n; thread 0\n00000200  BC 01                     CHMK #1\n00000202  00 00 00 00 00 00 00 00   ; ........\n0000020A  00 00 00 00 00 00 00 00   ; ........\n00000212  00 00 00 00 00 00 00 00   ; ........\n0000021A  00 00 00 00 00 00         ; ......\n; section 0 00000800 to 00000BFF read-only\n; 00000800 to 00000BFF 0\n"
unfolding listing listing_text image_of code_at instr_at instr_with all_addresses pages_of pieces gap unread lines_from mode_of extension_size integer_opcodes control_opcodes mixed_opcodes move_opcodes bit_opcodes operation_at operands_of_long operands_of digits_within hexadecimal low_names byte_names word_names long_names high_names name_of mode_text plain base by_mode general target specifier operands_text walk eight_digits two_digits digits_from digits
unstored = refl

-- ---- Alpha words

-- the block of CHMK #2, behind which another begins
block : block_text (0 ∷ 0 ∷ 0 ∷ 0 ∷ 0 ∷ 0 ∷ 0 ∷ 0 ∷ 0 ∷ 0 ∷ 0x237F0002 ∷ 0x4B607635 ∷ 0x46A01415 ∷ 0x275F0000 ∷ 0x235A0205 ∷ 0x82 ∷ 0xC3E00002 ∷ 0x47FF041F ∷ 0x47FF041F ∷ 0x81 ∷ []) ((0x200, 0) ∷ (0x203, 10) ∷ (0x205, 19) ∷ []) (word_at ((0x200, 0) ∷ (0x203, 10) ∷ (0x205, 19) ∷ []) 0x203)
    ≡ codes "  0000000A  237F0002  lda $27,2($31)\n  0000000B  4B607635  zapnot $27,3,$21\n  0000000C  46A01415  bis $21,0,$21\n  0000000D  275F0000  ldah $26,0($31)\n  0000000E  235A0205  lda $26,517($26)\n  0000000F  00000082  call_pal 0x82 ; service\n  00000010  C3E00002  br $31,.+12 ; to 00000205\n  00000011  47FF041F  bis $31,$31,$31\n  00000012  47FF041F  bis $31,$31,$31\n"
unfolding branch_name memory_name operate_name is_single word_text digits_within hexadecimal eight_digits digits_from digits
block = refl

-- the last block ends with the words
last_block : block_text (0 ∷ 0 ∷ 0 ∷ 0 ∷ 0 ∷ 0 ∷ 0 ∷ 0 ∷ 0 ∷ 0 ∷ 0x237F0002 ∷ 0x4B607635 ∷ 0x46A01415 ∷ 0x275F0000 ∷ 0x235A0205 ∷ 0x82 ∷ 0xC3E00002 ∷ 0x47FF041F ∷ 0x47FF041F ∷ 0x81 ∷ []) ((0x205, 19) ∷ []) (Some 19)
    ≡ codes "  00000013  00000081  call_pal 0x81 ; look up\n"
unfolding branch_name memory_name operate_name is_single word_text digits_within hexadecimal eight_digits digits_from digits
last_block = refl
