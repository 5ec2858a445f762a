-- Bytes of VAX instructions at 200, and their texts.
use Rattle.std.proofs.Common.{◌≡◌, ℕ, List, [], ◌∷◌, refl}
use Rattle.std.specs.Prelude.{codes}
use Rattle.vax_form.specs.GrammarModes.{mode_of, extension_size}
use Rattle.vax_form.specs.Operation.{integer_opcodes, control_opcodes, mixed_opcodes, move_opcodes, bit_opcodes, operation_at}
use Rattle.vax_form.specs.Row.{operands_of_long, operands_of}
use Rattle.array_text.specs.Hexadecimal.{digits_within, hexadecimal}
use Rattle.vax_text.specs.Names.{low_names, byte_names, word_names, long_names, high_names, name_of}
use Rattle.vax_text.specs.Operands.{mode_text, plain, base, by_mode, general, target, specifier}
use Rattle.vax_text.specs.Text.{operands_text, walk, text_of}

says : List ℕ → List ℕ
unfolding mode_of extension_size integer_opcodes control_opcodes mixed_opcodes move_opcodes bit_opcodes operation_at operands_of_long operands_of digits_within hexadecimal low_names byte_names word_names long_names high_names name_of mode_text plain base by_mode general target specifier operands_text walk
says bytes = text_of 0x200 bytes

row1 : says (144 ∷ 143 ∷ 5 ∷ 82 ∷ []) ≡ codes "MOVB I^#5,R2"
unfolding says
row1 = refl

row2 : says (208 ∷ 80 ∷ 164 ∷ 128 ∷ []) ≡ codes "MOVL R0,-80(R4)"
unfolding says
row2 = refl

row3 : says (208 ∷ 80 ∷ 212 ∷ 10 ∷ 0 ∷ []) ≡ codes "MOVL R0,@W^A(R4)"
unfolding says
row3 = refl

row4 : says (158 ∷ 175 ∷ 12 ∷ 81 ∷ []) ≡ codes "MOVAB B^20F,R1"
unfolding says
row4 = refl

row5 : says (154 ∷ 129 ∷ 80 ∷ []) ≡ codes "MOVZBL (R1)+,R0"
unfolding says
row5 = refl

row6 : says (19 ∷ 4 ∷ []) ≡ codes "BEQL 206"
unfolding says
row6 = refl

row7 : says (188 ∷ 2 ∷ []) ≡ codes "CHMK #2"
unfolding says
row7 = refl

row8 : says (17 ∷ 247 ∷ []) ≡ codes "BRB 1F9"
unfolding says
row8 = refl

row9 : says (188 ∷ 1 ∷ []) ≡ codes "CHMK #1"
unfolding says
row9 = refl

row10 : says (1 ∷ []) ≡ codes "NOP"
unfolding says
row10 = refl

row11 : says (1 ∷ []) ≡ codes "NOP"
unfolding says
row11 = refl

row12 : says (1 ∷ []) ≡ codes "NOP"
unfolding says
row12 = refl

row13 : says (1 ∷ []) ≡ codes "NOP"
unfolding says
row13 = refl

row14 : says (1 ∷ []) ≡ codes "NOP"
unfolding says
row14 = refl

row15 : says (1 ∷ []) ≡ codes "NOP"
unfolding says
row15 = refl

row16 : says (1 ∷ []) ≡ codes "NOP"
unfolding says
row16 = refl

row17 : says (1 ∷ []) ≡ codes "NOP"
unfolding says
row17 = refl

row18 : says (3 ∷ []) ≡ codes "BPT"
unfolding says
row18 = refl

row19 : says (3 ∷ []) ≡ codes "BPT"
unfolding says
row19 = refl

row20 : says (3 ∷ []) ≡ codes "BPT"
unfolding says
row20 = refl

row21 : says (3 ∷ []) ≡ codes "BPT"
unfolding says
row21 = refl

row22 : says (3 ∷ []) ≡ codes "BPT"
unfolding says
row22 = refl

row23 : says (3 ∷ []) ≡ codes "BPT"
unfolding says
row23 = refl

row24 : says (3 ∷ []) ≡ codes "BPT"
unfolding says
row24 = refl

row25 : says (3 ∷ []) ≡ codes "BPT"
unfolding says
row25 = refl

row26 : says (4 ∷ []) ≡ codes "RET"
unfolding says
row26 = refl

row27 : says (4 ∷ []) ≡ codes "RET"
unfolding says
row27 = refl

row28 : says (4 ∷ []) ≡ codes "RET"
unfolding says
row28 = refl

row29 : says (4 ∷ []) ≡ codes "RET"
unfolding says
row29 = refl

row30 : says (4 ∷ []) ≡ codes "RET"
unfolding says
row30 = refl

row31 : says (4 ∷ []) ≡ codes "RET"
unfolding says
row31 = refl

row32 : says (4 ∷ []) ≡ codes "RET"
unfolding says
row32 = refl

row33 : says (4 ∷ []) ≡ codes "RET"
unfolding says
row33 = refl

row34 : says (5 ∷ []) ≡ codes "RSB"
unfolding says
row34 = refl

row35 : says (5 ∷ []) ≡ codes "RSB"
unfolding says
row35 = refl

row36 : says (5 ∷ []) ≡ codes "RSB"
unfolding says
row36 = refl

row37 : says (5 ∷ []) ≡ codes "RSB"
unfolding says
row37 = refl

row38 : says (5 ∷ []) ≡ codes "RSB"
unfolding says
row38 = refl

row39 : says (5 ∷ []) ≡ codes "RSB"
unfolding says
row39 = refl

row40 : says (5 ∷ []) ≡ codes "RSB"
unfolding says
row40 = refl

row41 : says (5 ∷ []) ≡ codes "RSB"
unfolding says
row41 = refl

row42 : says (10 ∷ 32 ∷ 71 ∷ 172 ∷ 127 ∷ 49 ∷ 57 ∷ 89 ∷ 96 ∷ []) ≡ codes "INDEX #20,7F(AP)[R7],#31,#39,R9,(R0)"
unfolding says
row42 = refl

row43 : says (10 ∷ 108 ∷ 75 ∷ 103 ∷ 72 ∷ 155 ∷ 92 ∷ 53 ∷ 117 ∷ []) ≡ codes "INDEX (AP),(R7)[R11],@(R11)+[R8],AP,#35,-(R5)"
unfolding says
row43 = refl

row44 : says (10 ∷ 143 ∷ 154 ∷ 69 ∷ 29 ∷ 161 ∷ 143 ∷ 240 ∷ 164 ∷ 242 ∷ 30 ∷ 237 ∷ 246 ∷ 193 ∷ 249 ∷ 129 ∷ 84 ∷ 77 ∷ 236 ∷ 25 ∷ 218 ∷ 200 ∷ 150 ∷ 91 ∷ []) ≡ codes "INDEX #A11D459A,#1EF2A4F0,-7E063E0A(FP),R4,-693725E7(AP)[FP],R11"
unfolding says
row44 = refl

row45 : says (10 ∷ 74 ∷ 139 ∷ 203 ∷ 255 ∷ 127 ∷ 20 ∷ 143 ∷ 128 ∷ 0 ∷ 0 ∷ 0 ∷ 60 ∷ 252 ∷ 255 ∷ 255 ∷ 255 ∷ 255 ∷ []) ≡ codes "INDEX (R11)+[R10],7FFF(R11),#14,#80,#3C,@L^-1(AP)"
unfolding says
row45 = refl

row46 : says (10 ∷ 80 ∷ 231 ∷ 0 ∷ 128 ∷ 255 ∷ 255 ∷ 143 ∷ 255 ∷ 127 ∷ 0 ∷ 0 ∷ 224 ∷ 0 ∷ 0 ∷ 0 ∷ 128 ∷ 228 ∷ 0 ∷ 0 ∷ 0 ∷ 128 ∷ 64 ∷ 219 ∷ 0 ∷ 128 ∷ []) ≡ codes "INDEX R0,L^-8000(R7),#7FFF,-80000000(R0),-80000000(R4),@-8000(R11)[R0]"
unfolding says
row46 = refl

row47 : says (10 ∷ 71 ∷ 189 ∷ 0 ∷ 234 ∷ 0 ∷ 128 ∷ 0 ∷ 0 ∷ 133 ∷ 232 ∷ 214 ∷ 61 ∷ 79 ∷ 8 ∷ 10 ∷ 64 ∷ 232 ∷ 128 ∷ 255 ∷ 255 ∷ 255 ∷ []) ≡ codes "INDEX @0(FP)[R7],8000(R10),(R5)+,84F3DD6(R8),#A,L^-80(R8)[R0]"
unfolding says
row47 = refl

row48 : says (10 ∷ 85 ∷ 82 ∷ 90 ∷ 174 ∷ 128 ∷ 3 ∷ 198 ∷ 1 ∷ 0 ∷ []) ≡ codes "INDEX R5,R2,R10,-80(SP),#3,W^1(R6)"
unfolding says
row48 = refl

row49 : says (10 ∷ 157 ∷ 80 ∷ 20 ∷ 173 ∷ 205 ∷ 238 ∷ 0 ∷ 128 ∷ 255 ∷ 255 ∷ 74 ∷ 250 ∷ 255 ∷ 127 ∷ 255 ∷ 255 ∷ []) ≡ codes "INDEX @(FP)+,R0,#14,-33(FP),L^-8000(SP),@-8001(R10)[R10]"
unfolding says
row49 = refl

row50 : says (16 ∷ 0 ∷ []) ≡ codes "BSBB 202"
unfolding says
row50 = refl

row51 : says (16 ∷ 64 ∷ []) ≡ codes "BSBB 242"
unfolding says
row51 = refl

row52 : says (16 ∷ 63 ∷ []) ≡ codes "BSBB 241"
unfolding says
row52 = refl

row53 : says (16 ∷ 0 ∷ []) ≡ codes "BSBB 202"
unfolding says
row53 = refl

row54 : says (16 ∷ 1 ∷ []) ≡ codes "BSBB 203"
unfolding says
row54 = refl

row55 : says (16 ∷ 1 ∷ []) ≡ codes "BSBB 203"
unfolding says
row55 = refl

row56 : says (16 ∷ 64 ∷ []) ≡ codes "BSBB 242"
unfolding says
row56 = refl

row57 : says (16 ∷ 5 ∷ []) ≡ codes "BSBB 207"
unfolding says
row57 = refl

row58 : says (17 ∷ 255 ∷ []) ≡ codes "BRB 201"
unfolding says
row58 = refl

row59 : says (17 ∷ 5 ∷ []) ≡ codes "BRB 207"
unfolding says
row59 = refl

row60 : says (17 ∷ 52 ∷ []) ≡ codes "BRB 236"
unfolding says
row60 = refl

row61 : says (17 ∷ 0 ∷ []) ≡ codes "BRB 202"
unfolding says
row61 = refl

row62 : says (17 ∷ 63 ∷ []) ≡ codes "BRB 241"
unfolding says
row62 = refl

row63 : says (17 ∷ 255 ∷ []) ≡ codes "BRB 201"
unfolding says
row63 = refl

row64 : says (17 ∷ 5 ∷ []) ≡ codes "BRB 207"
unfolding says
row64 = refl

row65 : says (17 ∷ 211 ∷ []) ≡ codes "BRB 1D5"
unfolding says
row65 = refl

row66 : says (18 ∷ 52 ∷ []) ≡ codes "BNEQ 236"
unfolding says
row66 = refl

row67 : says (18 ∷ 128 ∷ []) ≡ codes "BNEQ 182"
unfolding says
row67 = refl

row68 : says (18 ∷ 127 ∷ []) ≡ codes "BNEQ 281"
unfolding says
row68 = refl

row69 : says (18 ∷ 63 ∷ []) ≡ codes "BNEQ 241"
unfolding says
row69 = refl

row70 : says (18 ∷ 0 ∷ []) ≡ codes "BNEQ 202"
unfolding says
row70 = refl

row71 : says (18 ∷ 128 ∷ []) ≡ codes "BNEQ 182"
unfolding says
row71 = refl

row72 : says (18 ∷ 63 ∷ []) ≡ codes "BNEQ 241"
unfolding says
row72 = refl

row73 : says (18 ∷ 1 ∷ []) ≡ codes "BNEQ 203"
unfolding says
row73 = refl

row74 : says (19 ∷ 0 ∷ []) ≡ codes "BEQL 202"
unfolding says
row74 = refl

row75 : says (19 ∷ 64 ∷ []) ≡ codes "BEQL 242"
unfolding says
row75 = refl

row76 : says (19 ∷ 255 ∷ []) ≡ codes "BEQL 201"
unfolding says
row76 = refl

row77 : says (19 ∷ 127 ∷ []) ≡ codes "BEQL 281"
unfolding says
row77 = refl

row78 : says (19 ∷ 128 ∷ []) ≡ codes "BEQL 182"
unfolding says
row78 = refl

row79 : says (19 ∷ 64 ∷ []) ≡ codes "BEQL 242"
unfolding says
row79 = refl

row80 : says (19 ∷ 5 ∷ []) ≡ codes "BEQL 207"
unfolding says
row80 = refl

row81 : says (19 ∷ 127 ∷ []) ≡ codes "BEQL 281"
unfolding says
row81 = refl

row82 : says (20 ∷ 255 ∷ []) ≡ codes "BGTR 201"
unfolding says
row82 = refl

row83 : says (20 ∷ 5 ∷ []) ≡ codes "BGTR 207"
unfolding says
row83 = refl

row84 : says (20 ∷ 128 ∷ []) ≡ codes "BGTR 182"
unfolding says
row84 = refl

row85 : says (20 ∷ 64 ∷ []) ≡ codes "BGTR 242"
unfolding says
row85 = refl

row86 : says (20 ∷ 1 ∷ []) ≡ codes "BGTR 203"
unfolding says
row86 = refl

row87 : says (20 ∷ 128 ∷ []) ≡ codes "BGTR 182"
unfolding says
row87 = refl

row88 : says (20 ∷ 52 ∷ []) ≡ codes "BGTR 236"
unfolding says
row88 = refl

row89 : says (20 ∷ 0 ∷ []) ≡ codes "BGTR 202"
unfolding says
row89 = refl

row90 : says (21 ∷ 255 ∷ []) ≡ codes "BLEQ 201"
unfolding says
row90 = refl

row91 : says (21 ∷ 52 ∷ []) ≡ codes "BLEQ 236"
unfolding says
row91 = refl

row92 : says (21 ∷ 1 ∷ []) ≡ codes "BLEQ 203"
unfolding says
row92 = refl

row93 : says (21 ∷ 0 ∷ []) ≡ codes "BLEQ 202"
unfolding says
row93 = refl

row94 : says (21 ∷ 5 ∷ []) ≡ codes "BLEQ 207"
unfolding says
row94 = refl

row95 : says (21 ∷ 5 ∷ []) ≡ codes "BLEQ 207"
unfolding says
row95 = refl

row96 : says (21 ∷ 52 ∷ []) ≡ codes "BLEQ 236"
unfolding says
row96 = refl

row97 : says (21 ∷ 64 ∷ []) ≡ codes "BLEQ 242"
unfolding says
row97 = refl

row98 : says (22 ∷ 232 ∷ 128 ∷ 0 ∷ 0 ∷ 0 ∷ []) ≡ codes "JSB L^80(R8)"
unfolding says
row98 = refl

row99 : says (22 ∷ 143 ∷ 1 ∷ []) ≡ codes "JSB I^#1"
unfolding says
row99 = refl

row100 : says (22 ∷ 212 ∷ 0 ∷ 128 ∷ []) ≡ codes "JSB @-8000(R4)"
unfolding says
row100 = refl

row101 : says (22 ∷ 143 ∷ 1 ∷ []) ≡ codes "JSB I^#1"
unfolding says
row101 = refl

row102 : says (22 ∷ 196 ∷ 255 ∷ 255 ∷ []) ≡ codes "JSB W^-1(R4)"
unfolding says
row102 = refl

row103 : says (22 ∷ 252 ∷ 0 ∷ 128 ∷ 0 ∷ 0 ∷ []) ≡ codes "JSB @8000(AP)"
unfolding says
row103 = refl

row104 : says (22 ∷ 120 ∷ []) ≡ codes "JSB -(R8)"
unfolding says
row104 = refl

row105 : says (22 ∷ 227 ∷ 128 ∷ 255 ∷ 255 ∷ 255 ∷ []) ≡ codes "JSB L^-80(R3)"
unfolding says
row105 = refl

row106 : says (23 ∷ 143 ∷ 0 ∷ []) ≡ codes "JMP I^#0"
unfolding says
row106 = refl

row107 : says (23 ∷ 98 ∷ []) ≡ codes "JMP (R2)"
unfolding says
row107 = refl

row108 : says (23 ∷ 151 ∷ []) ≡ codes "JMP @(R7)+"
unfolding says
row108 = refl

row109 : says (23 ∷ 66 ∷ 126 ∷ []) ≡ codes "JMP -(SP)[R2]"
unfolding says
row109 = refl

row110 : says (23 ∷ 131 ∷ []) ≡ codes "JMP (R3)+"
unfolding says
row110 = refl

row111 : says (23 ∷ 168 ∷ 255 ∷ []) ≡ codes "JMP -1(R8)"
unfolding says
row111 = refl

row112 : says (23 ∷ 170 ∷ 0 ∷ []) ≡ codes "JMP 0(R10)"
unfolding says
row112 = refl

row113 : says (23 ∷ 250 ∷ 127 ∷ 255 ∷ 255 ∷ 255 ∷ []) ≡ codes "JMP @L^-81(R10)"
unfolding says
row113 = refl

row114 : says (24 ∷ 128 ∷ []) ≡ codes "BGEQ 182"
unfolding says
row114 = refl

row115 : says (24 ∷ 1 ∷ []) ≡ codes "BGEQ 203"
unfolding says
row115 = refl

row116 : says (24 ∷ 127 ∷ []) ≡ codes "BGEQ 281"
unfolding says
row116 = refl

row117 : says (24 ∷ 255 ∷ []) ≡ codes "BGEQ 201"
unfolding says
row117 = refl

row118 : says (24 ∷ 255 ∷ []) ≡ codes "BGEQ 201"
unfolding says
row118 = refl

row119 : says (24 ∷ 64 ∷ []) ≡ codes "BGEQ 242"
unfolding says
row119 = refl

row120 : says (24 ∷ 255 ∷ []) ≡ codes "BGEQ 201"
unfolding says
row120 = refl

row121 : says (24 ∷ 52 ∷ []) ≡ codes "BGEQ 236"
unfolding says
row121 = refl

row122 : says (25 ∷ 222 ∷ []) ≡ codes "BLSS 1E0"
unfolding says
row122 = refl

row123 : says (25 ∷ 0 ∷ []) ≡ codes "BLSS 202"
unfolding says
row123 = refl

row124 : says (25 ∷ 64 ∷ []) ≡ codes "BLSS 242"
unfolding says
row124 = refl

row125 : says (25 ∷ 52 ∷ []) ≡ codes "BLSS 236"
unfolding says
row125 = refl

row126 : says (25 ∷ 64 ∷ []) ≡ codes "BLSS 242"
unfolding says
row126 = refl

row127 : says (25 ∷ 63 ∷ []) ≡ codes "BLSS 241"
unfolding says
row127 = refl

row128 : says (25 ∷ 1 ∷ []) ≡ codes "BLSS 203"
unfolding says
row128 = refl

row129 : says (25 ∷ 64 ∷ []) ≡ codes "BLSS 242"
unfolding says
row129 = refl

row130 : says (26 ∷ 255 ∷ []) ≡ codes "BGTRU 201"
unfolding says
row130 = refl

row131 : says (26 ∷ 0 ∷ []) ≡ codes "BGTRU 202"
unfolding says
row131 = refl

row132 : says (26 ∷ 0 ∷ []) ≡ codes "BGTRU 202"
unfolding says
row132 = refl

row133 : says (26 ∷ 63 ∷ []) ≡ codes "BGTRU 241"
unfolding says
row133 = refl

row134 : says (26 ∷ 64 ∷ []) ≡ codes "BGTRU 242"
unfolding says
row134 = refl

row135 : says (26 ∷ 127 ∷ []) ≡ codes "BGTRU 281"
unfolding says
row135 = refl

row136 : says (26 ∷ 127 ∷ []) ≡ codes "BGTRU 281"
unfolding says
row136 = refl

row137 : says (26 ∷ 255 ∷ []) ≡ codes "BGTRU 201"
unfolding says
row137 = refl

row138 : says (27 ∷ 64 ∷ []) ≡ codes "BLEQU 242"
unfolding says
row138 = refl

row139 : says (27 ∷ 127 ∷ []) ≡ codes "BLEQU 281"
unfolding says
row139 = refl

row140 : says (27 ∷ 52 ∷ []) ≡ codes "BLEQU 236"
unfolding says
row140 = refl

row141 : says (27 ∷ 255 ∷ []) ≡ codes "BLEQU 201"
unfolding says
row141 = refl

row142 : says (27 ∷ 255 ∷ []) ≡ codes "BLEQU 201"
unfolding says
row142 = refl

row143 : says (27 ∷ 63 ∷ []) ≡ codes "BLEQU 241"
unfolding says
row143 = refl

row144 : says (27 ∷ 0 ∷ []) ≡ codes "BLEQU 202"
unfolding says
row144 = refl

row145 : says (27 ∷ 63 ∷ []) ≡ codes "BLEQU 241"
unfolding says
row145 = refl

row146 : says (28 ∷ 1 ∷ []) ≡ codes "BVC 203"
unfolding says
row146 = refl

row147 : says (28 ∷ 52 ∷ []) ≡ codes "BVC 236"
unfolding says
row147 = refl

row148 : says (28 ∷ 1 ∷ []) ≡ codes "BVC 203"
unfolding says
row148 = refl

row149 : says (28 ∷ 1 ∷ []) ≡ codes "BVC 203"
unfolding says
row149 = refl

row150 : says (28 ∷ 0 ∷ []) ≡ codes "BVC 202"
unfolding says
row150 = refl

row151 : says (28 ∷ 64 ∷ []) ≡ codes "BVC 242"
unfolding says
row151 = refl

row152 : says (28 ∷ 127 ∷ []) ≡ codes "BVC 281"
unfolding says
row152 = refl

row153 : says (28 ∷ 255 ∷ []) ≡ codes "BVC 201"
unfolding says
row153 = refl

row154 : says (29 ∷ 5 ∷ []) ≡ codes "BVS 207"
unfolding says
row154 = refl

row155 : says (29 ∷ 52 ∷ []) ≡ codes "BVS 236"
unfolding says
row155 = refl

row156 : says (29 ∷ 127 ∷ []) ≡ codes "BVS 281"
unfolding says
row156 = refl

row157 : says (29 ∷ 52 ∷ []) ≡ codes "BVS 236"
unfolding says
row157 = refl

row158 : says (29 ∷ 0 ∷ []) ≡ codes "BVS 202"
unfolding says
row158 = refl

row159 : says (29 ∷ 5 ∷ []) ≡ codes "BVS 207"
unfolding says
row159 = refl

row160 : says (29 ∷ 5 ∷ []) ≡ codes "BVS 207"
unfolding says
row160 = refl

row161 : says (29 ∷ 5 ∷ []) ≡ codes "BVS 207"
unfolding says
row161 = refl

row162 : says (30 ∷ 127 ∷ []) ≡ codes "BCC 281"
unfolding says
row162 = refl

row163 : says (30 ∷ 1 ∷ []) ≡ codes "BCC 203"
unfolding says
row163 = refl

row164 : says (30 ∷ 52 ∷ []) ≡ codes "BCC 236"
unfolding says
row164 = refl

row165 : says (30 ∷ 255 ∷ []) ≡ codes "BCC 201"
unfolding says
row165 = refl

row166 : says (30 ∷ 5 ∷ []) ≡ codes "BCC 207"
unfolding says
row166 = refl

row167 : says (30 ∷ 63 ∷ []) ≡ codes "BCC 241"
unfolding says
row167 = refl

row168 : says (30 ∷ 52 ∷ []) ≡ codes "BCC 236"
unfolding says
row168 = refl

row169 : says (30 ∷ 233 ∷ []) ≡ codes "BCC 1EB"
unfolding says
row169 = refl

row170 : says (31 ∷ 127 ∷ []) ≡ codes "BCS 281"
unfolding says
row170 = refl

row171 : says (31 ∷ 255 ∷ []) ≡ codes "BCS 201"
unfolding says
row171 = refl

row172 : says (31 ∷ 0 ∷ []) ≡ codes "BCS 202"
unfolding says
row172 = refl

row173 : says (31 ∷ 52 ∷ []) ≡ codes "BCS 236"
unfolding says
row173 = refl

row174 : says (31 ∷ 215 ∷ []) ≡ codes "BCS 1D9"
unfolding says
row174 = refl

row175 : says (31 ∷ 252 ∷ []) ≡ codes "BCS 1FE"
unfolding says
row175 = refl

row176 : says (31 ∷ 5 ∷ []) ≡ codes "BCS 207"
unfolding says
row176 = refl

row177 : says (31 ∷ 128 ∷ []) ≡ codes "BCS 182"
unfolding says
row177 = refl

row178 : says (40 ∷ 31 ∷ 221 ∷ 128 ∷ 255 ∷ 208 ∷ 154 ∷ 71 ∷ []) ≡ codes "MOVC3 #1F,@W^-80(FP),@479A(R0)"
unfolding says
row178 = refl

row179 : says (40 ∷ 143 ∷ 5 ∷ 0 ∷ 192 ∷ 255 ∷ 255 ∷ 244 ∷ 128 ∷ 255 ∷ 255 ∷ 255 ∷ []) ≡ codes "MOVC3 I^#5,W^-1(R0),@L^-80(R4)"
unfolding says
row179 = refl

row180 : says (40 ∷ 73 ∷ 197 ∷ 1 ∷ 0 ∷ 138 ∷ 78 ∷ 167 ∷ 128 ∷ []) ≡ codes "MOVC3 W^1(R5)[R9],(R10)+,-80(R7)[SP]"
unfolding says
row180 = refl

row181 : says (40 ∷ 67 ∷ 205 ∷ 0 ∷ 128 ∷ 167 ∷ 1 ∷ 181 ∷ 0 ∷ []) ≡ codes "MOVC3 -8000(FP)[R3],1(R7),@0(R5)"
unfolding says
row181 = refl

row182 : says (40 ∷ 143 ∷ 63 ∷ 0 ∷ 143 ∷ 76 ∷ 143 ∷ 52 ∷ []) ≡ codes "MOVC3 I^#3F,#4C,I^#34"
unfolding says
row182 = refl

row183 : says (40 ∷ 206 ∷ 1 ∷ 0 ∷ 236 ∷ 255 ∷ 255 ∷ 255 ∷ 255 ∷ 241 ∷ 255 ∷ 127 ∷ 255 ∷ 255 ∷ []) ≡ codes "MOVC3 W^1(SP),L^-1(AP),@-8001(R1)"
unfolding says
row183 = refl

row184 : says (40 ∷ 188 ∷ 101 ∷ 98 ∷ 120 ∷ []) ≡ codes "MOVC3 @65(AP),(R2),-(R8)"
unfolding says
row184 = refl

row185 : says (40 ∷ 92 ∷ 194 ∷ 122 ∷ 94 ∷ 76 ∷ 204 ∷ 128 ∷ 0 ∷ []) ≡ codes "MOVC3 AP,5E7A(R2),80(AP)[AP]"
unfolding says
row185 = refl

row186 : says (41 ∷ 214 ∷ 127 ∷ 255 ∷ 78 ∷ 121 ∷ 75 ∷ 224 ∷ 127 ∷ 0 ∷ 0 ∷ 0 ∷ []) ≡ codes "CMPC3 @-81(R6),-(R9)[SP],L^7F(R0)[R11]"
unfolding says
row186 = refl

row187 : says (41 ∷ 96 ∷ 166 ∷ 128 ∷ 169 ∷ 0 ∷ []) ≡ codes "CMPC3 (R0),-80(R6),0(R9)"
unfolding says
row187 = refl

row188 : says (41 ∷ 76 ∷ 229 ∷ 128 ∷ 0 ∷ 0 ∷ 0 ∷ 230 ∷ 127 ∷ 255 ∷ 255 ∷ 255 ∷ 224 ∷ 0 ∷ 128 ∷ 0 ∷ 0 ∷ []) ≡ codes "CMPC3 L^80(R5)[AP],L^-81(R6),8000(R0)"
unfolding says
row188 = refl

row189 : says (41 ∷ 164 ∷ 0 ∷ 143 ∷ 255 ∷ 186 ∷ 1 ∷ []) ≡ codes "CMPC3 0(R4),#FF,@1(R10)"
unfolding says
row189 = refl

row190 : says (41 ∷ 69 ∷ 172 ∷ 0 ∷ 211 ∷ 127 ∷ 255 ∷ 104 ∷ []) ≡ codes "CMPC3 0(AP)[R5],@-81(R3),(R8)"
unfolding says
row190 = refl

row191 : says (41 ∷ 198 ∷ 255 ∷ 127 ∷ 78 ∷ 201 ∷ 255 ∷ 255 ∷ 230 ∷ 0 ∷ 128 ∷ 255 ∷ 255 ∷ []) ≡ codes "CMPC3 7FFF(R6),W^-1(R9)[SP],L^-8000(R6)"
unfolding says
row191 = refl

row192 : says (41 ∷ 73 ∷ 204 ∷ 182 ∷ 195 ∷ 194 ∷ 255 ∷ 255 ∷ 160 ∷ 255 ∷ []) ≡ codes "CMPC3 -3C4A(AP)[R9],W^-1(R2),-1(R0)"
unfolding says
row192 = refl

row193 : says (41 ∷ 236 ∷ 128 ∷ 255 ∷ 255 ∷ 255 ∷ 224 ∷ 128 ∷ 255 ∷ 255 ∷ 255 ∷ 77 ∷ 169 ∷ 255 ∷ []) ≡ codes "CMPC3 L^-80(AP),L^-80(R0),-1(R9)[FP]"
unfolding says
row193 = refl

row194 : says (44 ∷ 66 ∷ 209 ∷ 0 ∷ 128 ∷ 194 ∷ 1 ∷ 0 ∷ 21 ∷ 91 ∷ 200 ∷ 128 ∷ 255 ∷ []) ≡ codes "MOVC5 @-8000(R1)[R2],W^1(R2),#15,R11,W^-80(R8)"
unfolding says
row194 = refl

row195 : says (44 ∷ 83 ∷ 143 ∷ 127 ∷ 235 ∷ 0 ∷ 128 ∷ 255 ∷ 255 ∷ 21 ∷ 200 ∷ 0 ∷ 128 ∷ []) ≡ codes "MOVC5 R3,#7F,L^-8000(R11),#15,-8000(R8)"
unfolding says
row195 = refl

row196 : says (44 ∷ 72 ∷ 197 ∷ 0 ∷ 0 ∷ 143 ∷ 255 ∷ 143 ∷ 63 ∷ 144 ∷ 69 ∷ 199 ∷ 128 ∷ 255 ∷ []) ≡ codes "MOVC5 W^0(R5)[R8],#FF,I^#3F,@(R0)+,W^-80(R7)[R5]"
unfolding says
row196 = refl

row197 : says (44 ∷ 197 ∷ 0 ∷ 128 ∷ 136 ∷ 82 ∷ 219 ∷ 0 ∷ 0 ∷ 198 ∷ 255 ∷ 127 ∷ []) ≡ codes "MOVC5 -8000(R5),(R8)+,R2,@W^0(R11),7FFF(R6)"
unfolding says
row197 = refl

row198 : says (44 ∷ 29 ∷ 78 ∷ 117 ∷ 102 ∷ 75 ∷ 238 ∷ 255 ∷ 127 ∷ 255 ∷ 255 ∷ 245 ∷ 127 ∷ 0 ∷ 0 ∷ 0 ∷ []) ≡ codes "MOVC5 #1D,-(R5)[SP],(R6),-8001(SP)[R11],@L^7F(R5)"
unfolding says
row198 = refl

row199 : says (44 ∷ 71 ∷ 197 ∷ 127 ∷ 0 ∷ 72 ∷ 252 ∷ 255 ∷ 127 ∷ 0 ∷ 0 ∷ 143 ∷ 64 ∷ 27 ∷ 96 ∷ []) ≡ codes "MOVC5 W^7F(R5)[R7],@L^7FFF(AP)[R8],#40,#1B,(R0)"
unfolding says
row199 = refl

row200 : says (44 ∷ 143 ∷ 255 ∷ 0 ∷ 166 ∷ 255 ∷ 92 ∷ 49 ∷ 108 ∷ []) ≡ codes "MOVC5 #FF,-1(R6),AP,#31,(AP)"
unfolding says
row200 = refl

row201 : says (44 ∷ 59 ∷ 97 ∷ 35 ∷ 65 ∷ 144 ∷ 200 ∷ 185 ∷ 63 ∷ []) ≡ codes "MOVC5 #3B,(R1),#23,@(R0)+[R1],3FB9(R8)"
unfolding says
row201 = refl

row202 : says (48 ∷ 63 ∷ 0 ∷ []) ≡ codes "BSBW 242"
unfolding says
row202 = refl

row203 : says (48 ∷ 255 ∷ 0 ∷ []) ≡ codes "BSBW 302"
unfolding says
row203 = refl

row204 : says (48 ∷ 127 ∷ 0 ∷ []) ≡ codes "BSBW 282"
unfolding says
row204 = refl

row205 : says (48 ∷ 64 ∷ 0 ∷ []) ≡ codes "BSBW 243"
unfolding says
row205 = refl

row206 : says (48 ∷ 64 ∷ 0 ∷ []) ≡ codes "BSBW 243"
unfolding says
row206 = refl

row207 : says (48 ∷ 0 ∷ 128 ∷ []) ≡ codes "BSBW FFFF8203"
unfolding says
row207 = refl

row208 : says (48 ∷ 63 ∷ 0 ∷ []) ≡ codes "BSBW 242"
unfolding says
row208 = refl

row209 : says (48 ∷ 255 ∷ 127 ∷ []) ≡ codes "BSBW 8202"
unfolding says
row209 = refl

row210 : says (49 ∷ 255 ∷ 127 ∷ []) ≡ codes "BRW 8202"
unfolding says
row210 = refl

row211 : says (49 ∷ 127 ∷ 0 ∷ []) ≡ codes "BRW 282"
unfolding says
row211 = refl

row212 : says (49 ∷ 255 ∷ 127 ∷ []) ≡ codes "BRW 8202"
unfolding says
row212 = refl

row213 : says (49 ∷ 52 ∷ 18 ∷ []) ≡ codes "BRW 1437"
unfolding says
row213 = refl

row214 : says (49 ∷ 52 ∷ 18 ∷ []) ≡ codes "BRW 1437"
unfolding says
row214 = refl

row215 : says (49 ∷ 0 ∷ 0 ∷ []) ≡ codes "BRW 203"
unfolding says
row215 = refl

row216 : says (49 ∷ 127 ∷ 0 ∷ []) ≡ codes "BRW 282"
unfolding says
row216 = refl

row217 : says (49 ∷ 128 ∷ 0 ∷ []) ≡ codes "BRW 283"
unfolding says
row217 = refl

row218 : says (50 ∷ 237 ∷ 255 ∷ 127 ∷ 255 ∷ 255 ∷ 194 ∷ 255 ∷ 255 ∷ []) ≡ codes "CVTWL -8001(FP),W^-1(R2)"
unfolding says
row218 = refl

row219 : says (50 ∷ 80 ∷ 77 ∷ 97 ∷ []) ≡ codes "CVTWL R0,(R1)[FP]"
unfolding says
row219 = refl

row220 : says (50 ∷ 219 ∷ 128 ∷ 0 ∷ 110 ∷ []) ≡ codes "CVTWL @80(R11),(SP)"
unfolding says
row220 = refl

row221 : says (50 ∷ 76 ∷ 206 ∷ 255 ∷ 255 ∷ 170 ∷ 128 ∷ []) ≡ codes "CVTWL W^-1(SP)[AP],-80(R10)"
unfolding says
row221 = refl

row222 : says (50 ∷ 33 ∷ 84 ∷ []) ≡ codes "CVTWL #21,R4"
unfolding says
row222 = refl

row223 : says (50 ∷ 38 ∷ 88 ∷ []) ≡ codes "CVTWL #26,R8"
unfolding says
row223 = refl

row224 : says (50 ∷ 143 ∷ 63 ∷ 0 ∷ 236 ∷ 0 ∷ 128 ∷ 0 ∷ 0 ∷ []) ≡ codes "CVTWL I^#3F,8000(AP)"
unfolding says
row224 = refl

row225 : says (50 ∷ 90 ∷ 224 ∷ 203 ∷ 227 ∷ 149 ∷ 229 ∷ []) ≡ codes "CVTWL R10,-1A6A1C35(R0)"
unfolding says
row225 = refl

row226 : says (51 ∷ 134 ∷ 179 ∷ 128 ∷ []) ≡ codes "CVTWB (R6)+,@-80(R3)"
unfolding says
row226 = refl

row227 : says (51 ∷ 5 ∷ 189 ∷ 128 ∷ []) ≡ codes "CVTWB #5,@-80(FP)"
unfolding says
row227 = refl

row228 : says (51 ∷ 143 ∷ 64 ∷ 0 ∷ 224 ∷ 1 ∷ 0 ∷ 0 ∷ 0 ∷ []) ≡ codes "CVTWB #40,L^1(R0)"
unfolding says
row228 = refl

row229 : says (51 ∷ 186 ∷ 1 ∷ 71 ∷ 188 ∷ 1 ∷ []) ≡ codes "CVTWB @1(R10),@1(AP)[R7]"
unfolding says
row229 = refl

row230 : says (51 ∷ 17 ∷ 73 ∷ 167 ∷ 0 ∷ []) ≡ codes "CVTWB #11,0(R7)[R9]"
unfolding says
row230 = refl

row231 : says (51 ∷ 143 ∷ 127 ∷ 0 ∷ 201 ∷ 0 ∷ 128 ∷ []) ≡ codes "CVTWB #7F,-8000(R9)"
unfolding says
row231 = refl

row232 : says (51 ∷ 229 ∷ 255 ∷ 255 ∷ 255 ∷ 255 ∷ 89 ∷ []) ≡ codes "CVTWB L^-1(R5),R9"
unfolding says
row232 = refl

row233 : says (51 ∷ 92 ∷ 99 ∷ []) ≡ codes "CVTWB AP,(R3)"
unfolding says
row233 = refl

row234 : says (58 ∷ 163 ∷ 128 ∷ 226 ∷ 1 ∷ 0 ∷ 0 ∷ 0 ∷ 141 ∷ []) ≡ codes "LOCC -80(R3),L^1(R2),(FP)+"
unfolding says
row234 = refl

row235 : says (58 ∷ 143 ∷ 255 ∷ 233 ∷ 127 ∷ 0 ∷ 0 ∷ 0 ∷ 206 ∷ 128 ∷ 0 ∷ []) ≡ codes "LOCC #FF,L^7F(R9),80(SP)"
unfolding says
row235 = refl

row236 : says (58 ∷ 75 ∷ 120 ∷ 48 ∷ 205 ∷ 128 ∷ 0 ∷ []) ≡ codes "LOCC -(R8)[R11],#30,80(FP)"
unfolding says
row236 = refl

row237 : says (58 ∷ 24 ∷ 192 ∷ 1 ∷ 0 ∷ 202 ∷ 0 ∷ 0 ∷ []) ≡ codes "LOCC #18,W^1(R0),W^0(R10)"
unfolding says
row237 = refl

row238 : says (58 ∷ 233 ∷ 127 ∷ 255 ∷ 255 ∷ 255 ∷ 73 ∷ 169 ∷ 128 ∷ 73 ∷ 133 ∷ []) ≡ codes "LOCC L^-81(R9),-80(R9)[R9],(R5)+[R9]"
unfolding says
row238 = refl

row239 : says (58 ∷ 54 ∷ 107 ∷ 143 ∷ 128 ∷ []) ≡ codes "LOCC #36,(R11),#80"
unfolding says
row239 = refl

row240 : says (58 ∷ 98 ∷ 49 ∷ 143 ∷ 255 ∷ []) ≡ codes "LOCC (R2),#31,#FF"
unfolding says
row240 = refl

row241 : says (58 ∷ 207 ∷ 128 ∷ 0 ∷ 61 ∷ 66 ∷ 101 ∷ []) ≡ codes "LOCC W^284,#3D,(R5)[R2]"
unfolding says
row241 = refl

row242 : says (59 ∷ 143 ∷ 64 ∷ 233 ∷ 127 ∷ 255 ∷ 255 ∷ 255 ∷ 143 ∷ 52 ∷ []) ≡ codes "SKPC #40,L^-81(R9),I^#34"
unfolding says
row242 = refl

row243 : says (59 ∷ 173 ∷ 0 ∷ 91 ∷ 75 ∷ 194 ∷ 255 ∷ 255 ∷ []) ≡ codes "SKPC 0(FP),R11,W^-1(R2)[R11]"
unfolding says
row243 = refl

row244 : says (59 ∷ 91 ∷ 143 ∷ 1 ∷ 0 ∷ 197 ∷ 0 ∷ 0 ∷ []) ≡ codes "SKPC R11,I^#1,W^0(R5)"
unfolding says
row244 = refl

row245 : says (59 ∷ 102 ∷ 143 ∷ 128 ∷ 0 ∷ 205 ∷ 255 ∷ 127 ∷ []) ≡ codes "SKPC (R6),#80,7FFF(FP)"
unfolding says
row245 = refl

row246 : says (59 ∷ 143 ∷ 1 ∷ 87 ∷ 230 ∷ 255 ∷ 127 ∷ 255 ∷ 255 ∷ []) ≡ codes "SKPC I^#1,R7,-8001(R6)"
unfolding says
row246 = refl

row247 : says (59 ∷ 57 ∷ 220 ∷ 0 ∷ 128 ∷ 140 ∷ []) ≡ codes "SKPC #39,@-8000(AP),(AP)+"
unfolding says
row247 = refl

row248 : says (59 ∷ 82 ∷ 75 ∷ 233 ∷ 255 ∷ 127 ∷ 0 ∷ 0 ∷ 234 ∷ 255 ∷ 127 ∷ 0 ∷ 0 ∷ []) ≡ codes "SKPC R2,L^7FFF(R9)[R11],L^7FFF(R10)"
unfolding says
row248 = refl

row249 : says (59 ∷ 171 ∷ 255 ∷ 174 ∷ 0 ∷ 232 ∷ 255 ∷ 255 ∷ 255 ∷ 127 ∷ []) ≡ codes "SKPC -1(R11),0(SP),7FFFFFFF(R8)"
unfolding says
row249 = refl

row250 : says (60 ∷ 82 ∷ 72 ∷ 161 ∷ 81 ∷ []) ≡ codes "MOVZWL R2,51(R1)[R8]"
unfolding says
row250 = refl

row251 : says (60 ∷ 86 ∷ 75 ∷ 168 ∷ 127 ∷ []) ≡ codes "MOVZWL R6,7F(R8)[R11]"
unfolding says
row251 = refl

row252 : says (60 ∷ 215 ∷ 255 ∷ 255 ∷ 254 ∷ 255 ∷ 255 ∷ 255 ∷ 255 ∷ []) ≡ codes "MOVZWL @W^-1(R7),@L^-1(SP)"
unfolding says
row252 = refl

row253 : says (60 ∷ 143 ∷ 52 ∷ 18 ∷ 90 ∷ []) ≡ codes "MOVZWL #1234,R10"
unfolding says
row253 = refl

row254 : says (60 ∷ 143 ∷ 63 ∷ 0 ∷ 69 ∷ 116 ∷ []) ≡ codes "MOVZWL I^#3F,-(R4)[R5]"
unfolding says
row254 = refl

row255 : says (60 ∷ 167 ∷ 255 ∷ 245 ∷ 1 ∷ 0 ∷ 0 ∷ 0 ∷ []) ≡ codes "MOVZWL -1(R7),@L^1(R5)"
unfolding says
row255 = refl

row256 : says (60 ∷ 88 ∷ 202 ∷ 0 ∷ 0 ∷ []) ≡ codes "MOVZWL R8,W^0(R10)"
unfolding says
row256 = refl

row257 : says (60 ∷ 146 ∷ 170 ∷ 0 ∷ []) ≡ codes "MOVZWL @(R2)+,0(R10)"
unfolding says
row257 = refl

row258 : says (61 ∷ 64 ∷ 122 ∷ 32 ∷ 241 ∷ 1 ∷ 0 ∷ 0 ∷ 0 ∷ 129 ∷ 23 ∷ []) ≡ codes "ACBW -(R10)[R0],#20,@L^1(R1),198C"
unfolding says
row258 = refl

row259 : says (61 ∷ 143 ∷ 1 ∷ 0 ∷ 143 ∷ 63 ∷ 0 ∷ 98 ∷ 128 ∷ 0 ∷ []) ≡ codes "ACBW I^#1,I^#3F,(R2),28A"
unfolding says
row259 = refl

row260 : says (61 ∷ 199 ∷ 255 ∷ 127 ∷ 41 ∷ 228 ∷ 125 ∷ 83 ∷ 45 ∷ 155 ∷ 128 ∷ 0 ∷ []) ≡ codes "ACBW 7FFF(R7),#29,-64D2AC83(R4),28C"
unfolding says
row260 = refl

row261 : says (61 ∷ 255 ∷ 127 ∷ 255 ∷ 255 ∷ 255 ∷ 143 ∷ 128 ∷ 0 ∷ 164 ∷ 0 ∷ 1 ∷ 0 ∷ []) ≡ codes "ACBW @L^185,#80,0(R4),20E"
unfolding says
row261 = refl

row262 : says (61 ∷ 94 ∷ 104 ∷ 175 ∷ 127 ∷ 1 ∷ 0 ∷ []) ≡ codes "ACBW SP,(R8),B^284,208"
unfolding says
row262 = refl

row263 : says (61 ∷ 46 ∷ 224 ∷ 128 ∷ 255 ∷ 255 ∷ 255 ∷ 82 ∷ 255 ∷ 127 ∷ []) ≡ codes "ACBW #2E,L^-80(R0),R2,8209"
unfolding says
row263 = refl

row264 : says (61 ∷ 87 ∷ 143 ∷ 127 ∷ 0 ∷ 82 ∷ 128 ∷ 0 ∷ []) ≡ codes "ACBW R7,#7F,R2,288"
unfolding says
row264 = refl

row265 : says (61 ∷ 65 ∷ 244 ∷ 128 ∷ 255 ∷ 255 ∷ 255 ∷ 240 ∷ 0 ∷ 0 ∷ 0 ∷ 0 ∷ 86 ∷ 52 ∷ 18 ∷ []) ≡ codes "ACBW @L^-80(R4)[R1],@L^0(R0),R6,1443"
unfolding says
row265 = refl

row266 : says (62 ∷ 64 ∷ 237 ∷ 255 ∷ 127 ∷ 255 ∷ 255 ∷ 204 ∷ 255 ∷ 127 ∷ []) ≡ codes "MOVAW -8001(FP)[R0],7FFF(AP)"
unfolding says
row266 = refl

row267 : says (62 ∷ 76 ∷ 96 ∷ 244 ∷ 0 ∷ 128 ∷ 255 ∷ 255 ∷ []) ≡ codes "MOVAW (R0)[AP],@L^-8000(R4)"
unfolding says
row267 = refl

row268 : says (62 ∷ 171 ∷ 255 ∷ 94 ∷ []) ≡ codes "MOVAW -1(R11),SP"
unfolding says
row268 = refl

row269 : says (62 ∷ 123 ∷ 225 ∷ 255 ∷ 255 ∷ 255 ∷ 127 ∷ []) ≡ codes "MOVAW -(R11),7FFFFFFF(R1)"
unfolding says
row269 = refl

row270 : says (62 ∷ 184 ∷ 255 ∷ 205 ∷ 128 ∷ 0 ∷ []) ≡ codes "MOVAW @-1(R8),80(FP)"
unfolding says
row270 = refl

row271 : says (62 ∷ 76 ∷ 199 ∷ 0 ∷ 128 ∷ 179 ∷ 0 ∷ []) ≡ codes "MOVAW -8000(R7)[AP],@0(R3)"
unfolding says
row271 = refl

row272 : says (62 ∷ 175 ∷ 128 ∷ 240 ∷ 127 ∷ 0 ∷ 0 ∷ 0 ∷ []) ≡ codes "MOVAW B^183,@L^7F(R0)"
unfolding says
row272 = refl

row273 : says (62 ∷ 199 ∷ 127 ∷ 0 ∷ 158 ∷ []) ≡ codes "MOVAW W^7F(R7),@(SP)+"
unfolding says
row273 = refl

row274 : says (63 ∷ 143 ∷ 255 ∷ 0 ∷ []) ≡ codes "PUSHAW #FF"
unfolding says
row274 = refl

row275 : says (63 ∷ 198 ∷ 255 ∷ 127 ∷ []) ≡ codes "PUSHAW 7FFF(R6)"
unfolding says
row275 = refl

row276 : says (63 ∷ 255 ∷ 128 ∷ 255 ∷ 255 ∷ 255 ∷ []) ≡ codes "PUSHAW @L^186"
unfolding says
row276 = refl

row277 : says (63 ∷ 108 ∷ []) ≡ codes "PUSHAW (AP)"
unfolding says
row277 = refl

row278 : says (63 ∷ 162 ∷ 255 ∷ []) ≡ codes "PUSHAW -1(R2)"
unfolding says
row278 = refl

row279 : says (63 ∷ 233 ∷ 255 ∷ 255 ∷ 255 ∷ 255 ∷ []) ≡ codes "PUSHAW L^-1(R9)"
unfolding says
row279 = refl

row280 : says (63 ∷ 160 ∷ 127 ∷ []) ≡ codes "PUSHAW 7F(R0)"
unfolding says
row280 = refl

row281 : says (63 ∷ 199 ∷ 255 ∷ 255 ∷ []) ≡ codes "PUSHAW W^-1(R7)"
unfolding says
row281 = refl

row282 : says (88 ∷ 231 ∷ 127 ∷ 255 ∷ 255 ∷ 255 ∷ 138 ∷ []) ≡ codes "ADAWI L^-81(R7),(R10)+"
unfolding says
row282 = refl

row283 : says (88 ∷ 20 ∷ 102 ∷ []) ≡ codes "ADAWI #14,(R6)"
unfolding says
row283 = refl

row284 : says (88 ∷ 24 ∷ 242 ∷ 127 ∷ 255 ∷ 255 ∷ 255 ∷ []) ≡ codes "ADAWI #18,@L^-81(R2)"
unfolding says
row284 = refl

row285 : says (88 ∷ 6 ∷ 103 ∷ []) ≡ codes "ADAWI #6,(R7)"
unfolding says
row285 = refl

row286 : says (88 ∷ 39 ∷ 197 ∷ 255 ∷ 255 ∷ []) ≡ codes "ADAWI #27,W^-1(R5)"
unfolding says
row286 = refl

row287 : says (88 ∷ 190 ∷ 0 ∷ 140 ∷ []) ≡ codes "ADAWI @0(SP),(AP)+"
unfolding says
row287 = refl

row288 : says (88 ∷ 87 ∷ 136 ∷ []) ≡ codes "ADAWI R7,(R8)+"
unfolding says
row288 = refl

row289 : says (88 ∷ 92 ∷ 203 ∷ 255 ∷ 255 ∷ []) ≡ codes "ADAWI AP,W^-1(R11)"
unfolding says
row289 = refl

row290 : says (120 ∷ 143 ∷ 64 ∷ 143 ∷ 128 ∷ 0 ∷ 0 ∷ 0 ∷ 132 ∷ []) ≡ codes "ASHL #40,#80,(R4)+"
unfolding says
row290 = refl

row291 : says (120 ∷ 83 ∷ 246 ∷ 127 ∷ 255 ∷ 255 ∷ 255 ∷ 142 ∷ []) ≡ codes "ASHL R3,@L^-81(R6),(SP)+"
unfolding says
row291 = refl

row292 : says (120 ∷ 81 ∷ 92 ∷ 204 ∷ 127 ∷ 255 ∷ []) ≡ codes "ASHL R1,AP,-81(AP)"
unfolding says
row292 = refl

row293 : says (120 ∷ 244 ∷ 0 ∷ 128 ∷ 255 ∷ 255 ∷ 93 ∷ 156 ∷ []) ≡ codes "ASHL @L^-8000(R4),FP,@(AP)+"
unfolding says
row293 = refl

row294 : says (120 ∷ 83 ∷ 85 ∷ 121 ∷ []) ≡ codes "ASHL R3,R5,-(R9)"
unfolding says
row294 = refl

row295 : says (120 ∷ 64 ∷ 163 ∷ 128 ∷ 143 ∷ 255 ∷ 0 ∷ 0 ∷ 0 ∷ 234 ∷ 0 ∷ 0 ∷ 0 ∷ 128 ∷ []) ≡ codes "ASHL -80(R3)[R0],#FF,-80000000(R10)"
unfolding says
row295 = refl

row296 : says (120 ∷ 14 ∷ 247 ∷ 127 ∷ 0 ∷ 0 ∷ 0 ∷ 65 ∷ 198 ∷ 127 ∷ 255 ∷ []) ≡ codes "ASHL #E,@L^7F(R7),-81(R6)[R1]"
unfolding says
row296 = refl

row297 : says (120 ∷ 93 ∷ 143 ∷ 255 ∷ 127 ∷ 0 ∷ 0 ∷ 118 ∷ []) ≡ codes "ASHL FP,#7FFF,-(R6)"
unfolding says
row297 = refl

row298 : says (122 ∷ 74 ∷ 215 ∷ 0 ∷ 0 ∷ 167 ∷ 127 ∷ 204 ∷ 255 ∷ 127 ∷ 88 ∷ []) ≡ codes "EMUL @W^0(R7)[R10],7F(R7),7FFF(AP),R8"
unfolding says
row298 = refl

row299 : says (122 ∷ 62 ∷ 234 ∷ 127 ∷ 0 ∷ 0 ∷ 0 ∷ 193 ∷ 127 ∷ 255 ∷ 89 ∷ []) ≡ codes "EMUL #3E,L^7F(R10),-81(R1),R9"
unfolding says
row299 = refl

row300 : says (122 ∷ 203 ∷ 127 ∷ 0 ∷ 226 ∷ 0 ∷ 0 ∷ 0 ∷ 0 ∷ 132 ∷ 64 ∷ 242 ∷ 241 ∷ 228 ∷ 149 ∷ 253 ∷ []) ≡ codes "EMUL W^7F(R11),L^0(R2),(R4)+,@-26A1B0F(R2)[R0]"
unfolding says
row300 = refl

row301 : says (122 ∷ 65 ∷ 201 ∷ 128 ∷ 255 ∷ 78 ∷ 109 ∷ 180 ∷ 0 ∷ 251 ∷ 127 ∷ 255 ∷ 255 ∷ 255 ∷ []) ≡ codes "EMUL W^-80(R9)[R1],(FP)[SP],@0(R4),@L^-81(R11)"
unfolding says
row301 = refl

row302 : says (122 ∷ 14 ∷ 99 ∷ 143 ∷ 127 ∷ 0 ∷ 0 ∷ 0 ∷ 171 ∷ 1 ∷ []) ≡ codes "EMUL #E,(R3),#7F,1(R11)"
unfolding says
row302 = refl

row303 : says (122 ∷ 57 ∷ 101 ∷ 143 ∷ 127 ∷ 0 ∷ 0 ∷ 0 ∷ 89 ∷ []) ≡ codes "EMUL #39,(R5),#7F,R9"
unfolding says
row303 = refl

row304 : says (122 ∷ 143 ∷ 128 ∷ 0 ∷ 0 ∷ 0 ∷ 77 ∷ 186 ∷ 128 ∷ 8 ∷ 236 ∷ 128 ∷ 255 ∷ 255 ∷ 255 ∷ []) ≡ codes "EMUL #80,@-80(R10)[FP],#8,L^-80(AP)"
unfolding says
row304 = refl

row305 : says (122 ∷ 9 ∷ 143 ∷ 5 ∷ 0 ∷ 0 ∷ 0 ∷ 84 ∷ 150 ∷ []) ≡ codes "EMUL #9,I^#5,R4,@(R6)+"
unfolding says
row305 = refl

row306 : says (124 ∷ 64 ∷ 201 ∷ 200 ∷ 5 ∷ []) ≡ codes "CLRQ 5C8(R9)[R0]"
unfolding says
row306 = refl

row307 : says (124 ∷ 122 ∷ []) ≡ codes "CLRQ -(R10)"
unfolding says
row307 = refl

row308 : says (124 ∷ 129 ∷ []) ≡ codes "CLRQ (R1)+"
unfolding says
row308 = refl

row309 : says (124 ∷ 96 ∷ []) ≡ codes "CLRQ (R0)"
unfolding says
row309 = refl

row310 : says (124 ∷ 129 ∷ []) ≡ codes "CLRQ (R1)+"
unfolding says
row310 = refl

row311 : says (124 ∷ 173 ∷ 127 ∷ []) ≡ codes "CLRQ 7F(FP)"
unfolding says
row311 = refl

row312 : says (124 ∷ 89 ∷ []) ≡ codes "CLRQ R9"
unfolding says
row312 = refl

row313 : says (124 ∷ 214 ∷ 0 ∷ 0 ∷ []) ≡ codes "CLRQ @W^0(R6)"
unfolding says
row313 = refl

row314 : says (125 ∷ 143 ∷ 255 ∷ 0 ∷ 0 ∷ 0 ∷ 0 ∷ 0 ∷ 0 ∷ 0 ∷ 183 ∷ 255 ∷ []) ≡ codes "MOVQ #FF,@-1(R7)"
unfolding says
row314 = refl

row315 : says (125 ∷ 21 ∷ 103 ∷ []) ≡ codes "MOVQ #15,(R7)"
unfolding says
row315 = refl

row316 : says (125 ∷ 129 ∷ 87 ∷ []) ≡ codes "MOVQ (R1)+,R7"
unfolding says
row316 = refl

row317 : says (125 ∷ 186 ∷ 255 ∷ 83 ∷ []) ≡ codes "MOVQ @-1(R10),R3"
unfolding says
row317 = refl

row318 : says (125 ∷ 207 ∷ 0 ∷ 0 ∷ 173 ∷ 255 ∷ []) ≡ codes "MOVQ W^204,-1(FP)"
unfolding says
row318 = refl

row319 : says (125 ∷ 53 ∷ 77 ∷ 255 ∷ 255 ∷ 127 ∷ 255 ∷ 255 ∷ []) ≡ codes "MOVQ #35,@L^FFFF8207[FP]"
unfolding says
row319 = refl

row320 : says (125 ∷ 213 ∷ 128 ∷ 255 ∷ 252 ∷ 0 ∷ 128 ∷ 255 ∷ 255 ∷ []) ≡ codes "MOVQ @W^-80(R5),@L^-8000(AP)"
unfolding says
row320 = refl

row321 : says (125 ∷ 5 ∷ 158 ∷ []) ≡ codes "MOVQ #5,@(SP)+"
unfolding says
row321 = refl

row322 : says (126 ∷ 143 ∷ 255 ∷ 0 ∷ 0 ∷ 0 ∷ 0 ∷ 0 ∷ 0 ∷ 0 ∷ 86 ∷ []) ≡ codes "MOVAQ #FF,R6"
unfolding says
row322 = refl

row323 : says (126 ∷ 123 ∷ 225 ∷ 127 ∷ 255 ∷ 255 ∷ 255 ∷ []) ≡ codes "MOVAQ -(R11),L^-81(R1)"
unfolding says
row323 = refl

row324 : says (126 ∷ 143 ∷ 127 ∷ 0 ∷ 0 ∷ 0 ∷ 0 ∷ 0 ∷ 0 ∷ 0 ∷ 91 ∷ []) ≡ codes "MOVAQ #7F,R11"
unfolding says
row324 = refl

row325 : says (126 ∷ 162 ∷ 0 ∷ 73 ∷ 183 ∷ 255 ∷ []) ≡ codes "MOVAQ 0(R2),@-1(R7)[R9]"
unfolding says
row325 = refl

row326 : says (126 ∷ 203 ∷ 128 ∷ 255 ∷ 210 ∷ 127 ∷ 0 ∷ []) ≡ codes "MOVAQ W^-80(R11),@W^7F(R2)"
unfolding says
row326 = refl

row327 : says (126 ∷ 103 ∷ 91 ∷ []) ≡ codes "MOVAQ (R7),R11"
unfolding says
row327 = refl

row328 : says (126 ∷ 137 ∷ 105 ∷ []) ≡ codes "MOVAQ (R9)+,(R9)"
unfolding says
row328 = refl

row329 : says (126 ∷ 128 ∷ 72 ∷ 191 ∷ 0 ∷ []) ≡ codes "MOVAQ (R0)+,@B^205[R8]"
unfolding says
row329 = refl

row330 : says (127 ∷ 143 ∷ 0 ∷ 128 ∷ 0 ∷ 0 ∷ 0 ∷ 0 ∷ 0 ∷ 0 ∷ []) ≡ codes "PUSHAQ #8000"
unfolding says
row330 = refl

row331 : says (127 ∷ 143 ∷ 0 ∷ 128 ∷ 0 ∷ 0 ∷ 0 ∷ 0 ∷ 0 ∷ 0 ∷ []) ≡ codes "PUSHAQ #8000"
unfolding says
row331 = refl

row332 : says (127 ∷ 175 ∷ 0 ∷ []) ≡ codes "PUSHAQ B^203"
unfolding says
row332 = refl

row333 : says (127 ∷ 168 ∷ 128 ∷ []) ≡ codes "PUSHAQ -80(R8)"
unfolding says
row333 = refl

row334 : says (127 ∷ 245 ∷ 128 ∷ 255 ∷ 255 ∷ 255 ∷ []) ≡ codes "PUSHAQ @L^-80(R5)"
unfolding says
row334 = refl

row335 : says (127 ∷ 97 ∷ []) ≡ codes "PUSHAQ (R1)"
unfolding says
row335 = refl

row336 : says (127 ∷ 113 ∷ []) ≡ codes "PUSHAQ -(R1)"
unfolding says
row336 = refl

row337 : says (127 ∷ 143 ∷ 52 ∷ 18 ∷ 0 ∷ 0 ∷ 0 ∷ 0 ∷ 0 ∷ 0 ∷ []) ≡ codes "PUSHAQ #1234"
unfolding says
row337 = refl

row338 : says (128 ∷ 102 ∷ 168 ∷ 127 ∷ []) ≡ codes "ADDB2 (R6),7F(R8)"
unfolding says
row338 = refl

row339 : says (128 ∷ 78 ∷ 103 ∷ 209 ∷ 128 ∷ 0 ∷ []) ≡ codes "ADDB2 (R7)[SP],@80(R1)"
unfolding says
row339 = refl

row340 : says (128 ∷ 23 ∷ 229 ∷ 127 ∷ 0 ∷ 0 ∷ 0 ∷ []) ≡ codes "ADDB2 #17,L^7F(R5)"
unfolding says
row340 = refl

row341 : says (128 ∷ 7 ∷ 130 ∷ []) ≡ codes "ADDB2 #7,(R2)+"
unfolding says
row341 = refl

row342 : says (128 ∷ 83 ∷ 177 ∷ 1 ∷ []) ≡ codes "ADDB2 R3,@1(R1)"
unfolding says
row342 = refl

row343 : says (128 ∷ 90 ∷ 145 ∷ []) ≡ codes "ADDB2 R10,@(R1)+"
unfolding says
row343 = refl

row344 : says (128 ∷ 11 ∷ 84 ∷ []) ≡ codes "ADDB2 #B,R4"
unfolding says
row344 = refl

row345 : says (128 ∷ 199 ∷ 0 ∷ 0 ∷ 85 ∷ []) ≡ codes "ADDB2 W^0(R7),R5"
unfolding says
row345 = refl

row346 : says (129 ∷ 76 ∷ 172 ∷ 255 ∷ 78 ∷ 159 ∷ 52 ∷ 18 ∷ 0 ∷ 0 ∷ 163 ∷ 1 ∷ []) ≡ codes "ADDB3 -1(AP)[AP],@#1234[SP],1(R3)"
unfolding says
row346 = refl

row347 : says (129 ∷ 143 ∷ 128 ∷ 143 ∷ 64 ∷ 71 ∷ 187 ∷ 127 ∷ []) ≡ codes "ADDB3 #80,#40,@7F(R11)[R7]"
unfolding says
row347 = refl

row348 : says (129 ∷ 107 ∷ 84 ∷ 196 ∷ 255 ∷ 127 ∷ []) ≡ codes "ADDB3 (R11),R4,7FFF(R4)"
unfolding says
row348 = refl

row349 : says (129 ∷ 82 ∷ 167 ∷ 255 ∷ 217 ∷ 127 ∷ 255 ∷ []) ≡ codes "ADDB3 R2,-1(R7),@-81(R9)"
unfolding says
row349 = refl

row350 : says (129 ∷ 143 ∷ 52 ∷ 19 ∷ 165 ∷ 0 ∷ []) ≡ codes "ADDB3 I^#34,#13,0(R5)"
unfolding says
row350 = refl

row351 : says (129 ∷ 155 ∷ 187 ∷ 255 ∷ 64 ∷ 166 ∷ 127 ∷ []) ≡ codes "ADDB3 @(R11)+,@-1(R11),7F(R6)[R0]"
unfolding says
row351 = refl

row352 : says (129 ∷ 143 ∷ 64 ∷ 85 ∷ 84 ∷ []) ≡ codes "ADDB3 #40,R5,R4"
unfolding says
row352 = refl

row353 : says (129 ∷ 25 ∷ 85 ∷ 82 ∷ []) ≡ codes "ADDB3 #19,R5,R2"
unfolding says
row353 = refl

row354 : says (130 ∷ 143 ∷ 1 ∷ 237 ∷ 124 ∷ 247 ∷ 218 ∷ 220 ∷ []) ≡ codes "SUBB2 I^#1,-23250884(FP)"
unfolding says
row354 = refl

row355 : says (130 ∷ 213 ∷ 104 ∷ 255 ∷ 76 ∷ 120 ∷ []) ≡ codes "SUBB2 @-98(R5),-(R8)[AP]"
unfolding says
row355 = refl

row356 : says (130 ∷ 82 ∷ 181 ∷ 0 ∷ []) ≡ codes "SUBB2 R2,@0(R5)"
unfolding says
row356 = refl

row357 : says (130 ∷ 150 ∷ 166 ∷ 128 ∷ []) ≡ codes "SUBB2 @(R6)+,-80(R6)"
unfolding says
row357 = refl

row358 : says (130 ∷ 160 ∷ 128 ∷ 97 ∷ []) ≡ codes "SUBB2 -80(R0),(R1)"
unfolding says
row358 = refl

row359 : says (130 ∷ 72 ∷ 180 ∷ 1 ∷ 201 ∷ 128 ∷ 0 ∷ []) ≡ codes "SUBB2 @1(R4)[R8],80(R9)"
unfolding says
row359 = refl

row360 : says (130 ∷ 61 ∷ 162 ∷ 255 ∷ []) ≡ codes "SUBB2 #3D,-1(R2)"
unfolding says
row360 = refl

row361 : says (130 ∷ 23 ∷ 85 ∷ []) ≡ codes "SUBB2 #17,R5"
unfolding says
row361 = refl

row362 : says (131 ∷ 143 ∷ 64 ∷ 64 ∷ 165 ∷ 128 ∷ 70 ∷ 246 ∷ 128 ∷ 0 ∷ 0 ∷ 0 ∷ []) ≡ codes "SUBB3 #40,-80(R5)[R0],@L^80(R6)[R6]"
unfolding says
row362 = refl

row363 : says (131 ∷ 255 ∷ 128 ∷ 255 ∷ 255 ∷ 255 ∷ 138 ∷ 203 ∷ 255 ∷ 255 ∷ []) ≡ codes "SUBB3 @L^186,(R10)+,W^-1(R11)"
unfolding says
row363 = refl

row364 : says (131 ∷ 86 ∷ 93 ∷ 80 ∷ []) ≡ codes "SUBB3 R6,FP,R0"
unfolding says
row364 = refl

row365 : says (131 ∷ 81 ∷ 60 ∷ 181 ∷ 255 ∷ []) ≡ codes "SUBB3 R1,#3C,@-1(R5)"
unfolding says
row365 = refl

row366 : says (131 ∷ 49 ∷ 206 ∷ 0 ∷ 128 ∷ 203 ∷ 128 ∷ 0 ∷ []) ≡ codes "SUBB3 #31,-8000(SP),80(R11)"
unfolding says
row366 = refl

row367 : says (131 ∷ 169 ∷ 1 ∷ 82 ∷ 186 ∷ 0 ∷ []) ≡ codes "SUBB3 1(R9),R2,@0(R10)"
unfolding says
row367 = refl

row368 : says (131 ∷ 71 ∷ 103 ∷ 56 ∷ 156 ∷ []) ≡ codes "SUBB3 (R7)[R7],#38,@(AP)+"
unfolding says
row368 = refl

row369 : says (131 ∷ 40 ∷ 85 ∷ 249 ∷ 0 ∷ 128 ∷ 255 ∷ 255 ∷ []) ≡ codes "SUBB3 #28,R5,@L^-8000(R9)"
unfolding says
row369 = refl

row370 : says (132 ∷ 71 ∷ 233 ∷ 0 ∷ 128 ∷ 255 ∷ 255 ∷ 246 ∷ 255 ∷ 127 ∷ 255 ∷ 255 ∷ []) ≡ codes "MULB2 L^-8000(R9)[R7],@-8001(R6)"
unfolding says
row370 = refl

row371 : says (132 ∷ 43 ∷ 75 ∷ 165 ∷ 255 ∷ []) ≡ codes "MULB2 #2B,-1(R5)[R11]"
unfolding says
row371 = refl

row372 : says (132 ∷ 69 ∷ 145 ∷ 124 ∷ []) ≡ codes "MULB2 @(R1)+[R5],-(AP)"
unfolding says
row372 = refl

row373 : says (132 ∷ 66 ∷ 222 ∷ 155 ∷ 114 ∷ 158 ∷ []) ≡ codes "MULB2 @729B(SP)[R2],@(SP)+"
unfolding says
row373 = refl

row374 : says (132 ∷ 143 ∷ 128 ∷ 93 ∷ []) ≡ codes "MULB2 #80,FP"
unfolding says
row374 = refl

row375 : says (132 ∷ 94 ∷ 98 ∷ []) ≡ codes "MULB2 SP,(R2)"
unfolding says
row375 = refl

row376 : says (132 ∷ 87 ∷ 69 ∷ 195 ∷ 0 ∷ 0 ∷ []) ≡ codes "MULB2 R7,W^0(R3)[R5]"
unfolding says
row376 = refl

row377 : says (132 ∷ 143 ∷ 255 ∷ 69 ∷ 227 ∷ 127 ∷ 255 ∷ 255 ∷ 255 ∷ []) ≡ codes "MULB2 #FF,L^-81(R3)[R5]"
unfolding says
row377 = refl

row378 : says (133 ∷ 207 ∷ 255 ∷ 255 ∷ 143 ∷ 5 ∷ 151 ∷ []) ≡ codes "MULB3 W^203,I^#5,@(R7)+"
unfolding says
row378 = refl

row379 : says (133 ∷ 74 ∷ 131 ∷ 64 ∷ 212 ∷ 128 ∷ 0 ∷ 192 ∷ 255 ∷ 127 ∷ []) ≡ codes "MULB3 (R3)+[R10],@80(R4)[R0],7FFF(R0)"
unfolding says
row379 = refl

row380 : says (133 ∷ 143 ∷ 255 ∷ 143 ∷ 189 ∷ 69 ∷ 233 ∷ 1 ∷ 0 ∷ 0 ∷ 0 ∷ []) ≡ codes "MULB3 #FF,#BD,L^1(R9)[R5]"
unfolding says
row380 = refl

row381 : says (133 ∷ 66 ∷ 211 ∷ 1 ∷ 0 ∷ 143 ∷ 127 ∷ 234 ∷ 0 ∷ 128 ∷ 0 ∷ 0 ∷ []) ≡ codes "MULB3 @W^1(R3)[R2],#7F,8000(R10)"
unfolding says
row381 = refl

row382 : says (133 ∷ 238 ∷ 255 ∷ 127 ∷ 0 ∷ 0 ∷ 149 ∷ 93 ∷ []) ≡ codes "MULB3 L^7FFF(SP),@(R5)+,FP"
unfolding says
row382 = refl

row383 : says (133 ∷ 41 ∷ 42 ∷ 187 ∷ 0 ∷ []) ≡ codes "MULB3 #29,#2A,@0(R11)"
unfolding says
row383 = refl

row384 : says (133 ∷ 67 ∷ 233 ∷ 127 ∷ 0 ∷ 0 ∷ 0 ∷ 197 ∷ 127 ∷ 255 ∷ 231 ∷ 1 ∷ 0 ∷ 0 ∷ 0 ∷ []) ≡ codes "MULB3 L^7F(R9)[R3],-81(R5),L^1(R7)"
unfolding says
row384 = refl

row385 : says (133 ∷ 143 ∷ 255 ∷ 163 ∷ 0 ∷ 237 ∷ 255 ∷ 255 ∷ 255 ∷ 255 ∷ []) ≡ codes "MULB3 #FF,0(R3),L^-1(FP)"
unfolding says
row385 = refl

row386 : says (134 ∷ 138 ∷ 69 ∷ 232 ∷ 127 ∷ 0 ∷ 0 ∷ 0 ∷ []) ≡ codes "DIVB2 (R10)+,L^7F(R8)[R5]"
unfolding says
row386 = refl

row387 : says (134 ∷ 88 ∷ 212 ∷ 255 ∷ 255 ∷ []) ≡ codes "DIVB2 R8,@W^-1(R4)"
unfolding says
row387 = refl

row388 : says (134 ∷ 234 ∷ 255 ∷ 255 ∷ 255 ∷ 255 ∷ 83 ∷ []) ≡ codes "DIVB2 L^-1(R10),R3"
unfolding says
row388 = refl

row389 : says (134 ∷ 73 ∷ 209 ∷ 255 ∷ 127 ∷ 212 ∷ 128 ∷ 0 ∷ []) ≡ codes "DIVB2 @7FFF(R1)[R9],@80(R4)"
unfolding says
row389 = refl

row390 : says (134 ∷ 143 ∷ 5 ∷ 124 ∷ []) ≡ codes "DIVB2 I^#5,-(AP)"
unfolding says
row390 = refl

row391 : says (134 ∷ 214 ∷ 127 ∷ 0 ∷ 201 ∷ 128 ∷ 255 ∷ []) ≡ codes "DIVB2 @W^7F(R6),W^-80(R9)"
unfolding says
row391 = refl

row392 : says (134 ∷ 81 ∷ 202 ∷ 255 ∷ 127 ∷ []) ≡ codes "DIVB2 R1,7FFF(R10)"
unfolding says
row392 = refl

row393 : says (134 ∷ 207 ∷ 128 ∷ 255 ∷ 171 ∷ 0 ∷ []) ≡ codes "DIVB2 W^184,0(R11)"
unfolding says
row393 = refl

row394 : says (135 ∷ 69 ∷ 230 ∷ 1 ∷ 0 ∷ 0 ∷ 0 ∷ 80 ∷ 71 ∷ 238 ∷ 1 ∷ 0 ∷ 0 ∷ 0 ∷ []) ≡ codes "DIVB3 L^1(R6)[R5],R0,L^1(SP)[R7]"
unfolding says
row394 = refl

row395 : says (135 ∷ 97 ∷ 66 ∷ 155 ∷ 241 ∷ 255 ∷ 127 ∷ 0 ∷ 0 ∷ []) ≡ codes "DIVB3 (R1),@(R11)+[R2],@L^7FFF(R1)"
unfolding says
row395 = refl

row396 : says (135 ∷ 177 ∷ 1 ∷ 163 ∷ 255 ∷ 132 ∷ []) ≡ codes "DIVB3 @1(R1),-1(R3),(R4)+"
unfolding says
row396 = refl

row397 : says (135 ∷ 74 ∷ 125 ∷ 243 ∷ 0 ∷ 128 ∷ 255 ∷ 255 ∷ 205 ∷ 0 ∷ 128 ∷ []) ≡ codes "DIVB3 -(FP)[R10],@L^-8000(R3),-8000(FP)"
unfolding says
row397 = refl

row398 : says (135 ∷ 190 ∷ 1 ∷ 203 ∷ 1 ∷ 0 ∷ 81 ∷ []) ≡ codes "DIVB3 @1(SP),W^1(R11),R1"
unfolding says
row398 = refl

row399 : says (135 ∷ 112 ∷ 81 ∷ 109 ∷ []) ≡ codes "DIVB3 -(R0),R1,(FP)"
unfolding says
row399 = refl

row400 : says (135 ∷ 74 ∷ 96 ∷ 71 ∷ 152 ∷ 71 ∷ 225 ∷ 0 ∷ 128 ∷ 255 ∷ 255 ∷ []) ≡ codes "DIVB3 (R0)[R10],@(R8)+[R7],L^-8000(R1)[R7]"
unfolding says
row400 = refl

row401 : says (135 ∷ 222 ∷ 0 ∷ 128 ∷ 143 ∷ 5 ∷ 76 ∷ 173 ∷ 255 ∷ []) ≡ codes "DIVB3 @-8000(SP),I^#5,-1(FP)[AP]"
unfolding says
row401 = refl

row402 : says (136 ∷ 71 ∷ 231 ∷ 0 ∷ 0 ∷ 0 ∷ 0 ∷ 77 ∷ 123 ∷ []) ≡ codes "BISB2 L^0(R7)[R7],-(R11)[FP]"
unfolding says
row402 = refl

row403 : says (136 ∷ 164 ∷ 0 ∷ 77 ∷ 110 ∷ []) ≡ codes "BISB2 0(R4),(SP)[FP]"
unfolding says
row403 = refl

row404 : says (136 ∷ 187 ∷ 255 ∷ 152 ∷ []) ≡ codes "BISB2 @-1(R11),@(R8)+"
unfolding says
row404 = refl

row405 : says (136 ∷ 68 ∷ 104 ∷ 108 ∷ []) ≡ codes "BISB2 (R8)[R4],(AP)"
unfolding says
row405 = refl

row406 : says (136 ∷ 190 ∷ 0 ∷ 241 ∷ 255 ∷ 255 ∷ 255 ∷ 255 ∷ []) ≡ codes "BISB2 @0(SP),@L^-1(R1)"
unfolding says
row406 = refl

row407 : says (136 ∷ 5 ∷ 166 ∷ 0 ∷ []) ≡ codes "BISB2 #5,0(R6)"
unfolding says
row407 = refl

row408 : says (136 ∷ 81 ∷ 253 ∷ 0 ∷ 128 ∷ 0 ∷ 0 ∷ []) ≡ codes "BISB2 R1,@8000(FP)"
unfolding says
row408 = refl

row409 : says (136 ∷ 231 ∷ 178 ∷ 113 ∷ 206 ∷ 17 ∷ 109 ∷ []) ≡ codes "BISB2 11CE71B2(R7),(FP)"
unfolding says
row409 = refl

row410 : says (137 ∷ 70 ∷ 194 ∷ 127 ∷ 0 ∷ 54 ∷ 180 ∷ 255 ∷ []) ≡ codes "BISB3 W^7F(R2)[R6],#36,@-1(R4)"
unfolding says
row410 = refl

row411 : says (137 ∷ 92 ∷ 143 ∷ 0 ∷ 151 ∷ []) ≡ codes "BISB3 AP,I^#0,@(R7)+"
unfolding says
row411 = refl

row412 : says (137 ∷ 204 ∷ 255 ∷ 127 ∷ 168 ∷ 0 ∷ 92 ∷ []) ≡ codes "BISB3 7FFF(AP),0(R8),AP"
unfolding says
row412 = refl

row413 : says (137 ∷ 193 ∷ 0 ∷ 0 ∷ 100 ∷ 121 ∷ []) ≡ codes "BISB3 W^0(R1),(R4),-(R9)"
unfolding says
row413 = refl

row414 : says (137 ∷ 67 ∷ 234 ∷ 127 ∷ 0 ∷ 0 ∷ 0 ∷ 117 ∷ 173 ∷ 0 ∷ []) ≡ codes "BISB3 L^7F(R10)[R3],-(R5),0(FP)"
unfolding says
row414 = refl

row415 : says (137 ∷ 51 ∷ 66 ∷ 105 ∷ 74 ∷ 118 ∷ []) ≡ codes "BISB3 #33,(R9)[R2],-(R6)[R10]"
unfolding says
row415 = refl

row416 : says (137 ∷ 73 ∷ 200 ∷ 14 ∷ 168 ∷ 143 ∷ 1 ∷ 200 ∷ 255 ∷ 127 ∷ []) ≡ codes "BISB3 -57F2(R8)[R9],I^#1,7FFF(R8)"
unfolding says
row416 = refl

row417 : says (137 ∷ 12 ∷ 68 ∷ 227 ∷ 255 ∷ 255 ∷ 255 ∷ 255 ∷ 75 ∷ 192 ∷ 0 ∷ 128 ∷ []) ≡ codes "BISB3 #C,L^-1(R3)[R4],-8000(R0)[R11]"
unfolding says
row417 = refl

row418 : says (138 ∷ 207 ∷ 27 ∷ 159 ∷ 108 ∷ []) ≡ codes "BICB2 W^FFFFA11F,(AP)"
unfolding says
row418 = refl

row419 : says (138 ∷ 73 ∷ 119 ∷ 65 ∷ 161 ∷ 0 ∷ []) ≡ codes "BICB2 -(R7)[R9],0(R1)[R1]"
unfolding says
row419 = refl

row420 : says (138 ∷ 5 ∷ 162 ∷ 255 ∷ []) ≡ codes "BICB2 #5,-1(R2)"
unfolding says
row420 = refl

row421 : says (138 ∷ 143 ∷ 127 ∷ 183 ∷ 0 ∷ []) ≡ codes "BICB2 #7F,@0(R7)"
unfolding says
row421 = refl

row422 : says (138 ∷ 230 ∷ 128 ∷ 255 ∷ 255 ∷ 255 ∷ 201 ∷ 0 ∷ 0 ∷ []) ≡ codes "BICB2 L^-80(R6),W^0(R9)"
unfolding says
row422 = refl

row423 : says (138 ∷ 143 ∷ 255 ∷ 82 ∷ []) ≡ codes "BICB2 #FF,R2"
unfolding says
row423 = refl

row424 : says (138 ∷ 81 ∷ 82 ∷ []) ≡ codes "BICB2 R1,R2"
unfolding says
row424 = refl

row425 : says (138 ∷ 122 ∷ 82 ∷ []) ≡ codes "BICB2 -(R10),R2"
unfolding says
row425 = refl

row426 : says (139 ∷ 86 ∷ 167 ∷ 255 ∷ 218 ∷ 1 ∷ 0 ∷ []) ≡ codes "BICB3 R6,-1(R7),@W^1(R10)"
unfolding says
row426 = refl

row427 : says (139 ∷ 59 ∷ 64 ∷ 245 ∷ 127 ∷ 255 ∷ 255 ∷ 255 ∷ 80 ∷ []) ≡ codes "BICB3 #3B,@L^-81(R5)[R0],R0"
unfolding says
row427 = refl

row428 : says (139 ∷ 88 ∷ 143 ∷ 64 ∷ 161 ∷ 158 ∷ []) ≡ codes "BICB3 R8,#40,-62(R1)"
unfolding says
row428 = refl

row429 : says (139 ∷ 64 ∷ 146 ∷ 163 ∷ 255 ∷ 80 ∷ []) ≡ codes "BICB3 @(R2)+[R0],-1(R3),R0"
unfolding says
row429 = refl

row430 : says (139 ∷ 89 ∷ 110 ∷ 231 ∷ 255 ∷ 127 ∷ 0 ∷ 0 ∷ []) ≡ codes "BICB3 R9,(SP),L^7FFF(R7)"
unfolding says
row430 = refl

row431 : says (139 ∷ 28 ∷ 17 ∷ 232 ∷ 127 ∷ 255 ∷ 255 ∷ 255 ∷ []) ≡ codes "BICB3 #1C,#11,L^-81(R8)"
unfolding says
row431 = refl

row432 : says (139 ∷ 143 ∷ 52 ∷ 204 ∷ 0 ∷ 128 ∷ 117 ∷ []) ≡ codes "BICB3 I^#34,-8000(AP),-(R5)"
unfolding says
row432 = refl

row433 : says (139 ∷ 196 ∷ 0 ∷ 128 ∷ 6 ∷ 83 ∷ []) ≡ codes "BICB3 -8000(R4),#6,R3"
unfolding says
row433 = refl

row434 : says (140 ∷ 52 ∷ 77 ∷ 226 ∷ 255 ∷ 255 ∷ 255 ∷ 127 ∷ []) ≡ codes "XORB2 #34,7FFFFFFF(R2)[FP]"
unfolding says
row434 = refl

row435 : says (140 ∷ 204 ∷ 128 ∷ 255 ∷ 83 ∷ []) ≡ codes "XORB2 W^-80(AP),R3"
unfolding says
row435 = refl

row436 : says (140 ∷ 68 ∷ 224 ∷ 0 ∷ 128 ∷ 0 ∷ 0 ∷ 229 ∷ 1 ∷ 0 ∷ 0 ∷ 0 ∷ []) ≡ codes "XORB2 8000(R0)[R4],L^1(R5)"
unfolding says
row436 = refl

row437 : says (140 ∷ 80 ∷ 100 ∷ []) ≡ codes "XORB2 R0,(R4)"
unfolding says
row437 = refl

row438 : says (140 ∷ 55 ∷ 89 ∷ []) ≡ codes "XORB2 #37,R9"
unfolding says
row438 = refl

row439 : says (140 ∷ 51 ∷ 138 ∷ []) ≡ codes "XORB2 #33,(R10)+"
unfolding says
row439 = refl

row440 : says (140 ∷ 72 ∷ 171 ∷ 47 ∷ 93 ∷ []) ≡ codes "XORB2 2F(R11)[R8],FP"
unfolding says
row440 = refl

row441 : says (140 ∷ 143 ∷ 255 ∷ 199 ∷ 0 ∷ 128 ∷ []) ≡ codes "XORB2 #FF,-8000(R7)"
unfolding says
row441 = refl

row442 : says (141 ∷ 90 ∷ 235 ∷ 0 ∷ 0 ∷ 0 ∷ 0 ∷ 64 ∷ 238 ∷ 1 ∷ 0 ∷ 0 ∷ 0 ∷ []) ≡ codes "XORB3 R10,L^0(R11),L^1(SP)[R0]"
unfolding says
row442 = refl

row443 : says (141 ∷ 87 ∷ 42 ∷ 250 ∷ 0 ∷ 128 ∷ 0 ∷ 0 ∷ []) ≡ codes "XORB3 R7,#2A,@8000(R10)"
unfolding says
row443 = refl

row444 : says (141 ∷ 174 ∷ 127 ∷ 64 ∷ 232 ∷ 128 ∷ 255 ∷ 255 ∷ 255 ∷ 122 ∷ []) ≡ codes "XORB3 7F(SP),L^-80(R8)[R0],-(R10)"
unfolding says
row444 = refl

row445 : says (141 ∷ 135 ∷ 21 ∷ 74 ∷ 238 ∷ 0 ∷ 0 ∷ 0 ∷ 128 ∷ []) ≡ codes "XORB3 (R7)+,#15,-80000000(SP)[R10]"
unfolding says
row445 = refl

row446 : says (141 ∷ 163 ∷ 255 ∷ 97 ∷ 169 ∷ 0 ∷ []) ≡ codes "XORB3 -1(R3),(R1),0(R9)"
unfolding says
row446 = refl

row447 : says (141 ∷ 170 ∷ 255 ∷ 93 ∷ 193 ∷ 255 ∷ 127 ∷ []) ≡ codes "XORB3 -1(R10),FP,7FFF(R1)"
unfolding says
row447 = refl

row448 : says (141 ∷ 66 ∷ 135 ∷ 22 ∷ 72 ∷ 245 ∷ 158 ∷ 246 ∷ 198 ∷ 9 ∷ []) ≡ codes "XORB3 (R7)+[R2],#16,@9C6F69E(R5)[R8]"
unfolding says
row448 = refl

row449 : says (141 ∷ 143 ∷ 63 ∷ 67 ∷ 108 ∷ 200 ∷ 128 ∷ 0 ∷ []) ≡ codes "XORB3 I^#3F,(AP)[R3],80(R8)"
unfolding says
row449 = refl

row450 : says (142 ∷ 60 ∷ 197 ∷ 127 ∷ 255 ∷ []) ≡ codes "MNEGB #3C,-81(R5)"
unfolding says
row450 = refl

row451 : says (142 ∷ 229 ∷ 127 ∷ 255 ∷ 255 ∷ 255 ∷ 190 ∷ 127 ∷ []) ≡ codes "MNEGB L^-81(R5),@7F(SP)"
unfolding says
row451 = refl

row452 : says (142 ∷ 143 ∷ 128 ∷ 231 ∷ 0 ∷ 0 ∷ 0 ∷ 0 ∷ []) ≡ codes "MNEGB #80,L^0(R7)"
unfolding says
row452 = refl

row453 : says (142 ∷ 33 ∷ 84 ∷ []) ≡ codes "MNEGB #21,R4"
unfolding says
row453 = refl

row454 : says (142 ∷ 143 ∷ 255 ∷ 93 ∷ []) ≡ codes "MNEGB #FF,FP"
unfolding says
row454 = refl

row455 : says (142 ∷ 82 ∷ 130 ∷ []) ≡ codes "MNEGB R2,(R2)+"
unfolding says
row455 = refl

row456 : says (142 ∷ 206 ∷ 0 ∷ 0 ∷ 239 ∷ 255 ∷ 255 ∷ 255 ∷ 127 ∷ []) ≡ codes "MNEGB W^0(SP),L^80000208"
unfolding says
row456 = refl

row457 : says (142 ∷ 143 ∷ 63 ∷ 186 ∷ 127 ∷ []) ≡ codes "MNEGB I^#3F,@7F(R10)"
unfolding says
row457 = refl

row458 : says (143 ∷ 68 ∷ 119 ∷ 72 ∷ 189 ∷ 255 ∷ 200 ∷ 255 ∷ 255 ∷ []) ≡ codes "CASEB -(R7)[R4],@-1(FP)[R8],W^-1(R8)"
unfolding says
row458 = refl

row459 : says (143 ∷ 143 ∷ 0 ∷ 65 ∷ 170 ∷ 255 ∷ 118 ∷ []) ≡ codes "CASEB I^#0,-1(R10)[R1],-(R6)"
unfolding says
row459 = refl

row460 : says (143 ∷ 85 ∷ 197 ∷ 127 ∷ 0 ∷ 140 ∷ []) ≡ codes "CASEB R5,W^7F(R5),(AP)+"
unfolding says
row460 = refl

row461 : says (143 ∷ 143 ∷ 255 ∷ 112 ∷ 83 ∷ []) ≡ codes "CASEB #FF,-(R0),R3"
unfolding says
row461 = refl

row462 : says (143 ∷ 72 ∷ 248 ∷ 0 ∷ 128 ∷ 0 ∷ 0 ∷ 78 ∷ 178 ∷ 0 ∷ 207 ∷ 255 ∷ 255 ∷ []) ≡ codes "CASEB @8000(R8)[R8],@0(R2)[SP],W^20C"
unfolding says
row462 = refl

row463 : says (143 ∷ 3 ∷ 91 ∷ 232 ∷ 2 ∷ 147 ∷ 188 ∷ 178 ∷ []) ≡ codes "CASEB #3,R11,-4D436CFE(R8)"
unfolding says
row463 = refl

row464 : says (143 ∷ 143 ∷ 0 ∷ 50 ∷ 40 ∷ []) ≡ codes "CASEB I^#0,#32,#28"
unfolding says
row464 = refl

row465 : says (143 ∷ 108 ∷ 143 ∷ 0 ∷ 56 ∷ []) ≡ codes "CASEB (AP),I^#0,#38"
unfolding says
row465 = refl

row466 : says (144 ∷ 40 ∷ 75 ∷ 225 ∷ 25 ∷ 103 ∷ 114 ∷ 149 ∷ []) ≡ codes "MOVB #28,-6A8D98E7(R1)[R11]"
unfolding says
row466 = refl

row467 : says (144 ∷ 195 ∷ 127 ∷ 255 ∷ 96 ∷ []) ≡ codes "MOVB -81(R3),(R0)"
unfolding says
row467 = refl

row468 : says (144 ∷ 203 ∷ 127 ∷ 255 ∷ 94 ∷ []) ≡ codes "MOVB -81(R11),SP"
unfolding says
row468 = refl

row469 : says (144 ∷ 205 ∷ 255 ∷ 127 ∷ 75 ∷ 168 ∷ 255 ∷ []) ≡ codes "MOVB 7FFF(FP),-1(R8)[R11]"
unfolding says
row469 = refl

row470 : says (144 ∷ 253 ∷ 255 ∷ 255 ∷ 255 ∷ 255 ∷ 70 ∷ 244 ∷ 255 ∷ 127 ∷ 255 ∷ 255 ∷ []) ≡ codes "MOVB @L^-1(FP),@-8001(R4)[R6]"
unfolding says
row470 = refl

row471 : says (144 ∷ 252 ∷ 127 ∷ 255 ∷ 255 ∷ 255 ∷ 233 ∷ 153 ∷ 179 ∷ 218 ∷ 40 ∷ []) ≡ codes "MOVB @L^-81(AP),28DAB399(R9)"
unfolding says
row471 = refl

row472 : says (144 ∷ 68 ∷ 120 ∷ 163 ∷ 255 ∷ []) ≡ codes "MOVB -(R8)[R4],-1(R3)"
unfolding says
row472 = refl

row473 : says (144 ∷ 80 ∷ 113 ∷ []) ≡ codes "MOVB R0,-(R1)"
unfolding says
row473 = refl

row474 : says (145 ∷ 5 ∷ 93 ∷ []) ≡ codes "CMPB #5,FP"
unfolding says
row474 = refl

row475 : says (145 ∷ 49 ∷ 149 ∷ []) ≡ codes "CMPB #31,@(R5)+"
unfolding says
row475 = refl

row476 : says (145 ∷ 78 ∷ 139 ∷ 77 ∷ 229 ∷ 0 ∷ 128 ∷ 255 ∷ 255 ∷ []) ≡ codes "CMPB (R11)+[SP],L^-8000(R5)[FP]"
unfolding says
row476 = refl

row477 : says (145 ∷ 225 ∷ 0 ∷ 0 ∷ 0 ∷ 0 ∷ 143 ∷ 255 ∷ []) ≡ codes "CMPB L^0(R1),#FF"
unfolding says
row477 = refl

row478 : says (145 ∷ 0 ∷ 35 ∷ []) ≡ codes "CMPB #0,#23"
unfolding says
row478 = refl

row479 : says (145 ∷ 248 ∷ 127 ∷ 255 ∷ 255 ∷ 255 ∷ 84 ∷ []) ≡ codes "CMPB @L^-81(R8),R4"
unfolding says
row479 = refl

row480 : says (145 ∷ 88 ∷ 46 ∷ []) ≡ codes "CMPB R8,#2E"
unfolding says
row480 = refl

row481 : says (145 ∷ 65 ∷ 196 ∷ 1 ∷ 0 ∷ 85 ∷ []) ≡ codes "CMPB W^1(R4)[R1],R5"
unfolding says
row481 = refl

row482 : says (146 ∷ 88 ∷ 159 ∷ 0 ∷ 2 ∷ 0 ∷ 0 ∷ []) ≡ codes "MCOMB R8,@#200"
unfolding says
row482 = refl

row483 : says (146 ∷ 143 ∷ 0 ∷ 65 ∷ 161 ∷ 128 ∷ []) ≡ codes "MCOMB I^#0,-80(R1)[R1]"
unfolding says
row483 = refl

row484 : says (146 ∷ 143 ∷ 52 ∷ 93 ∷ []) ≡ codes "MCOMB I^#34,FP"
unfolding says
row484 = refl

row485 : says (146 ∷ 69 ∷ 160 ∷ 255 ∷ 86 ∷ []) ≡ codes "MCOMB -1(R0)[R5],R6"
unfolding says
row485 = refl

row486 : says (146 ∷ 35 ∷ 204 ∷ 1 ∷ 0 ∷ []) ≡ codes "MCOMB #23,W^1(AP)"
unfolding says
row486 = refl

row487 : says (146 ∷ 166 ∷ 127 ∷ 187 ∷ 128 ∷ []) ≡ codes "MCOMB 7F(R6),@-80(R11)"
unfolding says
row487 = refl

row488 : says (146 ∷ 28 ∷ 224 ∷ 0 ∷ 0 ∷ 0 ∷ 0 ∷ []) ≡ codes "MCOMB #1C,L^0(R0)"
unfolding says
row488 = refl

row489 : says (146 ∷ 152 ∷ 203 ∷ 128 ∷ 0 ∷ []) ≡ codes "MCOMB @(R8)+,80(R11)"
unfolding says
row489 = refl

row490 : says (147 ∷ 0 ∷ 143 ∷ 128 ∷ []) ≡ codes "BITB #0,#80"
unfolding says
row490 = refl

row491 : says (147 ∷ 237 ∷ 0 ∷ 128 ∷ 0 ∷ 0 ∷ 143 ∷ 202 ∷ []) ≡ codes "BITB 8000(FP),#CA"
unfolding says
row491 = refl

row492 : says (147 ∷ 171 ∷ 1 ∷ 89 ∷ []) ≡ codes "BITB 1(R11),R9"
unfolding says
row492 = refl

row493 : says (147 ∷ 143 ∷ 127 ∷ 6 ∷ []) ≡ codes "BITB #7F,#6"
unfolding says
row493 = refl

row494 : says (147 ∷ 92 ∷ 77 ∷ 173 ∷ 0 ∷ []) ≡ codes "BITB AP,0(FP)[FP]"
unfolding says
row494 = refl

row495 : says (147 ∷ 66 ∷ 198 ∷ 255 ∷ 127 ∷ 65 ∷ 197 ∷ 255 ∷ 255 ∷ []) ≡ codes "BITB 7FFF(R6)[R2],W^-1(R5)[R1]"
unfolding says
row495 = refl

row496 : says (147 ∷ 90 ∷ 38 ∷ []) ≡ codes "BITB R10,#26"
unfolding says
row496 = refl

row497 : says (147 ∷ 143 ∷ 5 ∷ 175 ∷ 127 ∷ []) ≡ codes "BITB I^#5,B^284"
unfolding says
row497 = refl

row498 : says (148 ∷ 152 ∷ []) ≡ codes "CLRB @(R8)+"
unfolding says
row498 = refl

row499 : says (148 ∷ 249 ∷ 128 ∷ 255 ∷ 255 ∷ 255 ∷ []) ≡ codes "CLRB @L^-80(R9)"
unfolding says
row499 = refl

row500 : says (148 ∷ 170 ∷ 255 ∷ []) ≡ codes "CLRB -1(R10)"
unfolding says
row500 = refl

row501 : says (148 ∷ 223 ∷ 255 ∷ 255 ∷ []) ≡ codes "CLRB @W^203"
unfolding says
row501 = refl

row502 : says (148 ∷ 118 ∷ []) ≡ codes "CLRB -(R6)"
unfolding says
row502 = refl

row503 : says (148 ∷ 233 ∷ 127 ∷ 255 ∷ 255 ∷ 255 ∷ []) ≡ codes "CLRB L^-81(R9)"
unfolding says
row503 = refl

row504 : says (148 ∷ 170 ∷ 0 ∷ []) ≡ codes "CLRB 0(R10)"
unfolding says
row504 = refl

row505 : says (148 ∷ 189 ∷ 255 ∷ []) ≡ codes "CLRB @-1(FP)"
unfolding says
row505 = refl

row506 : says (149 ∷ 4 ∷ []) ≡ codes "TSTB #4"
unfolding says
row506 = refl

row507 : says (149 ∷ 208 ∷ 0 ∷ 0 ∷ []) ≡ codes "TSTB @W^0(R0)"
unfolding says
row507 = refl

row508 : says (149 ∷ 143 ∷ 225 ∷ []) ≡ codes "TSTB #E1"
unfolding says
row508 = refl

row509 : says (149 ∷ 157 ∷ []) ≡ codes "TSTB @(FP)+"
unfolding says
row509 = refl

row510 : says (149 ∷ 80 ∷ []) ≡ codes "TSTB R0"
unfolding says
row510 = refl

row511 : says (149 ∷ 77 ∷ 227 ∷ 128 ∷ 255 ∷ 255 ∷ 255 ∷ []) ≡ codes "TSTB L^-80(R3)[FP]"
unfolding says
row511 = refl

row512 : says (149 ∷ 85 ∷ []) ≡ codes "TSTB R5"
unfolding says
row512 = refl

row513 : says (149 ∷ 214 ∷ 0 ∷ 128 ∷ []) ≡ codes "TSTB @-8000(R6)"
unfolding says
row513 = refl

row514 : says (150 ∷ 236 ∷ 255 ∷ 127 ∷ 255 ∷ 255 ∷ []) ≡ codes "INCB -8001(AP)"
unfolding says
row514 = refl

row515 : says (150 ∷ 210 ∷ 255 ∷ 127 ∷ []) ≡ codes "INCB @7FFF(R2)"
unfolding says
row515 = refl

row516 : says (150 ∷ 67 ∷ 160 ∷ 0 ∷ []) ≡ codes "INCB 0(R0)[R3]"
unfolding says
row516 = refl

row517 : says (150 ∷ 89 ∷ []) ≡ codes "INCB R9"
unfolding says
row517 = refl

row518 : says (150 ∷ 201 ∷ 128 ∷ 255 ∷ []) ≡ codes "INCB W^-80(R9)"
unfolding says
row518 = refl

row519 : says (150 ∷ 66 ∷ 166 ∷ 0 ∷ []) ≡ codes "INCB 0(R6)[R2]"
unfolding says
row519 = refl

row520 : says (150 ∷ 105 ∷ []) ≡ codes "INCB (R9)"
unfolding says
row520 = refl

row521 : says (150 ∷ 69 ∷ 120 ∷ []) ≡ codes "INCB -(R8)[R5]"
unfolding says
row521 = refl

row522 : says (151 ∷ 146 ∷ []) ≡ codes "DECB @(R2)+"
unfolding says
row522 = refl

row523 : says (151 ∷ 252 ∷ 0 ∷ 128 ∷ 0 ∷ 0 ∷ []) ≡ codes "DECB @8000(AP)"
unfolding says
row523 = refl

row524 : says (151 ∷ 94 ∷ []) ≡ codes "DECB SP"
unfolding says
row524 = refl

row525 : says (151 ∷ 160 ∷ 127 ∷ []) ≡ codes "DECB 7F(R0)"
unfolding says
row525 = refl

row526 : says (151 ∷ 80 ∷ []) ≡ codes "DECB R0"
unfolding says
row526 = refl

row527 : says (151 ∷ 198 ∷ 127 ∷ 0 ∷ []) ≡ codes "DECB W^7F(R6)"
unfolding says
row527 = refl

row528 : says (151 ∷ 72 ∷ 234 ∷ 255 ∷ 127 ∷ 255 ∷ 255 ∷ []) ≡ codes "DECB -8001(R10)[R8]"
unfolding says
row528 = refl

row529 : says (151 ∷ 88 ∷ []) ≡ codes "DECB R8"
unfolding says
row529 = refl

row530 : says (152 ∷ 67 ∷ 169 ∷ 128 ∷ 91 ∷ []) ≡ codes "CVTBL -80(R9)[R3],R11"
unfolding says
row530 = refl

row531 : says (152 ∷ 143 ∷ 64 ∷ 231 ∷ 179 ∷ 16 ∷ 214 ∷ 197 ∷ []) ≡ codes "CVTBL #40,-3A29EF4D(R7)"
unfolding says
row531 = refl

row532 : says (152 ∷ 99 ∷ 91 ∷ []) ≡ codes "CVTBL (R3),R11"
unfolding says
row532 = refl

row533 : says (152 ∷ 90 ∷ 156 ∷ []) ≡ codes "CVTBL R10,@(AP)+"
unfolding says
row533 = refl

row534 : says (152 ∷ 90 ∷ 225 ∷ 255 ∷ 255 ∷ 255 ∷ 255 ∷ []) ≡ codes "CVTBL R10,L^-1(R1)"
unfolding says
row534 = refl

row535 : says (152 ∷ 68 ∷ 188 ∷ 88 ∷ 84 ∷ []) ≡ codes "CVTBL @58(AP)[R4],R4"
unfolding says
row535 = refl

row536 : says (152 ∷ 143 ∷ 64 ∷ 92 ∷ []) ≡ codes "CVTBL #40,AP"
unfolding says
row536 = refl

row537 : says (152 ∷ 86 ∷ 158 ∷ []) ≡ codes "CVTBL R6,@(SP)+"
unfolding says
row537 = refl

row538 : says (153 ∷ 34 ∷ 175 ∷ 127 ∷ []) ≡ codes "CVTBW #22,B^283"
unfolding says
row538 = refl

row539 : says (153 ∷ 76 ∷ 191 ∷ 127 ∷ 68 ∷ 114 ∷ []) ≡ codes "CVTBW @B^283[AP],-(R2)[R4]"
unfolding says
row539 = refl

row540 : says (153 ∷ 91 ∷ 204 ∷ 150 ∷ 145 ∷ []) ≡ codes "CVTBW R11,-6E6A(AP)"
unfolding says
row540 = refl

row541 : says (153 ∷ 55 ∷ 159 ∷ 0 ∷ 2 ∷ 0 ∷ 0 ∷ []) ≡ codes "CVTBW #37,@#200"
unfolding says
row541 = refl

row542 : says (153 ∷ 89 ∷ 190 ∷ 0 ∷ []) ≡ codes "CVTBW R9,@0(SP)"
unfolding says
row542 = refl

row543 : says (153 ∷ 74 ∷ 213 ∷ 0 ∷ 128 ∷ 92 ∷ []) ≡ codes "CVTBW @-8000(R5)[R10],AP"
unfolding says
row543 = refl

row544 : says (153 ∷ 143 ∷ 1 ∷ 107 ∷ []) ≡ codes "CVTBW I^#1,(R11)"
unfolding says
row544 = refl

row545 : says (153 ∷ 39 ∷ 82 ∷ []) ≡ codes "CVTBW #27,R2"
unfolding says
row545 = refl

row546 : says (154 ∷ 89 ∷ 81 ∷ []) ≡ codes "MOVZBL R9,R1"
unfolding says
row546 = refl

row547 : says (154 ∷ 89 ∷ 72 ∷ 213 ∷ 1 ∷ 0 ∷ []) ≡ codes "MOVZBL R9,@W^1(R5)[R8]"
unfolding says
row547 = refl

row548 : says (154 ∷ 83 ∷ 83 ∷ []) ≡ codes "MOVZBL R3,R3"
unfolding says
row548 = refl

row549 : says (154 ∷ 244 ∷ 128 ∷ 255 ∷ 255 ∷ 255 ∷ 178 ∷ 0 ∷ []) ≡ codes "MOVZBL @L^-80(R4),@0(R2)"
unfolding says
row549 = refl

row550 : says (154 ∷ 255 ∷ 0 ∷ 0 ∷ 0 ∷ 128 ∷ 231 ∷ 255 ∷ 255 ∷ 255 ∷ 255 ∷ []) ≡ codes "MOVZBL @L^80000206,L^-1(R7)"
unfolding says
row550 = refl

row551 : says (154 ∷ 55 ∷ 158 ∷ []) ≡ codes "MOVZBL #37,@(SP)+"
unfolding says
row551 = refl

row552 : says (154 ∷ 69 ∷ 165 ∷ 0 ∷ 254 ∷ 255 ∷ 127 ∷ 255 ∷ 255 ∷ []) ≡ codes "MOVZBL 0(R5)[R5],@-8001(SP)"
unfolding says
row552 = refl

row553 : says (154 ∷ 187 ∷ 255 ∷ 72 ∷ 166 ∷ 0 ∷ []) ≡ codes "MOVZBL @-1(R11),0(R6)[R8]"
unfolding says
row553 = refl

row554 : says (155 ∷ 11 ∷ 72 ∷ 153 ∷ []) ≡ codes "MOVZBW #B,@(R9)+[R8]"
unfolding says
row554 = refl

row555 : says (155 ∷ 48 ∷ 105 ∷ []) ≡ codes "MOVZBW #30,(R9)"
unfolding says
row555 = refl

row556 : says (155 ∷ 157 ∷ 199 ∷ 1 ∷ 0 ∷ []) ≡ codes "MOVZBW @(FP)+,W^1(R7)"
unfolding says
row556 = refl

row557 : says (155 ∷ 48 ∷ 239 ∷ 255 ∷ 127 ∷ 0 ∷ 0 ∷ []) ≡ codes "MOVZBW #30,L^8206"
unfolding says
row557 = refl

row558 : says (155 ∷ 64 ∷ 173 ∷ 127 ∷ 161 ∷ 234 ∷ []) ≡ codes "MOVZBW 7F(FP)[R0],-16(R1)"
unfolding says
row558 = refl

row559 : says (155 ∷ 177 ∷ 224 ∷ 77 ∷ 197 ∷ 255 ∷ 255 ∷ []) ≡ codes "MOVZBW @-20(R1),W^-1(R5)[FP]"
unfolding says
row559 = refl

row560 : says (155 ∷ 194 ∷ 1 ∷ 0 ∷ 77 ∷ 219 ∷ 0 ∷ 0 ∷ []) ≡ codes "MOVZBW W^1(R2),@W^0(R11)[FP]"
unfolding says
row560 = refl

row561 : says (155 ∷ 87 ∷ 83 ∷ []) ≡ codes "MOVZBW R7,R3"
unfolding says
row561 = refl

row562 : says (156 ∷ 185 ∷ 255 ∷ 231 ∷ 127 ∷ 0 ∷ 0 ∷ 0 ∷ 97 ∷ []) ≡ codes "ROTL @-1(R9),L^7F(R7),(R1)"
unfolding says
row562 = refl

row563 : says (156 ∷ 22 ∷ 52 ∷ 100 ∷ []) ≡ codes "ROTL #16,#34,(R4)"
unfolding says
row563 = refl

row564 : says (156 ∷ 190 ∷ 255 ∷ 77 ∷ 226 ∷ 127 ∷ 255 ∷ 255 ∷ 255 ∷ 155 ∷ []) ≡ codes "ROTL @-1(SP),L^-81(R2)[FP],@(R11)+"
unfolding says
row564 = refl

row565 : says (156 ∷ 12 ∷ 143 ∷ 128 ∷ 0 ∷ 0 ∷ 0 ∷ 199 ∷ 128 ∷ 0 ∷ []) ≡ codes "ROTL #C,#80,80(R7)"
unfolding says
row565 = refl

row566 : says (156 ∷ 80 ∷ 142 ∷ 168 ∷ 1 ∷ []) ≡ codes "ROTL R0,(SP)+,1(R8)"
unfolding says
row566 = refl

row567 : says (156 ∷ 94 ∷ 92 ∷ 239 ∷ 127 ∷ 255 ∷ 255 ∷ 255 ∷ []) ≡ codes "ROTL SP,AP,L^187"
unfolding says
row567 = refl

row568 : says (156 ∷ 199 ∷ 0 ∷ 128 ∷ 160 ∷ 0 ∷ 228 ∷ 128 ∷ 0 ∷ 0 ∷ 0 ∷ []) ≡ codes "ROTL -8000(R7),0(R0),L^80(R4)"
unfolding says
row568 = refl

row569 : says (156 ∷ 88 ∷ 82 ∷ 202 ∷ 255 ∷ 255 ∷ []) ≡ codes "ROTL R8,R2,W^-1(R10)"
unfolding says
row569 = refl

row570 : says (157 ∷ 116 ∷ 168 ∷ 0 ∷ 98 ∷ 255 ∷ 0 ∷ []) ≡ codes "ACBB -(R4),0(R8),(R2),306"
unfolding says
row570 = refl

row571 : says (157 ∷ 75 ∷ 201 ∷ 255 ∷ 255 ∷ 143 ∷ 128 ∷ 175 ∷ 128 ∷ 64 ∷ 0 ∷ []) ≡ codes "ACBB W^-1(R9)[R11],#80,B^189,24B"
unfolding says
row571 = refl

row572 : says (157 ∷ 63 ∷ 59 ∷ 82 ∷ 128 ∷ 0 ∷ []) ≡ codes "ACBB #3F,#3B,R2,286"
unfolding says
row572 = refl

row573 : says (157 ∷ 199 ∷ 134 ∷ 228 ∷ 143 ∷ 255 ∷ 82 ∷ 127 ∷ 0 ∷ []) ≡ codes "ACBB -1B7A(R7),#FF,R2,288"
unfolding says
row573 = refl

row574 : says (157 ∷ 15 ∷ 83 ∷ 210 ∷ 0 ∷ 128 ∷ 5 ∷ 0 ∷ []) ≡ codes "ACBB #F,R3,@-8000(R2),20D"
unfolding says
row574 = refl

row575 : says (157 ∷ 45 ∷ 210 ∷ 255 ∷ 127 ∷ 120 ∷ 128 ∷ 0 ∷ []) ≡ codes "ACBB #2D,@7FFF(R2),-(R8),288"
unfolding says
row575 = refl

row576 : says (157 ∷ 189 ∷ 0 ∷ 24 ∷ 239 ∷ 255 ∷ 255 ∷ 255 ∷ 127 ∷ 255 ∷ 0 ∷ []) ≡ codes "ACBB @0(FP),#18,L^80000208,30A"
unfolding says
row576 = refl

row577 : says (157 ∷ 84 ∷ 134 ∷ 241 ∷ 208 ∷ 237 ∷ 140 ∷ 41 ∷ 64 ∷ 0 ∷ []) ≡ codes "ACBB R4,(R6)+,@298CEDD0(R1),24A"
unfolding says
row577 = refl

row578 : says (158 ∷ 163 ∷ 255 ∷ 215 ∷ 255 ∷ 127 ∷ []) ≡ codes "MOVAB -1(R3),@7FFF(R7)"
unfolding says
row578 = refl

row579 : says (158 ∷ 219 ∷ 128 ∷ 255 ∷ 253 ∷ 255 ∷ 127 ∷ 255 ∷ 255 ∷ []) ≡ codes "MOVAB @W^-80(R11),@-8001(FP)"
unfolding says
row579 = refl

row580 : says (158 ∷ 157 ∷ 203 ∷ 0 ∷ 128 ∷ []) ≡ codes "MOVAB @(FP)+,-8000(R11)"
unfolding says
row580 = refl

row581 : says (158 ∷ 150 ∷ 83 ∷ []) ≡ codes "MOVAB @(R6)+,R3"
unfolding says
row581 = refl

row582 : says (158 ∷ 173 ∷ 127 ∷ 145 ∷ []) ≡ codes "MOVAB 7F(FP),@(R1)+"
unfolding says
row582 = refl

row583 : says (158 ∷ 112 ∷ 155 ∷ []) ≡ codes "MOVAB -(R0),@(R11)+"
unfolding says
row583 = refl

row584 : says (158 ∷ 120 ∷ 241 ∷ 0 ∷ 0 ∷ 0 ∷ 0 ∷ []) ≡ codes "MOVAB -(R8),@L^0(R1)"
unfolding says
row584 = refl

row585 : says (158 ∷ 64 ∷ 202 ∷ 128 ∷ 255 ∷ 68 ∷ 236 ∷ 128 ∷ 255 ∷ 255 ∷ 255 ∷ []) ≡ codes "MOVAB W^-80(R10)[R0],L^-80(AP)[R4]"
unfolding says
row585 = refl

row586 : says (159 ∷ 160 ∷ 1 ∷ []) ≡ codes "PUSHAB 1(R0)"
unfolding says
row586 = refl

row587 : says (159 ∷ 112 ∷ []) ≡ codes "PUSHAB -(R0)"
unfolding says
row587 = refl

row588 : says (159 ∷ 154 ∷ []) ≡ codes "PUSHAB @(R10)+"
unfolding says
row588 = refl

row589 : says (159 ∷ 143 ∷ 64 ∷ []) ≡ codes "PUSHAB #40"
unfolding says
row589 = refl

row590 : says (159 ∷ 75 ∷ 230 ∷ 255 ∷ 127 ∷ 0 ∷ 0 ∷ []) ≡ codes "PUSHAB L^7FFF(R6)[R11]"
unfolding says
row590 = refl

row591 : says (159 ∷ 98 ∷ []) ≡ codes "PUSHAB (R2)"
unfolding says
row591 = refl

row592 : says (159 ∷ 254 ∷ 255 ∷ 255 ∷ 255 ∷ 127 ∷ []) ≡ codes "PUSHAB @7FFFFFFF(SP)"
unfolding says
row592 = refl

row593 : says (159 ∷ 172 ∷ 192 ∷ []) ≡ codes "PUSHAB -40(AP)"
unfolding says
row593 = refl

row594 : says (160 ∷ 67 ∷ 159 ∷ 52 ∷ 18 ∷ 0 ∷ 0 ∷ 78 ∷ 179 ∷ 255 ∷ []) ≡ codes "ADDW2 @#1234[R3],@-1(R3)[SP]"
unfolding says
row594 = refl

row595 : says (160 ∷ 27 ∷ 67 ∷ 193 ∷ 255 ∷ 255 ∷ []) ≡ codes "ADDW2 #1B,W^-1(R1)[R3]"
unfolding says
row595 = refl

row596 : says (160 ∷ 172 ∷ 128 ∷ 229 ∷ 0 ∷ 128 ∷ 0 ∷ 0 ∷ []) ≡ codes "ADDW2 -80(AP),8000(R5)"
unfolding says
row596 = refl

row597 : says (160 ∷ 238 ∷ 128 ∷ 255 ∷ 255 ∷ 255 ∷ 80 ∷ []) ≡ codes "ADDW2 L^-80(SP),R0"
unfolding says
row597 = refl

row598 : says (160 ∷ 74 ∷ 171 ∷ 255 ∷ 158 ∷ []) ≡ codes "ADDW2 -1(R11)[R10],@(SP)+"
unfolding says
row598 = refl

row599 : says (160 ∷ 143 ∷ 255 ∷ 0 ∷ 201 ∷ 135 ∷ 84 ∷ []) ≡ codes "ADDW2 #FF,5487(R9)"
unfolding says
row599 = refl

row600 : says (160 ∷ 41 ∷ 167 ∷ 128 ∷ []) ≡ codes "ADDW2 #29,-80(R7)"
unfolding says
row600 = refl

row601 : says (160 ∷ 84 ∷ 77 ∷ 109 ∷ []) ≡ codes "ADDW2 R4,(FP)[FP]"
unfolding says
row601 = refl

row602 : says (161 ∷ 81 ∷ 73 ∷ 204 ∷ 0 ∷ 0 ∷ 252 ∷ 0 ∷ 0 ∷ 0 ∷ 0 ∷ []) ≡ codes "ADDW3 R1,W^0(AP)[R9],@L^0(AP)"
unfolding says
row602 = refl

row603 : says (161 ∷ 55 ∷ 173 ∷ 0 ∷ 131 ∷ []) ≡ codes "ADDW3 #37,0(FP),(R3)+"
unfolding says
row603 = refl

row604 : says (161 ∷ 221 ∷ 0 ∷ 0 ∷ 143 ∷ 0 ∷ 128 ∷ 238 ∷ 128 ∷ 0 ∷ 0 ∷ 0 ∷ []) ≡ codes "ADDW3 @W^0(FP),#8000,L^80(SP)"
unfolding says
row604 = refl

row605 : says (161 ∷ 152 ∷ 143 ∷ 218 ∷ 245 ∷ 178 ∷ 255 ∷ []) ≡ codes "ADDW3 @(R8)+,#F5DA,@-1(R2)"
unfolding says
row605 = refl

row606 : says (161 ∷ 86 ∷ 66 ∷ 160 ∷ 128 ∷ 240 ∷ 0 ∷ 128 ∷ 255 ∷ 255 ∷ []) ≡ codes "ADDW3 R6,-80(R0)[R2],@L^-8000(R0)"
unfolding says
row606 = refl

row607 : says (161 ∷ 49 ∷ 240 ∷ 127 ∷ 255 ∷ 255 ∷ 255 ∷ 85 ∷ []) ≡ codes "ADDW3 #31,@L^-81(R0),R5"
unfolding says
row607 = refl

row608 : says (161 ∷ 71 ∷ 234 ∷ 0 ∷ 0 ∷ 0 ∷ 0 ∷ 68 ∷ 195 ∷ 255 ∷ 127 ∷ 226 ∷ 127 ∷ 255 ∷ 255 ∷ 255 ∷ []) ≡ codes "ADDW3 L^0(R10)[R7],7FFF(R3)[R4],L^-81(R2)"
unfolding says
row608 = refl

row609 : says (161 ∷ 81 ∷ 42 ∷ 154 ∷ []) ≡ codes "ADDW3 R1,#2A,@(R10)+"
unfolding says
row609 = refl

row610 : says (162 ∷ 143 ∷ 5 ∷ 0 ∷ 91 ∷ []) ≡ codes "SUBW2 I^#5,R11"
unfolding says
row610 = refl

row611 : says (162 ∷ 242 ∷ 0 ∷ 128 ∷ 0 ∷ 0 ∷ 70 ∷ 191 ∷ 255 ∷ []) ≡ codes "SUBW2 @8000(R2),@B^208[R6]"
unfolding says
row611 = refl

row612 : says (162 ∷ 80 ∷ 90 ∷ []) ≡ codes "SUBW2 R0,R10"
unfolding says
row612 = refl

row613 : says (162 ∷ 93 ∷ 158 ∷ []) ≡ codes "SUBW2 FP,@(SP)+"
unfolding says
row613 = refl

row614 : says (162 ∷ 62 ∷ 70 ∷ 253 ∷ 255 ∷ 127 ∷ 255 ∷ 255 ∷ []) ≡ codes "SUBW2 #3E,@-8001(FP)[R6]"
unfolding says
row614 = refl

row615 : says (162 ∷ 207 ∷ 255 ∷ 127 ∷ 156 ∷ []) ≡ codes "SUBW2 W^8203,@(AP)+"
unfolding says
row615 = refl

row616 : says (162 ∷ 228 ∷ 127 ∷ 0 ∷ 0 ∷ 0 ∷ 74 ∷ 161 ∷ 255 ∷ []) ≡ codes "SUBW2 L^7F(R4),-1(R1)[R10]"
unfolding says
row616 = refl

row617 : says (162 ∷ 84 ∷ 239 ∷ 128 ∷ 0 ∷ 0 ∷ 0 ∷ []) ≡ codes "SUBW2 R4,L^287"
unfolding says
row617 = refl

row618 : says (163 ∷ 194 ∷ 110 ∷ 248 ∷ 114 ∷ 114 ∷ []) ≡ codes "SUBW3 -792(R2),-(R2),-(R2)"
unfolding says
row618 = refl

row619 : says (163 ∷ 161 ∷ 1 ∷ 171 ∷ 128 ∷ 65 ∷ 179 ∷ 255 ∷ []) ≡ codes "SUBW3 1(R1),-80(R11),@-1(R3)[R1]"
unfolding says
row619 = refl

row620 : says (163 ∷ 112 ∷ 18 ∷ 150 ∷ []) ≡ codes "SUBW3 -(R0),#12,@(R6)+"
unfolding says
row620 = refl

row621 : says (163 ∷ 87 ∷ 41 ∷ 169 ∷ 255 ∷ []) ≡ codes "SUBW3 R7,#29,-1(R9)"
unfolding says
row621 = refl

row622 : says (163 ∷ 36 ∷ 176 ∷ 255 ∷ 84 ∷ []) ≡ codes "SUBW3 #24,@-1(R0),R4"
unfolding says
row622 = refl

row623 : says (163 ∷ 223 ∷ 1 ∷ 0 ∷ 30 ∷ 83 ∷ []) ≡ codes "SUBW3 @W^205,#1E,R3"
unfolding says
row623 = refl

row624 : says (163 ∷ 78 ∷ 112 ∷ 181 ∷ 157 ∷ 156 ∷ []) ≡ codes "SUBW3 -(R0)[SP],@-63(R5),@(AP)+"
unfolding says
row624 = refl

row625 : says (163 ∷ 137 ∷ 121 ∷ 87 ∷ []) ≡ codes "SUBW3 (R9)+,-(R9),R7"
unfolding says
row625 = refl

row626 : says (164 ∷ 3 ∷ 74 ∷ 105 ∷ []) ≡ codes "MULW2 #3,(R9)[R10]"
unfolding says
row626 = refl

row627 : says (164 ∷ 69 ∷ 134 ∷ 88 ∷ []) ≡ codes "MULW2 (R6)+[R5],R8"
unfolding says
row627 = refl

row628 : says (164 ∷ 148 ∷ 155 ∷ []) ≡ codes "MULW2 @(R4)+,@(R11)+"
unfolding says
row628 = refl

row629 : says (164 ∷ 31 ∷ 113 ∷ []) ≡ codes "MULW2 #1F,-(R1)"
unfolding says
row629 = refl

row630 : says (164 ∷ 143 ∷ 128 ∷ 0 ∷ 71 ∷ 222 ∷ 0 ∷ 0 ∷ []) ≡ codes "MULW2 #80,@W^0(SP)[R7]"
unfolding says
row630 = refl

row631 : says (164 ∷ 143 ∷ 0 ∷ 128 ∷ 125 ∷ []) ≡ codes "MULW2 #8000,-(FP)"
unfolding says
row631 = refl

row632 : says (164 ∷ 143 ∷ 63 ∷ 0 ∷ 167 ∷ 255 ∷ []) ≡ codes "MULW2 I^#3F,-1(R7)"
unfolding says
row632 = refl

row633 : says (164 ∷ 84 ∷ 235 ∷ 127 ∷ 0 ∷ 0 ∷ 0 ∷ []) ≡ codes "MULW2 R4,L^7F(R11)"
unfolding says
row633 = refl

row634 : says (165 ∷ 152 ∷ 195 ∷ 0 ∷ 0 ∷ 91 ∷ []) ≡ codes "MULW3 @(R8)+,W^0(R3),R11"
unfolding says
row634 = refl

row635 : says (165 ∷ 71 ∷ 227 ∷ 127 ∷ 0 ∷ 0 ∷ 0 ∷ 10 ∷ 86 ∷ []) ≡ codes "MULW3 L^7F(R3)[R7],#A,R6"
unfolding says
row635 = refl

row636 : says (165 ∷ 70 ∷ 251 ∷ 1 ∷ 0 ∷ 0 ∷ 0 ∷ 76 ∷ 251 ∷ 255 ∷ 255 ∷ 255 ∷ 127 ∷ 176 ∷ 243 ∷ []) ≡ codes "MULW3 @L^1(R11)[R6],@7FFFFFFF(R11)[AP],@-D(R0)"
unfolding says
row636 = refl

row637 : says (165 ∷ 143 ∷ 128 ∷ 0 ∷ 61 ∷ 69 ∷ 205 ∷ 255 ∷ 127 ∷ []) ≡ codes "MULW3 #80,#3D,7FFF(FP)[R5]"
unfolding says
row637 = refl

row638 : says (165 ∷ 149 ∷ 68 ∷ 154 ∷ 245 ∷ 127 ∷ 255 ∷ 255 ∷ 255 ∷ []) ≡ codes "MULW3 @(R5)+,@(R10)+[R4],@L^-81(R5)"
unfolding says
row638 = refl

row639 : says (165 ∷ 196 ∷ 128 ∷ 255 ∷ 143 ∷ 94 ∷ 61 ∷ 77 ∷ 192 ∷ 128 ∷ 255 ∷ []) ≡ codes "MULW3 W^-80(R4),#3D5E,W^-80(R0)[FP]"
unfolding says
row639 = refl

row640 : says (165 ∷ 86 ∷ 207 ∷ 0 ∷ 128 ∷ 195 ∷ 0 ∷ 0 ∷ []) ≡ codes "MULW3 R6,W^FFFF8205,W^0(R3)"
unfolding says
row640 = refl

row641 : says (165 ∷ 71 ∷ 125 ∷ 33 ∷ 170 ∷ 0 ∷ []) ≡ codes "MULW3 -(FP)[R7],#21,0(R10)"
unfolding says
row641 = refl

row642 : says (166 ∷ 102 ∷ 137 ∷ []) ≡ codes "DIVW2 (R6),(R9)+"
unfolding says
row642 = refl

row643 : says (166 ∷ 228 ∷ 0 ∷ 128 ∷ 255 ∷ 255 ∷ 203 ∷ 255 ∷ 127 ∷ []) ≡ codes "DIVW2 L^-8000(R4),7FFF(R11)"
unfolding says
row643 = refl

row644 : says (166 ∷ 70 ∷ 250 ∷ 128 ∷ 255 ∷ 255 ∷ 255 ∷ 228 ∷ 255 ∷ 127 ∷ 255 ∷ 255 ∷ []) ≡ codes "DIVW2 @L^-80(R10)[R6],-8001(R4)"
unfolding says
row644 = refl

row645 : says (166 ∷ 251 ∷ 0 ∷ 128 ∷ 255 ∷ 255 ∷ 141 ∷ []) ≡ codes "DIVW2 @L^-8000(R11),(FP)+"
unfolding says
row645 = refl

row646 : says (166 ∷ 45 ∷ 233 ∷ 128 ∷ 255 ∷ 255 ∷ 255 ∷ []) ≡ codes "DIVW2 #2D,L^-80(R9)"
unfolding says
row646 = refl

row647 : says (166 ∷ 143 ∷ 127 ∷ 0 ∷ 70 ∷ 222 ∷ 128 ∷ 0 ∷ []) ≡ codes "DIVW2 #7F,@80(SP)[R6]"
unfolding says
row647 = refl

row648 : says (166 ∷ 196 ∷ 255 ∷ 255 ∷ 168 ∷ 0 ∷ []) ≡ codes "DIVW2 W^-1(R4),0(R8)"
unfolding says
row648 = refl

row649 : says (166 ∷ 37 ∷ 212 ∷ 255 ∷ 255 ∷ []) ≡ codes "DIVW2 #25,@W^-1(R4)"
unfolding says
row649 = refl

row650 : says (167 ∷ 212 ∷ 127 ∷ 0 ∷ 235 ∷ 0 ∷ 0 ∷ 0 ∷ 128 ∷ 68 ∷ 167 ∷ 0 ∷ []) ≡ codes "DIVW3 @W^7F(R4),-80000000(R11),0(R7)[R4]"
unfolding says
row650 = refl

row651 : says (167 ∷ 69 ∷ 120 ∷ 71 ∷ 109 ∷ 138 ∷ []) ≡ codes "DIVW3 -(R8)[R5],(FP)[R7],(R10)+"
unfolding says
row651 = refl

row652 : says (167 ∷ 195 ∷ 0 ∷ 0 ∷ 87 ∷ 77 ∷ 228 ∷ 255 ∷ 127 ∷ 0 ∷ 0 ∷ []) ≡ codes "DIVW3 W^0(R3),R7,L^7FFF(R4)[FP]"
unfolding says
row652 = refl

row653 : says (167 ∷ 24 ∷ 143 ∷ 128 ∷ 0 ∷ 217 ∷ 127 ∷ 255 ∷ []) ≡ codes "DIVW3 #18,#80,@-81(R9)"
unfolding says
row653 = refl

row654 : says (167 ∷ 40 ∷ 84 ∷ 218 ∷ 255 ∷ 127 ∷ []) ≡ codes "DIVW3 #28,R4,@7FFF(R10)"
unfolding says
row654 = refl

row655 : says (167 ∷ 47 ∷ 91 ∷ 200 ∷ 128 ∷ 255 ∷ []) ≡ codes "DIVW3 #2F,R11,W^-80(R8)"
unfolding says
row655 = refl

row656 : says (167 ∷ 51 ∷ 143 ∷ 255 ∷ 0 ∷ 99 ∷ []) ≡ codes "DIVW3 #33,#FF,(R3)"
unfolding says
row656 = refl

row657 : says (167 ∷ 143 ∷ 255 ∷ 0 ∷ 74 ∷ 148 ∷ 87 ∷ []) ≡ codes "DIVW3 #FF,@(R4)+[R10],R7"
unfolding says
row657 = refl

row658 : says (168 ∷ 143 ∷ 5 ∷ 0 ∷ 230 ∷ 0 ∷ 0 ∷ 0 ∷ 0 ∷ []) ≡ codes "BISW2 I^#5,L^0(R6)"
unfolding says
row658 = refl

row659 : says (168 ∷ 143 ∷ 255 ∷ 0 ∷ 71 ∷ 219 ∷ 127 ∷ 255 ∷ []) ≡ codes "BISW2 #FF,@-81(R11)[R7]"
unfolding says
row659 = refl

row660 : says (168 ∷ 143 ∷ 63 ∷ 0 ∷ 124 ∷ []) ≡ codes "BISW2 I^#3F,-(AP)"
unfolding says
row660 = refl

row661 : says (168 ∷ 218 ∷ 127 ∷ 0 ∷ 78 ∷ 222 ∷ 255 ∷ 127 ∷ []) ≡ codes "BISW2 @W^7F(R10),@7FFF(SP)[SP]"
unfolding says
row661 = refl

row662 : says (168 ∷ 73 ∷ 163 ∷ 0 ∷ 65 ∷ 196 ∷ 87 ∷ 5 ∷ []) ≡ codes "BISW2 0(R3)[R9],557(R4)[R1]"
unfolding says
row662 = refl

row663 : says (168 ∷ 78 ∷ 198 ∷ 255 ∷ 255 ∷ 243 ∷ 165 ∷ 203 ∷ 99 ∷ 239 ∷ []) ≡ codes "BISW2 W^-1(R6)[SP],@-109C345B(R3)"
unfolding says
row663 = refl

row664 : says (168 ∷ 179 ∷ 0 ∷ 204 ∷ 127 ∷ 255 ∷ []) ≡ codes "BISW2 @0(R3),-81(AP)"
unfolding says
row664 = refl

row665 : says (168 ∷ 68 ∷ 205 ∷ 255 ∷ 127 ∷ 244 ∷ 0 ∷ 128 ∷ 0 ∷ 0 ∷ []) ≡ codes "BISW2 7FFF(FP)[R4],@8000(R4)"
unfolding says
row665 = refl

row666 : says (169 ∷ 42 ∷ 84 ∷ 117 ∷ []) ≡ codes "BISW3 #2A,R4,-(R5)"
unfolding says
row666 = refl

row667 : says (169 ∷ 0 ∷ 143 ∷ 127 ∷ 0 ∷ 71 ∷ 240 ∷ 0 ∷ 128 ∷ 255 ∷ 255 ∷ []) ≡ codes "BISW3 #0,#7F,@L^-8000(R0)[R7]"
unfolding says
row667 = refl

row668 : says (169 ∷ 50 ∷ 83 ∷ 74 ∷ 202 ∷ 128 ∷ 255 ∷ []) ≡ codes "BISW3 #32,R3,W^-80(R10)[R10]"
unfolding says
row668 = refl

row669 : says (169 ∷ 244 ∷ 255 ∷ 255 ∷ 255 ∷ 255 ∷ 150 ∷ 87 ∷ []) ≡ codes "BISW3 @L^-1(R4),@(R6)+,R7"
unfolding says
row669 = refl

row670 : says (169 ∷ 143 ∷ 255 ∷ 0 ∷ 72 ∷ 109 ∷ 200 ∷ 0 ∷ 0 ∷ []) ≡ codes "BISW3 #FF,(FP)[R8],W^0(R8)"
unfolding says
row670 = refl

row671 : says (169 ∷ 143 ∷ 52 ∷ 18 ∷ 86 ∷ 219 ∷ 1 ∷ 0 ∷ []) ≡ codes "BISW3 #1234,R6,@W^1(R11)"
unfolding says
row671 = refl

row672 : says (169 ∷ 194 ∷ 128 ∷ 0 ∷ 143 ∷ 255 ∷ 0 ∷ 223 ∷ 0 ∷ 128 ∷ []) ≡ codes "BISW3 80(R2),#FF,@W^FFFF820A"
unfolding says
row672 = refl

row673 : says (169 ∷ 77 ∷ 183 ∷ 0 ∷ 119 ∷ 117 ∷ []) ≡ codes "BISW3 @0(R7)[FP],-(R7),-(R5)"
unfolding says
row673 = refl

row674 : says (170 ∷ 78 ∷ 203 ∷ 127 ∷ 0 ∷ 222 ∷ 128 ∷ 255 ∷ []) ≡ codes "BICW2 W^7F(R11)[SP],@W^-80(SP)"
unfolding says
row674 = refl

row675 : says (170 ∷ 38 ∷ 83 ∷ []) ≡ codes "BICW2 #26,R3"
unfolding says
row675 = refl

row676 : says (170 ∷ 32 ∷ 74 ∷ 233 ∷ 0 ∷ 0 ∷ 0 ∷ 128 ∷ []) ≡ codes "BICW2 #20,-80000000(R9)[R10]"
unfolding says
row676 = refl

row677 : says (170 ∷ 74 ∷ 123 ∷ 80 ∷ []) ≡ codes "BICW2 -(R11)[R10],R0"
unfolding says
row677 = refl

row678 : says (170 ∷ 142 ∷ 196 ∷ 128 ∷ 0 ∷ []) ≡ codes "BICW2 (SP)+,80(R4)"
unfolding says
row678 = refl

row679 : says (170 ∷ 83 ∷ 97 ∷ []) ≡ codes "BICW2 R3,(R1)"
unfolding says
row679 = refl

row680 : says (170 ∷ 58 ∷ 227 ∷ 1 ∷ 0 ∷ 0 ∷ 0 ∷ []) ≡ codes "BICW2 #3A,L^1(R3)"
unfolding says
row680 = refl

row681 : says (170 ∷ 82 ∷ 66 ∷ 142 ∷ []) ≡ codes "BICW2 R2,(SP)+[R2]"
unfolding says
row681 = refl

row682 : says (171 ∷ 57 ∷ 143 ∷ 52 ∷ 18 ∷ 129 ∷ []) ≡ codes "BICW3 #39,#1234,(R1)+"
unfolding says
row682 = refl

row683 : says (171 ∷ 78 ∷ 215 ∷ 128 ∷ 0 ∷ 164 ∷ 255 ∷ 96 ∷ []) ≡ codes "BICW3 @80(R7)[SP],-1(R4),(R0)"
unfolding says
row683 = refl

row684 : says (171 ∷ 129 ∷ 4 ∷ 80 ∷ []) ≡ codes "BICW3 (R1)+,#4,R0"
unfolding says
row684 = refl

row685 : says (171 ∷ 75 ∷ 207 ∷ 0 ∷ 128 ∷ 85 ∷ 235 ∷ 128 ∷ 0 ∷ 0 ∷ 0 ∷ []) ≡ codes "BICW3 W^FFFF8205[R11],R5,L^80(R11)"
unfolding says
row685 = refl

row686 : says (171 ∷ 71 ∷ 178 ∷ 127 ∷ 39 ∷ 123 ∷ []) ≡ codes "BICW3 @7F(R2)[R7],#27,-(R11)"
unfolding says
row686 = refl

row687 : says (171 ∷ 169 ∷ 1 ∷ 198 ∷ 255 ∷ 255 ∷ 194 ∷ 255 ∷ 255 ∷ []) ≡ codes "BICW3 1(R9),W^-1(R6),W^-1(R2)"
unfolding says
row687 = refl

row688 : says (171 ∷ 143 ∷ 63 ∷ 0 ∷ 207 ∷ 127 ∷ 255 ∷ 190 ∷ 255 ∷ []) ≡ codes "BICW3 I^#3F,W^186,@-1(SP)"
unfolding says
row688 = refl

row689 : says (171 ∷ 89 ∷ 170 ∷ 255 ∷ 172 ∷ 128 ∷ []) ≡ codes "BICW3 R9,-1(R10),-80(AP)"
unfolding says
row689 = refl

row690 : says (172 ∷ 134 ∷ 74 ∷ 177 ∷ 255 ∷ []) ≡ codes "XORW2 (R6)+,@-1(R1)[R10]"
unfolding says
row690 = refl

row691 : says (172 ∷ 71 ∷ 230 ∷ 51 ∷ 240 ∷ 113 ∷ 205 ∷ 137 ∷ []) ≡ codes "XORW2 -328E0FCD(R6)[R7],(R9)+"
unfolding says
row691 = refl

row692 : says (172 ∷ 85 ∷ 198 ∷ 0 ∷ 0 ∷ []) ≡ codes "XORW2 R5,W^0(R6)"
unfolding says
row692 = refl

row693 : says (172 ∷ 124 ∷ 86 ∷ []) ≡ codes "XORW2 -(AP),R6"
unfolding says
row693 = refl

row694 : says (172 ∷ 196 ∷ 255 ∷ 127 ∷ 150 ∷ []) ≡ codes "XORW2 7FFF(R4),@(R6)+"
unfolding says
row694 = refl

row695 : says (172 ∷ 76 ∷ 202 ∷ 0 ∷ 128 ∷ 232 ∷ 127 ∷ 255 ∷ 255 ∷ 255 ∷ []) ≡ codes "XORW2 -8000(R10)[AP],L^-81(R8)"
unfolding says
row695 = refl

row696 : says (172 ∷ 66 ∷ 136 ∷ 207 ∷ 0 ∷ 0 ∷ []) ≡ codes "XORW2 (R8)+[R2],W^206"
unfolding says
row696 = refl

row697 : says (172 ∷ 119 ∷ 73 ∷ 170 ∷ 128 ∷ []) ≡ codes "XORW2 -(R7),-80(R10)[R9]"
unfolding says
row697 = refl

row698 : says (173 ∷ 143 ∷ 0 ∷ 128 ∷ 92 ∷ 73 ∷ 193 ∷ 127 ∷ 0 ∷ []) ≡ codes "XORW3 #8000,AP,W^7F(R1)[R9]"
unfolding says
row698 = refl

row699 : says (173 ∷ 181 ∷ 1 ∷ 64 ∷ 234 ∷ 0 ∷ 128 ∷ 255 ∷ 255 ∷ 189 ∷ 127 ∷ []) ≡ codes "XORW3 @1(R5),L^-8000(R10)[R0],@7F(FP)"
unfolding says
row699 = refl

row700 : says (173 ∷ 28 ∷ 85 ∷ 221 ∷ 0 ∷ 0 ∷ []) ≡ codes "XORW3 #1C,R5,@W^0(FP)"
unfolding says
row700 = refl

row701 : says (173 ∷ 71 ∷ 164 ∷ 255 ∷ 46 ∷ 206 ∷ 128 ∷ 0 ∷ []) ≡ codes "XORW3 -1(R4)[R7],#2E,80(SP)"
unfolding says
row701 = refl

row702 : says (173 ∷ 18 ∷ 92 ∷ 84 ∷ []) ≡ codes "XORW3 #12,AP,R4"
unfolding says
row702 = refl

row703 : says (173 ∷ 142 ∷ 101 ∷ 189 ∷ 0 ∷ []) ≡ codes "XORW3 (SP)+,(R5),@0(FP)"
unfolding says
row703 = refl

row704 : says (173 ∷ 6 ∷ 143 ∷ 52 ∷ 18 ∷ 86 ∷ []) ≡ codes "XORW3 #6,#1234,R6"
unfolding says
row704 = refl

row705 : says (173 ∷ 83 ∷ 70 ∷ 169 ∷ 0 ∷ 67 ∷ 198 ∷ 1 ∷ 0 ∷ []) ≡ codes "XORW3 R3,0(R9)[R6],W^1(R6)[R3]"
unfolding says
row705 = refl

row706 : says (174 ∷ 226 ∷ 1 ∷ 0 ∷ 0 ∷ 0 ∷ 65 ∷ 212 ∷ 255 ∷ 127 ∷ []) ≡ codes "MNEGW L^1(R2),@7FFF(R4)[R1]"
unfolding says
row706 = refl

row707 : says (174 ∷ 18 ∷ 221 ∷ 128 ∷ 255 ∷ []) ≡ codes "MNEGW #12,@W^-80(FP)"
unfolding says
row707 = refl

row708 : says (174 ∷ 143 ∷ 255 ∷ 127 ∷ 242 ∷ 255 ∷ 127 ∷ 255 ∷ 255 ∷ []) ≡ codes "MNEGW #7FFF,@-8001(R2)"
unfolding says
row708 = refl

row709 : says (174 ∷ 177 ∷ 0 ∷ 93 ∷ []) ≡ codes "MNEGW @0(R1),FP"
unfolding says
row709 = refl

row710 : says (174 ∷ 16 ∷ 72 ∷ 226 ∷ 0 ∷ 0 ∷ 0 ∷ 128 ∷ []) ≡ codes "MNEGW #10,-80000000(R2)[R8]"
unfolding says
row710 = refl

row711 : says (174 ∷ 143 ∷ 64 ∷ 0 ∷ 65 ∷ 200 ∷ 0 ∷ 0 ∷ []) ≡ codes "MNEGW #40,W^0(R8)[R1]"
unfolding says
row711 = refl

row712 : says (174 ∷ 163 ∷ 255 ∷ 252 ∷ 127 ∷ 255 ∷ 255 ∷ 255 ∷ []) ≡ codes "MNEGW -1(R3),@L^-81(AP)"
unfolding says
row712 = refl

row713 : says (174 ∷ 119 ∷ 217 ∷ 0 ∷ 0 ∷ []) ≡ codes "MNEGW -(R7),@W^0(R9)"
unfolding says
row713 = refl

row714 : says (175 ∷ 71 ∷ 251 ∷ 0 ∷ 128 ∷ 255 ∷ 255 ∷ 143 ∷ 63 ∷ 0 ∷ 74 ∷ 174 ∷ 255 ∷ []) ≡ codes "CASEW @L^-8000(R11)[R7],I^#3F,-1(SP)[R10]"
unfolding says
row714 = refl

row715 : says (175 ∷ 68 ∷ 254 ∷ 0 ∷ 0 ∷ 0 ∷ 128 ∷ 194 ∷ 127 ∷ 0 ∷ 89 ∷ []) ≡ codes "CASEW @-80000000(SP)[R4],W^7F(R2),R9"
unfolding says
row715 = refl

row716 : says (175 ∷ 72 ∷ 227 ∷ 0 ∷ 0 ∷ 0 ∷ 0 ∷ 183 ∷ 127 ∷ 117 ∷ []) ≡ codes "CASEW L^0(R3)[R8],@7F(R7),-(R5)"
unfolding says
row716 = refl

row717 : says (175 ∷ 170 ∷ 128 ∷ 80 ∷ 78 ∷ 133 ∷ []) ≡ codes "CASEW -80(R10),R0,(R5)+[SP]"
unfolding says
row717 = refl

row718 : says (175 ∷ 80 ∷ 86 ∷ 86 ∷ []) ≡ codes "CASEW R0,R6,R6"
unfolding says
row718 = refl

row719 : says (175 ∷ 157 ∷ 21 ∷ 147 ∷ []) ≡ codes "CASEW @(FP)+,#15,@(R3)+"
unfolding says
row719 = refl

row720 : says (175 ∷ 88 ∷ 143 ∷ 255 ∷ 127 ∷ 133 ∷ []) ≡ codes "CASEW R8,#7FFF,(R5)+"
unfolding says
row720 = refl

row721 : says (175 ∷ 87 ∷ 57 ∷ 143 ∷ 64 ∷ 0 ∷ []) ≡ codes "CASEW R7,#39,#40"
unfolding says
row721 = refl

row722 : says (176 ∷ 89 ∷ 150 ∷ []) ≡ codes "MOVW R9,@(R6)+"
unfolding says
row722 = refl

row723 : says (176 ∷ 92 ∷ 77 ∷ 200 ∷ 127 ∷ 0 ∷ []) ≡ codes "MOVW AP,W^7F(R8)[FP]"
unfolding says
row723 = refl

row724 : says (176 ∷ 76 ∷ 158 ∷ 234 ∷ 127 ∷ 0 ∷ 0 ∷ 0 ∷ []) ≡ codes "MOVW @(SP)+[AP],L^7F(R10)"
unfolding says
row724 = refl

row725 : says (176 ∷ 86 ∷ 237 ∷ 127 ∷ 255 ∷ 255 ∷ 255 ∷ []) ≡ codes "MOVW R6,L^-81(FP)"
unfolding says
row725 = refl

row726 : says (176 ∷ 211 ∷ 127 ∷ 0 ∷ 88 ∷ []) ≡ codes "MOVW @W^7F(R3),R8"
unfolding says
row726 = refl

row727 : says (176 ∷ 72 ∷ 207 ∷ 128 ∷ 0 ∷ 74 ∷ 169 ∷ 0 ∷ []) ≡ codes "MOVW W^285[R8],0(R9)[R10]"
unfolding says
row727 = refl

row728 : says (176 ∷ 143 ∷ 127 ∷ 0 ∷ 74 ∷ 231 ∷ 127 ∷ 0 ∷ 0 ∷ 0 ∷ []) ≡ codes "MOVW #7F,L^7F(R7)[R10]"
unfolding says
row728 = refl

row729 : says (176 ∷ 32 ∷ 159 ∷ 52 ∷ 18 ∷ 0 ∷ 0 ∷ []) ≡ codes "MOVW #20,@#1234"
unfolding says
row729 = refl

row730 : says (177 ∷ 69 ∷ 206 ∷ 127 ∷ 0 ∷ 82 ∷ []) ≡ codes "CMPW W^7F(SP)[R5],R2"
unfolding says
row730 = refl

row731 : says (177 ∷ 169 ∷ 0 ∷ 74 ∷ 171 ∷ 128 ∷ []) ≡ codes "CMPW 0(R9),-80(R11)[R10]"
unfolding says
row731 = refl

row732 : says (177 ∷ 70 ∷ 202 ∷ 0 ∷ 128 ∷ 116 ∷ []) ≡ codes "CMPW -8000(R10)[R6],-(R4)"
unfolding says
row732 = refl

row733 : says (177 ∷ 91 ∷ 68 ∷ 109 ∷ []) ≡ codes "CMPW R11,(FP)[R4]"
unfolding says
row733 = refl

row734 : says (177 ∷ 143 ∷ 5 ∷ 0 ∷ 67 ∷ 194 ∷ 255 ∷ 127 ∷ []) ≡ codes "CMPW I^#5,7FFF(R2)[R3]"
unfolding says
row734 = refl

row735 : says (177 ∷ 17 ∷ 49 ∷ []) ≡ codes "CMPW #11,#31"
unfolding says
row735 = refl

row736 : says (177 ∷ 199 ∷ 0 ∷ 0 ∷ 20 ∷ []) ≡ codes "CMPW W^0(R7),#14"
unfolding says
row736 = refl

row737 : says (177 ∷ 143 ∷ 0 ∷ 0 ∷ 212 ∷ 255 ∷ 127 ∷ []) ≡ codes "CMPW I^#0,@7FFF(R4)"
unfolding says
row737 = refl

row738 : says (178 ∷ 145 ∷ 68 ∷ 197 ∷ 255 ∷ 127 ∷ []) ≡ codes "MCOMW @(R1)+,7FFF(R5)[R4]"
unfolding says
row738 = refl

row739 : says (178 ∷ 193 ∷ 127 ∷ 0 ∷ 75 ∷ 117 ∷ []) ≡ codes "MCOMW W^7F(R1),-(R5)[R11]"
unfolding says
row739 = refl

row740 : says (178 ∷ 68 ∷ 228 ∷ 255 ∷ 255 ∷ 255 ∷ 255 ∷ 153 ∷ []) ≡ codes "MCOMW L^-1(R4)[R4],@(R9)+"
unfolding says
row740 = refl

row741 : says (178 ∷ 150 ∷ 89 ∷ []) ≡ codes "MCOMW @(R6)+,R9"
unfolding says
row741 = refl

row742 : says (178 ∷ 143 ∷ 127 ∷ 0 ∷ 172 ∷ 255 ∷ []) ≡ codes "MCOMW #7F,-1(AP)"
unfolding says
row742 = refl

row743 : says (178 ∷ 143 ∷ 5 ∷ 0 ∷ 80 ∷ []) ≡ codes "MCOMW I^#5,R0"
unfolding says
row743 = refl

row744 : says (178 ∷ 69 ∷ 187 ∷ 0 ∷ 148 ∷ []) ≡ codes "MCOMW @0(R11)[R5],@(R4)+"
unfolding says
row744 = refl

row745 : says (178 ∷ 119 ∷ 218 ∷ 255 ∷ 127 ∷ []) ≡ codes "MCOMW -(R7),@7FFF(R10)"
unfolding says
row745 = refl

row746 : says (179 ∷ 75 ∷ 212 ∷ 127 ∷ 255 ∷ 143 ∷ 5 ∷ 0 ∷ []) ≡ codes "BITW @-81(R4)[R11],I^#5"
unfolding says
row746 = refl

row747 : says (179 ∷ 67 ∷ 252 ∷ 255 ∷ 255 ∷ 255 ∷ 127 ∷ 90 ∷ []) ≡ codes "BITW @7FFFFFFF(AP)[R3],R10"
unfolding says
row747 = refl

row748 : says (179 ∷ 143 ∷ 127 ∷ 0 ∷ 7 ∷ []) ≡ codes "BITW #7F,#7"
unfolding says
row748 = refl

row749 : says (179 ∷ 143 ∷ 52 ∷ 18 ∷ 46 ∷ []) ≡ codes "BITW #1234,#2E"
unfolding says
row749 = refl

row750 : says (179 ∷ 161 ∷ 0 ∷ 77 ∷ 221 ∷ 127 ∷ 255 ∷ []) ≡ codes "BITW 0(R1),@-81(FP)[FP]"
unfolding says
row750 = refl

row751 : says (179 ∷ 84 ∷ 13 ∷ []) ≡ codes "BITW R4,#D"
unfolding says
row751 = refl

row752 : says (179 ∷ 175 ∷ 128 ∷ 59 ∷ []) ≡ codes "BITW B^183,#3B"
unfolding says
row752 = refl

row753 : says (179 ∷ 143 ∷ 64 ∷ 0 ∷ 234 ∷ 128 ∷ 255 ∷ 255 ∷ 255 ∷ []) ≡ codes "BITW #40,L^-80(R10)"
unfolding says
row753 = refl

row754 : says (180 ∷ 72 ∷ 199 ∷ 0 ∷ 0 ∷ []) ≡ codes "CLRW W^0(R7)[R8]"
unfolding says
row754 = refl

row755 : says (180 ∷ 125 ∷ []) ≡ codes "CLRW -(FP)"
unfolding says
row755 = refl

row756 : says (180 ∷ 137 ∷ []) ≡ codes "CLRW (R9)+"
unfolding says
row756 = refl

row757 : says (180 ∷ 78 ∷ 129 ∷ []) ≡ codes "CLRW (R1)+[SP]"
unfolding says
row757 = refl

row758 : says (180 ∷ 89 ∷ []) ≡ codes "CLRW R9"
unfolding says
row758 = refl

row759 : says (180 ∷ 89 ∷ []) ≡ codes "CLRW R9"
unfolding says
row759 = refl

row760 : says (180 ∷ 65 ∷ 162 ∷ 255 ∷ []) ≡ codes "CLRW -1(R2)[R1]"
unfolding says
row760 = refl

row761 : says (180 ∷ 207 ∷ 255 ∷ 255 ∷ []) ≡ codes "CLRW W^203"
unfolding says
row761 = refl

row762 : says (181 ∷ 61 ∷ []) ≡ codes "TSTW #3D"
unfolding says
row762 = refl

row763 : says (181 ∷ 135 ∷ []) ≡ codes "TSTW (R7)+"
unfolding says
row763 = refl

row764 : says (181 ∷ 143 ∷ 52 ∷ 18 ∷ []) ≡ codes "TSTW #1234"
unfolding says
row764 = refl

row765 : says (181 ∷ 216 ∷ 128 ∷ 0 ∷ []) ≡ codes "TSTW @80(R8)"
unfolding says
row765 = refl

row766 : says (181 ∷ 177 ∷ 127 ∷ []) ≡ codes "TSTW @7F(R1)"
unfolding says
row766 = refl

row767 : says (181 ∷ 184 ∷ 255 ∷ []) ≡ codes "TSTW @-1(R8)"
unfolding says
row767 = refl

row768 : says (181 ∷ 33 ∷ []) ≡ codes "TSTW #21"
unfolding says
row768 = refl

row769 : says (181 ∷ 225 ∷ 255 ∷ 127 ∷ 0 ∷ 0 ∷ []) ≡ codes "TSTW L^7FFF(R1)"
unfolding says
row769 = refl

row770 : says (182 ∷ 130 ∷ []) ≡ codes "INCW (R2)+"
unfolding says
row770 = refl

row771 : says (182 ∷ 230 ∷ 0 ∷ 128 ∷ 0 ∷ 0 ∷ []) ≡ codes "INCW 8000(R6)"
unfolding says
row771 = refl

row772 : says (182 ∷ 162 ∷ 0 ∷ []) ≡ codes "INCW 0(R2)"
unfolding says
row772 = refl

row773 : says (182 ∷ 132 ∷ []) ≡ codes "INCW (R4)+"
unfolding says
row773 = refl

row774 : says (182 ∷ 74 ∷ 250 ∷ 255 ∷ 255 ∷ 255 ∷ 127 ∷ []) ≡ codes "INCW @7FFFFFFF(R10)[R10]"
unfolding says
row774 = refl

row775 : says (182 ∷ 74 ∷ 128 ∷ []) ≡ codes "INCW (R0)+[R10]"
unfolding says
row775 = refl

row776 : says (182 ∷ 98 ∷ []) ≡ codes "INCW (R2)"
unfolding says
row776 = refl

row777 : says (182 ∷ 67 ∷ 128 ∷ []) ≡ codes "INCW (R0)+[R3]"
unfolding says
row777 = refl

row778 : says (183 ∷ 145 ∷ []) ≡ codes "DECW @(R1)+"
unfolding says
row778 = refl

row779 : says (183 ∷ 187 ∷ 71 ∷ []) ≡ codes "DECW @47(R11)"
unfolding says
row779 = refl

row780 : says (183 ∷ 93 ∷ []) ≡ codes "DECW FP"
unfolding says
row780 = refl

row781 : says (183 ∷ 122 ∷ []) ≡ codes "DECW -(R10)"
unfolding says
row781 = refl

row782 : says (183 ∷ 215 ∷ 127 ∷ 255 ∷ []) ≡ codes "DECW @-81(R7)"
unfolding says
row782 = refl

row783 : says (183 ∷ 77 ∷ 252 ∷ 128 ∷ 0 ∷ 0 ∷ 0 ∷ []) ≡ codes "DECW @L^80(AP)[FP]"
unfolding says
row783 = refl

row784 : says (183 ∷ 86 ∷ []) ≡ codes "DECW R6"
unfolding says
row784 = refl

row785 : says (183 ∷ 97 ∷ []) ≡ codes "DECW (R1)"
unfolding says
row785 = refl

row786 : says (184 ∷ 73 ∷ 132 ∷ []) ≡ codes "BISPSW (R4)+[R9]"
unfolding says
row786 = refl

row787 : says (184 ∷ 87 ∷ []) ≡ codes "BISPSW R7"
unfolding says
row787 = refl

row788 : says (184 ∷ 143 ∷ 128 ∷ 0 ∷ []) ≡ codes "BISPSW #80"
unfolding says
row788 = refl

row789 : says (184 ∷ 143 ∷ 0 ∷ 0 ∷ []) ≡ codes "BISPSW I^#0"
unfolding says
row789 = refl

row790 : says (184 ∷ 124 ∷ []) ≡ codes "BISPSW -(AP)"
unfolding says
row790 = refl

row791 : says (184 ∷ 100 ∷ []) ≡ codes "BISPSW (R4)"
unfolding says
row791 = refl

row792 : says (184 ∷ 143 ∷ 165 ∷ 12 ∷ []) ≡ codes "BISPSW #CA5"
unfolding says
row792 = refl

row793 : says (184 ∷ 10 ∷ []) ≡ codes "BISPSW #A"
unfolding says
row793 = refl

row794 : says (185 ∷ 85 ∷ []) ≡ codes "BICPSW R5"
unfolding says
row794 = refl

row795 : says (185 ∷ 87 ∷ []) ≡ codes "BICPSW R7"
unfolding says
row795 = refl

row796 : says (185 ∷ 143 ∷ 128 ∷ 0 ∷ []) ≡ codes "BICPSW #80"
unfolding says
row796 = refl

row797 : says (185 ∷ 142 ∷ []) ≡ codes "BICPSW (SP)+"
unfolding says
row797 = refl

row798 : says (185 ∷ 91 ∷ []) ≡ codes "BICPSW R11"
unfolding says
row798 = refl

row799 : says (185 ∷ 4 ∷ []) ≡ codes "BICPSW #4"
unfolding says
row799 = refl

row800 : says (185 ∷ 74 ∷ 166 ∷ 1 ∷ []) ≡ codes "BICPSW 1(R6)[R10]"
unfolding says
row800 = refl

row801 : says (185 ∷ 237 ∷ 128 ∷ 255 ∷ 255 ∷ 255 ∷ []) ≡ codes "BICPSW L^-80(FP)"
unfolding says
row801 = refl

row802 : says (186 ∷ 222 ∷ 0 ∷ 128 ∷ []) ≡ codes "POPR @-8000(SP)"
unfolding says
row802 = refl

row803 : says (186 ∷ 179 ∷ 128 ∷ []) ≡ codes "POPR @-80(R3)"
unfolding says
row803 = refl

row804 : says (186 ∷ 81 ∷ []) ≡ codes "POPR R1"
unfolding says
row804 = refl

row805 : says (186 ∷ 236 ∷ 108 ∷ 79 ∷ 218 ∷ 192 ∷ []) ≡ codes "POPR -3F25B094(AP)"
unfolding says
row805 = refl

row806 : says (186 ∷ 135 ∷ []) ≡ codes "POPR (R7)+"
unfolding says
row806 = refl

row807 : says (186 ∷ 87 ∷ []) ≡ codes "POPR R7"
unfolding says
row807 = refl

row808 : says (186 ∷ 164 ∷ 255 ∷ []) ≡ codes "POPR -1(R4)"
unfolding says
row808 = refl

row809 : says (186 ∷ 71 ∷ 176 ∷ 0 ∷ []) ≡ codes "POPR @0(R0)[R7]"
unfolding says
row809 = refl

row810 : says (187 ∷ 209 ∷ 0 ∷ 128 ∷ []) ≡ codes "PUSHR @-8000(R1)"
unfolding says
row810 = refl

row811 : says (187 ∷ 88 ∷ []) ≡ codes "PUSHR R8"
unfolding says
row811 = refl

row812 : says (187 ∷ 40 ∷ []) ≡ codes "PUSHR #28"
unfolding says
row812 = refl

row813 : says (187 ∷ 233 ∷ 255 ∷ 127 ∷ 255 ∷ 255 ∷ []) ≡ codes "PUSHR -8001(R9)"
unfolding says
row813 = refl

row814 : says (187 ∷ 106 ∷ []) ≡ codes "PUSHR (R10)"
unfolding says
row814 = refl

row815 : says (187 ∷ 196 ∷ 255 ∷ 127 ∷ []) ≡ codes "PUSHR 7FFF(R4)"
unfolding says
row815 = refl

row816 : says (187 ∷ 224 ∷ 1 ∷ 0 ∷ 0 ∷ 0 ∷ []) ≡ codes "PUSHR L^1(R0)"
unfolding says
row816 = refl

row817 : says (187 ∷ 143 ∷ 52 ∷ 18 ∷ []) ≡ codes "PUSHR #1234"
unfolding says
row817 = refl

row818 : says (188 ∷ 9 ∷ []) ≡ codes "CHMK #9"
unfolding says
row818 = refl

row819 : says (188 ∷ 160 ∷ 128 ∷ []) ≡ codes "CHMK -80(R0)"
unfolding says
row819 = refl

row820 : says (188 ∷ 143 ∷ 1 ∷ 0 ∷ []) ≡ codes "CHMK I^#1"
unfolding says
row820 = refl

row821 : says (188 ∷ 92 ∷ []) ≡ codes "CHMK AP"
unfolding says
row821 = refl

row822 : says (188 ∷ 198 ∷ 255 ∷ 127 ∷ []) ≡ codes "CHMK 7FFF(R6)"
unfolding says
row822 = refl

row823 : says (188 ∷ 65 ∷ 191 ∷ 1 ∷ []) ≡ codes "CHMK @B^205[R1]"
unfolding says
row823 = refl

row824 : says (188 ∷ 165 ∷ 128 ∷ []) ≡ codes "CHMK -80(R5)"
unfolding says
row824 = refl

row825 : says (188 ∷ 14 ∷ []) ≡ codes "CHMK #E"
unfolding says
row825 = refl

row826 : says (192 ∷ 217 ∷ 128 ∷ 255 ∷ 76 ∷ 238 ∷ 255 ∷ 255 ∷ 255 ∷ 255 ∷ []) ≡ codes "ADDL2 @W^-80(R9),L^-1(SP)[AP]"
unfolding says
row826 = refl

row827 : says (192 ∷ 143 ∷ 255 ∷ 127 ∷ 0 ∷ 0 ∷ 161 ∷ 174 ∷ []) ≡ codes "ADDL2 #7FFF,-52(R1)"
unfolding says
row827 = refl

row828 : says (192 ∷ 87 ∷ 202 ∷ 128 ∷ 255 ∷ []) ≡ codes "ADDL2 R7,W^-80(R10)"
unfolding says
row828 = refl

row829 : says (192 ∷ 173 ∷ 127 ∷ 124 ∷ []) ≡ codes "ADDL2 7F(FP),-(AP)"
unfolding says
row829 = refl

row830 : says (192 ∷ 143 ∷ 5 ∷ 0 ∷ 0 ∷ 0 ∷ 231 ∷ 1 ∷ 0 ∷ 0 ∷ 0 ∷ []) ≡ codes "ADDL2 I^#5,L^1(R7)"
unfolding says
row830 = refl

row831 : says (192 ∷ 65 ∷ 135 ∷ 221 ∷ 1 ∷ 0 ∷ []) ≡ codes "ADDL2 (R7)+[R1],@W^1(FP)"
unfolding says
row831 = refl

row832 : says (192 ∷ 64 ∷ 198 ∷ 0 ∷ 128 ∷ 244 ∷ 47 ∷ 209 ∷ 30 ∷ 34 ∷ []) ≡ codes "ADDL2 -8000(R6)[R0],@221ED12F(R4)"
unfolding says
row832 = refl

row833 : says (192 ∷ 2 ∷ 208 ∷ 0 ∷ 128 ∷ []) ≡ codes "ADDL2 #2,@-8000(R0)"
unfolding says
row833 = refl

row834 : says (193 ∷ 143 ∷ 255 ∷ 0 ∷ 0 ∷ 0 ∷ 166 ∷ 255 ∷ 156 ∷ []) ≡ codes "ADDL3 #FF,-1(R6),@(AP)+"
unfolding says
row834 = refl

row835 : says (193 ∷ 68 ∷ 165 ∷ 255 ∷ 226 ∷ 0 ∷ 128 ∷ 0 ∷ 0 ∷ 231 ∷ 255 ∷ 127 ∷ 0 ∷ 0 ∷ []) ≡ codes "ADDL3 -1(R5)[R4],8000(R2),L^7FFF(R7)"
unfolding says
row835 = refl

row836 : says (193 ∷ 229 ∷ 255 ∷ 255 ∷ 255 ∷ 127 ∷ 143 ∷ 0 ∷ 128 ∷ 0 ∷ 0 ∷ 73 ∷ 147 ∷ []) ≡ codes "ADDL3 7FFFFFFF(R5),#8000,@(R3)+[R9]"
unfolding says
row836 = refl

row837 : says (193 ∷ 81 ∷ 68 ∷ 249 ∷ 0 ∷ 0 ∷ 0 ∷ 0 ∷ 236 ∷ 127 ∷ 255 ∷ 255 ∷ 255 ∷ []) ≡ codes "ADDL3 R1,@L^0(R9)[R4],L^-81(AP)"
unfolding says
row837 = refl

row838 : says (193 ∷ 210 ∷ 128 ∷ 255 ∷ 242 ∷ 1 ∷ 0 ∷ 0 ∷ 0 ∷ 172 ∷ 0 ∷ []) ≡ codes "ADDL3 @W^-80(R2),@L^1(R2),0(AP)"
unfolding says
row838 = refl

row839 : says (193 ∷ 143 ∷ 52 ∷ 18 ∷ 0 ∷ 0 ∷ 223 ∷ 255 ∷ 127 ∷ 86 ∷ []) ≡ codes "ADDL3 #1234,@W^8208,R6"
unfolding says
row839 = refl

row840 : says (193 ∷ 74 ∷ 204 ∷ 0 ∷ 0 ∷ 88 ∷ 70 ∷ 147 ∷ []) ≡ codes "ADDL3 W^0(AP)[R10],R8,@(R3)+[R6]"
unfolding says
row840 = refl

row841 : says (193 ∷ 214 ∷ 255 ∷ 127 ∷ 35 ∷ 75 ∷ 196 ∷ 0 ∷ 128 ∷ []) ≡ codes "ADDL3 @7FFF(R6),#23,-8000(R4)[R11]"
unfolding says
row841 = refl

row842 : says (194 ∷ 88 ∷ 225 ∷ 255 ∷ 255 ∷ 255 ∷ 127 ∷ []) ≡ codes "SUBL2 R8,7FFFFFFF(R1)"
unfolding says
row842 = refl

row843 : says (194 ∷ 84 ∷ 249 ∷ 0 ∷ 128 ∷ 0 ∷ 0 ∷ []) ≡ codes "SUBL2 R4,@8000(R9)"
unfolding says
row843 = refl

row844 : says (194 ∷ 143 ∷ 127 ∷ 0 ∷ 0 ∷ 0 ∷ 140 ∷ []) ≡ codes "SUBL2 #7F,(AP)+"
unfolding says
row844 = refl

row845 : says (194 ∷ 216 ∷ 255 ∷ 127 ∷ 64 ∷ 161 ∷ 127 ∷ []) ≡ codes "SUBL2 @7FFF(R8),7F(R1)[R0]"
unfolding says
row845 = refl

row846 : says (194 ∷ 82 ∷ 116 ∷ []) ≡ codes "SUBL2 R2,-(R4)"
unfolding says
row846 = refl

row847 : says (194 ∷ 73 ∷ 255 ∷ 127 ∷ 255 ∷ 255 ∷ 255 ∷ 67 ∷ 196 ∷ 0 ∷ 0 ∷ []) ≡ codes "SUBL2 @L^186[R9],W^0(R4)[R3]"
unfolding says
row847 = refl

row848 : says (194 ∷ 72 ∷ 199 ∷ 0 ∷ 128 ∷ 234 ∷ 0 ∷ 0 ∷ 0 ∷ 128 ∷ []) ≡ codes "SUBL2 -8000(R7)[R8],-80000000(R10)"
unfolding says
row848 = refl

row849 : says (194 ∷ 166 ∷ 127 ∷ 243 ∷ 121 ∷ 98 ∷ 186 ∷ 184 ∷ []) ≡ codes "SUBL2 7F(R6),@-47459D87(R3)"
unfolding says
row849 = refl

row850 : says (195 ∷ 143 ∷ 5 ∷ 0 ∷ 0 ∷ 0 ∷ 136 ∷ 84 ∷ []) ≡ codes "SUBL3 I^#5,(R8)+,R4"
unfolding says
row850 = refl

row851 : says (195 ∷ 183 ∷ 0 ∷ 84 ∷ 129 ∷ []) ≡ codes "SUBL3 @0(R7),R4,(R1)+"
unfolding says
row851 = refl

row852 : says (195 ∷ 93 ∷ 84 ∷ 71 ∷ 209 ∷ 0 ∷ 128 ∷ []) ≡ codes "SUBL3 FP,R4,@-8000(R1)[R7]"
unfolding says
row852 = refl

row853 : says (195 ∷ 218 ∷ 128 ∷ 255 ∷ 235 ∷ 1 ∷ 0 ∷ 0 ∷ 0 ∷ 91 ∷ []) ≡ codes "SUBL3 @W^-80(R10),L^1(R11),R11"
unfolding says
row853 = refl

row854 : says (195 ∷ 143 ∷ 1 ∷ 0 ∷ 0 ∷ 0 ∷ 46 ∷ 169 ∷ 0 ∷ []) ≡ codes "SUBL3 I^#1,#2E,0(R9)"
unfolding says
row854 = refl

row855 : says (195 ∷ 49 ∷ 0 ∷ 65 ∷ 155 ∷ []) ≡ codes "SUBL3 #31,#0,@(R11)+[R1]"
unfolding says
row855 = refl

row856 : says (195 ∷ 86 ∷ 120 ∷ 85 ∷ []) ≡ codes "SUBL3 R6,-(R8),R5"
unfolding says
row856 = refl

row857 : says (195 ∷ 17 ∷ 66 ∷ 135 ∷ 102 ∷ []) ≡ codes "SUBL3 #11,(R7)+[R2],(R6)"
unfolding says
row857 = refl

row858 : says (196 ∷ 144 ∷ 75 ∷ 156 ∷ []) ≡ codes "MULL2 @(R0)+,@(AP)+[R11]"
unfolding says
row858 = refl

row859 : says (196 ∷ 143 ∷ 5 ∷ 0 ∷ 0 ∷ 0 ∷ 65 ∷ 230 ∷ 0 ∷ 0 ∷ 0 ∷ 0 ∷ []) ≡ codes "MULL2 I^#5,L^0(R6)[R1]"
unfolding says
row859 = refl

row860 : says (196 ∷ 149 ∷ 215 ∷ 0 ∷ 0 ∷ []) ≡ codes "MULL2 @(R5)+,@W^0(R7)"
unfolding says
row860 = refl

row861 : says (196 ∷ 94 ∷ 94 ∷ []) ≡ codes "MULL2 SP,SP"
unfolding says
row861 = refl

row862 : says (196 ∷ 235 ∷ 0 ∷ 128 ∷ 255 ∷ 255 ∷ 158 ∷ []) ≡ codes "MULL2 L^-8000(R11),@(SP)+"
unfolding says
row862 = refl

row863 : says (196 ∷ 86 ∷ 72 ∷ 151 ∷ []) ≡ codes "MULL2 R6,@(R7)+[R8]"
unfolding says
row863 = refl

row864 : says (196 ∷ 93 ∷ 141 ∷ []) ≡ codes "MULL2 FP,(FP)+"
unfolding says
row864 = refl

row865 : says (196 ∷ 84 ∷ 230 ∷ 0 ∷ 128 ∷ 0 ∷ 0 ∷ []) ≡ codes "MULL2 R4,8000(R6)"
unfolding says
row865 = refl

row866 : says (197 ∷ 106 ∷ 91 ∷ 233 ∷ 20 ∷ 105 ∷ 77 ∷ 153 ∷ []) ≡ codes "MULL3 (R10),R11,-66B296EC(R9)"
unfolding says
row866 = refl

row867 : says (197 ∷ 231 ∷ 128 ∷ 0 ∷ 0 ∷ 0 ∷ 86 ∷ 172 ∷ 0 ∷ []) ≡ codes "MULL3 L^80(R7),R6,0(AP)"
unfolding says
row867 = refl

row868 : says (197 ∷ 65 ∷ 166 ∷ 0 ∷ 90 ∷ 160 ∷ 0 ∷ []) ≡ codes "MULL3 0(R6)[R1],R10,0(R0)"
unfolding says
row868 = refl

row869 : says (197 ∷ 192 ∷ 127 ∷ 0 ∷ 143 ∷ 127 ∷ 0 ∷ 0 ∷ 0 ∷ 92 ∷ []) ≡ codes "MULL3 W^7F(R0),#7F,AP"
unfolding says
row869 = refl

row870 : says (197 ∷ 87 ∷ 204 ∷ 255 ∷ 127 ∷ 150 ∷ []) ≡ codes "MULL3 R7,7FFF(AP),@(R6)+"
unfolding says
row870 = refl

row871 : says (197 ∷ 71 ∷ 102 ∷ 173 ∷ 0 ∷ 136 ∷ []) ≡ codes "MULL3 (R6)[R7],0(FP),(R8)+"
unfolding says
row871 = refl

row872 : says (197 ∷ 235 ∷ 1 ∷ 0 ∷ 0 ∷ 0 ∷ 143 ∷ 192 ∷ 15 ∷ 95 ∷ 168 ∷ 71 ∷ 215 ∷ 255 ∷ 255 ∷ []) ≡ codes "MULL3 L^1(R11),#A85F0FC0,@W^-1(R7)[R7]"
unfolding says
row872 = refl

row873 : says (197 ∷ 73 ∷ 209 ∷ 1 ∷ 0 ∷ 143 ∷ 128 ∷ 0 ∷ 0 ∷ 0 ∷ 219 ∷ 0 ∷ 128 ∷ []) ≡ codes "MULL3 @W^1(R1)[R9],#80,@-8000(R11)"
unfolding says
row873 = refl

row874 : says (198 ∷ 227 ∷ 0 ∷ 0 ∷ 0 ∷ 0 ∷ 68 ∷ 248 ∷ 255 ∷ 255 ∷ 255 ∷ 255 ∷ []) ≡ codes "DIVL2 L^0(R3),@L^-1(R8)[R4]"
unfolding says
row874 = refl

row875 : says (198 ∷ 27 ∷ 82 ∷ []) ≡ codes "DIVL2 #1B,R2"
unfolding says
row875 = refl

row876 : says (198 ∷ 119 ∷ 201 ∷ 255 ∷ 255 ∷ []) ≡ codes "DIVL2 -(R7),W^-1(R9)"
unfolding says
row876 = refl

row877 : says (198 ∷ 89 ∷ 81 ∷ []) ≡ codes "DIVL2 R9,R1"
unfolding says
row877 = refl

row878 : says (198 ∷ 67 ∷ 161 ∷ 78 ∷ 85 ∷ []) ≡ codes "DIVL2 4E(R1)[R3],R5"
unfolding says
row878 = refl

row879 : says (198 ∷ 83 ∷ 65 ∷ 184 ∷ 0 ∷ []) ≡ codes "DIVL2 R3,@0(R8)[R1]"
unfolding says
row879 = refl

row880 : says (198 ∷ 201 ∷ 0 ∷ 128 ∷ 186 ∷ 128 ∷ []) ≡ codes "DIVL2 -8000(R9),@-80(R10)"
unfolding says
row880 = refl

row881 : says (198 ∷ 213 ∷ 255 ∷ 127 ∷ 65 ∷ 238 ∷ 1 ∷ 0 ∷ 0 ∷ 0 ∷ []) ≡ codes "DIVL2 @7FFF(R5),L^1(SP)[R1]"
unfolding says
row881 = refl

row882 : says (199 ∷ 143 ∷ 5 ∷ 0 ∷ 0 ∷ 0 ∷ 77 ∷ 169 ∷ 128 ∷ 90 ∷ []) ≡ codes "DIVL3 I^#5,-80(R9)[FP],R10"
unfolding says
row882 = refl

row883 : says (199 ∷ 88 ∷ 55 ∷ 231 ∷ 255 ∷ 127 ∷ 255 ∷ 255 ∷ []) ≡ codes "DIVL3 R8,#37,-8001(R7)"
unfolding says
row883 = refl

row884 : says (199 ∷ 122 ∷ 68 ∷ 161 ∷ 255 ∷ 145 ∷ []) ≡ codes "DIVL3 -(R10),-1(R1)[R4],@(R1)+"
unfolding says
row884 = refl

row885 : says (199 ∷ 21 ∷ 83 ∷ 96 ∷ []) ≡ codes "DIVL3 #15,R3,(R0)"
unfolding says
row885 = refl

row886 : says (199 ∷ 76 ∷ 161 ∷ 127 ∷ 122 ∷ 236 ∷ 128 ∷ 0 ∷ 0 ∷ 0 ∷ []) ≡ codes "DIVL3 7F(R1)[AP],-(R10),L^80(AP)"
unfolding says
row886 = refl

row887 : says (199 ∷ 143 ∷ 255 ∷ 0 ∷ 0 ∷ 0 ∷ 71 ∷ 181 ∷ 0 ∷ 184 ∷ 0 ∷ []) ≡ codes "DIVL3 #FF,@0(R5)[R7],@0(R8)"
unfolding says
row887 = refl

row888 : says (199 ∷ 87 ∷ 254 ∷ 127 ∷ 0 ∷ 0 ∷ 0 ∷ 141 ∷ []) ≡ codes "DIVL3 R7,@L^7F(SP),(FP)+"
unfolding says
row888 = refl

row889 : says (199 ∷ 160 ∷ 0 ∷ 65 ∷ 204 ∷ 255 ∷ 255 ∷ 202 ∷ 1 ∷ 0 ∷ []) ≡ codes "DIVL3 0(R0),W^-1(AP)[R1],W^1(R10)"
unfolding says
row889 = refl

row890 : says (200 ∷ 143 ∷ 128 ∷ 0 ∷ 0 ∷ 0 ∷ 155 ∷ []) ≡ codes "BISL2 #80,@(R11)+"
unfolding says
row890 = refl

row891 : says (200 ∷ 109 ∷ 68 ∷ 165 ∷ 255 ∷ []) ≡ codes "BISL2 (FP),-1(R5)[R4]"
unfolding says
row891 = refl

row892 : says (200 ∷ 128 ∷ 67 ∷ 231 ∷ 255 ∷ 127 ∷ 0 ∷ 0 ∷ []) ≡ codes "BISL2 (R0)+,L^7FFF(R7)[R3]"
unfolding says
row892 = refl

row893 : says (200 ∷ 66 ∷ 233 ∷ 255 ∷ 255 ∷ 255 ∷ 127 ∷ 140 ∷ []) ≡ codes "BISL2 7FFFFFFF(R9)[R2],(AP)+"
unfolding says
row893 = refl

row894 : says (200 ∷ 143 ∷ 190 ∷ 215 ∷ 44 ∷ 49 ∷ 115 ∷ []) ≡ codes "BISL2 #312CD7BE,-(R3)"
unfolding says
row894 = refl

row895 : says (200 ∷ 203 ∷ 0 ∷ 0 ∷ 106 ∷ []) ≡ codes "BISL2 W^0(R11),(R10)"
unfolding says
row895 = refl

row896 : says (200 ∷ 93 ∷ 137 ∷ []) ≡ codes "BISL2 FP,(R9)+"
unfolding says
row896 = refl

row897 : says (200 ∷ 114 ∷ 72 ∷ 125 ∷ []) ≡ codes "BISL2 -(R2),-(FP)[R8]"
unfolding says
row897 = refl

row898 : says (201 ∷ 221 ∷ 128 ∷ 255 ∷ 67 ∷ 150 ∷ 192 ∷ 255 ∷ 127 ∷ []) ≡ codes "BISL3 @W^-80(FP),@(R6)+[R3],7FFF(R0)"
unfolding says
row898 = refl

row899 : says (201 ∷ 134 ∷ 143 ∷ 52 ∷ 18 ∷ 0 ∷ 0 ∷ 88 ∷ []) ≡ codes "BISL3 (R6)+,#1234,R8"
unfolding says
row899 = refl

row900 : says (201 ∷ 82 ∷ 92 ∷ 228 ∷ 0 ∷ 128 ∷ 255 ∷ 255 ∷ []) ≡ codes "BISL3 R2,AP,L^-8000(R4)"
unfolding says
row900 = refl

row901 : says (201 ∷ 143 ∷ 128 ∷ 0 ∷ 0 ∷ 0 ∷ 199 ∷ 255 ∷ 127 ∷ 144 ∷ []) ≡ codes "BISL3 #80,7FFF(R7),@(R0)+"
unfolding says
row901 = refl

row902 : says (201 ∷ 4 ∷ 110 ∷ 78 ∷ 164 ∷ 128 ∷ []) ≡ codes "BISL3 #4,(SP),-80(R4)[SP]"
unfolding says
row902 = refl

row903 : says (201 ∷ 255 ∷ 255 ∷ 255 ∷ 255 ∷ 127 ∷ 163 ∷ 255 ∷ 161 ∷ 0 ∷ []) ≡ codes "BISL3 @L^80000205,-1(R3),0(R1)"
unfolding says
row903 = refl

row904 : says (201 ∷ 143 ∷ 127 ∷ 0 ∷ 0 ∷ 0 ∷ 216 ∷ 255 ∷ 255 ∷ 170 ∷ 128 ∷ []) ≡ codes "BISL3 #7F,@W^-1(R8),-80(R10)"
unfolding says
row904 = refl

row905 : says (201 ∷ 68 ∷ 226 ∷ 127 ∷ 255 ∷ 255 ∷ 255 ∷ 93 ∷ 70 ∷ 158 ∷ []) ≡ codes "BISL3 L^-81(R2)[R4],FP,@(SP)+[R6]"
unfolding says
row905 = refl

row906 : says (202 ∷ 124 ∷ 94 ∷ []) ≡ codes "BICL2 -(AP),SP"
unfolding says
row906 = refl

row907 : says (202 ∷ 18 ∷ 227 ∷ 5 ∷ 236 ∷ 226 ∷ 64 ∷ []) ≡ codes "BICL2 #12,40E2EC05(R3)"
unfolding says
row907 = refl

row908 : says (202 ∷ 143 ∷ 63 ∷ 0 ∷ 0 ∷ 0 ∷ 168 ∷ 255 ∷ []) ≡ codes "BICL2 I^#3F,-1(R8)"
unfolding says
row908 = refl

row909 : says (202 ∷ 143 ∷ 0 ∷ 128 ∷ 0 ∷ 0 ∷ 112 ∷ []) ≡ codes "BICL2 #8000,-(R0)"
unfolding says
row909 = refl

row910 : says (202 ∷ 135 ∷ 252 ∷ 0 ∷ 0 ∷ 0 ∷ 0 ∷ []) ≡ codes "BICL2 (R7)+,@L^0(AP)"
unfolding says
row910 = refl

row911 : says (202 ∷ 197 ∷ 255 ∷ 127 ∷ 151 ∷ []) ≡ codes "BICL2 7FFF(R5),@(R7)+"
unfolding says
row911 = refl

row912 : says (202 ∷ 180 ∷ 255 ∷ 246 ∷ 0 ∷ 0 ∷ 0 ∷ 0 ∷ []) ≡ codes "BICL2 @-1(R4),@L^0(R6)"
unfolding says
row912 = refl

row913 : says (202 ∷ 12 ∷ 124 ∷ []) ≡ codes "BICL2 #C,-(AP)"
unfolding says
row913 = refl

row914 : says (203 ∷ 90 ∷ 143 ∷ 128 ∷ 0 ∷ 0 ∷ 0 ∷ 168 ∷ 128 ∷ []) ≡ codes "BICL3 R10,#80,-80(R8)"
unfolding says
row914 = refl

row915 : says (203 ∷ 48 ∷ 143 ∷ 127 ∷ 0 ∷ 0 ∷ 0 ∷ 251 ∷ 0 ∷ 0 ∷ 0 ∷ 0 ∷ []) ≡ codes "BICL3 #30,#7F,@L^0(R11)"
unfolding says
row915 = refl

row916 : says (203 ∷ 55 ∷ 183 ∷ 128 ∷ 72 ∷ 234 ∷ 255 ∷ 255 ∷ 255 ∷ 255 ∷ []) ≡ codes "BICL3 #37,@-80(R7),L^-1(R10)[R8]"
unfolding says
row916 = refl

row917 : says (203 ∷ 244 ∷ 127 ∷ 0 ∷ 0 ∷ 0 ∷ 70 ∷ 171 ∷ 128 ∷ 221 ∷ 0 ∷ 128 ∷ []) ≡ codes "BICL3 @L^7F(R4),-80(R11)[R6],@-8000(FP)"
unfolding says
row917 = refl

row918 : says (203 ∷ 143 ∷ 1 ∷ 0 ∷ 0 ∷ 0 ∷ 90 ∷ 85 ∷ []) ≡ codes "BICL3 I^#1,R10,R5"
unfolding says
row918 = refl

row919 : says (203 ∷ 164 ∷ 250 ∷ 16 ∷ 77 ∷ 183 ∷ 0 ∷ []) ≡ codes "BICL3 -6(R4),#10,@0(R7)[FP]"
unfolding says
row919 = refl

row920 : says (203 ∷ 87 ∷ 124 ∷ 130 ∷ []) ≡ codes "BICL3 R7,-(AP),(R2)+"
unfolding says
row920 = refl

row921 : says (203 ∷ 254 ∷ 127 ∷ 0 ∷ 0 ∷ 0 ∷ 83 ∷ 252 ∷ 0 ∷ 128 ∷ 0 ∷ 0 ∷ []) ≡ codes "BICL3 @L^7F(SP),R3,@8000(AP)"
unfolding says
row921 = refl

row922 : says (204 ∷ 82 ∷ 176 ∷ 255 ∷ []) ≡ codes "XORL2 R2,@-1(R0)"
unfolding says
row922 = refl

row923 : says (204 ∷ 65 ∷ 110 ∷ 74 ∷ 161 ∷ 0 ∷ []) ≡ codes "XORL2 (SP)[R1],0(R1)[R10]"
unfolding says
row923 = refl

row924 : says (204 ∷ 89 ∷ 121 ∷ []) ≡ codes "XORL2 R9,-(R9)"
unfolding says
row924 = refl

row925 : says (204 ∷ 136 ∷ 226 ∷ 128 ∷ 0 ∷ 0 ∷ 0 ∷ []) ≡ codes "XORL2 (R8)+,L^80(R2)"
unfolding says
row925 = refl

row926 : says (204 ∷ 85 ∷ 240 ∷ 1 ∷ 0 ∷ 0 ∷ 0 ∷ []) ≡ codes "XORL2 R5,@L^1(R0)"
unfolding says
row926 = refl

row927 : says (204 ∷ 229 ∷ 255 ∷ 255 ∷ 255 ∷ 127 ∷ 249 ∷ 255 ∷ 255 ∷ 255 ∷ 255 ∷ []) ≡ codes "XORL2 7FFFFFFF(R5),@L^-1(R9)"
unfolding says
row927 = refl

row928 : says (204 ∷ 72 ∷ 139 ∷ 205 ∷ 255 ∷ 127 ∷ []) ≡ codes "XORL2 (R11)+[R8],7FFF(FP)"
unfolding says
row928 = refl

row929 : says (204 ∷ 65 ∷ 162 ∷ 0 ∷ 145 ∷ []) ≡ codes "XORL2 0(R2)[R1],@(R1)+"
unfolding says
row929 = refl

row930 : says (205 ∷ 193 ∷ 128 ∷ 0 ∷ 70 ∷ 97 ∷ 232 ∷ 0 ∷ 128 ∷ 0 ∷ 0 ∷ []) ≡ codes "XORL3 80(R1),(R1)[R6],8000(R8)"
unfolding says
row930 = refl

row931 : says (205 ∷ 13 ∷ 143 ∷ 5 ∷ 0 ∷ 0 ∷ 0 ∷ 91 ∷ []) ≡ codes "XORL3 #D,I^#5,R11"
unfolding says
row931 = refl

row932 : says (205 ∷ 214 ∷ 0 ∷ 128 ∷ 90 ∷ 112 ∷ []) ≡ codes "XORL3 @-8000(R6),R10,-(R0)"
unfolding says
row932 = refl

row933 : says (205 ∷ 77 ∷ 161 ∷ 127 ∷ 78 ∷ 199 ∷ 1 ∷ 0 ∷ 83 ∷ []) ≡ codes "XORL3 7F(R1)[FP],W^1(R7)[SP],R3"
unfolding says
row933 = refl

row934 : says (205 ∷ 74 ∷ 222 ∷ 255 ∷ 255 ∷ 65 ∷ 203 ∷ 1 ∷ 0 ∷ 208 ∷ 128 ∷ 255 ∷ []) ≡ codes "XORL3 @W^-1(SP)[R10],W^1(R11)[R1],@W^-80(R0)"
unfolding says
row934 = refl

row935 : says (205 ∷ 24 ∷ 69 ∷ 190 ∷ 255 ∷ 113 ∷ []) ≡ codes "XORL3 #18,@-1(SP)[R5],-(R1)"
unfolding says
row935 = refl

row936 : says (205 ∷ 92 ∷ 68 ∷ 199 ∷ 128 ∷ 255 ∷ 141 ∷ []) ≡ codes "XORL3 AP,W^-80(R7)[R4],(FP)+"
unfolding says
row936 = refl

row937 : says (205 ∷ 39 ∷ 66 ∷ 144 ∷ 92 ∷ []) ≡ codes "XORL3 #27,@(R0)+[R2],AP"
unfolding says
row937 = refl

row938 : says (206 ∷ 143 ∷ 63 ∷ 0 ∷ 0 ∷ 0 ∷ 252 ∷ 0 ∷ 128 ∷ 255 ∷ 255 ∷ []) ≡ codes "MNEGL I^#3F,@L^-8000(AP)"
unfolding says
row938 = refl

row939 : says (206 ∷ 74 ∷ 250 ∷ 255 ∷ 127 ∷ 0 ∷ 0 ∷ 148 ∷ []) ≡ codes "MNEGL @L^7FFF(R10)[R10],@(R4)+"
unfolding says
row939 = refl

row940 : says (206 ∷ 163 ∷ 255 ∷ 75 ∷ 129 ∷ []) ≡ codes "MNEGL -1(R3),(R1)+[R11]"
unfolding says
row940 = refl

row941 : says (206 ∷ 108 ∷ 133 ∷ []) ≡ codes "MNEGL (AP),(R5)+"
unfolding says
row941 = refl

row942 : says (206 ∷ 198 ∷ 127 ∷ 255 ∷ 253 ∷ 127 ∷ 255 ∷ 255 ∷ 255 ∷ []) ≡ codes "MNEGL -81(R6),@L^-81(FP)"
unfolding says
row942 = refl

row943 : says (206 ∷ 92 ∷ 240 ∷ 0 ∷ 0 ∷ 0 ∷ 128 ∷ []) ≡ codes "MNEGL AP,@-80000000(R0)"
unfolding says
row943 = refl

row944 : says (206 ∷ 143 ∷ 244 ∷ 119 ∷ 254 ∷ 192 ∷ 134 ∷ []) ≡ codes "MNEGL #C0FE77F4,(R6)+"
unfolding says
row944 = refl

row945 : says (206 ∷ 34 ∷ 113 ∷ []) ≡ codes "MNEGL #22,-(R1)"
unfolding says
row945 = refl

row946 : says (207 ∷ 63 ∷ 73 ∷ 199 ∷ 255 ∷ 127 ∷ 80 ∷ []) ≡ codes "CASEL #3F,7FFF(R7)[R9],R0"
unfolding says
row946 = refl

row947 : says (207 ∷ 64 ∷ 134 ∷ 134 ∷ 74 ∷ 108 ∷ []) ≡ codes "CASEL (R6)+[R0],(R6)+,(AP)[R10]"
unfolding says
row947 = refl

row948 : says (207 ∷ 143 ∷ 127 ∷ 0 ∷ 0 ∷ 0 ∷ 143 ∷ 5 ∷ 0 ∷ 0 ∷ 0 ∷ 177 ∷ 255 ∷ []) ≡ codes "CASEL #7F,I^#5,@-1(R1)"
unfolding says
row948 = refl

row949 : says (207 ∷ 1 ∷ 74 ∷ 118 ∷ 195 ∷ 0 ∷ 128 ∷ []) ≡ codes "CASEL #1,-(R6)[R10],-8000(R3)"
unfolding says
row949 = refl

row950 : says (207 ∷ 67 ∷ 96 ∷ 143 ∷ 97 ∷ 159 ∷ 47 ∷ 179 ∷ 143 ∷ 1 ∷ 0 ∷ 0 ∷ 0 ∷ []) ≡ codes "CASEL (R0)[R3],#B32F9F61,I^#1"
unfolding says
row950 = refl

row951 : says (207 ∷ 64 ∷ 248 ∷ 29 ∷ 12 ∷ 180 ∷ 33 ∷ 87 ∷ 253 ∷ 1 ∷ 0 ∷ 0 ∷ 0 ∷ []) ≡ codes "CASEL @21B40C1D(R8)[R0],R7,@L^1(FP)"
unfolding says
row951 = refl

row952 : says (207 ∷ 142 ∷ 100 ∷ 103 ∷ []) ≡ codes "CASEL (SP)+,(R4),(R7)"
unfolding says
row952 = refl

row953 : says (207 ∷ 195 ∷ 128 ∷ 0 ∷ 166 ∷ 127 ∷ 82 ∷ []) ≡ codes "CASEL 80(R3),7F(R6),R2"
unfolding says
row953 = refl

row954 : says (208 ∷ 10 ∷ 94 ∷ []) ≡ codes "MOVL #A,SP"
unfolding says
row954 = refl

row955 : says (208 ∷ 76 ∷ 232 ∷ 128 ∷ 0 ∷ 0 ∷ 0 ∷ 89 ∷ []) ≡ codes "MOVL L^80(R8)[AP],R9"
unfolding says
row955 = refl

row956 : says (208 ∷ 65 ∷ 181 ∷ 0 ∷ 104 ∷ []) ≡ codes "MOVL @0(R5)[R1],(R8)"
unfolding says
row956 = refl

row957 : says (208 ∷ 207 ∷ 127 ∷ 255 ∷ 186 ∷ 0 ∷ []) ≡ codes "MOVL W^183,@0(R10)"
unfolding says
row957 = refl

row958 : says (208 ∷ 248 ∷ 255 ∷ 255 ∷ 255 ∷ 127 ∷ 218 ∷ 255 ∷ 127 ∷ []) ≡ codes "MOVL @7FFFFFFF(R8),@7FFF(R10)"
unfolding says
row958 = refl

row959 : says (208 ∷ 6 ∷ 253 ∷ 127 ∷ 255 ∷ 255 ∷ 255 ∷ []) ≡ codes "MOVL #6,@L^-81(FP)"
unfolding says
row959 = refl

row960 : says (208 ∷ 116 ∷ 206 ∷ 127 ∷ 255 ∷ []) ≡ codes "MOVL -(R4),-81(SP)"
unfolding says
row960 = refl

row961 : says (208 ∷ 143 ∷ 52 ∷ 18 ∷ 0 ∷ 0 ∷ 169 ∷ 0 ∷ []) ≡ codes "MOVL #1234,0(R9)"
unfolding says
row961 = refl

row962 : says (209 ∷ 56 ∷ 76 ∷ 203 ∷ 1 ∷ 0 ∷ []) ≡ codes "CMPL #38,W^1(R11)[AP]"
unfolding says
row962 = refl

row963 : says (209 ∷ 65 ∷ 142 ∷ 63 ∷ []) ≡ codes "CMPL (SP)+[R1],#3F"
unfolding says
row963 = refl

row964 : says (209 ∷ 41 ∷ 31 ∷ []) ≡ codes "CMPL #29,#1F"
unfolding says
row964 = refl

row965 : says (209 ∷ 69 ∷ 101 ∷ 54 ∷ []) ≡ codes "CMPL (R5)[R5],#36"
unfolding says
row965 = refl

row966 : says (209 ∷ 143 ∷ 127 ∷ 0 ∷ 0 ∷ 0 ∷ 155 ∷ []) ≡ codes "CMPL #7F,@(R11)+"
unfolding says
row966 = refl

row967 : says (209 ∷ 226 ∷ 127 ∷ 0 ∷ 0 ∷ 0 ∷ 93 ∷ []) ≡ codes "CMPL L^7F(R2),FP"
unfolding says
row967 = refl

row968 : says (209 ∷ 143 ∷ 71 ∷ 107 ∷ 60 ∷ 196 ∷ 143 ∷ 0 ∷ 128 ∷ 0 ∷ 0 ∷ []) ≡ codes "CMPL #C43C6B47,#8000"
unfolding says
row968 = refl

row969 : says (209 ∷ 86 ∷ 82 ∷ []) ≡ codes "CMPL R6,R2"
unfolding says
row969 = refl

row970 : says (210 ∷ 89 ∷ 250 ∷ 255 ∷ 127 ∷ 255 ∷ 255 ∷ []) ≡ codes "MCOML R9,@-8001(R10)"
unfolding says
row970 = refl

row971 : says (210 ∷ 249 ∷ 51 ∷ 40 ∷ 166 ∷ 61 ∷ 94 ∷ []) ≡ codes "MCOML @3DA62833(R9),SP"
unfolding says
row971 = refl

row972 : says (210 ∷ 18 ∷ 64 ∷ 190 ∷ 255 ∷ []) ≡ codes "MCOML #12,@-1(SP)[R0]"
unfolding says
row972 = refl

row973 : says (210 ∷ 88 ∷ 91 ∷ []) ≡ codes "MCOML R8,R11"
unfolding says
row973 = refl

row974 : says (210 ∷ 143 ∷ 96 ∷ 12 ∷ 138 ∷ 17 ∷ 233 ∷ 255 ∷ 255 ∷ 255 ∷ 255 ∷ []) ≡ codes "MCOML #118A0C60,L^-1(R9)"
unfolding says
row974 = refl

row975 : says (210 ∷ 209 ∷ 255 ∷ 127 ∷ 112 ∷ []) ≡ codes "MCOML @7FFF(R1),-(R0)"
unfolding says
row975 = refl

row976 : says (210 ∷ 3 ∷ 158 ∷ []) ≡ codes "MCOML #3,@(SP)+"
unfolding says
row976 = refl

row977 : says (210 ∷ 28 ∷ 88 ∷ []) ≡ codes "MCOML #1C,R8"
unfolding says
row977 = refl

row978 : says (211 ∷ 93 ∷ 143 ∷ 63 ∷ 0 ∷ 0 ∷ 0 ∷ []) ≡ codes "BITL FP,I^#3F"
unfolding says
row978 = refl

row979 : says (211 ∷ 131 ∷ 238 ∷ 146 ∷ 3 ∷ 38 ∷ 236 ∷ []) ≡ codes "BITL (R3)+,-13D9FC6E(SP)"
unfolding says
row979 = refl

row980 : says (211 ∷ 61 ∷ 69 ∷ 251 ∷ 127 ∷ 255 ∷ 255 ∷ 255 ∷ []) ≡ codes "BITL #3D,@L^-81(R11)[R5]"
unfolding says
row980 = refl

row981 : says (211 ∷ 115 ∷ 143 ∷ 0 ∷ 128 ∷ 0 ∷ 0 ∷ []) ≡ codes "BITL -(R3),#8000"
unfolding says
row981 = refl

row982 : says (211 ∷ 124 ∷ 64 ∷ 164 ∷ 0 ∷ []) ≡ codes "BITL -(AP),0(R4)[R0]"
unfolding says
row982 = refl

row983 : says (211 ∷ 60 ∷ 128 ∷ []) ≡ codes "BITL #3C,(R0)+"
unfolding says
row983 = refl

row984 : says (211 ∷ 64 ∷ 147 ∷ 224 ∷ 128 ∷ 255 ∷ 255 ∷ 255 ∷ []) ≡ codes "BITL @(R3)+[R0],L^-80(R0)"
unfolding says
row984 = refl

row985 : says (211 ∷ 30 ∷ 200 ∷ 128 ∷ 0 ∷ []) ≡ codes "BITL #1E,80(R8)"
unfolding says
row985 = refl

row986 : says (212 ∷ 89 ∷ []) ≡ codes "CLRL R9"
unfolding says
row986 = refl

row987 : says (212 ∷ 67 ∷ 206 ∷ 0 ∷ 0 ∷ []) ≡ codes "CLRL W^0(SP)[R3]"
unfolding says
row987 = refl

row988 : says (212 ∷ 248 ∷ 0 ∷ 0 ∷ 0 ∷ 0 ∷ []) ≡ codes "CLRL @L^0(R8)"
unfolding says
row988 = refl

row989 : says (212 ∷ 65 ∷ 255 ∷ 1 ∷ 0 ∷ 0 ∷ 0 ∷ []) ≡ codes "CLRL @L^208[R1]"
unfolding says
row989 = refl

row990 : says (212 ∷ 129 ∷ []) ≡ codes "CLRL (R1)+"
unfolding says
row990 = refl

row991 : says (212 ∷ 65 ∷ 138 ∷ []) ≡ codes "CLRL (R10)+[R1]"
unfolding says
row991 = refl

row992 : says (212 ∷ 203 ∷ 255 ∷ 255 ∷ []) ≡ codes "CLRL W^-1(R11)"
unfolding says
row992 = refl

row993 : says (212 ∷ 66 ∷ 169 ∷ 0 ∷ []) ≡ codes "CLRL 0(R9)[R2]"
unfolding says
row993 = refl

row994 : says (213 ∷ 49 ∷ []) ≡ codes "TSTL #31"
unfolding says
row994 = refl

row995 : says (213 ∷ 143 ∷ 1 ∷ 0 ∷ 0 ∷ 0 ∷ []) ≡ codes "TSTL I^#1"
unfolding says
row995 = refl

row996 : says (213 ∷ 32 ∷ []) ≡ codes "TSTL #20"
unfolding says
row996 = refl

row997 : says (213 ∷ 82 ∷ []) ≡ codes "TSTL R2"
unfolding says
row997 = refl

row998 : says (213 ∷ 143 ∷ 0 ∷ 128 ∷ 0 ∷ 0 ∷ []) ≡ codes "TSTL #8000"
unfolding says
row998 = refl

row999 : says (213 ∷ 41 ∷ []) ≡ codes "TSTL #29"
unfolding says
row999 = refl

row1000 : says (213 ∷ 57 ∷ []) ≡ codes "TSTL #39"
unfolding says
row1000 = refl

row1001 : says (213 ∷ 14 ∷ []) ≡ codes "TSTL #E"
unfolding says
row1001 = refl

row1002 : says (214 ∷ 68 ∷ 206 ∷ 127 ∷ 255 ∷ []) ≡ codes "INCL -81(SP)[R4]"
unfolding says
row1002 = refl

row1003 : says (214 ∷ 69 ∷ 224 ∷ 255 ∷ 255 ∷ 255 ∷ 255 ∷ []) ≡ codes "INCL L^-1(R0)[R5]"
unfolding says
row1003 = refl

row1004 : says (214 ∷ 77 ∷ 98 ∷ []) ≡ codes "INCL (R2)[FP]"
unfolding says
row1004 = refl

row1005 : says (214 ∷ 234 ∷ 159 ∷ 253 ∷ 39 ∷ 10 ∷ []) ≡ codes "INCL A27FD9F(R10)"
unfolding says
row1005 = refl

row1006 : says (214 ∷ 160 ∷ 255 ∷ []) ≡ codes "INCL -1(R0)"
unfolding says
row1006 = refl

row1007 : says (214 ∷ 87 ∷ []) ≡ codes "INCL R7"
unfolding says
row1007 = refl

row1008 : says (214 ∷ 65 ∷ 230 ∷ 128 ∷ 0 ∷ 0 ∷ 0 ∷ []) ≡ codes "INCL L^80(R6)[R1]"
unfolding says
row1008 = refl

row1009 : says (214 ∷ 192 ∷ 255 ∷ 255 ∷ []) ≡ codes "INCL W^-1(R0)"
unfolding says
row1009 = refl

row1010 : says (215 ∷ 227 ∷ 0 ∷ 0 ∷ 0 ∷ 128 ∷ []) ≡ codes "DECL -80000000(R3)"
unfolding says
row1010 = refl

row1011 : says (215 ∷ 94 ∷ []) ≡ codes "DECL SP"
unfolding says
row1011 = refl

row1012 : says (215 ∷ 75 ∷ 138 ∷ []) ≡ codes "DECL (R10)+[R11]"
unfolding says
row1012 = refl

row1013 : says (215 ∷ 163 ∷ 0 ∷ []) ≡ codes "DECL 0(R3)"
unfolding says
row1013 = refl

row1014 : says (215 ∷ 64 ∷ 161 ∷ 255 ∷ []) ≡ codes "DECL -1(R1)[R0]"
unfolding says
row1014 = refl

row1015 : says (215 ∷ 213 ∷ 177 ∷ 166 ∷ []) ≡ codes "DECL @-594F(R5)"
unfolding says
row1015 = refl

row1016 : says (215 ∷ 184 ∷ 0 ∷ []) ≡ codes "DECL @0(R8)"
unfolding says
row1016 = refl

row1017 : says (215 ∷ 243 ∷ 255 ∷ 255 ∷ 255 ∷ 255 ∷ []) ≡ codes "DECL @L^-1(R3)"
unfolding says
row1017 = refl

row1018 : says (216 ∷ 80 ∷ 88 ∷ []) ≡ codes "ADWC R0,R8"
unfolding says
row1018 = refl

row1019 : says (216 ∷ 238 ∷ 255 ∷ 127 ∷ 255 ∷ 255 ∷ 231 ∷ 127 ∷ 255 ∷ 255 ∷ 255 ∷ []) ≡ codes "ADWC -8001(SP),L^-81(R7)"
unfolding says
row1019 = refl

row1020 : says (216 ∷ 80 ∷ 181 ∷ 128 ∷ []) ≡ codes "ADWC R0,@-80(R5)"
unfolding says
row1020 = refl

row1021 : says (216 ∷ 241 ∷ 255 ∷ 255 ∷ 255 ∷ 127 ∷ 77 ∷ 165 ∷ 0 ∷ []) ≡ codes "ADWC @7FFFFFFF(R1),0(R5)[FP]"
unfolding says
row1021 = refl

row1022 : says (216 ∷ 87 ∷ 175 ∷ 0 ∷ []) ≡ codes "ADWC R7,B^204"
unfolding says
row1022 = refl

row1023 : says (216 ∷ 119 ∷ 66 ∷ 99 ∷ []) ≡ codes "ADWC -(R7),(R3)[R2]"
unfolding says
row1023 = refl

row1024 : says (216 ∷ 7 ∷ 75 ∷ 169 ∷ 255 ∷ []) ≡ codes "ADWC #7,-1(R9)[R11]"
unfolding says
row1024 = refl

row1025 : says (216 ∷ 11 ∷ 77 ∷ 198 ∷ 0 ∷ 128 ∷ []) ≡ codes "ADWC #B,-8000(R6)[FP]"
unfolding says
row1025 = refl

row1026 : says (217 ∷ 37 ∷ 232 ∷ 127 ∷ 0 ∷ 0 ∷ 0 ∷ []) ≡ codes "SBWC #25,L^7F(R8)"
unfolding says
row1026 = refl

row1027 : says (217 ∷ 91 ∷ 198 ∷ 127 ∷ 0 ∷ []) ≡ codes "SBWC R11,W^7F(R6)"
unfolding says
row1027 = refl

row1028 : says (217 ∷ 5 ∷ 204 ∷ 128 ∷ 0 ∷ []) ≡ codes "SBWC #5,80(AP)"
unfolding says
row1028 = refl

row1029 : says (217 ∷ 194 ∷ 255 ∷ 127 ∷ 170 ∷ 0 ∷ []) ≡ codes "SBWC 7FFF(R2),0(R10)"
unfolding says
row1029 = refl

row1030 : says (217 ∷ 116 ∷ 150 ∷ []) ≡ codes "SBWC -(R4),@(R6)+"
unfolding says
row1030 = refl

row1031 : says (217 ∷ 205 ∷ 128 ∷ 255 ∷ 192 ∷ 0 ∷ 128 ∷ []) ≡ codes "SBWC W^-80(FP),-8000(R0)"
unfolding says
row1031 = refl

row1032 : says (217 ∷ 82 ∷ 183 ∷ 128 ∷ []) ≡ codes "SBWC R2,@-80(R7)"
unfolding says
row1032 = refl

row1033 : says (217 ∷ 143 ∷ 183 ∷ 31 ∷ 95 ∷ 100 ∷ 92 ∷ []) ≡ codes "SBWC #645F1FB7,AP"
unfolding says
row1033 = refl

row1034 : says (220 ∷ 78 ∷ 140 ∷ []) ≡ codes "MOVPSL (AP)+[SP]"
unfolding says
row1034 = refl

row1035 : says (220 ∷ 183 ∷ 255 ∷ []) ≡ codes "MOVPSL @-1(R7)"
unfolding says
row1035 = refl

row1036 : says (220 ∷ 219 ∷ 172 ∷ 22 ∷ []) ≡ codes "MOVPSL @16AC(R11)"
unfolding says
row1036 = refl

row1037 : says (220 ∷ 110 ∷ []) ≡ codes "MOVPSL (SP)"
unfolding says
row1037 = refl

row1038 : says (220 ∷ 207 ∷ 255 ∷ 255 ∷ []) ≡ codes "MOVPSL W^203"
unfolding says
row1038 = refl

row1039 : says (220 ∷ 238 ∷ 1 ∷ 0 ∷ 0 ∷ 0 ∷ []) ≡ codes "MOVPSL L^1(SP)"
unfolding says
row1039 = refl

row1040 : says (220 ∷ 142 ∷ []) ≡ codes "MOVPSL (SP)+"
unfolding says
row1040 = refl

row1041 : says (220 ∷ 88 ∷ []) ≡ codes "MOVPSL R8"
unfolding says
row1041 = refl

row1042 : says (221 ∷ 77 ∷ 102 ∷ []) ≡ codes "PUSHL (R6)[FP]"
unfolding says
row1042 = refl

row1043 : says (221 ∷ 64 ∷ 168 ∷ 0 ∷ []) ≡ codes "PUSHL 0(R8)[R0]"
unfolding says
row1043 = refl

row1044 : says (221 ∷ 64 ∷ 241 ∷ 127 ∷ 0 ∷ 0 ∷ 0 ∷ []) ≡ codes "PUSHL @L^7F(R1)[R0]"
unfolding says
row1044 = refl

row1045 : says (221 ∷ 86 ∷ []) ≡ codes "PUSHL R6"
unfolding says
row1045 = refl

row1046 : says (221 ∷ 73 ∷ 232 ∷ 0 ∷ 0 ∷ 0 ∷ 128 ∷ []) ≡ codes "PUSHL -80000000(R8)[R9]"
unfolding says
row1046 = refl

row1047 : says (221 ∷ 86 ∷ []) ≡ codes "PUSHL R6"
unfolding says
row1047 = refl

row1048 : says (221 ∷ 151 ∷ []) ≡ codes "PUSHL @(R7)+"
unfolding says
row1048 = refl

row1049 : says (221 ∷ 65 ∷ 204 ∷ 0 ∷ 0 ∷ []) ≡ codes "PUSHL W^0(AP)[R1]"
unfolding says
row1049 = refl

row1050 : says (222 ∷ 143 ∷ 63 ∷ 0 ∷ 0 ∷ 0 ∷ 145 ∷ []) ≡ codes "MOVAL I^#3F,@(R1)+"
unfolding says
row1050 = refl

row1051 : says (222 ∷ 143 ∷ 5 ∷ 0 ∷ 0 ∷ 0 ∷ 166 ∷ 0 ∷ []) ≡ codes "MOVAL I^#5,0(R6)"
unfolding says
row1051 = refl

row1052 : says (222 ∷ 245 ∷ 0 ∷ 0 ∷ 0 ∷ 0 ∷ 193 ∷ 0 ∷ 128 ∷ []) ≡ codes "MOVAL @L^0(R5),-8000(R1)"
unfolding says
row1052 = refl

row1053 : says (222 ∷ 180 ∷ 255 ∷ 224 ∷ 0 ∷ 128 ∷ 0 ∷ 0 ∷ []) ≡ codes "MOVAL @-1(R4),8000(R0)"
unfolding says
row1053 = refl

row1054 : says (222 ∷ 160 ∷ 215 ∷ 71 ∷ 117 ∷ []) ≡ codes "MOVAL -29(R0),-(R5)[R7]"
unfolding says
row1054 = refl

row1055 : says (222 ∷ 237 ∷ 49 ∷ 127 ∷ 191 ∷ 255 ∷ 246 ∷ 128 ∷ 0 ∷ 0 ∷ 0 ∷ []) ≡ codes "MOVAL -4080CF(FP),@L^80(R6)"
unfolding says
row1055 = refl

row1056 : says (222 ∷ 169 ∷ 0 ∷ 166 ∷ 127 ∷ []) ≡ codes "MOVAL 0(R9),7F(R6)"
unfolding says
row1056 = refl

row1057 : says (222 ∷ 159 ∷ 13 ∷ 156 ∷ 76 ∷ 81 ∷ 75 ∷ 126 ∷ []) ≡ codes "MOVAL @#514C9C0D,-(SP)[R11]"
unfolding says
row1057 = refl

row1058 : says (223 ∷ 96 ∷ []) ≡ codes "PUSHAL (R0)"
unfolding says
row1058 = refl

row1059 : says (223 ∷ 103 ∷ []) ≡ codes "PUSHAL (R7)"
unfolding says
row1059 = refl

row1060 : says (223 ∷ 195 ∷ 0 ∷ 0 ∷ []) ≡ codes "PUSHAL W^0(R3)"
unfolding says
row1060 = refl

row1061 : says (223 ∷ 143 ∷ 255 ∷ 127 ∷ 0 ∷ 0 ∷ []) ≡ codes "PUSHAL #7FFF"
unfolding says
row1061 = refl

row1062 : says (223 ∷ 143 ∷ 1 ∷ 0 ∷ 0 ∷ 0 ∷ []) ≡ codes "PUSHAL I^#1"
unfolding says
row1062 = refl

row1063 : says (223 ∷ 148 ∷ []) ≡ codes "PUSHAL @(R4)+"
unfolding says
row1063 = refl

row1064 : says (223 ∷ 71 ∷ 192 ∷ 128 ∷ 0 ∷ []) ≡ codes "PUSHAL 80(R0)[R7]"
unfolding says
row1064 = refl

row1065 : says (223 ∷ 143 ∷ 128 ∷ 0 ∷ 0 ∷ 0 ∷ []) ≡ codes "PUSHAL #80"
unfolding says
row1065 = refl

row1066 : says (224 ∷ 218 ∷ 255 ∷ 127 ∷ 143 ∷ 5 ∷ 63 ∷ []) ≡ codes "BBS @7FFF(R10),I^#5,246"
unfolding says
row1066 = refl

row1067 : says (224 ∷ 202 ∷ 0 ∷ 128 ∷ 170 ∷ 0 ∷ 5 ∷ []) ≡ codes "BBS -8000(R10),0(R10),20C"
unfolding says
row1067 = refl

row1068 : says (224 ∷ 67 ∷ 114 ∷ 160 ∷ 255 ∷ 255 ∷ []) ≡ codes "BBS -(R2)[R3],-1(R0),205"
unfolding says
row1068 = refl

row1069 : says (224 ∷ 143 ∷ 5 ∷ 0 ∷ 0 ∷ 0 ∷ 133 ∷ 128 ∷ []) ≡ codes "BBS I^#5,(R5)+,188"
unfolding says
row1069 = refl

row1070 : says (224 ∷ 0 ∷ 143 ∷ 0 ∷ 103 ∷ []) ≡ codes "BBS #0,I^#0,26C"
unfolding says
row1070 = refl

row1071 : says (224 ∷ 143 ∷ 255 ∷ 127 ∷ 0 ∷ 0 ∷ 86 ∷ 63 ∷ []) ≡ codes "BBS #7FFF,R6,247"
unfolding says
row1071 = refl

row1072 : says (224 ∷ 227 ∷ 128 ∷ 255 ∷ 255 ∷ 255 ∷ 174 ∷ 128 ∷ 5 ∷ []) ≡ codes "BBS L^-80(R3),-80(SP),20E"
unfolding says
row1072 = refl

row1073 : says (224 ∷ 78 ∷ 230 ∷ 127 ∷ 255 ∷ 255 ∷ 255 ∷ 72 ∷ 199 ∷ 127 ∷ 0 ∷ 0 ∷ []) ≡ codes "BBS L^-81(R6)[SP],W^7F(R7)[R8],20C"
unfolding says
row1073 = refl

row1074 : says (225 ∷ 92 ∷ 159 ∷ 52 ∷ 18 ∷ 0 ∷ 0 ∷ 1 ∷ []) ≡ codes "BBC AP,@#1234,209"
unfolding says
row1074 = refl

row1075 : says (225 ∷ 44 ∷ 201 ∷ 128 ∷ 255 ∷ 52 ∷ []) ≡ codes "BBC #2C,W^-80(R9),23A"
unfolding says
row1075 = refl

row1076 : says (225 ∷ 70 ∷ 97 ∷ 85 ∷ 127 ∷ []) ≡ codes "BBC (R1)[R6],R5,284"
unfolding says
row1076 = refl

row1077 : says (225 ∷ 143 ∷ 128 ∷ 0 ∷ 0 ∷ 0 ∷ 66 ∷ 141 ∷ 89 ∷ []) ≡ codes "BBC #80,(FP)+[R2],262"
unfolding says
row1077 = refl

row1078 : says (225 ∷ 235 ∷ 127 ∷ 255 ∷ 255 ∷ 255 ∷ 177 ∷ 127 ∷ 255 ∷ []) ≡ codes "BBC L^-81(R11),@7F(R1),208"
unfolding says
row1078 = refl

row1079 : says (225 ∷ 88 ∷ 175 ∷ 255 ∷ 127 ∷ []) ≡ codes "BBC R8,B^203,284"
unfolding says
row1079 = refl

row1080 : says (225 ∷ 21 ∷ 191 ∷ 255 ∷ 0 ∷ []) ≡ codes "BBC #15,@B^203,205"
unfolding says
row1080 = refl

row1081 : says (225 ∷ 41 ∷ 199 ∷ 255 ∷ 127 ∷ 128 ∷ []) ≡ codes "BBC #29,7FFF(R7),186"
unfolding says
row1081 = refl

row1082 : says (226 ∷ 158 ∷ 224 ∷ 0 ∷ 0 ∷ 0 ∷ 128 ∷ 63 ∷ []) ≡ codes "BBSS @(SP)+,-80000000(R0),247"
unfolding says
row1082 = refl

row1083 : says (226 ∷ 218 ∷ 127 ∷ 0 ∷ 201 ∷ 128 ∷ 255 ∷ 1 ∷ []) ≡ codes "BBSS @W^7F(R10),W^-80(R9),209"
unfolding says
row1083 = refl

row1084 : says (226 ∷ 70 ∷ 177 ∷ 128 ∷ 82 ∷ 255 ∷ []) ≡ codes "BBSS @-80(R1)[R6],R2,205"
unfolding says
row1084 = refl

row1085 : says (226 ∷ 175 ∷ 255 ∷ 168 ∷ 255 ∷ 52 ∷ []) ≡ codes "BBSS B^202,-1(R8),23A"
unfolding says
row1085 = refl

row1086 : says (226 ∷ 86 ∷ 143 ∷ 254 ∷ 128 ∷ []) ≡ codes "BBSS R6,#FE,185"
unfolding says
row1086 = refl

row1087 : says (226 ∷ 86 ∷ 183 ∷ 127 ∷ 5 ∷ []) ≡ codes "BBSS R6,@7F(R7),20A"
unfolding says
row1087 = refl

row1088 : says (226 ∷ 114 ∷ 169 ∷ 0 ∷ 128 ∷ []) ≡ codes "BBSS -(R2),0(R9),185"
unfolding says
row1088 = refl

row1089 : says (226 ∷ 15 ∷ 87 ∷ 64 ∷ []) ≡ codes "BBSS #F,R7,244"
unfolding says
row1089 = refl

row1090 : says (227 ∷ 67 ∷ 167 ∷ 128 ∷ 73 ∷ 249 ∷ 255 ∷ 127 ∷ 255 ∷ 255 ∷ 52 ∷ []) ≡ codes "BBCS -80(R7)[R3],@-8001(R9)[R9],23F"
unfolding says
row1090 = refl

row1091 : says (227 ∷ 16 ∷ 89 ∷ 52 ∷ []) ≡ codes "BBCS #10,R9,238"
unfolding says
row1091 = refl

row1092 : says (227 ∷ 129 ∷ 229 ∷ 127 ∷ 0 ∷ 0 ∷ 0 ∷ 0 ∷ []) ≡ codes "BBCS (R1)+,L^7F(R5),208"
unfolding says
row1092 = refl

row1093 : says (227 ∷ 91 ∷ 93 ∷ 255 ∷ []) ≡ codes "BBCS R11,FP,203"
unfolding says
row1093 = refl

row1094 : says (227 ∷ 148 ∷ 183 ∷ 255 ∷ 64 ∷ []) ≡ codes "BBCS @(R4)+,@-1(R7),245"
unfolding says
row1094 = refl

row1095 : says (227 ∷ 81 ∷ 175 ∷ 1 ∷ 64 ∷ []) ≡ codes "BBCS R1,B^205,245"
unfolding says
row1095 = refl

row1096 : says (227 ∷ 143 ∷ 255 ∷ 127 ∷ 0 ∷ 0 ∷ 83 ∷ 63 ∷ []) ≡ codes "BBCS #7FFF,R3,247"
unfolding says
row1096 = refl

row1097 : says (227 ∷ 143 ∷ 127 ∷ 0 ∷ 0 ∷ 0 ∷ 187 ∷ 0 ∷ 63 ∷ []) ≡ codes "BBCS #7F,@0(R11),248"
unfolding says
row1097 = refl

row1098 : says (228 ∷ 74 ∷ 214 ∷ 0 ∷ 0 ∷ 69 ∷ 171 ∷ 255 ∷ 255 ∷ []) ≡ codes "BBSC @W^0(R6)[R10],-1(R11)[R5],208"
unfolding says
row1098 = refl

row1099 : says (228 ∷ 162 ∷ 255 ∷ 70 ∷ 188 ∷ 128 ∷ 63 ∷ []) ≡ codes "BBSC -1(R2),@-80(AP)[R6],246"
unfolding says
row1099 = refl

row1100 : says (228 ∷ 38 ∷ 208 ∷ 127 ∷ 0 ∷ 255 ∷ []) ≡ codes "BBSC #26,@W^7F(R0),205"
unfolding says
row1100 = refl

row1101 : says (228 ∷ 143 ∷ 255 ∷ 0 ∷ 0 ∷ 0 ∷ 198 ∷ 127 ∷ 0 ∷ 0 ∷ []) ≡ codes "BBSC #FF,W^7F(R6),20A"
unfolding says
row1101 = refl

row1102 : says (228 ∷ 183 ∷ 128 ∷ 68 ∷ 110 ∷ 128 ∷ []) ≡ codes "BBSC @-80(R7),(SP)[R4],186"
unfolding says
row1102 = refl

row1103 : says (228 ∷ 94 ∷ 206 ∷ 0 ∷ 0 ∷ 63 ∷ []) ≡ codes "BBSC SP,W^0(SP),245"
unfolding says
row1103 = refl

row1104 : says (228 ∷ 251 ∷ 128 ∷ 0 ∷ 0 ∷ 0 ∷ 83 ∷ 5 ∷ []) ≡ codes "BBSC @L^80(R11),R3,20D"
unfolding says
row1104 = refl

row1105 : says (228 ∷ 143 ∷ 64 ∷ 0 ∷ 0 ∷ 0 ∷ 143 ∷ 180 ∷ 64 ∷ []) ≡ codes "BBSC #40,#B4,249"
unfolding says
row1105 = refl

row1106 : says (229 ∷ 146 ∷ 160 ∷ 0 ∷ 127 ∷ []) ≡ codes "BBCC @(R2)+,0(R0),284"
unfolding says
row1106 = refl

row1107 : says (229 ∷ 143 ∷ 63 ∷ 0 ∷ 0 ∷ 0 ∷ 143 ∷ 0 ∷ 95 ∷ []) ≡ codes "BBCC I^#3F,I^#0,268"
unfolding says
row1107 = refl

row1108 : says (229 ∷ 143 ∷ 0 ∷ 128 ∷ 0 ∷ 0 ∷ 173 ∷ 127 ∷ 48 ∷ []) ≡ codes "BBCC #8000,7F(FP),239"
unfolding says
row1108 = refl

row1109 : says (229 ∷ 150 ∷ 64 ∷ 105 ∷ 52 ∷ []) ≡ codes "BBCC @(R6)+,(R9)[R0],239"
unfolding says
row1109 = refl

row1110 : says (229 ∷ 143 ∷ 1 ∷ 0 ∷ 0 ∷ 0 ∷ 85 ∷ 128 ∷ []) ≡ codes "BBCC I^#1,R5,188"
unfolding says
row1110 = refl

row1111 : says (229 ∷ 244 ∷ 128 ∷ 255 ∷ 255 ∷ 255 ∷ 75 ∷ 251 ∷ 0 ∷ 128 ∷ 0 ∷ 0 ∷ 137 ∷ []) ≡ codes "BBCC @L^-80(R4),@8000(R11)[R11],196"
unfolding says
row1111 = refl

row1112 : says (229 ∷ 72 ∷ 203 ∷ 0 ∷ 0 ∷ 76 ∷ 97 ∷ 128 ∷ []) ≡ codes "BBCC W^0(R11)[R8],(R1)[AP],188"
unfolding says
row1112 = refl

row1113 : says (229 ∷ 75 ∷ 118 ∷ 75 ∷ 189 ∷ 127 ∷ 1 ∷ []) ≡ codes "BBCC -(R6)[R11],@7F(FP)[R11],208"
unfolding says
row1113 = refl

row1114 : says (230 ∷ 166 ∷ 255 ∷ 76 ∷ 183 ∷ 127 ∷ 246 ∷ []) ≡ codes "BBSSI -1(R6),@7F(R7)[AP],1FD"
unfolding says
row1114 = refl

row1115 : says (230 ∷ 251 ∷ 0 ∷ 128 ∷ 255 ∷ 255 ∷ 84 ∷ 63 ∷ []) ≡ codes "BBSSI @L^-8000(R11),R4,247"
unfolding says
row1115 = refl

row1116 : says (230 ∷ 25 ∷ 76 ∷ 106 ∷ 1 ∷ []) ≡ codes "BBSSI #19,(R10)[AP],206"
unfolding says
row1116 = refl

row1117 : says (230 ∷ 143 ∷ 1 ∷ 0 ∷ 0 ∷ 0 ∷ 85 ∷ 255 ∷ []) ≡ codes "BBSSI I^#1,R5,207"
unfolding says
row1117 = refl

row1118 : says (230 ∷ 143 ∷ 63 ∷ 0 ∷ 0 ∷ 0 ∷ 227 ∷ 255 ∷ 127 ∷ 255 ∷ 255 ∷ 1 ∷ []) ≡ codes "BBSSI I^#3F,-8001(R3),20D"
unfolding says
row1118 = refl

row1119 : says (230 ∷ 143 ∷ 52 ∷ 18 ∷ 0 ∷ 0 ∷ 166 ∷ 255 ∷ 63 ∷ []) ≡ codes "BBSSI #1234,-1(R6),248"
unfolding says
row1119 = refl

row1120 : says (230 ∷ 76 ∷ 122 ∷ 72 ∷ 167 ∷ 128 ∷ 255 ∷ []) ≡ codes "BBSSI -(R10)[AP],-80(R7)[R8],206"
unfolding says
row1120 = refl

row1121 : says (230 ∷ 204 ∷ 1 ∷ 0 ∷ 143 ∷ 127 ∷ 255 ∷ []) ≡ codes "BBSSI W^1(AP),#7F,206"
unfolding says
row1121 = refl

row1122 : says (231 ∷ 148 ∷ 192 ∷ 176 ∷ 44 ∷ 5 ∷ []) ≡ codes "BBCCI @(R4)+,2CB0(R0),20B"
unfolding says
row1122 = refl

row1123 : says (231 ∷ 143 ∷ 127 ∷ 0 ∷ 0 ∷ 0 ∷ 148 ∷ 0 ∷ []) ≡ codes "BBCCI #7F,@(R4)+,208"
unfolding says
row1123 = refl

row1124 : says (231 ∷ 81 ∷ 202 ∷ 0 ∷ 128 ∷ 127 ∷ []) ≡ codes "BBCCI R1,-8000(R10),285"
unfolding says
row1124 = refl

row1125 : says (231 ∷ 72 ∷ 154 ∷ 180 ∷ 0 ∷ 128 ∷ []) ≡ codes "BBCCI @(R10)+[R8],@0(R4),186"
unfolding says
row1125 = refl

row1126 : says (231 ∷ 143 ∷ 80 ∷ 124 ∷ 54 ∷ 249 ∷ 109 ∷ 127 ∷ []) ≡ codes "BBCCI #F9367C50,(FP),287"
unfolding says
row1126 = refl

row1127 : says (231 ∷ 222 ∷ 0 ∷ 128 ∷ 70 ∷ 170 ∷ 255 ∷ 0 ∷ []) ≡ codes "BBCCI @-8000(SP),-1(R10)[R6],208"
unfolding says
row1127 = refl

row1128 : says (231 ∷ 143 ∷ 5 ∷ 0 ∷ 0 ∷ 0 ∷ 143 ∷ 0 ∷ 0 ∷ []) ≡ codes "BBCCI I^#5,I^#0,209"
unfolding says
row1128 = refl

row1129 : says (231 ∷ 143 ∷ 128 ∷ 0 ∷ 0 ∷ 0 ∷ 86 ∷ 63 ∷ []) ≡ codes "BBCCI #80,R6,247"
unfolding says
row1129 = refl

row1130 : says (232 ∷ 143 ∷ 64 ∷ 0 ∷ 0 ∷ 0 ∷ 63 ∷ []) ≡ codes "BLBS #40,246"
unfolding says
row1130 = refl

row1131 : says (232 ∷ 68 ∷ 220 ∷ 255 ∷ 127 ∷ 255 ∷ []) ≡ codes "BLBS @7FFF(AP)[R4],205"
unfolding says
row1131 = refl

row1132 : says (232 ∷ 59 ∷ 255 ∷ []) ≡ codes "BLBS #3B,202"
unfolding says
row1132 = refl

row1133 : says (232 ∷ 75 ∷ 230 ∷ 128 ∷ 0 ∷ 0 ∷ 0 ∷ 128 ∷ []) ≡ codes "BLBS L^80(R6)[R11],188"
unfolding says
row1133 = refl

row1134 : says (232 ∷ 254 ∷ 128 ∷ 0 ∷ 0 ∷ 0 ∷ 52 ∷ []) ≡ codes "BLBS @L^80(SP),23B"
unfolding says
row1134 = refl

row1135 : says (232 ∷ 123 ∷ 0 ∷ []) ≡ codes "BLBS -(R11),203"
unfolding says
row1135 = refl

row1136 : says (232 ∷ 65 ∷ 179 ∷ 0 ∷ 127 ∷ []) ≡ codes "BLBS @0(R3)[R1],284"
unfolding says
row1136 = refl

row1137 : says (232 ∷ 42 ∷ 63 ∷ []) ≡ codes "BLBS #2A,242"
unfolding says
row1137 = refl

row1138 : says (233 ∷ 143 ∷ 63 ∷ 0 ∷ 0 ∷ 0 ∷ 52 ∷ []) ≡ codes "BLBC I^#3F,23B"
unfolding says
row1138 = refl

row1139 : says (233 ∷ 1 ∷ 66 ∷ []) ≡ codes "BLBC #1,245"
unfolding says
row1139 = refl

row1140 : says (233 ∷ 62 ∷ 128 ∷ []) ≡ codes "BLBC #3E,183"
unfolding says
row1140 = refl

row1141 : says (233 ∷ 44 ∷ 127 ∷ []) ≡ codes "BLBC #2C,282"
unfolding says
row1141 = refl

row1142 : says (233 ∷ 143 ∷ 255 ∷ 127 ∷ 0 ∷ 0 ∷ 128 ∷ []) ≡ codes "BLBC #7FFF,187"
unfolding says
row1142 = refl

row1143 : says (233 ∷ 89 ∷ 0 ∷ []) ≡ codes "BLBC R9,203"
unfolding says
row1143 = refl

row1144 : says (233 ∷ 56 ∷ 255 ∷ []) ≡ codes "BLBC #38,202"
unfolding says
row1144 = refl

row1145 : says (233 ∷ 143 ∷ 184 ∷ 216 ∷ 118 ∷ 228 ∷ 127 ∷ []) ≡ codes "BLBC #E476D8B8,286"
unfolding says
row1145 = refl

row1146 : says (238 ∷ 94 ∷ 143 ∷ 127 ∷ 83 ∷ 160 ∷ 255 ∷ []) ≡ codes "EXTV SP,#7F,R3,-1(R0)"
unfolding says
row1146 = refl

row1147 : says (238 ∷ 88 ∷ 76 ∷ 132 ∷ 65 ∷ 108 ∷ 196 ∷ 0 ∷ 128 ∷ []) ≡ codes "EXTV R8,(R4)+[AP],(AP)[R1],-8000(R4)"
unfolding says
row1147 = refl

row1148 : says (238 ∷ 89 ∷ 179 ∷ 255 ∷ 102 ∷ 211 ∷ 127 ∷ 0 ∷ []) ≡ codes "EXTV R9,@-1(R3),(R6),@W^7F(R3)"
unfolding says
row1148 = refl

row1149 : says (238 ∷ 13 ∷ 109 ∷ 136 ∷ 102 ∷ []) ≡ codes "EXTV #D,(FP),(R8)+,(R6)"
unfolding says
row1149 = refl

row1150 : says (238 ∷ 195 ∷ 128 ∷ 0 ∷ 169 ∷ 0 ∷ 103 ∷ 148 ∷ []) ≡ codes "EXTV 80(R3),0(R9),(R7),@(R4)+"
unfolding says
row1150 = refl

row1151 : says (238 ∷ 223 ∷ 213 ∷ 122 ∷ 143 ∷ 255 ∷ 186 ∷ 123 ∷ 67 ∷ 203 ∷ 255 ∷ 127 ∷ []) ≡ codes "EXTV @W^7CD9,#FF,@7B(R10),7FFF(R11)[R3]"
unfolding says
row1151 = refl

row1152 : says (238 ∷ 85 ∷ 143 ∷ 1 ∷ 136 ∷ 87 ∷ []) ≡ codes "EXTV R5,I^#1,(R8)+,R7"
unfolding says
row1152 = refl

row1153 : says (238 ∷ 92 ∷ 225 ∷ 0 ∷ 128 ∷ 0 ∷ 0 ∷ 75 ∷ 169 ∷ 128 ∷ 236 ∷ 127 ∷ 0 ∷ 0 ∷ 0 ∷ []) ≡ codes "EXTV AP,8000(R1),-80(R9)[R11],L^7F(AP)"
unfolding says
row1153 = refl

row1154 : says (239 ∷ 143 ∷ 63 ∷ 0 ∷ 0 ∷ 0 ∷ 143 ∷ 64 ∷ 200 ∷ 0 ∷ 128 ∷ 213 ∷ 3 ∷ 137 ∷ []) ≡ codes "EXTZV I^#3F,#40,-8000(R8),@-76FD(R5)"
unfolding says
row1154 = refl

row1155 : says (239 ∷ 165 ∷ 56 ∷ 71 ∷ 171 ∷ 1 ∷ 151 ∷ 85 ∷ []) ≡ codes "EXTZV 38(R5),1(R11)[R7],@(R7)+,R5"
unfolding says
row1155 = refl

row1156 : says (239 ∷ 229 ∷ 255 ∷ 255 ∷ 255 ∷ 255 ∷ 150 ∷ 173 ∷ 255 ∷ 106 ∷ []) ≡ codes "EXTZV L^-1(R5),@(R6)+,-1(FP),(R10)"
unfolding says
row1156 = refl

row1157 : says (239 ∷ 83 ∷ 213 ∷ 1 ∷ 0 ∷ 110 ∷ 116 ∷ []) ≡ codes "EXTZV R3,@W^1(R5),(SP),-(R4)"
unfolding says
row1157 = refl

row1158 : says (239 ∷ 76 ∷ 166 ∷ 0 ∷ 78 ∷ 175 ∷ 255 ∷ 74 ∷ 248 ∷ 128 ∷ 0 ∷ 0 ∷ 0 ∷ 73 ∷ 172 ∷ 127 ∷ []) ≡ codes "EXTZV 0(R6)[AP],B^206[SP],@L^80(R8)[R10],7F(AP)[R9]"
unfolding says
row1158 = refl

row1159 : says (239 ∷ 143 ∷ 1 ∷ 0 ∷ 0 ∷ 0 ∷ 160 ∷ 255 ∷ 77 ∷ 119 ∷ 171 ∷ 0 ∷ []) ≡ codes "EXTZV I^#1,-1(R0),-(R7)[FP],0(R11)"
unfolding says
row1159 = refl

row1160 : says (239 ∷ 48 ∷ 13 ∷ 65 ∷ 107 ∷ 133 ∷ []) ≡ codes "EXTZV #30,#D,(R11)[R1],(R5)+"
unfolding says
row1160 = refl

row1161 : says (239 ∷ 67 ∷ 229 ∷ 128 ∷ 255 ∷ 255 ∷ 255 ∷ 78 ∷ 96 ∷ 154 ∷ 71 ∷ 129 ∷ []) ≡ codes "EXTZV L^-80(R5)[R3],(R0)[SP],@(R10)+,(R1)+[R7]"
unfolding says
row1161 = refl

row1162 : says (240 ∷ 143 ∷ 255 ∷ 127 ∷ 0 ∷ 0 ∷ 191 ∷ 255 ∷ 143 ∷ 72 ∷ 143 ∷ 0 ∷ []) ≡ codes "INSV #7FFF,@B^207,#48,I^#0"
unfolding says
row1162 = refl

row1163 : says (240 ∷ 29 ∷ 169 ∷ 182 ∷ 118 ∷ 106 ∷ []) ≡ codes "INSV #1D,-4A(R9),-(R6),(R10)"
unfolding says
row1163 = refl

row1164 : says (240 ∷ 129 ∷ 93 ∷ 88 ∷ 91 ∷ []) ≡ codes "INSV (R1)+,FP,R8,R11"
unfolding says
row1164 = refl

row1165 : says (240 ∷ 143 ∷ 255 ∷ 127 ∷ 0 ∷ 0 ∷ 199 ∷ 255 ∷ 255 ∷ 73 ∷ 164 ∷ 255 ∷ 72 ∷ 131 ∷ []) ≡ codes "INSV #7FFF,W^-1(R7),-1(R4)[R9],(R3)+[R8]"
unfolding says
row1165 = refl

row1166 : says (240 ∷ 88 ∷ 87 ∷ 41 ∷ 66 ∷ 212 ∷ 220 ∷ 103 ∷ []) ≡ codes "INSV R8,R7,#29,@67DC(R4)[R2]"
unfolding says
row1166 = refl

row1167 : says (240 ∷ 77 ∷ 195 ∷ 0 ∷ 0 ∷ 94 ∷ 152 ∷ 143 ∷ 128 ∷ []) ≡ codes "INSV W^0(R3)[FP],SP,@(R8)+,#80"
unfolding says
row1167 = refl

row1168 : says (240 ∷ 71 ∷ 162 ∷ 0 ∷ 67 ∷ 240 ∷ 128 ∷ 255 ∷ 255 ∷ 255 ∷ 82 ∷ 216 ∷ 255 ∷ 255 ∷ []) ≡ codes "INSV 0(R2)[R7],@L^-80(R0)[R3],R2,@W^-1(R8)"
unfolding says
row1168 = refl

row1169 : says (240 ∷ 84 ∷ 108 ∷ 205 ∷ 0 ∷ 0 ∷ 87 ∷ []) ≡ codes "INSV R4,(AP),W^0(FP),R7"
unfolding says
row1169 = refl

row1170 : says (241 ∷ 149 ∷ 204 ∷ 0 ∷ 0 ∷ 136 ∷ 255 ∷ 127 ∷ []) ≡ codes "ACBL @(R5)+,W^0(AP),(R8)+,8207"
unfolding says
row1170 = refl

row1171 : says (241 ∷ 66 ∷ 123 ∷ 73 ∷ 152 ∷ 87 ∷ 0 ∷ 128 ∷ []) ≡ codes "ACBL -(R11)[R2],@(R8)+[R9],R7,FFFF8208"
unfolding says
row1171 = refl

row1172 : says (241 ∷ 74 ∷ 118 ∷ 87 ∷ 164 ∷ 40 ∷ 128 ∷ 0 ∷ []) ≡ codes "ACBL -(R6)[R10],R7,28(R4),288"
unfolding says
row1172 = refl

row1173 : says (241 ∷ 195 ∷ 127 ∷ 255 ∷ 201 ∷ 127 ∷ 0 ∷ 234 ∷ 127 ∷ 255 ∷ 255 ∷ 255 ∷ 64 ∷ 0 ∷ []) ≡ codes "ACBL -81(R3),W^7F(R9),L^-81(R10),24E"
unfolding says
row1173 = refl

row1174 : says (241 ∷ 129 ∷ 93 ∷ 75 ∷ 110 ∷ 1 ∷ 0 ∷ []) ≡ codes "ACBL (R1)+,FP,(SP)[R11],208"
unfolding says
row1174 = refl

row1175 : says (241 ∷ 68 ∷ 156 ∷ 91 ∷ 76 ∷ 195 ∷ 255 ∷ 127 ∷ 128 ∷ 0 ∷ []) ≡ codes "ACBL @(AP)+[R4],R11,7FFF(R3)[AP],28A"
unfolding says
row1175 = refl

row1176 : says (241 ∷ 199 ∷ 1 ∷ 0 ∷ 27 ∷ 246 ∷ 0 ∷ 0 ∷ 0 ∷ 0 ∷ 64 ∷ 0 ∷ []) ≡ codes "ACBL W^1(R7),#1B,@L^0(R6),24C"
unfolding says
row1176 = refl

row1177 : says (241 ∷ 96 ∷ 87 ∷ 103 ∷ 63 ∷ 0 ∷ []) ≡ codes "ACBL (R0),R7,(R7),245"
unfolding says
row1177 = refl

row1178 : says (242 ∷ 67 ∷ 199 ∷ 255 ∷ 255 ∷ 235 ∷ 0 ∷ 0 ∷ 0 ∷ 0 ∷ 127 ∷ []) ≡ codes "AOBLSS W^-1(R7)[R3],L^0(R11),28A"
unfolding says
row1178 = refl

row1179 : says (242 ∷ 87 ∷ 91 ∷ 64 ∷ []) ≡ codes "AOBLSS R7,R11,244"
unfolding says
row1179 = refl

row1180 : says (242 ∷ 163 ∷ 0 ∷ 204 ∷ 0 ∷ 128 ∷ 255 ∷ []) ≡ codes "AOBLSS 0(R3),-8000(AP),206"
unfolding says
row1180 = refl

row1181 : says (242 ∷ 91 ∷ 177 ∷ 0 ∷ 63 ∷ []) ≡ codes "AOBLSS R11,@0(R1),244"
unfolding says
row1181 = refl

row1182 : says (242 ∷ 126 ∷ 90 ∷ 5 ∷ []) ≡ codes "AOBLSS -(SP),R10,209"
unfolding says
row1182 = refl

row1183 : says (242 ∷ 66 ∷ 133 ∷ 247 ∷ 1 ∷ 0 ∷ 0 ∷ 0 ∷ 64 ∷ []) ≡ codes "AOBLSS (R5)+[R2],@L^1(R7),249"
unfolding says
row1183 = refl

row1184 : says (242 ∷ 81 ∷ 145 ∷ 5 ∷ []) ≡ codes "AOBLSS R1,@(R1)+,209"
unfolding says
row1184 = refl

row1185 : says (242 ∷ 165 ∷ 255 ∷ 117 ∷ 0 ∷ []) ≡ codes "AOBLSS -1(R5),-(R5),205"
unfolding says
row1185 = refl

row1186 : says (243 ∷ 143 ∷ 0 ∷ 0 ∷ 0 ∷ 0 ∷ 76 ∷ 175 ∷ 96 ∷ 52 ∷ []) ≡ codes "AOBLEQ I^#0,B^269[AP],23E"
unfolding says
row1186 = refl

row1187 : says (243 ∷ 231 ∷ 128 ∷ 255 ∷ 255 ∷ 255 ∷ 71 ∷ 105 ∷ 255 ∷ []) ≡ codes "AOBLEQ L^-80(R7),(R9)[R7],208"
unfolding says
row1187 = refl

row1188 : says (243 ∷ 67 ∷ 204 ∷ 255 ∷ 255 ∷ 81 ∷ 63 ∷ []) ≡ codes "AOBLEQ W^-1(AP)[R3],R1,246"
unfolding says
row1188 = refl

row1189 : says (243 ∷ 12 ∷ 234 ∷ 255 ∷ 127 ∷ 255 ∷ 255 ∷ 5 ∷ []) ≡ codes "AOBLEQ #C,-8001(R10),20D"
unfolding says
row1189 = refl

row1190 : says (243 ∷ 182 ∷ 22 ∷ 92 ∷ 255 ∷ []) ≡ codes "AOBLEQ @16(R6),AP,204"
unfolding says
row1190 = refl

row1191 : says (243 ∷ 69 ∷ 185 ∷ 127 ∷ 181 ∷ 0 ∷ 64 ∷ []) ≡ codes "AOBLEQ @7F(R9)[R5],@0(R5),247"
unfolding says
row1191 = refl

row1192 : says (243 ∷ 232 ∷ 127 ∷ 0 ∷ 0 ∷ 0 ∷ 67 ∷ 168 ∷ 128 ∷ 0 ∷ []) ≡ codes "AOBLEQ L^7F(R8),-80(R8)[R3],20A"
unfolding says
row1192 = refl

row1193 : says (243 ∷ 85 ∷ 108 ∷ 128 ∷ []) ≡ codes "AOBLEQ R5,(AP),184"
unfolding says
row1193 = refl

row1194 : says (244 ∷ 180 ∷ 255 ∷ 255 ∷ []) ≡ codes "SOBGEQ @-1(R4),203"
unfolding says
row1194 = refl

row1195 : says (244 ∷ 242 ∷ 1 ∷ 0 ∷ 0 ∷ 0 ∷ 5 ∷ []) ≡ codes "SOBGEQ @L^1(R2),20C"
unfolding says
row1195 = refl

row1196 : says (244 ∷ 155 ∷ 128 ∷ []) ≡ codes "SOBGEQ @(R11)+,183"
unfolding says
row1196 = refl

row1197 : says (244 ∷ 220 ∷ 255 ∷ 127 ∷ 0 ∷ []) ≡ codes "SOBGEQ @7FFF(AP),205"
unfolding says
row1197 = refl

row1198 : says (244 ∷ 171 ∷ 0 ∷ 117 ∷ []) ≡ codes "SOBGEQ 0(R11),279"
unfolding says
row1198 = refl

row1199 : says (244 ∷ 179 ∷ 255 ∷ 1 ∷ []) ≡ codes "SOBGEQ @-1(R3),205"
unfolding says
row1199 = refl

row1200 : says (244 ∷ 221 ∷ 255 ∷ 255 ∷ 127 ∷ []) ≡ codes "SOBGEQ @W^-1(FP),284"
unfolding says
row1200 = refl

row1201 : says (244 ∷ 86 ∷ 52 ∷ []) ≡ codes "SOBGEQ R6,237"
unfolding says
row1201 = refl

row1202 : says (245 ∷ 88 ∷ 1 ∷ []) ≡ codes "SOBGTR R8,204"
unfolding says
row1202 = refl

row1203 : says (245 ∷ 144 ∷ 255 ∷ []) ≡ codes "SOBGTR @(R0)+,202"
unfolding says
row1203 = refl

row1204 : says (245 ∷ 77 ∷ 197 ∷ 128 ∷ 0 ∷ 63 ∷ []) ≡ codes "SOBGTR 80(R5)[FP],245"
unfolding says
row1204 = refl

row1205 : says (245 ∷ 112 ∷ 0 ∷ []) ≡ codes "SOBGTR -(R0),203"
unfolding says
row1205 = refl

row1206 : says (245 ∷ 67 ∷ 250 ∷ 0 ∷ 128 ∷ 0 ∷ 0 ∷ 1 ∷ []) ≡ codes "SOBGTR @8000(R10)[R3],209"
unfolding says
row1206 = refl

row1207 : says (245 ∷ 162 ∷ 127 ∷ 127 ∷ []) ≡ codes "SOBGTR 7F(R2),283"
unfolding says
row1207 = refl

row1208 : says (245 ∷ 137 ∷ 64 ∷ []) ≡ codes "SOBGTR (R9)+,243"
unfolding says
row1208 = refl

row1209 : says (245 ∷ 230 ∷ 0 ∷ 0 ∷ 0 ∷ 128 ∷ 1 ∷ []) ≡ codes "SOBGTR -80000000(R6),208"
unfolding says
row1209 = refl

row1210 : says (246 ∷ 254 ∷ 128 ∷ 255 ∷ 255 ∷ 255 ∷ 123 ∷ []) ≡ codes "CVTLB @L^-80(SP),-(R11)"
unfolding says
row1210 = refl

row1211 : says (246 ∷ 221 ∷ 0 ∷ 0 ∷ 176 ∷ 1 ∷ []) ≡ codes "CVTLB @W^0(FP),@1(R0)"
unfolding says
row1211 = refl

row1212 : says (246 ∷ 91 ∷ 70 ∷ 171 ∷ 255 ∷ []) ≡ codes "CVTLB R11,-1(R11)[R6]"
unfolding says
row1212 = refl

row1213 : says (246 ∷ 37 ∷ 65 ∷ 130 ∷ []) ≡ codes "CVTLB #25,(R2)+[R1]"
unfolding says
row1213 = refl

row1214 : says (246 ∷ 204 ∷ 255 ∷ 255 ∷ 81 ∷ []) ≡ codes "CVTLB W^-1(AP),R1"
unfolding says
row1214 = refl

row1215 : says (246 ∷ 103 ∷ 130 ∷ []) ≡ codes "CVTLB (R7),(R2)+"
unfolding says
row1215 = refl

row1216 : says (246 ∷ 27 ∷ 116 ∷ []) ≡ codes "CVTLB #1B,-(R4)"
unfolding says
row1216 = refl

row1217 : says (246 ∷ 61 ∷ 152 ∷ []) ≡ codes "CVTLB #3D,@(R8)+"
unfolding says
row1217 = refl

row1218 : says (247 ∷ 174 ∷ 128 ∷ 78 ∷ 223 ∷ 128 ∷ 0 ∷ []) ≡ codes "CVTLW -80(SP),@W^287[SP]"
unfolding says
row1218 = refl

row1219 : says (247 ∷ 143 ∷ 255 ∷ 0 ∷ 0 ∷ 0 ∷ 91 ∷ []) ≡ codes "CVTLW #FF,R11"
unfolding says
row1219 = refl

row1220 : says (247 ∷ 9 ∷ 70 ∷ 184 ∷ 255 ∷ []) ≡ codes "CVTLW #9,@-1(R8)[R6]"
unfolding says
row1220 = refl

row1221 : says (247 ∷ 143 ∷ 0 ∷ 128 ∷ 0 ∷ 0 ∷ 94 ∷ []) ≡ codes "CVTLW #8000,SP"
unfolding says
row1221 = refl

row1222 : says (247 ∷ 76 ∷ 133 ∷ 183 ∷ 1 ∷ []) ≡ codes "CVTLW (R5)+[AP],@1(R7)"
unfolding says
row1222 = refl

row1223 : says (247 ∷ 69 ∷ 238 ∷ 127 ∷ 255 ∷ 255 ∷ 255 ∷ 106 ∷ []) ≡ codes "CVTLW L^-81(SP)[R5],(R10)"
unfolding says
row1223 = refl

row1224 : says (247 ∷ 143 ∷ 5 ∷ 0 ∷ 0 ∷ 0 ∷ 68 ∷ 153 ∷ []) ≡ codes "CVTLW I^#5,@(R9)+[R4]"
unfolding says
row1224 = refl

row1225 : says (247 ∷ 217 ∷ 255 ∷ 127 ∷ 74 ∷ 150 ∷ []) ≡ codes "CVTLW @7FFF(R9),@(R6)+[R10]"
unfolding says
row1225 = refl

row1226 : says (250 ∷ 64 ∷ 224 ∷ 255 ∷ 127 ∷ 255 ∷ 255 ∷ 69 ∷ 231 ∷ 1 ∷ 0 ∷ 0 ∷ 0 ∷ []) ≡ codes "CALLG -8001(R0)[R0],L^1(R7)[R5]"
unfolding says
row1226 = refl

row1227 : says (250 ∷ 171 ∷ 127 ∷ 143 ∷ 127 ∷ []) ≡ codes "CALLG 7F(R11),#7F"
unfolding says
row1227 = refl

row1228 : says (250 ∷ 143 ∷ 52 ∷ 143 ∷ 64 ∷ []) ≡ codes "CALLG I^#34,#40"
unfolding says
row1228 = refl

row1229 : says (250 ∷ 73 ∷ 252 ∷ 0 ∷ 0 ∷ 0 ∷ 0 ∷ 161 ∷ 0 ∷ []) ≡ codes "CALLG @L^0(AP)[R9],0(R1)"
unfolding says
row1229 = refl

row1230 : says (250 ∷ 143 ∷ 63 ∷ 198 ∷ 116 ∷ 251 ∷ []) ≡ codes "CALLG I^#3F,-48C(R6)"
unfolding says
row1230 = refl

row1231 : says (250 ∷ 68 ∷ 118 ∷ 216 ∷ 0 ∷ 0 ∷ []) ≡ codes "CALLG -(R6)[R4],@W^0(R8)"
unfolding says
row1231 = refl

row1232 : says (250 ∷ 181 ∷ 0 ∷ 67 ∷ 210 ∷ 128 ∷ 0 ∷ []) ≡ codes "CALLG @0(R5),@80(R2)[R3]"
unfolding says
row1232 = refl

row1233 : says (250 ∷ 203 ∷ 177 ∷ 127 ∷ 145 ∷ []) ≡ codes "CALLG 7FB1(R11),@(R1)+"
unfolding says
row1233 = refl

row1234 : says (251 ∷ 26 ∷ 228 ∷ 127 ∷ 255 ∷ 255 ∷ 255 ∷ []) ≡ codes "CALLS #1A,L^-81(R4)"
unfolding says
row1234 = refl

row1235 : says (251 ∷ 66 ∷ 191 ∷ 255 ∷ 206 ∷ 98 ∷ 236 ∷ []) ≡ codes "CALLS @B^203[R2],-139E(SP)"
unfolding says
row1235 = refl

row1236 : says (251 ∷ 4 ∷ 143 ∷ 52 ∷ []) ≡ codes "CALLS #4,I^#34"
unfolding says
row1236 = refl

row1237 : says (251 ∷ 143 ∷ 5 ∷ 0 ∷ 0 ∷ 0 ∷ 179 ∷ 128 ∷ []) ≡ codes "CALLS I^#5,@-80(R3)"
unfolding says
row1237 = refl

row1238 : says (251 ∷ 108 ∷ 204 ∷ 255 ∷ 127 ∷ []) ≡ codes "CALLS (AP),7FFF(AP)"
unfolding says
row1238 = refl

row1239 : says (251 ∷ 26 ∷ 252 ∷ 0 ∷ 128 ∷ 0 ∷ 0 ∷ []) ≡ codes "CALLS #1A,@8000(AP)"
unfolding says
row1239 = refl

row1240 : says (251 ∷ 73 ∷ 177 ∷ 0 ∷ 226 ∷ 0 ∷ 0 ∷ 0 ∷ 0 ∷ []) ≡ codes "CALLS @0(R1)[R9],L^0(R2)"
unfolding says
row1240 = refl

row1241 : says (251 ∷ 1 ∷ 143 ∷ 128 ∷ []) ≡ codes "CALLS #1,#80"
unfolding says
row1241 = refl
