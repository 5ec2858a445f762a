-- What each micro operation computes, by whole numbers.
use Rattle.std.proofs.Common.{◌≡◌, refl}
use Rattle.vax_form.specs.declared.instr.Size.TheVariants.{Byte, Word, Long, Quad}
use Rattle.micro_ops.specs.declared.program.MicroOp.TheVariants as op
use Rattle.micro_ops.specs.Values.{computed, value_from}

row1 : computed op.Move Byte 0 0 11944654575647348344 ≡ 0
unfolding value_from
row1 = refl

row2 : computed op.Move Byte 1 0 11944654575647348344 ≡ 1
unfolding value_from
row2 = refl

row3 : computed op.Move Byte 127 0 11944654575647348344 ≡ 127
unfolding value_from
row3 = refl

row4 : computed op.Move Byte 128 0 11944654575647348344 ≡ 128
unfolding value_from
row4 = refl

row5 : computed op.Move Byte 255 0 11944654575647348344 ≡ 255
unfolding value_from
row5 = refl

row6 : computed op.Move Byte 12519707669276134910 0 11944654575647348344 ≡ 254
unfolding value_from
row6 = refl

row7 : computed op.Move Byte 12519707669276134781 0 11944654575647348344 ≡ 125
unfolding value_from
row7 = refl

row8 : computed op.Move Word 0 0 11944654575647348344 ≡ 0
unfolding value_from
row8 = refl

row9 : computed op.Move Word 1 0 11944654575647348344 ≡ 1
unfolding value_from
row9 = refl

row10 : computed op.Move Word 32767 0 11944654575647348344 ≡ 32767
unfolding value_from
row10 = refl

row11 : computed op.Move Word 32768 0 11944654575647348344 ≡ 32768
unfolding value_from
row11 = refl

row12 : computed op.Move Word 65535 0 11944654575647348344 ≡ 65535
unfolding value_from
row12 = refl

row13 : computed op.Move Word 13758438582938107902 0 11944654575647348344 ≡ 65534
unfolding value_from
row13 = refl

row14 : computed op.Move Word 13758438582938075133 0 11944654575647348344 ≡ 32765
unfolding value_from
row14 = refl

row15 : computed op.Move Long 0 0 11944654575647348344 ≡ 0
unfolding value_from
row15 = refl

row16 : computed op.Move Long 1 0 11944654575647348344 ≡ 1
unfolding value_from
row16 = refl

row17 : computed op.Move Long 2147483647 0 11944654575647348344 ≡ 2147483647
unfolding value_from
row17 = refl

row18 : computed op.Move Long 2147483648 0 11944654575647348344 ≡ 2147483648
unfolding value_from
row18 = refl

row19 : computed op.Move Long 4294967295 0 11944654575647348344 ≡ 4294967295
unfolding value_from
row19 = refl

row20 : computed op.Move Long 14627392582666158078 0 11944654575647348344 ≡ 4294967294
unfolding value_from
row20 = refl

row21 : computed op.Move Long 14627392580518674429 0 11944654575647348344 ≡ 2147483645
unfolding value_from
row21 = refl

row22 : computed op.Move Quad 0 0 11944654575647348344 ≡ 0
unfolding value_from
row22 = refl

row23 : computed op.Move Quad 1 0 11944654575647348344 ≡ 1
unfolding value_from
row23 = refl

row24 : computed op.Move Quad 9223372036854775807 0 11944654575647348344 ≡ 9223372036854775807
unfolding value_from
row24 = refl

row25 : computed op.Move Quad 9223372036854775808 0 11944654575647348344 ≡ 9223372036854775808
unfolding value_from
row25 = refl

row26 : computed op.Move Quad 18446744073709551615 0 11944654575647348344 ≡ 18446744073709551615
unfolding value_from
row26 = refl

row27 : computed op.Move Quad 18446744073709551614 0 11944654575647348344 ≡ 18446744073709551614
unfolding value_from
row27 = refl

row28 : computed op.Move Quad 9223372036854775805 0 11944654575647348344 ≡ 9223372036854775805
unfolding value_from
row28 = refl

row29 : computed op.ZeroExtend Byte 0 0 11944654575647348344 ≡ 0
unfolding value_from
row29 = refl

row30 : computed op.ZeroExtend Byte 1 0 11944654575647348344 ≡ 1
unfolding value_from
row30 = refl

row31 : computed op.ZeroExtend Byte 127 0 11944654575647348344 ≡ 127
unfolding value_from
row31 = refl

row32 : computed op.ZeroExtend Byte 128 0 11944654575647348344 ≡ 128
unfolding value_from
row32 = refl

row33 : computed op.ZeroExtend Byte 255 0 11944654575647348344 ≡ 255
unfolding value_from
row33 = refl

row34 : computed op.ZeroExtend Byte 12519707669276134910 0 11944654575647348344 ≡ 254
unfolding value_from
row34 = refl

row35 : computed op.ZeroExtend Byte 12519707669276134781 0 11944654575647348344 ≡ 125
unfolding value_from
row35 = refl

row36 : computed op.ZeroExtend Word 0 0 11944654575647348344 ≡ 0
unfolding value_from
row36 = refl

row37 : computed op.ZeroExtend Word 1 0 11944654575647348344 ≡ 1
unfolding value_from
row37 = refl

row38 : computed op.ZeroExtend Word 32767 0 11944654575647348344 ≡ 32767
unfolding value_from
row38 = refl

row39 : computed op.ZeroExtend Word 32768 0 11944654575647348344 ≡ 32768
unfolding value_from
row39 = refl

row40 : computed op.ZeroExtend Word 65535 0 11944654575647348344 ≡ 65535
unfolding value_from
row40 = refl

row41 : computed op.ZeroExtend Word 13758438582938107902 0 11944654575647348344 ≡ 65534
unfolding value_from
row41 = refl

row42 : computed op.ZeroExtend Word 13758438582938075133 0 11944654575647348344 ≡ 32765
unfolding value_from
row42 = refl

row43 : computed op.ZeroExtend Long 0 0 11944654575647348344 ≡ 0
unfolding value_from
row43 = refl

row44 : computed op.ZeroExtend Long 1 0 11944654575647348344 ≡ 1
unfolding value_from
row44 = refl

row45 : computed op.ZeroExtend Long 2147483647 0 11944654575647348344 ≡ 2147483647
unfolding value_from
row45 = refl

row46 : computed op.ZeroExtend Long 2147483648 0 11944654575647348344 ≡ 2147483648
unfolding value_from
row46 = refl

row47 : computed op.ZeroExtend Long 4294967295 0 11944654575647348344 ≡ 4294967295
unfolding value_from
row47 = refl

row48 : computed op.ZeroExtend Long 14627392582666158078 0 11944654575647348344 ≡ 4294967294
unfolding value_from
row48 = refl

row49 : computed op.ZeroExtend Long 14627392580518674429 0 11944654575647348344 ≡ 2147483645
unfolding value_from
row49 = refl

row50 : computed op.ZeroExtend Quad 0 0 11944654575647348344 ≡ 0
unfolding value_from
row50 = refl

row51 : computed op.ZeroExtend Quad 1 0 11944654575647348344 ≡ 1
unfolding value_from
row51 = refl

row52 : computed op.ZeroExtend Quad 9223372036854775807 0 11944654575647348344 ≡ 9223372036854775807
unfolding value_from
row52 = refl

row53 : computed op.ZeroExtend Quad 9223372036854775808 0 11944654575647348344 ≡ 9223372036854775808
unfolding value_from
row53 = refl

row54 : computed op.ZeroExtend Quad 18446744073709551615 0 11944654575647348344 ≡ 18446744073709551615
unfolding value_from
row54 = refl

row55 : computed op.ZeroExtend Quad 18446744073709551614 0 11944654575647348344 ≡ 18446744073709551614
unfolding value_from
row55 = refl

row56 : computed op.ZeroExtend Quad 9223372036854775805 0 11944654575647348344 ≡ 9223372036854775805
unfolding value_from
row56 = refl

row57 : computed op.SignExtend Byte 0 0 11944654575647348344 ≡ 0
unfolding value_from
row57 = refl

row58 : computed op.SignExtend Byte 1 0 11944654575647348344 ≡ 1
unfolding value_from
row58 = refl

row59 : computed op.SignExtend Byte 127 0 11944654575647348344 ≡ 127
unfolding value_from
row59 = refl

row60 : computed op.SignExtend Byte 128 0 11944654575647348344 ≡ 18446744073709551488
unfolding value_from
row60 = refl

row61 : computed op.SignExtend Byte 255 0 11944654575647348344 ≡ 18446744073709551615
unfolding value_from
row61 = refl

row62 : computed op.SignExtend Byte 12519707669276134910 0 11944654575647348344 ≡ 18446744073709551614
unfolding value_from
row62 = refl

row63 : computed op.SignExtend Byte 12519707669276134781 0 11944654575647348344 ≡ 125
unfolding value_from
row63 = refl

row64 : computed op.SignExtend Word 0 0 11944654575647348344 ≡ 0
unfolding value_from
row64 = refl

row65 : computed op.SignExtend Word 1 0 11944654575647348344 ≡ 1
unfolding value_from
row65 = refl

row66 : computed op.SignExtend Word 32767 0 11944654575647348344 ≡ 32767
unfolding value_from
row66 = refl

row67 : computed op.SignExtend Word 32768 0 11944654575647348344 ≡ 18446744073709518848
unfolding value_from
row67 = refl

row68 : computed op.SignExtend Word 65535 0 11944654575647348344 ≡ 18446744073709551615
unfolding value_from
row68 = refl

row69 : computed op.SignExtend Word 13758438582938107902 0 11944654575647348344 ≡ 18446744073709551614
unfolding value_from
row69 = refl

row70 : computed op.SignExtend Word 13758438582938075133 0 11944654575647348344 ≡ 32765
unfolding value_from
row70 = refl

row71 : computed op.SignExtend Long 0 0 11944654575647348344 ≡ 0
unfolding value_from
row71 = refl

row72 : computed op.SignExtend Long 1 0 11944654575647348344 ≡ 1
unfolding value_from
row72 = refl

row73 : computed op.SignExtend Long 2147483647 0 11944654575647348344 ≡ 2147483647
unfolding value_from
row73 = refl

row74 : computed op.SignExtend Long 2147483648 0 11944654575647348344 ≡ 18446744071562067968
unfolding value_from
row74 = refl

row75 : computed op.SignExtend Long 4294967295 0 11944654575647348344 ≡ 18446744073709551615
unfolding value_from
row75 = refl

row76 : computed op.SignExtend Long 14627392582666158078 0 11944654575647348344 ≡ 18446744073709551614
unfolding value_from
row76 = refl

row77 : computed op.SignExtend Long 14627392580518674429 0 11944654575647348344 ≡ 2147483645
unfolding value_from
row77 = refl

row78 : computed op.SignExtend Quad 0 0 11944654575647348344 ≡ 0
unfolding value_from
row78 = refl

row79 : computed op.SignExtend Quad 1 0 11944654575647348344 ≡ 1
unfolding value_from
row79 = refl

row80 : computed op.SignExtend Quad 9223372036854775807 0 11944654575647348344 ≡ 9223372036854775807
unfolding value_from
row80 = refl

row81 : computed op.SignExtend Quad 9223372036854775808 0 11944654575647348344 ≡ 9223372036854775808
unfolding value_from
row81 = refl

row82 : computed op.SignExtend Quad 18446744073709551615 0 11944654575647348344 ≡ 18446744073709551615
unfolding value_from
row82 = refl

row83 : computed op.SignExtend Quad 18446744073709551614 0 11944654575647348344 ≡ 18446744073709551614
unfolding value_from
row83 = refl

row84 : computed op.SignExtend Quad 9223372036854775805 0 11944654575647348344 ≡ 9223372036854775805
unfolding value_from
row84 = refl

row85 : computed op.Add Byte 0 0 11944654575647348344 ≡ 0
unfolding value_from
row85 = refl

row86 : computed op.Add Byte 255 1 11944654575647348344 ≡ 0
unfolding value_from
row86 = refl

row87 : computed op.Add Byte 1 255 11944654575647348344 ≡ 0
unfolding value_from
row87 = refl

row88 : computed op.Add Byte 128 127 11944654575647348344 ≡ 255
unfolding value_from
row88 = refl

row89 : computed op.Add Byte 127 128 11944654575647348344 ≡ 255
unfolding value_from
row89 = refl

row90 : computed op.Add Byte 255 255 11944654575647348344 ≡ 254
unfolding value_from
row90 = refl

row91 : computed op.Add Byte 128 128 11944654575647348344 ≡ 0
unfolding value_from
row91 = refl

row92 : computed op.Add Byte 12519707669276134901 12519707669276134737 11944654575647348344 ≡ 70
unfolding value_from
row92 = refl

row93 : computed op.Add Word 0 0 11944654575647348344 ≡ 0
unfolding value_from
row93 = refl

row94 : computed op.Add Word 65535 1 11944654575647348344 ≡ 0
unfolding value_from
row94 = refl

row95 : computed op.Add Word 1 65535 11944654575647348344 ≡ 0
unfolding value_from
row95 = refl

row96 : computed op.Add Word 32768 32767 11944654575647348344 ≡ 65535
unfolding value_from
row96 = refl

row97 : computed op.Add Word 32767 32768 11944654575647348344 ≡ 65535
unfolding value_from
row97 = refl

row98 : computed op.Add Word 65535 65535 11944654575647348344 ≡ 65534
unfolding value_from
row98 = refl

row99 : computed op.Add Word 32768 32768 11944654575647348344 ≡ 0
unfolding value_from
row99 = refl

row100 : computed op.Add Word 13758438582938100213 13758438582938053969 11944654575647348344 ≡ 3910
unfolding value_from
row100 = refl

row101 : computed op.Add Long 0 0 11944654575647348344 ≡ 0
unfolding value_from
row101 = refl

row102 : computed op.Add Long 4294967295 1 11944654575647348344 ≡ 0
unfolding value_from
row102 = refl

row103 : computed op.Add Long 1 4294967295 11944654575647348344 ≡ 0
unfolding value_from
row103 = refl

row104 : computed op.Add Long 2147483648 2147483647 11944654575647348344 ≡ 4294967295
unfolding value_from
row104 = refl

row105 : computed op.Add Long 2147483647 2147483648 11944654575647348344 ≡ 4294967295
unfolding value_from
row105 = refl

row106 : computed op.Add Long 4294967295 4294967295 11944654575647348344 ≡ 4294967294
unfolding value_from
row106 = refl

row107 : computed op.Add Long 2147483648 2147483648 11944654575647348344 ≡ 0
unfolding value_from
row107 = refl

row108 : computed op.Add Long 14627392581185823221 14627392581804109137 11944654575647348344 ≡ 1952583494
unfolding value_from
row108 = refl

row109 : computed op.Add Quad 0 0 11944654575647348344 ≡ 0
unfolding value_from
row109 = refl

row110 : computed op.Add Quad 18446744073709551615 1 11944654575647348344 ≡ 0
unfolding value_from
row110 = refl

row111 : computed op.Add Quad 1 18446744073709551615 11944654575647348344 ≡ 0
unfolding value_from
row111 = refl

row112 : computed op.Add Quad 9223372036854775808 9223372036854775807 11944654575647348344 ≡ 18446744073709551615
unfolding value_from
row112 = refl

row113 : computed op.Add Quad 9223372036854775807 9223372036854775808 11944654575647348344 ≡ 18446744073709551615
unfolding value_from
row113 = refl

row114 : computed op.Add Quad 18446744073709551615 18446744073709551615 11944654575647348344 ≡ 18446744073709551614
unfolding value_from
row114 = refl

row115 : computed op.Add Quad 9223372036854775808 9223372036854775808 11944654575647348344 ≡ 0
unfolding value_from
row115 = refl

row116 : computed op.Add Quad 11325522277795357173 6616326157176286545 11944654575647348344 ≡ 17941848434971643718
unfolding value_from
row116 = refl

row117 : computed op.Sub Byte 0 0 11944654575647348344 ≡ 0
unfolding value_from
row117 = refl

row118 : computed op.Sub Byte 255 1 11944654575647348344 ≡ 254
unfolding value_from
row118 = refl

row119 : computed op.Sub Byte 1 255 11944654575647348344 ≡ 2
unfolding value_from
row119 = refl

row120 : computed op.Sub Byte 128 127 11944654575647348344 ≡ 1
unfolding value_from
row120 = refl

row121 : computed op.Sub Byte 127 128 11944654575647348344 ≡ 255
unfolding value_from
row121 = refl

row122 : computed op.Sub Byte 255 255 11944654575647348344 ≡ 0
unfolding value_from
row122 = refl

row123 : computed op.Sub Byte 128 128 11944654575647348344 ≡ 0
unfolding value_from
row123 = refl

row124 : computed op.Sub Byte 12519707669276134901 12519707669276134737 11944654575647348344 ≡ 164
unfolding value_from
row124 = refl

row125 : computed op.Sub Word 0 0 11944654575647348344 ≡ 0
unfolding value_from
row125 = refl

row126 : computed op.Sub Word 65535 1 11944654575647348344 ≡ 65534
unfolding value_from
row126 = refl

row127 : computed op.Sub Word 1 65535 11944654575647348344 ≡ 2
unfolding value_from
row127 = refl

row128 : computed op.Sub Word 32768 32767 11944654575647348344 ≡ 1
unfolding value_from
row128 = refl

row129 : computed op.Sub Word 32767 32768 11944654575647348344 ≡ 65535
unfolding value_from
row129 = refl

row130 : computed op.Sub Word 65535 65535 11944654575647348344 ≡ 0
unfolding value_from
row130 = refl

row131 : computed op.Sub Word 32768 32768 11944654575647348344 ≡ 0
unfolding value_from
row131 = refl

row132 : computed op.Sub Word 13758438582938100213 13758438582938053969 11944654575647348344 ≡ 46244
unfolding value_from
row132 = refl

row133 : computed op.Sub Long 0 0 11944654575647348344 ≡ 0
unfolding value_from
row133 = refl

row134 : computed op.Sub Long 4294967295 1 11944654575647348344 ≡ 4294967294
unfolding value_from
row134 = refl

row135 : computed op.Sub Long 1 4294967295 11944654575647348344 ≡ 2
unfolding value_from
row135 = refl

row136 : computed op.Sub Long 2147483648 2147483647 11944654575647348344 ≡ 1
unfolding value_from
row136 = refl

row137 : computed op.Sub Long 2147483647 2147483648 11944654575647348344 ≡ 4294967295
unfolding value_from
row137 = refl

row138 : computed op.Sub Long 4294967295 4294967295 11944654575647348344 ≡ 0
unfolding value_from
row138 = refl

row139 : computed op.Sub Long 2147483648 2147483648 11944654575647348344 ≡ 0
unfolding value_from
row139 = refl

row140 : computed op.Sub Long 14627392581185823221 14627392581804109137 11944654575647348344 ≡ 3676681380
unfolding value_from
row140 = refl

row141 : computed op.Sub Quad 0 0 11944654575647348344 ≡ 0
unfolding value_from
row141 = refl

row142 : computed op.Sub Quad 18446744073709551615 1 11944654575647348344 ≡ 18446744073709551614
unfolding value_from
row142 = refl

row143 : computed op.Sub Quad 1 18446744073709551615 11944654575647348344 ≡ 2
unfolding value_from
row143 = refl

row144 : computed op.Sub Quad 9223372036854775808 9223372036854775807 11944654575647348344 ≡ 1
unfolding value_from
row144 = refl

row145 : computed op.Sub Quad 9223372036854775807 9223372036854775808 11944654575647348344 ≡ 18446744073709551615
unfolding value_from
row145 = refl

row146 : computed op.Sub Quad 18446744073709551615 18446744073709551615 11944654575647348344 ≡ 0
unfolding value_from
row146 = refl

row147 : computed op.Sub Quad 9223372036854775808 9223372036854775808 11944654575647348344 ≡ 0
unfolding value_from
row147 = refl

row148 : computed op.Sub Quad 11325522277795357173 6616326157176286545 11944654575647348344 ≡ 4709196120619070628
unfolding value_from
row148 = refl

row149 : computed op.Mul Byte 0 0 11944654575647348344 ≡ 0
unfolding value_from
row149 = refl

row150 : computed op.Mul Byte 255 1 11944654575647348344 ≡ 255
unfolding value_from
row150 = refl

row151 : computed op.Mul Byte 1 255 11944654575647348344 ≡ 255
unfolding value_from
row151 = refl

row152 : computed op.Mul Byte 128 127 11944654575647348344 ≡ 128
unfolding value_from
row152 = refl

row153 : computed op.Mul Byte 127 128 11944654575647348344 ≡ 128
unfolding value_from
row153 = refl

row154 : computed op.Mul Byte 255 255 11944654575647348344 ≡ 1
unfolding value_from
row154 = refl

row155 : computed op.Mul Byte 128 128 11944654575647348344 ≡ 0
unfolding value_from
row155 = refl

row156 : computed op.Mul Byte 12519707669276134901 12519707669276134737 11944654575647348344 ≡ 133
unfolding value_from
row156 = refl

row157 : computed op.Mul Word 0 0 11944654575647348344 ≡ 0
unfolding value_from
row157 = refl

row158 : computed op.Mul Word 65535 1 11944654575647348344 ≡ 65535
unfolding value_from
row158 = refl

row159 : computed op.Mul Word 1 65535 11944654575647348344 ≡ 65535
unfolding value_from
row159 = refl

row160 : computed op.Mul Word 32768 32767 11944654575647348344 ≡ 32768
unfolding value_from
row160 = refl

row161 : computed op.Mul Word 32767 32768 11944654575647348344 ≡ 32768
unfolding value_from
row161 = refl

row162 : computed op.Mul Word 65535 65535 11944654575647348344 ≡ 1
unfolding value_from
row162 = refl

row163 : computed op.Mul Word 32768 32768 11944654575647348344 ≡ 0
unfolding value_from
row163 = refl

row164 : computed op.Mul Word 13758438582938100213 13758438582938053969 11944654575647348344 ≡ 36741
unfolding value_from
row164 = refl

row165 : computed op.Mul Long 0 0 11944654575647348344 ≡ 0
unfolding value_from
row165 = refl

row166 : computed op.Mul Long 4294967295 1 11944654575647348344 ≡ 4294967295
unfolding value_from
row166 = refl

row167 : computed op.Mul Long 1 4294967295 11944654575647348344 ≡ 4294967295
unfolding value_from
row167 = refl

row168 : computed op.Mul Long 2147483648 2147483647 11944654575647348344 ≡ 2147483648
unfolding value_from
row168 = refl

row169 : computed op.Mul Long 2147483647 2147483648 11944654575647348344 ≡ 2147483648
unfolding value_from
row169 = refl

row170 : computed op.Mul Long 4294967295 4294967295 11944654575647348344 ≡ 1
unfolding value_from
row170 = refl

row171 : computed op.Mul Long 2147483648 2147483648 11944654575647348344 ≡ 0
unfolding value_from
row171 = refl

row172 : computed op.Mul Long 14627392581185823221 14627392581804109137 11944654575647348344 ≡ 887656325
unfolding value_from
row172 = refl

row173 : computed op.Mul Quad 0 0 11944654575647348344 ≡ 0
unfolding value_from
row173 = refl

row174 : computed op.Mul Quad 18446744073709551615 1 11944654575647348344 ≡ 18446744073709551615
unfolding value_from
row174 = refl

row175 : computed op.Mul Quad 1 18446744073709551615 11944654575647348344 ≡ 18446744073709551615
unfolding value_from
row175 = refl

row176 : computed op.Mul Quad 9223372036854775808 9223372036854775807 11944654575647348344 ≡ 9223372036854775808
unfolding value_from
row176 = refl

row177 : computed op.Mul Quad 9223372036854775807 9223372036854775808 11944654575647348344 ≡ 9223372036854775808
unfolding value_from
row177 = refl

row178 : computed op.Mul Quad 18446744073709551615 18446744073709551615 11944654575647348344 ≡ 1
unfolding value_from
row178 = refl

row179 : computed op.Mul Quad 9223372036854775808 9223372036854775808 11944654575647348344 ≡ 0
unfolding value_from
row179 = refl

row180 : computed op.Mul Quad 11325522277795357173 6616326157176286545 11944654575647348344 ≡ 13376057104564522885
unfolding value_from
row180 = refl

row181 : computed op.MulHigh Byte 0 0 11944654575647348344 ≡ 0
unfolding value_from
row181 = refl

row182 : computed op.MulHigh Byte 255 1 11944654575647348344 ≡ 0
unfolding value_from
row182 = refl

row183 : computed op.MulHigh Byte 1 255 11944654575647348344 ≡ 0
unfolding value_from
row183 = refl

row184 : computed op.MulHigh Byte 128 127 11944654575647348344 ≡ 63
unfolding value_from
row184 = refl

row185 : computed op.MulHigh Byte 127 128 11944654575647348344 ≡ 63
unfolding value_from
row185 = refl

row186 : computed op.MulHigh Byte 255 255 11944654575647348344 ≡ 254
unfolding value_from
row186 = refl

row187 : computed op.MulHigh Byte 128 128 11944654575647348344 ≡ 64
unfolding value_from
row187 = refl

row188 : computed op.MulHigh Byte 12519707669276134901 12519707669276134737 11944654575647348344 ≡ 77
unfolding value_from
row188 = refl

row189 : computed op.MulHigh Word 0 0 11944654575647348344 ≡ 0
unfolding value_from
row189 = refl

row190 : computed op.MulHigh Word 65535 1 11944654575647348344 ≡ 0
unfolding value_from
row190 = refl

row191 : computed op.MulHigh Word 1 65535 11944654575647348344 ≡ 0
unfolding value_from
row191 = refl

row192 : computed op.MulHigh Word 32768 32767 11944654575647348344 ≡ 16383
unfolding value_from
row192 = refl

row193 : computed op.MulHigh Word 32767 32768 11944654575647348344 ≡ 16383
unfolding value_from
row193 = refl

row194 : computed op.MulHigh Word 65535 65535 11944654575647348344 ≡ 65534
unfolding value_from
row194 = refl

row195 : computed op.MulHigh Word 32768 32768 11944654575647348344 ≡ 16384
unfolding value_from
row195 = refl

row196 : computed op.MulHigh Word 13758438582938100213 13758438582938053969 11944654575647348344 ≡ 10239
unfolding value_from
row196 = refl

row197 : computed op.MulHigh Long 0 0 11944654575647348344 ≡ 0
unfolding value_from
row197 = refl

row198 : computed op.MulHigh Long 4294967295 1 11944654575647348344 ≡ 0
unfolding value_from
row198 = refl

row199 : computed op.MulHigh Long 1 4294967295 11944654575647348344 ≡ 0
unfolding value_from
row199 = refl

row200 : computed op.MulHigh Long 2147483648 2147483647 11944654575647348344 ≡ 1073741823
unfolding value_from
row200 = refl

row201 : computed op.MulHigh Long 2147483647 2147483648 11944654575647348344 ≡ 1073741823
unfolding value_from
row201 = refl

row202 : computed op.MulHigh Long 4294967295 4294967295 11944654575647348344 ≡ 4294967294
unfolding value_from
row202 = refl

row203 : computed op.MulHigh Long 2147483648 2147483648 11944654575647348344 ≡ 1073741824
unfolding value_from
row203 = refl

row204 : computed op.MulHigh Long 14627392581185823221 14627392581804109137 11944654575647348344 ≡ 2249703591
unfolding value_from
row204 = refl

row205 : computed op.MulHigh Quad 0 0 11944654575647348344 ≡ 0
unfolding value_from
row205 = refl

row206 : computed op.MulHigh Quad 18446744073709551615 1 11944654575647348344 ≡ 0
unfolding value_from
row206 = refl

row207 : computed op.MulHigh Quad 1 18446744073709551615 11944654575647348344 ≡ 0
unfolding value_from
row207 = refl

row208 : computed op.MulHigh Quad 9223372036854775808 9223372036854775807 11944654575647348344 ≡ 4611686018427387903
unfolding value_from
row208 = refl

row209 : computed op.MulHigh Quad 9223372036854775807 9223372036854775808 11944654575647348344 ≡ 4611686018427387903
unfolding value_from
row209 = refl

row210 : computed op.MulHigh Quad 18446744073709551615 18446744073709551615 11944654575647348344 ≡ 18446744073709551614
unfolding value_from
row210 = refl

row211 : computed op.MulHigh Quad 9223372036854775808 9223372036854775808 11944654575647348344 ≡ 4611686018427387904
unfolding value_from
row211 = refl

row212 : computed op.MulHigh Quad 11325522277795357173 6616326157176286545 11944654575647348344 ≡ 4062145004605760900
unfolding value_from
row212 = refl

row213 : computed op.And Byte 0 0 11944654575647348344 ≡ 0
unfolding value_from
row213 = refl

row214 : computed op.And Byte 255 1 11944654575647348344 ≡ 1
unfolding value_from
row214 = refl

row215 : computed op.And Byte 1 255 11944654575647348344 ≡ 1
unfolding value_from
row215 = refl

row216 : computed op.And Byte 128 127 11944654575647348344 ≡ 0
unfolding value_from
row216 = refl

row217 : computed op.And Byte 127 128 11944654575647348344 ≡ 0
unfolding value_from
row217 = refl

row218 : computed op.And Byte 255 255 11944654575647348344 ≡ 255
unfolding value_from
row218 = refl

row219 : computed op.And Byte 128 128 11944654575647348344 ≡ 128
unfolding value_from
row219 = refl

row220 : computed op.And Byte 12519707669276134901 12519707669276134737 11944654575647348344 ≡ 81
unfolding value_from
row220 = refl

row221 : computed op.And Word 0 0 11944654575647348344 ≡ 0
unfolding value_from
row221 = refl

row222 : computed op.And Word 65535 1 11944654575647348344 ≡ 1
unfolding value_from
row222 = refl

row223 : computed op.And Word 1 65535 11944654575647348344 ≡ 1
unfolding value_from
row223 = refl

row224 : computed op.And Word 32768 32767 11944654575647348344 ≡ 0
unfolding value_from
row224 = refl

row225 : computed op.And Word 32767 32768 11944654575647348344 ≡ 0
unfolding value_from
row225 = refl

row226 : computed op.And Word 65535 65535 11944654575647348344 ≡ 65535
unfolding value_from
row226 = refl

row227 : computed op.And Word 32768 32768 11944654575647348344 ≡ 32768
unfolding value_from
row227 = refl

row228 : computed op.And Word 13758438582938100213 13758438582938053969 11944654575647348344 ≡ 8529
unfolding value_from
row228 = refl

row229 : computed op.And Long 0 0 11944654575647348344 ≡ 0
unfolding value_from
row229 = refl

row230 : computed op.And Long 4294967295 1 11944654575647348344 ≡ 1
unfolding value_from
row230 = refl

row231 : computed op.And Long 1 4294967295 11944654575647348344 ≡ 1
unfolding value_from
row231 = refl

row232 : computed op.And Long 2147483648 2147483647 11944654575647348344 ≡ 0
unfolding value_from
row232 = refl

row233 : computed op.And Long 2147483647 2147483648 11944654575647348344 ≡ 0
unfolding value_from
row233 = refl

row234 : computed op.And Long 4294967295 4294967295 11944654575647348344 ≡ 4294967295
unfolding value_from
row234 = refl

row235 : computed op.And Long 2147483648 2147483648 11944654575647348344 ≡ 2147483648
unfolding value_from
row235 = refl

row236 : computed op.And Long 14627392581185823221 14627392581804109137 11944654575647348344 ≡ 2223120721
unfolding value_from
row236 = refl

row237 : computed op.And Quad 0 0 11944654575647348344 ≡ 0
unfolding value_from
row237 = refl

row238 : computed op.And Quad 18446744073709551615 1 11944654575647348344 ≡ 1
unfolding value_from
row238 = refl

row239 : computed op.And Quad 1 18446744073709551615 11944654575647348344 ≡ 1
unfolding value_from
row239 = refl

row240 : computed op.And Quad 9223372036854775808 9223372036854775807 11944654575647348344 ≡ 0
unfolding value_from
row240 = refl

row241 : computed op.And Quad 9223372036854775807 9223372036854775808 11944654575647348344 ≡ 0
unfolding value_from
row241 = refl

row242 : computed op.And Quad 18446744073709551615 18446744073709551615 11944654575647348344 ≡ 18446744073709551615
unfolding value_from
row242 = refl

row243 : computed op.And Quad 9223372036854775808 9223372036854775808 11944654575647348344 ≡ 9223372036854775808
unfolding value_from
row243 = refl

row244 : computed op.And Quad 11325522277795357173 6616326157176286545 11944654575647348344 ≡ 1801510775966277969
unfolding value_from
row244 = refl

row245 : computed op.Or Byte 0 0 11944654575647348344 ≡ 0
unfolding value_from
row245 = refl

row246 : computed op.Or Byte 255 1 11944654575647348344 ≡ 255
unfolding value_from
row246 = refl

row247 : computed op.Or Byte 1 255 11944654575647348344 ≡ 255
unfolding value_from
row247 = refl

row248 : computed op.Or Byte 128 127 11944654575647348344 ≡ 255
unfolding value_from
row248 = refl

row249 : computed op.Or Byte 127 128 11944654575647348344 ≡ 255
unfolding value_from
row249 = refl

row250 : computed op.Or Byte 255 255 11944654575647348344 ≡ 255
unfolding value_from
row250 = refl

row251 : computed op.Or Byte 128 128 11944654575647348344 ≡ 128
unfolding value_from
row251 = refl

row252 : computed op.Or Byte 12519707669276134901 12519707669276134737 11944654575647348344 ≡ 245
unfolding value_from
row252 = refl

row253 : computed op.Or Word 0 0 11944654575647348344 ≡ 0
unfolding value_from
row253 = refl

row254 : computed op.Or Word 65535 1 11944654575647348344 ≡ 65535
unfolding value_from
row254 = refl

row255 : computed op.Or Word 1 65535 11944654575647348344 ≡ 65535
unfolding value_from
row255 = refl

row256 : computed op.Or Word 32768 32767 11944654575647348344 ≡ 65535
unfolding value_from
row256 = refl

row257 : computed op.Or Word 32767 32768 11944654575647348344 ≡ 65535
unfolding value_from
row257 = refl

row258 : computed op.Or Word 65535 65535 11944654575647348344 ≡ 65535
unfolding value_from
row258 = refl

row259 : computed op.Or Word 32768 32768 11944654575647348344 ≡ 32768
unfolding value_from
row259 = refl

row260 : computed op.Or Word 13758438582938100213 13758438582938053969 11944654575647348344 ≡ 60917
unfolding value_from
row260 = refl

row261 : computed op.Or Long 0 0 11944654575647348344 ≡ 0
unfolding value_from
row261 = refl

row262 : computed op.Or Long 4294967295 1 11944654575647348344 ≡ 4294967295
unfolding value_from
row262 = refl

row263 : computed op.Or Long 1 4294967295 11944654575647348344 ≡ 4294967295
unfolding value_from
row263 = refl

row264 : computed op.Or Long 2147483648 2147483647 11944654575647348344 ≡ 4294967295
unfolding value_from
row264 = refl

row265 : computed op.Or Long 2147483647 2147483648 11944654575647348344 ≡ 4294967295
unfolding value_from
row265 = refl

row266 : computed op.Or Long 4294967295 4294967295 11944654575647348344 ≡ 4294967295
unfolding value_from
row266 = refl

row267 : computed op.Or Long 2147483648 2147483648 11944654575647348344 ≡ 2147483648
unfolding value_from
row267 = refl

row268 : computed op.Or Long 14627392581185823221 14627392581804109137 11944654575647348344 ≡ 4024430069
unfolding value_from
row268 = refl

row269 : computed op.Or Quad 0 0 11944654575647348344 ≡ 0
unfolding value_from
row269 = refl

row270 : computed op.Or Quad 18446744073709551615 1 11944654575647348344 ≡ 18446744073709551615
unfolding value_from
row270 = refl

row271 : computed op.Or Quad 1 18446744073709551615 11944654575647348344 ≡ 18446744073709551615
unfolding value_from
row271 = refl

row272 : computed op.Or Quad 9223372036854775808 9223372036854775807 11944654575647348344 ≡ 18446744073709551615
unfolding value_from
row272 = refl

row273 : computed op.Or Quad 9223372036854775807 9223372036854775808 11944654575647348344 ≡ 18446744073709551615
unfolding value_from
row273 = refl

row274 : computed op.Or Quad 18446744073709551615 18446744073709551615 11944654575647348344 ≡ 18446744073709551615
unfolding value_from
row274 = refl

row275 : computed op.Or Quad 9223372036854775808 9223372036854775808 11944654575647348344 ≡ 9223372036854775808
unfolding value_from
row275 = refl

row276 : computed op.Or Quad 11325522277795357173 6616326157176286545 11944654575647348344 ≡ 16140337659005365749
unfolding value_from
row276 = refl

row277 : computed op.Xor Byte 0 0 11944654575647348344 ≡ 0
unfolding value_from
row277 = refl

row278 : computed op.Xor Byte 255 1 11944654575647348344 ≡ 254
unfolding value_from
row278 = refl

row279 : computed op.Xor Byte 1 255 11944654575647348344 ≡ 254
unfolding value_from
row279 = refl

row280 : computed op.Xor Byte 128 127 11944654575647348344 ≡ 255
unfolding value_from
row280 = refl

row281 : computed op.Xor Byte 127 128 11944654575647348344 ≡ 255
unfolding value_from
row281 = refl

row282 : computed op.Xor Byte 255 255 11944654575647348344 ≡ 0
unfolding value_from
row282 = refl

row283 : computed op.Xor Byte 128 128 11944654575647348344 ≡ 0
unfolding value_from
row283 = refl

row284 : computed op.Xor Byte 12519707669276134901 12519707669276134737 11944654575647348344 ≡ 164
unfolding value_from
row284 = refl

row285 : computed op.Xor Word 0 0 11944654575647348344 ≡ 0
unfolding value_from
row285 = refl

row286 : computed op.Xor Word 65535 1 11944654575647348344 ≡ 65534
unfolding value_from
row286 = refl

row287 : computed op.Xor Word 1 65535 11944654575647348344 ≡ 65534
unfolding value_from
row287 = refl

row288 : computed op.Xor Word 32768 32767 11944654575647348344 ≡ 65535
unfolding value_from
row288 = refl

row289 : computed op.Xor Word 32767 32768 11944654575647348344 ≡ 65535
unfolding value_from
row289 = refl

row290 : computed op.Xor Word 65535 65535 11944654575647348344 ≡ 0
unfolding value_from
row290 = refl

row291 : computed op.Xor Word 32768 32768 11944654575647348344 ≡ 0
unfolding value_from
row291 = refl

row292 : computed op.Xor Word 13758438582938100213 13758438582938053969 11944654575647348344 ≡ 52388
unfolding value_from
row292 = refl

row293 : computed op.Xor Long 0 0 11944654575647348344 ≡ 0
unfolding value_from
row293 = refl

row294 : computed op.Xor Long 4294967295 1 11944654575647348344 ≡ 4294967294
unfolding value_from
row294 = refl

row295 : computed op.Xor Long 1 4294967295 11944654575647348344 ≡ 4294967294
unfolding value_from
row295 = refl

row296 : computed op.Xor Long 2147483648 2147483647 11944654575647348344 ≡ 4294967295
unfolding value_from
row296 = refl

row297 : computed op.Xor Long 2147483647 2147483648 11944654575647348344 ≡ 4294967295
unfolding value_from
row297 = refl

row298 : computed op.Xor Long 4294967295 4294967295 11944654575647348344 ≡ 0
unfolding value_from
row298 = refl

row299 : computed op.Xor Long 2147483648 2147483648 11944654575647348344 ≡ 0
unfolding value_from
row299 = refl

row300 : computed op.Xor Long 14627392581185823221 14627392581804109137 11944654575647348344 ≡ 1801309348
unfolding value_from
row300 = refl

row301 : computed op.Xor Quad 0 0 11944654575647348344 ≡ 0
unfolding value_from
row301 = refl

row302 : computed op.Xor Quad 18446744073709551615 1 11944654575647348344 ≡ 18446744073709551614
unfolding value_from
row302 = refl

row303 : computed op.Xor Quad 1 18446744073709551615 11944654575647348344 ≡ 18446744073709551614
unfolding value_from
row303 = refl

row304 : computed op.Xor Quad 9223372036854775808 9223372036854775807 11944654575647348344 ≡ 18446744073709551615
unfolding value_from
row304 = refl

row305 : computed op.Xor Quad 9223372036854775807 9223372036854775808 11944654575647348344 ≡ 18446744073709551615
unfolding value_from
row305 = refl

row306 : computed op.Xor Quad 18446744073709551615 18446744073709551615 11944654575647348344 ≡ 0
unfolding value_from
row306 = refl

row307 : computed op.Xor Quad 9223372036854775808 9223372036854775808 11944654575647348344 ≡ 0
unfolding value_from
row307 = refl

row308 : computed op.Xor Quad 11325522277795357173 6616326157176286545 11944654575647348344 ≡ 14338826883039087780
unfolding value_from
row308 = refl

row309 : computed op.AndNot Byte 0 0 11944654575647348344 ≡ 0
unfolding value_from
row309 = refl

row310 : computed op.AndNot Byte 255 1 11944654575647348344 ≡ 254
unfolding value_from
row310 = refl

row311 : computed op.AndNot Byte 1 255 11944654575647348344 ≡ 0
unfolding value_from
row311 = refl

row312 : computed op.AndNot Byte 128 127 11944654575647348344 ≡ 128
unfolding value_from
row312 = refl

row313 : computed op.AndNot Byte 127 128 11944654575647348344 ≡ 127
unfolding value_from
row313 = refl

row314 : computed op.AndNot Byte 255 255 11944654575647348344 ≡ 0
unfolding value_from
row314 = refl

row315 : computed op.AndNot Byte 128 128 11944654575647348344 ≡ 0
unfolding value_from
row315 = refl

row316 : computed op.AndNot Byte 12519707669276134901 12519707669276134737 11944654575647348344 ≡ 164
unfolding value_from
row316 = refl

row317 : computed op.AndNot Word 0 0 11944654575647348344 ≡ 0
unfolding value_from
row317 = refl

row318 : computed op.AndNot Word 65535 1 11944654575647348344 ≡ 65534
unfolding value_from
row318 = refl

row319 : computed op.AndNot Word 1 65535 11944654575647348344 ≡ 0
unfolding value_from
row319 = refl

row320 : computed op.AndNot Word 32768 32767 11944654575647348344 ≡ 32768
unfolding value_from
row320 = refl

row321 : computed op.AndNot Word 32767 32768 11944654575647348344 ≡ 32767
unfolding value_from
row321 = refl

row322 : computed op.AndNot Word 65535 65535 11944654575647348344 ≡ 0
unfolding value_from
row322 = refl

row323 : computed op.AndNot Word 32768 32768 11944654575647348344 ≡ 0
unfolding value_from
row323 = refl

row324 : computed op.AndNot Word 13758438582938100213 13758438582938053969 11944654575647348344 ≡ 49316
unfolding value_from
row324 = refl

row325 : computed op.AndNot Long 0 0 11944654575647348344 ≡ 0
unfolding value_from
row325 = refl

row326 : computed op.AndNot Long 4294967295 1 11944654575647348344 ≡ 4294967294
unfolding value_from
row326 = refl

row327 : computed op.AndNot Long 1 4294967295 11944654575647348344 ≡ 0
unfolding value_from
row327 = refl

row328 : computed op.AndNot Long 2147483648 2147483647 11944654575647348344 ≡ 2147483648
unfolding value_from
row328 = refl

row329 : computed op.AndNot Long 2147483647 2147483648 11944654575647348344 ≡ 2147483647
unfolding value_from
row329 = refl

row330 : computed op.AndNot Long 4294967295 4294967295 11944654575647348344 ≡ 0
unfolding value_from
row330 = refl

row331 : computed op.AndNot Long 2147483648 2147483648 11944654575647348344 ≡ 0
unfolding value_from
row331 = refl

row332 : computed op.AndNot Long 14627392581185823221 14627392581804109137 11944654575647348344 ≡ 591511716
unfolding value_from
row332 = refl

row333 : computed op.AndNot Quad 0 0 11944654575647348344 ≡ 0
unfolding value_from
row333 = refl

row334 : computed op.AndNot Quad 18446744073709551615 1 11944654575647348344 ≡ 18446744073709551614
unfolding value_from
row334 = refl

row335 : computed op.AndNot Quad 1 18446744073709551615 11944654575647348344 ≡ 0
unfolding value_from
row335 = refl

row336 : computed op.AndNot Quad 9223372036854775808 9223372036854775807 11944654575647348344 ≡ 9223372036854775808
unfolding value_from
row336 = refl

row337 : computed op.AndNot Quad 9223372036854775807 9223372036854775808 11944654575647348344 ≡ 9223372036854775807
unfolding value_from
row337 = refl

row338 : computed op.AndNot Quad 18446744073709551615 18446744073709551615 11944654575647348344 ≡ 0
unfolding value_from
row338 = refl

row339 : computed op.AndNot Quad 9223372036854775808 9223372036854775808 11944654575647348344 ≡ 0
unfolding value_from
row339 = refl

row340 : computed op.AndNot Quad 11325522277795357173 6616326157176286545 11944654575647348344 ≡ 9524011501829079204
unfolding value_from
row340 = refl

row341 : computed op.ShiftLeft Byte 12519707669276134901 0 11944654575647348344 ≡ 245
unfolding value_from
row341 = refl

row342 : computed op.ShiftLeft Byte 12519707669276134901 1 11944654575647348344 ≡ 234
unfolding value_from
row342 = refl

row343 : computed op.ShiftLeft Byte 12519707669276134901 7 11944654575647348344 ≡ 128
unfolding value_from
row343 = refl

row344 : computed op.ShiftLeft Byte 12519707669276134901 8 11944654575647348344 ≡ 0
unfolding value_from
row344 = refl

row345 : computed op.ShiftLeft Byte 12519707669276134901 9 11944654575647348344 ≡ 0
unfolding value_from
row345 = refl

row346 : computed op.ShiftLeft Byte 12519707669276134901 63 11944654575647348344 ≡ 0
unfolding value_from
row346 = refl

row347 : computed op.ShiftLeft Byte 12519707669276134901 64 11944654575647348344 ≡ 0
unfolding value_from
row347 = refl

row348 : computed op.ShiftLeft Byte 12519707669276134901 65 11944654575647348344 ≡ 0
unfolding value_from
row348 = refl

row349 : computed op.ShiftLeft Byte 12519707669276134901 255 11944654575647348344 ≡ 0
unfolding value_from
row349 = refl

row350 : computed op.ShiftLeft Byte 12519707669276134783 0 11944654575647348344 ≡ 127
unfolding value_from
row350 = refl

row351 : computed op.ShiftLeft Byte 12519707669276134783 1 11944654575647348344 ≡ 254
unfolding value_from
row351 = refl

row352 : computed op.ShiftLeft Byte 12519707669276134783 7 11944654575647348344 ≡ 128
unfolding value_from
row352 = refl

row353 : computed op.ShiftLeft Byte 12519707669276134783 8 11944654575647348344 ≡ 0
unfolding value_from
row353 = refl

row354 : computed op.ShiftLeft Byte 12519707669276134783 9 11944654575647348344 ≡ 0
unfolding value_from
row354 = refl

row355 : computed op.ShiftLeft Byte 12519707669276134783 63 11944654575647348344 ≡ 0
unfolding value_from
row355 = refl

row356 : computed op.ShiftLeft Byte 12519707669276134783 64 11944654575647348344 ≡ 0
unfolding value_from
row356 = refl

row357 : computed op.ShiftLeft Byte 12519707669276134783 65 11944654575647348344 ≡ 0
unfolding value_from
row357 = refl

row358 : computed op.ShiftLeft Byte 12519707669276134783 255 11944654575647348344 ≡ 0
unfolding value_from
row358 = refl

row359 : computed op.ShiftLeft Byte 255 12519707669276134659 11944654575647348344 ≡ 248
unfolding value_from
row359 = refl

row360 : computed op.ShiftLeft Byte 12519707669276134784 12519707669276134663 11944654575647348344 ≡ 0
unfolding value_from
row360 = refl

row361 : computed op.ShiftLeft Word 13758438582938100213 0 11944654575647348344 ≡ 57845
unfolding value_from
row361 = refl

row362 : computed op.ShiftLeft Word 13758438582938100213 1 11944654575647348344 ≡ 50154
unfolding value_from
row362 = refl

row363 : computed op.ShiftLeft Word 13758438582938100213 15 11944654575647348344 ≡ 32768
unfolding value_from
row363 = refl

row364 : computed op.ShiftLeft Word 13758438582938100213 16 11944654575647348344 ≡ 0
unfolding value_from
row364 = refl

row365 : computed op.ShiftLeft Word 13758438582938100213 17 11944654575647348344 ≡ 0
unfolding value_from
row365 = refl

row366 : computed op.ShiftLeft Word 13758438582938100213 63 11944654575647348344 ≡ 0
unfolding value_from
row366 = refl

row367 : computed op.ShiftLeft Word 13758438582938100213 64 11944654575647348344 ≡ 0
unfolding value_from
row367 = refl

row368 : computed op.ShiftLeft Word 13758438582938100213 65 11944654575647348344 ≡ 0
unfolding value_from
row368 = refl

row369 : computed op.ShiftLeft Word 13758438582938100213 65535 11944654575647348344 ≡ 0
unfolding value_from
row369 = refl

row370 : computed op.ShiftLeft Word 13758438582938075135 0 11944654575647348344 ≡ 32767
unfolding value_from
row370 = refl

row371 : computed op.ShiftLeft Word 13758438582938075135 1 11944654575647348344 ≡ 65534
unfolding value_from
row371 = refl

row372 : computed op.ShiftLeft Word 13758438582938075135 15 11944654575647348344 ≡ 32768
unfolding value_from
row372 = refl

row373 : computed op.ShiftLeft Word 13758438582938075135 16 11944654575647348344 ≡ 0
unfolding value_from
row373 = refl

row374 : computed op.ShiftLeft Word 13758438582938075135 17 11944654575647348344 ≡ 0
unfolding value_from
row374 = refl

row375 : computed op.ShiftLeft Word 13758438582938075135 63 11944654575647348344 ≡ 0
unfolding value_from
row375 = refl

row376 : computed op.ShiftLeft Word 13758438582938075135 64 11944654575647348344 ≡ 0
unfolding value_from
row376 = refl

row377 : computed op.ShiftLeft Word 13758438582938075135 65 11944654575647348344 ≡ 0
unfolding value_from
row377 = refl

row378 : computed op.ShiftLeft Word 13758438582938075135 65535 11944654575647348344 ≡ 0
unfolding value_from
row378 = refl

row379 : computed op.ShiftLeft Word 65535 13758438582938042371 11944654575647348344 ≡ 65528
unfolding value_from
row379 = refl

row380 : computed op.ShiftLeft Word 13758438582938075136 13758438582938042383 11944654575647348344 ≡ 0
unfolding value_from
row380 = refl

row381 : computed op.ShiftLeft Long 14627392581185823221 0 11944654575647348344 ≡ 2814632437
unfolding value_from
row381 = refl

row382 : computed op.ShiftLeft Long 14627392581185823221 1 11944654575647348344 ≡ 1334297578
unfolding value_from
row382 = refl

row383 : computed op.ShiftLeft Long 14627392581185823221 31 11944654575647348344 ≡ 2147483648
unfolding value_from
row383 = refl

row384 : computed op.ShiftLeft Long 14627392581185823221 32 11944654575647348344 ≡ 0
unfolding value_from
row384 = refl

row385 : computed op.ShiftLeft Long 14627392581185823221 33 11944654575647348344 ≡ 0
unfolding value_from
row385 = refl

row386 : computed op.ShiftLeft Long 14627392581185823221 63 11944654575647348344 ≡ 0
unfolding value_from
row386 = refl

row387 : computed op.ShiftLeft Long 14627392581185823221 64 11944654575647348344 ≡ 0
unfolding value_from
row387 = refl

row388 : computed op.ShiftLeft Long 14627392581185823221 65 11944654575647348344 ≡ 0
unfolding value_from
row388 = refl

row389 : computed op.ShiftLeft Long 14627392581185823221 4294967295 11944654575647348344 ≡ 0
unfolding value_from
row389 = refl

row390 : computed op.ShiftLeft Long 14627392580518674431 0 11944654575647348344 ≡ 2147483647
unfolding value_from
row390 = refl

row391 : computed op.ShiftLeft Long 14627392580518674431 1 11944654575647348344 ≡ 4294967294
unfolding value_from
row391 = refl

row392 : computed op.ShiftLeft Long 14627392580518674431 31 11944654575647348344 ≡ 2147483648
unfolding value_from
row392 = refl

row393 : computed op.ShiftLeft Long 14627392580518674431 32 11944654575647348344 ≡ 0
unfolding value_from
row393 = refl

row394 : computed op.ShiftLeft Long 14627392580518674431 33 11944654575647348344 ≡ 0
unfolding value_from
row394 = refl

row395 : computed op.ShiftLeft Long 14627392580518674431 63 11944654575647348344 ≡ 0
unfolding value_from
row395 = refl

row396 : computed op.ShiftLeft Long 14627392580518674431 64 11944654575647348344 ≡ 0
unfolding value_from
row396 = refl

row397 : computed op.ShiftLeft Long 14627392580518674431 65 11944654575647348344 ≡ 0
unfolding value_from
row397 = refl

row398 : computed op.ShiftLeft Long 14627392580518674431 4294967295 11944654575647348344 ≡ 0
unfolding value_from
row398 = refl

row399 : computed op.ShiftLeft Long 4294967295 14627392578371190787 11944654575647348344 ≡ 4294967288
unfolding value_from
row399 = refl

row400 : computed op.ShiftLeft Long 14627392580518674432 14627392578371190815 11944654575647348344 ≡ 0
unfolding value_from
row400 = refl

row401 : computed op.ShiftLeft Quad 11325522277795357173 0 11944654575647348344 ≡ 11325522277795357173
unfolding value_from
row401 = refl

row402 : computed op.ShiftLeft Quad 11325522277795357173 1 11944654575647348344 ≡ 4204300481881162730
unfolding value_from
row402 = refl

row403 : computed op.ShiftLeft Quad 11325522277795357173 63 11944654575647348344 ≡ 9223372036854775808
unfolding value_from
row403 = refl

row404 : computed op.ShiftLeft Quad 11325522277795357173 64 11944654575647348344 ≡ 0
unfolding value_from
row404 = refl

row405 : computed op.ShiftLeft Quad 11325522277795357173 65 11944654575647348344 ≡ 0
unfolding value_from
row405 = refl

row406 : computed op.ShiftLeft Quad 11325522277795357173 18446744073709551615 11944654575647348344 ≡ 0
unfolding value_from
row406 = refl

row407 : computed op.ShiftLeft Quad 9223372036854775807 0 11944654575647348344 ≡ 9223372036854775807
unfolding value_from
row407 = refl

row408 : computed op.ShiftLeft Quad 9223372036854775807 1 11944654575647348344 ≡ 18446744073709551614
unfolding value_from
row408 = refl

row409 : computed op.ShiftLeft Quad 9223372036854775807 63 11944654575647348344 ≡ 9223372036854775808
unfolding value_from
row409 = refl

row410 : computed op.ShiftLeft Quad 9223372036854775807 64 11944654575647348344 ≡ 0
unfolding value_from
row410 = refl

row411 : computed op.ShiftLeft Quad 9223372036854775807 65 11944654575647348344 ≡ 0
unfolding value_from
row411 = refl

row412 : computed op.ShiftLeft Quad 9223372036854775807 18446744073709551615 11944654575647348344 ≡ 0
unfolding value_from
row412 = refl

row413 : computed op.ShiftLeft Quad 18446744073709551615 3 11944654575647348344 ≡ 18446744073709551608
unfolding value_from
row413 = refl

row414 : computed op.ShiftLeft Quad 9223372036854775808 63 11944654575647348344 ≡ 0
unfolding value_from
row414 = refl

row415 : computed op.ShiftRight Byte 12519707669276134901 0 11944654575647348344 ≡ 245
unfolding value_from
row415 = refl

row416 : computed op.ShiftRight Byte 12519707669276134901 1 11944654575647348344 ≡ 122
unfolding value_from
row416 = refl

row417 : computed op.ShiftRight Byte 12519707669276134901 7 11944654575647348344 ≡ 1
unfolding value_from
row417 = refl

row418 : computed op.ShiftRight Byte 12519707669276134901 8 11944654575647348344 ≡ 0
unfolding value_from
row418 = refl

row419 : computed op.ShiftRight Byte 12519707669276134901 9 11944654575647348344 ≡ 0
unfolding value_from
row419 = refl

row420 : computed op.ShiftRight Byte 12519707669276134901 63 11944654575647348344 ≡ 0
unfolding value_from
row420 = refl

row421 : computed op.ShiftRight Byte 12519707669276134901 64 11944654575647348344 ≡ 0
unfolding value_from
row421 = refl

row422 : computed op.ShiftRight Byte 12519707669276134901 65 11944654575647348344 ≡ 0
unfolding value_from
row422 = refl

row423 : computed op.ShiftRight Byte 12519707669276134901 255 11944654575647348344 ≡ 0
unfolding value_from
row423 = refl

row424 : computed op.ShiftRight Byte 12519707669276134783 0 11944654575647348344 ≡ 127
unfolding value_from
row424 = refl

row425 : computed op.ShiftRight Byte 12519707669276134783 1 11944654575647348344 ≡ 63
unfolding value_from
row425 = refl

row426 : computed op.ShiftRight Byte 12519707669276134783 7 11944654575647348344 ≡ 0
unfolding value_from
row426 = refl

row427 : computed op.ShiftRight Byte 12519707669276134783 8 11944654575647348344 ≡ 0
unfolding value_from
row427 = refl

row428 : computed op.ShiftRight Byte 12519707669276134783 9 11944654575647348344 ≡ 0
unfolding value_from
row428 = refl

row429 : computed op.ShiftRight Byte 12519707669276134783 63 11944654575647348344 ≡ 0
unfolding value_from
row429 = refl

row430 : computed op.ShiftRight Byte 12519707669276134783 64 11944654575647348344 ≡ 0
unfolding value_from
row430 = refl

row431 : computed op.ShiftRight Byte 12519707669276134783 65 11944654575647348344 ≡ 0
unfolding value_from
row431 = refl

row432 : computed op.ShiftRight Byte 12519707669276134783 255 11944654575647348344 ≡ 0
unfolding value_from
row432 = refl

row433 : computed op.ShiftRight Byte 255 12519707669276134659 11944654575647348344 ≡ 31
unfolding value_from
row433 = refl

row434 : computed op.ShiftRight Byte 12519707669276134784 12519707669276134663 11944654575647348344 ≡ 1
unfolding value_from
row434 = refl

row435 : computed op.ShiftRight Word 13758438582938100213 0 11944654575647348344 ≡ 57845
unfolding value_from
row435 = refl

row436 : computed op.ShiftRight Word 13758438582938100213 1 11944654575647348344 ≡ 28922
unfolding value_from
row436 = refl

row437 : computed op.ShiftRight Word 13758438582938100213 15 11944654575647348344 ≡ 1
unfolding value_from
row437 = refl

row438 : computed op.ShiftRight Word 13758438582938100213 16 11944654575647348344 ≡ 0
unfolding value_from
row438 = refl

row439 : computed op.ShiftRight Word 13758438582938100213 17 11944654575647348344 ≡ 0
unfolding value_from
row439 = refl

row440 : computed op.ShiftRight Word 13758438582938100213 63 11944654575647348344 ≡ 0
unfolding value_from
row440 = refl

row441 : computed op.ShiftRight Word 13758438582938100213 64 11944654575647348344 ≡ 0
unfolding value_from
row441 = refl

row442 : computed op.ShiftRight Word 13758438582938100213 65 11944654575647348344 ≡ 0
unfolding value_from
row442 = refl

row443 : computed op.ShiftRight Word 13758438582938100213 65535 11944654575647348344 ≡ 0
unfolding value_from
row443 = refl

row444 : computed op.ShiftRight Word 13758438582938075135 0 11944654575647348344 ≡ 32767
unfolding value_from
row444 = refl

row445 : computed op.ShiftRight Word 13758438582938075135 1 11944654575647348344 ≡ 16383
unfolding value_from
row445 = refl

row446 : computed op.ShiftRight Word 13758438582938075135 15 11944654575647348344 ≡ 0
unfolding value_from
row446 = refl

row447 : computed op.ShiftRight Word 13758438582938075135 16 11944654575647348344 ≡ 0
unfolding value_from
row447 = refl

row448 : computed op.ShiftRight Word 13758438582938075135 17 11944654575647348344 ≡ 0
unfolding value_from
row448 = refl

row449 : computed op.ShiftRight Word 13758438582938075135 63 11944654575647348344 ≡ 0
unfolding value_from
row449 = refl

row450 : computed op.ShiftRight Word 13758438582938075135 64 11944654575647348344 ≡ 0
unfolding value_from
row450 = refl

row451 : computed op.ShiftRight Word 13758438582938075135 65 11944654575647348344 ≡ 0
unfolding value_from
row451 = refl

row452 : computed op.ShiftRight Word 13758438582938075135 65535 11944654575647348344 ≡ 0
unfolding value_from
row452 = refl

row453 : computed op.ShiftRight Word 65535 13758438582938042371 11944654575647348344 ≡ 8191
unfolding value_from
row453 = refl

row454 : computed op.ShiftRight Word 13758438582938075136 13758438582938042383 11944654575647348344 ≡ 1
unfolding value_from
row454 = refl

row455 : computed op.ShiftRight Long 14627392581185823221 0 11944654575647348344 ≡ 2814632437
unfolding value_from
row455 = refl

row456 : computed op.ShiftRight Long 14627392581185823221 1 11944654575647348344 ≡ 1407316218
unfolding value_from
row456 = refl

row457 : computed op.ShiftRight Long 14627392581185823221 31 11944654575647348344 ≡ 1
unfolding value_from
row457 = refl

row458 : computed op.ShiftRight Long 14627392581185823221 32 11944654575647348344 ≡ 0
unfolding value_from
row458 = refl

row459 : computed op.ShiftRight Long 14627392581185823221 33 11944654575647348344 ≡ 0
unfolding value_from
row459 = refl

row460 : computed op.ShiftRight Long 14627392581185823221 63 11944654575647348344 ≡ 0
unfolding value_from
row460 = refl

row461 : computed op.ShiftRight Long 14627392581185823221 64 11944654575647348344 ≡ 0
unfolding value_from
row461 = refl

row462 : computed op.ShiftRight Long 14627392581185823221 65 11944654575647348344 ≡ 0
unfolding value_from
row462 = refl

row463 : computed op.ShiftRight Long 14627392581185823221 4294967295 11944654575647348344 ≡ 0
unfolding value_from
row463 = refl

row464 : computed op.ShiftRight Long 14627392580518674431 0 11944654575647348344 ≡ 2147483647
unfolding value_from
row464 = refl

row465 : computed op.ShiftRight Long 14627392580518674431 1 11944654575647348344 ≡ 1073741823
unfolding value_from
row465 = refl

row466 : computed op.ShiftRight Long 14627392580518674431 31 11944654575647348344 ≡ 0
unfolding value_from
row466 = refl

row467 : computed op.ShiftRight Long 14627392580518674431 32 11944654575647348344 ≡ 0
unfolding value_from
row467 = refl

row468 : computed op.ShiftRight Long 14627392580518674431 33 11944654575647348344 ≡ 0
unfolding value_from
row468 = refl

row469 : computed op.ShiftRight Long 14627392580518674431 63 11944654575647348344 ≡ 0
unfolding value_from
row469 = refl

row470 : computed op.ShiftRight Long 14627392580518674431 64 11944654575647348344 ≡ 0
unfolding value_from
row470 = refl

row471 : computed op.ShiftRight Long 14627392580518674431 65 11944654575647348344 ≡ 0
unfolding value_from
row471 = refl

row472 : computed op.ShiftRight Long 14627392580518674431 4294967295 11944654575647348344 ≡ 0
unfolding value_from
row472 = refl

row473 : computed op.ShiftRight Long 4294967295 14627392578371190787 11944654575647348344 ≡ 536870911
unfolding value_from
row473 = refl

row474 : computed op.ShiftRight Long 14627392580518674432 14627392578371190815 11944654575647348344 ≡ 1
unfolding value_from
row474 = refl

row475 : computed op.ShiftRight Quad 11325522277795357173 0 11944654575647348344 ≡ 11325522277795357173
unfolding value_from
row475 = refl

row476 : computed op.ShiftRight Quad 11325522277795357173 1 11944654575647348344 ≡ 5662761138897678586
unfolding value_from
row476 = refl

row477 : computed op.ShiftRight Quad 11325522277795357173 63 11944654575647348344 ≡ 1
unfolding value_from
row477 = refl

row478 : computed op.ShiftRight Quad 11325522277795357173 64 11944654575647348344 ≡ 0
unfolding value_from
row478 = refl

row479 : computed op.ShiftRight Quad 11325522277795357173 65 11944654575647348344 ≡ 0
unfolding value_from
row479 = refl

row480 : computed op.ShiftRight Quad 11325522277795357173 18446744073709551615 11944654575647348344 ≡ 0
unfolding value_from
row480 = refl

row481 : computed op.ShiftRight Quad 9223372036854775807 0 11944654575647348344 ≡ 9223372036854775807
unfolding value_from
row481 = refl

row482 : computed op.ShiftRight Quad 9223372036854775807 1 11944654575647348344 ≡ 4611686018427387903
unfolding value_from
row482 = refl

row483 : computed op.ShiftRight Quad 9223372036854775807 63 11944654575647348344 ≡ 0
unfolding value_from
row483 = refl

row484 : computed op.ShiftRight Quad 9223372036854775807 64 11944654575647348344 ≡ 0
unfolding value_from
row484 = refl

row485 : computed op.ShiftRight Quad 9223372036854775807 65 11944654575647348344 ≡ 0
unfolding value_from
row485 = refl

row486 : computed op.ShiftRight Quad 9223372036854775807 18446744073709551615 11944654575647348344 ≡ 0
unfolding value_from
row486 = refl

row487 : computed op.ShiftRight Quad 18446744073709551615 3 11944654575647348344 ≡ 2305843009213693951
unfolding value_from
row487 = refl

row488 : computed op.ShiftRight Quad 9223372036854775808 63 11944654575647348344 ≡ 1
unfolding value_from
row488 = refl

row489 : computed op.ShiftSigned Byte 12519707669276134901 0 11944654575647348344 ≡ 245
unfolding value_from
row489 = refl

row490 : computed op.ShiftSigned Byte 12519707669276134901 1 11944654575647348344 ≡ 250
unfolding value_from
row490 = refl

row491 : computed op.ShiftSigned Byte 12519707669276134901 7 11944654575647348344 ≡ 255
unfolding value_from
row491 = refl

row492 : computed op.ShiftSigned Byte 12519707669276134901 8 11944654575647348344 ≡ 255
unfolding value_from
row492 = refl

row493 : computed op.ShiftSigned Byte 12519707669276134901 9 11944654575647348344 ≡ 255
unfolding value_from
row493 = refl

row494 : computed op.ShiftSigned Byte 12519707669276134901 63 11944654575647348344 ≡ 255
unfolding value_from
row494 = refl

row495 : computed op.ShiftSigned Byte 12519707669276134901 64 11944654575647348344 ≡ 255
unfolding value_from
row495 = refl

row496 : computed op.ShiftSigned Byte 12519707669276134901 65 11944654575647348344 ≡ 255
unfolding value_from
row496 = refl

row497 : computed op.ShiftSigned Byte 12519707669276134901 255 11944654575647348344 ≡ 255
unfolding value_from
row497 = refl

row498 : computed op.ShiftSigned Byte 12519707669276134787 0 11944654575647348344 ≡ 131
unfolding value_from
row498 = refl

row499 : computed op.ShiftSigned Byte 12519707669276134787 1 11944654575647348344 ≡ 193
unfolding value_from
row499 = refl

row500 : computed op.ShiftSigned Byte 12519707669276134787 7 11944654575647348344 ≡ 255
unfolding value_from
row500 = refl

row501 : computed op.ShiftSigned Byte 12519707669276134787 8 11944654575647348344 ≡ 255
unfolding value_from
row501 = refl

row502 : computed op.ShiftSigned Byte 12519707669276134787 9 11944654575647348344 ≡ 255
unfolding value_from
row502 = refl

row503 : computed op.ShiftSigned Byte 12519707669276134787 63 11944654575647348344 ≡ 255
unfolding value_from
row503 = refl

row504 : computed op.ShiftSigned Byte 12519707669276134787 64 11944654575647348344 ≡ 255
unfolding value_from
row504 = refl

row505 : computed op.ShiftSigned Byte 12519707669276134787 65 11944654575647348344 ≡ 255
unfolding value_from
row505 = refl

row506 : computed op.ShiftSigned Byte 12519707669276134787 255 11944654575647348344 ≡ 255
unfolding value_from
row506 = refl

row507 : computed op.ShiftSigned Byte 255 12519707669276134659 11944654575647348344 ≡ 255
unfolding value_from
row507 = refl

row508 : computed op.ShiftSigned Byte 12519707669276134784 12519707669276134663 11944654575647348344 ≡ 255
unfolding value_from
row508 = refl

row509 : computed op.ShiftSigned Word 13758438582938100213 0 11944654575647348344 ≡ 57845
unfolding value_from
row509 = refl

row510 : computed op.ShiftSigned Word 13758438582938100213 1 11944654575647348344 ≡ 61690
unfolding value_from
row510 = refl

row511 : computed op.ShiftSigned Word 13758438582938100213 15 11944654575647348344 ≡ 65535
unfolding value_from
row511 = refl

row512 : computed op.ShiftSigned Word 13758438582938100213 16 11944654575647348344 ≡ 65535
unfolding value_from
row512 = refl

row513 : computed op.ShiftSigned Word 13758438582938100213 17 11944654575647348344 ≡ 65535
unfolding value_from
row513 = refl

row514 : computed op.ShiftSigned Word 13758438582938100213 63 11944654575647348344 ≡ 65535
unfolding value_from
row514 = refl

row515 : computed op.ShiftSigned Word 13758438582938100213 64 11944654575647348344 ≡ 65535
unfolding value_from
row515 = refl

row516 : computed op.ShiftSigned Word 13758438582938100213 65 11944654575647348344 ≡ 65535
unfolding value_from
row516 = refl

row517 : computed op.ShiftSigned Word 13758438582938100213 65535 11944654575647348344 ≡ 65535
unfolding value_from
row517 = refl

row518 : computed op.ShiftSigned Word 13758438582938075139 0 11944654575647348344 ≡ 32771
unfolding value_from
row518 = refl

row519 : computed op.ShiftSigned Word 13758438582938075139 1 11944654575647348344 ≡ 49153
unfolding value_from
row519 = refl

row520 : computed op.ShiftSigned Word 13758438582938075139 15 11944654575647348344 ≡ 65535
unfolding value_from
row520 = refl

row521 : computed op.ShiftSigned Word 13758438582938075139 16 11944654575647348344 ≡ 65535
unfolding value_from
row521 = refl

row522 : computed op.ShiftSigned Word 13758438582938075139 17 11944654575647348344 ≡ 65535
unfolding value_from
row522 = refl

row523 : computed op.ShiftSigned Word 13758438582938075139 63 11944654575647348344 ≡ 65535
unfolding value_from
row523 = refl

row524 : computed op.ShiftSigned Word 13758438582938075139 64 11944654575647348344 ≡ 65535
unfolding value_from
row524 = refl

row525 : computed op.ShiftSigned Word 13758438582938075139 65 11944654575647348344 ≡ 65535
unfolding value_from
row525 = refl

row526 : computed op.ShiftSigned Word 13758438582938075139 65535 11944654575647348344 ≡ 65535
unfolding value_from
row526 = refl

row527 : computed op.ShiftSigned Word 65535 13758438582938042371 11944654575647348344 ≡ 65535
unfolding value_from
row527 = refl

row528 : computed op.ShiftSigned Word 13758438582938075136 13758438582938042383 11944654575647348344 ≡ 65535
unfolding value_from
row528 = refl

row529 : computed op.ShiftSigned Long 14627392581185823221 0 11944654575647348344 ≡ 2814632437
unfolding value_from
row529 = refl

row530 : computed op.ShiftSigned Long 14627392581185823221 1 11944654575647348344 ≡ 3554799866
unfolding value_from
row530 = refl

row531 : computed op.ShiftSigned Long 14627392581185823221 31 11944654575647348344 ≡ 4294967295
unfolding value_from
row531 = refl

row532 : computed op.ShiftSigned Long 14627392581185823221 32 11944654575647348344 ≡ 4294967295
unfolding value_from
row532 = refl

row533 : computed op.ShiftSigned Long 14627392581185823221 33 11944654575647348344 ≡ 4294967295
unfolding value_from
row533 = refl

row534 : computed op.ShiftSigned Long 14627392581185823221 63 11944654575647348344 ≡ 4294967295
unfolding value_from
row534 = refl

row535 : computed op.ShiftSigned Long 14627392581185823221 64 11944654575647348344 ≡ 4294967295
unfolding value_from
row535 = refl

row536 : computed op.ShiftSigned Long 14627392581185823221 65 11944654575647348344 ≡ 4294967295
unfolding value_from
row536 = refl

row537 : computed op.ShiftSigned Long 14627392581185823221 4294967295 11944654575647348344 ≡ 4294967295
unfolding value_from
row537 = refl

row538 : computed op.ShiftSigned Long 14627392580518674435 0 11944654575647348344 ≡ 2147483651
unfolding value_from
row538 = refl

row539 : computed op.ShiftSigned Long 14627392580518674435 1 11944654575647348344 ≡ 3221225473
unfolding value_from
row539 = refl

row540 : computed op.ShiftSigned Long 14627392580518674435 31 11944654575647348344 ≡ 4294967295
unfolding value_from
row540 = refl

row541 : computed op.ShiftSigned Long 14627392580518674435 32 11944654575647348344 ≡ 4294967295
unfolding value_from
row541 = refl

row542 : computed op.ShiftSigned Long 14627392580518674435 33 11944654575647348344 ≡ 4294967295
unfolding value_from
row542 = refl

row543 : computed op.ShiftSigned Long 14627392580518674435 63 11944654575647348344 ≡ 4294967295
unfolding value_from
row543 = refl

row544 : computed op.ShiftSigned Long 14627392580518674435 64 11944654575647348344 ≡ 4294967295
unfolding value_from
row544 = refl

row545 : computed op.ShiftSigned Long 14627392580518674435 65 11944654575647348344 ≡ 4294967295
unfolding value_from
row545 = refl

row546 : computed op.ShiftSigned Long 14627392580518674435 4294967295 11944654575647348344 ≡ 4294967295
unfolding value_from
row546 = refl

row547 : computed op.ShiftSigned Long 4294967295 14627392578371190787 11944654575647348344 ≡ 4294967295
unfolding value_from
row547 = refl

row548 : computed op.ShiftSigned Long 14627392580518674432 14627392578371190815 11944654575647348344 ≡ 4294967295
unfolding value_from
row548 = refl

row549 : computed op.ShiftSigned Quad 11325522277795357173 0 11944654575647348344 ≡ 11325522277795357173
unfolding value_from
row549 = refl

row550 : computed op.ShiftSigned Quad 11325522277795357173 1 11944654575647348344 ≡ 14886133175752454394
unfolding value_from
row550 = refl

row551 : computed op.ShiftSigned Quad 11325522277795357173 63 11944654575647348344 ≡ 18446744073709551615
unfolding value_from
row551 = refl

row552 : computed op.ShiftSigned Quad 11325522277795357173 64 11944654575647348344 ≡ 18446744073709551615
unfolding value_from
row552 = refl

row553 : computed op.ShiftSigned Quad 11325522277795357173 65 11944654575647348344 ≡ 18446744073709551615
unfolding value_from
row553 = refl

row554 : computed op.ShiftSigned Quad 11325522277795357173 18446744073709551615 11944654575647348344 ≡ 18446744073709551615
unfolding value_from
row554 = refl

row555 : computed op.ShiftSigned Quad 9223372036854775811 0 11944654575647348344 ≡ 9223372036854775811
unfolding value_from
row555 = refl

row556 : computed op.ShiftSigned Quad 9223372036854775811 1 11944654575647348344 ≡ 13835058055282163713
unfolding value_from
row556 = refl

row557 : computed op.ShiftSigned Quad 9223372036854775811 63 11944654575647348344 ≡ 18446744073709551615
unfolding value_from
row557 = refl

row558 : computed op.ShiftSigned Quad 9223372036854775811 64 11944654575647348344 ≡ 18446744073709551615
unfolding value_from
row558 = refl

row559 : computed op.ShiftSigned Quad 9223372036854775811 65 11944654575647348344 ≡ 18446744073709551615
unfolding value_from
row559 = refl

row560 : computed op.ShiftSigned Quad 9223372036854775811 18446744073709551615 11944654575647348344 ≡ 18446744073709551615
unfolding value_from
row560 = refl

row561 : computed op.ShiftSigned Quad 18446744073709551615 3 11944654575647348344 ≡ 18446744073709551615
unfolding value_from
row561 = refl

row562 : computed op.ShiftSigned Quad 9223372036854775808 63 11944654575647348344 ≡ 18446744073709551615
unfolding value_from
row562 = refl

row563 : computed op.Equal Byte 0 0 11944654575647348344 ≡ 1
unfolding value_from
row563 = refl

row564 : computed op.Equal Byte 255 1 11944654575647348344 ≡ 0
unfolding value_from
row564 = refl

row565 : computed op.Equal Byte 1 255 11944654575647348344 ≡ 0
unfolding value_from
row565 = refl

row566 : computed op.Equal Byte 128 127 11944654575647348344 ≡ 0
unfolding value_from
row566 = refl

row567 : computed op.Equal Byte 127 128 11944654575647348344 ≡ 0
unfolding value_from
row567 = refl

row568 : computed op.Equal Byte 255 255 11944654575647348344 ≡ 1
unfolding value_from
row568 = refl

row569 : computed op.Equal Byte 128 128 11944654575647348344 ≡ 1
unfolding value_from
row569 = refl

row570 : computed op.Equal Byte 12519707669276134901 12519707669276134737 11944654575647348344 ≡ 0
unfolding value_from
row570 = refl

row571 : computed op.Equal Word 0 0 11944654575647348344 ≡ 1
unfolding value_from
row571 = refl

row572 : computed op.Equal Word 65535 1 11944654575647348344 ≡ 0
unfolding value_from
row572 = refl

row573 : computed op.Equal Word 1 65535 11944654575647348344 ≡ 0
unfolding value_from
row573 = refl

row574 : computed op.Equal Word 32768 32767 11944654575647348344 ≡ 0
unfolding value_from
row574 = refl

row575 : computed op.Equal Word 32767 32768 11944654575647348344 ≡ 0
unfolding value_from
row575 = refl

row576 : computed op.Equal Word 65535 65535 11944654575647348344 ≡ 1
unfolding value_from
row576 = refl

row577 : computed op.Equal Word 32768 32768 11944654575647348344 ≡ 1
unfolding value_from
row577 = refl

row578 : computed op.Equal Word 13758438582938100213 13758438582938053969 11944654575647348344 ≡ 0
unfolding value_from
row578 = refl

row579 : computed op.Equal Long 0 0 11944654575647348344 ≡ 1
unfolding value_from
row579 = refl

row580 : computed op.Equal Long 4294967295 1 11944654575647348344 ≡ 0
unfolding value_from
row580 = refl

row581 : computed op.Equal Long 1 4294967295 11944654575647348344 ≡ 0
unfolding value_from
row581 = refl

row582 : computed op.Equal Long 2147483648 2147483647 11944654575647348344 ≡ 0
unfolding value_from
row582 = refl

row583 : computed op.Equal Long 2147483647 2147483648 11944654575647348344 ≡ 0
unfolding value_from
row583 = refl

row584 : computed op.Equal Long 4294967295 4294967295 11944654575647348344 ≡ 1
unfolding value_from
row584 = refl

row585 : computed op.Equal Long 2147483648 2147483648 11944654575647348344 ≡ 1
unfolding value_from
row585 = refl

row586 : computed op.Equal Long 14627392581185823221 14627392581804109137 11944654575647348344 ≡ 0
unfolding value_from
row586 = refl

row587 : computed op.Equal Quad 0 0 11944654575647348344 ≡ 1
unfolding value_from
row587 = refl

row588 : computed op.Equal Quad 18446744073709551615 1 11944654575647348344 ≡ 0
unfolding value_from
row588 = refl

row589 : computed op.Equal Quad 1 18446744073709551615 11944654575647348344 ≡ 0
unfolding value_from
row589 = refl

row590 : computed op.Equal Quad 9223372036854775808 9223372036854775807 11944654575647348344 ≡ 0
unfolding value_from
row590 = refl

row591 : computed op.Equal Quad 9223372036854775807 9223372036854775808 11944654575647348344 ≡ 0
unfolding value_from
row591 = refl

row592 : computed op.Equal Quad 18446744073709551615 18446744073709551615 11944654575647348344 ≡ 1
unfolding value_from
row592 = refl

row593 : computed op.Equal Quad 9223372036854775808 9223372036854775808 11944654575647348344 ≡ 1
unfolding value_from
row593 = refl

row594 : computed op.Equal Quad 11325522277795357173 6616326157176286545 11944654575647348344 ≡ 0
unfolding value_from
row594 = refl

row595 : computed op.Less Byte 0 0 11944654575647348344 ≡ 0
unfolding value_from
row595 = refl

row596 : computed op.Less Byte 255 1 11944654575647348344 ≡ 1
unfolding value_from
row596 = refl

row597 : computed op.Less Byte 1 255 11944654575647348344 ≡ 0
unfolding value_from
row597 = refl

row598 : computed op.Less Byte 128 127 11944654575647348344 ≡ 1
unfolding value_from
row598 = refl

row599 : computed op.Less Byte 127 128 11944654575647348344 ≡ 0
unfolding value_from
row599 = refl

row600 : computed op.Less Byte 255 255 11944654575647348344 ≡ 0
unfolding value_from
row600 = refl

row601 : computed op.Less Byte 128 128 11944654575647348344 ≡ 0
unfolding value_from
row601 = refl

row602 : computed op.Less Byte 12519707669276134901 12519707669276134737 11944654575647348344 ≡ 1
unfolding value_from
row602 = refl

row603 : computed op.Less Word 0 0 11944654575647348344 ≡ 0
unfolding value_from
row603 = refl

row604 : computed op.Less Word 65535 1 11944654575647348344 ≡ 1
unfolding value_from
row604 = refl

row605 : computed op.Less Word 1 65535 11944654575647348344 ≡ 0
unfolding value_from
row605 = refl

row606 : computed op.Less Word 32768 32767 11944654575647348344 ≡ 1
unfolding value_from
row606 = refl

row607 : computed op.Less Word 32767 32768 11944654575647348344 ≡ 0
unfolding value_from
row607 = refl

row608 : computed op.Less Word 65535 65535 11944654575647348344 ≡ 0
unfolding value_from
row608 = refl

row609 : computed op.Less Word 32768 32768 11944654575647348344 ≡ 0
unfolding value_from
row609 = refl

row610 : computed op.Less Word 13758438582938100213 13758438582938053969 11944654575647348344 ≡ 1
unfolding value_from
row610 = refl

row611 : computed op.Less Long 0 0 11944654575647348344 ≡ 0
unfolding value_from
row611 = refl

row612 : computed op.Less Long 4294967295 1 11944654575647348344 ≡ 1
unfolding value_from
row612 = refl

row613 : computed op.Less Long 1 4294967295 11944654575647348344 ≡ 0
unfolding value_from
row613 = refl

row614 : computed op.Less Long 2147483648 2147483647 11944654575647348344 ≡ 1
unfolding value_from
row614 = refl

row615 : computed op.Less Long 2147483647 2147483648 11944654575647348344 ≡ 0
unfolding value_from
row615 = refl

row616 : computed op.Less Long 4294967295 4294967295 11944654575647348344 ≡ 0
unfolding value_from
row616 = refl

row617 : computed op.Less Long 2147483648 2147483648 11944654575647348344 ≡ 0
unfolding value_from
row617 = refl

row618 : computed op.Less Long 14627392581185823221 14627392581804109137 11944654575647348344 ≡ 1
unfolding value_from
row618 = refl

row619 : computed op.Less Quad 0 0 11944654575647348344 ≡ 0
unfolding value_from
row619 = refl

row620 : computed op.Less Quad 18446744073709551615 1 11944654575647348344 ≡ 1
unfolding value_from
row620 = refl

row621 : computed op.Less Quad 1 18446744073709551615 11944654575647348344 ≡ 0
unfolding value_from
row621 = refl

row622 : computed op.Less Quad 9223372036854775808 9223372036854775807 11944654575647348344 ≡ 1
unfolding value_from
row622 = refl

row623 : computed op.Less Quad 9223372036854775807 9223372036854775808 11944654575647348344 ≡ 0
unfolding value_from
row623 = refl

row624 : computed op.Less Quad 18446744073709551615 18446744073709551615 11944654575647348344 ≡ 0
unfolding value_from
row624 = refl

row625 : computed op.Less Quad 9223372036854775808 9223372036854775808 11944654575647348344 ≡ 0
unfolding value_from
row625 = refl

row626 : computed op.Less Quad 11325522277795357173 6616326157176286545 11944654575647348344 ≡ 1
unfolding value_from
row626 = refl

row627 : computed op.LessUnsigned Byte 0 0 11944654575647348344 ≡ 0
unfolding value_from
row627 = refl

row628 : computed op.LessUnsigned Byte 255 1 11944654575647348344 ≡ 0
unfolding value_from
row628 = refl

row629 : computed op.LessUnsigned Byte 1 255 11944654575647348344 ≡ 1
unfolding value_from
row629 = refl

row630 : computed op.LessUnsigned Byte 128 127 11944654575647348344 ≡ 0
unfolding value_from
row630 = refl

row631 : computed op.LessUnsigned Byte 127 128 11944654575647348344 ≡ 1
unfolding value_from
row631 = refl

row632 : computed op.LessUnsigned Byte 255 255 11944654575647348344 ≡ 0
unfolding value_from
row632 = refl

row633 : computed op.LessUnsigned Byte 128 128 11944654575647348344 ≡ 0
unfolding value_from
row633 = refl

row634 : computed op.LessUnsigned Byte 12519707669276134901 12519707669276134737 11944654575647348344 ≡ 0
unfolding value_from
row634 = refl

row635 : computed op.LessUnsigned Word 0 0 11944654575647348344 ≡ 0
unfolding value_from
row635 = refl

row636 : computed op.LessUnsigned Word 65535 1 11944654575647348344 ≡ 0
unfolding value_from
row636 = refl

row637 : computed op.LessUnsigned Word 1 65535 11944654575647348344 ≡ 1
unfolding value_from
row637 = refl

row638 : computed op.LessUnsigned Word 32768 32767 11944654575647348344 ≡ 0
unfolding value_from
row638 = refl

row639 : computed op.LessUnsigned Word 32767 32768 11944654575647348344 ≡ 1
unfolding value_from
row639 = refl

row640 : computed op.LessUnsigned Word 65535 65535 11944654575647348344 ≡ 0
unfolding value_from
row640 = refl

row641 : computed op.LessUnsigned Word 32768 32768 11944654575647348344 ≡ 0
unfolding value_from
row641 = refl

row642 : computed op.LessUnsigned Word 13758438582938100213 13758438582938053969 11944654575647348344 ≡ 0
unfolding value_from
row642 = refl

row643 : computed op.LessUnsigned Long 0 0 11944654575647348344 ≡ 0
unfolding value_from
row643 = refl

row644 : computed op.LessUnsigned Long 4294967295 1 11944654575647348344 ≡ 0
unfolding value_from
row644 = refl

row645 : computed op.LessUnsigned Long 1 4294967295 11944654575647348344 ≡ 1
unfolding value_from
row645 = refl

row646 : computed op.LessUnsigned Long 2147483648 2147483647 11944654575647348344 ≡ 0
unfolding value_from
row646 = refl

row647 : computed op.LessUnsigned Long 2147483647 2147483648 11944654575647348344 ≡ 1
unfolding value_from
row647 = refl

row648 : computed op.LessUnsigned Long 4294967295 4294967295 11944654575647348344 ≡ 0
unfolding value_from
row648 = refl

row649 : computed op.LessUnsigned Long 2147483648 2147483648 11944654575647348344 ≡ 0
unfolding value_from
row649 = refl

row650 : computed op.LessUnsigned Long 14627392581185823221 14627392581804109137 11944654575647348344 ≡ 1
unfolding value_from
row650 = refl

row651 : computed op.LessUnsigned Quad 0 0 11944654575647348344 ≡ 0
unfolding value_from
row651 = refl

row652 : computed op.LessUnsigned Quad 18446744073709551615 1 11944654575647348344 ≡ 0
unfolding value_from
row652 = refl

row653 : computed op.LessUnsigned Quad 1 18446744073709551615 11944654575647348344 ≡ 1
unfolding value_from
row653 = refl

row654 : computed op.LessUnsigned Quad 9223372036854775808 9223372036854775807 11944654575647348344 ≡ 0
unfolding value_from
row654 = refl

row655 : computed op.LessUnsigned Quad 9223372036854775807 9223372036854775808 11944654575647348344 ≡ 1
unfolding value_from
row655 = refl

row656 : computed op.LessUnsigned Quad 18446744073709551615 18446744073709551615 11944654575647348344 ≡ 0
unfolding value_from
row656 = refl

row657 : computed op.LessUnsigned Quad 9223372036854775808 9223372036854775808 11944654575647348344 ≡ 0
unfolding value_from
row657 = refl

row658 : computed op.LessUnsigned Quad 11325522277795357173 6616326157176286545 11944654575647348344 ≡ 0
unfolding value_from
row658 = refl

row659 : computed op.SelectNonzero Byte 0 5 11944654575647348344 ≡ 120
unfolding value_from
row659 = refl

row660 : computed op.SelectNonzero Byte 1 5 11944654575647348344 ≡ 5
unfolding value_from
row660 = refl

row661 : computed op.SelectNonzero Byte 128 255 11944654575647348344 ≡ 255
unfolding value_from
row661 = refl

row662 : computed op.SelectNonzero Byte 12519707669276134656 12519707669276134663 11944654575647348344 ≡ 120
unfolding value_from
row662 = refl

row663 : computed op.SelectNonzero Byte 12519707669276134657 12519707669276134910 11944654575647348344 ≡ 254
unfolding value_from
row663 = refl

row664 : computed op.SelectNonzero Word 0 5 11944654575647348344 ≡ 22136
unfolding value_from
row664 = refl

row665 : computed op.SelectNonzero Word 1 5 11944654575647348344 ≡ 5
unfolding value_from
row665 = refl

row666 : computed op.SelectNonzero Word 32768 65535 11944654575647348344 ≡ 65535
unfolding value_from
row666 = refl

row667 : computed op.SelectNonzero Word 13758438582938042368 13758438582938042375 11944654575647348344 ≡ 22136
unfolding value_from
row667 = refl

row668 : computed op.SelectNonzero Word 13758438582938042369 13758438582938107902 11944654575647348344 ≡ 65534
unfolding value_from
row668 = refl

row669 : computed op.SelectNonzero Long 0 5 11944654575647348344 ≡ 305419896
unfolding value_from
row669 = refl

row670 : computed op.SelectNonzero Long 1 5 11944654575647348344 ≡ 5
unfolding value_from
row670 = refl

row671 : computed op.SelectNonzero Long 2147483648 4294967295 11944654575647348344 ≡ 4294967295
unfolding value_from
row671 = refl

row672 : computed op.SelectNonzero Long 14627392578371190784 14627392578371190791 11944654575647348344 ≡ 305419896
unfolding value_from
row672 = refl

row673 : computed op.SelectNonzero Long 14627392578371190785 14627392582666158078 11944654575647348344 ≡ 4294967294
unfolding value_from
row673 = refl

row674 : computed op.SelectNonzero Quad 0 5 11944654575647348344 ≡ 11944654575647348344
unfolding value_from
row674 = refl

row675 : computed op.SelectNonzero Quad 1 5 11944654575647348344 ≡ 5
unfolding value_from
row675 = refl

row676 : computed op.SelectNonzero Quad 9223372036854775808 18446744073709551615 11944654575647348344 ≡ 18446744073709551615
unfolding value_from
row676 = refl

row677 : computed op.SelectNonzero Quad 0 7 11944654575647348344 ≡ 11944654575647348344
unfolding value_from
row677 = refl

row678 : computed op.SelectNonzero Quad 1 18446744073709551614 11944654575647348344 ≡ 18446744073709551614
unfolding value_from
row678 = refl

row679 : computed op.Move Byte 128 0 1234605616436508552 ≡ 128
unfolding value_from
row679 = refl

row680 : computed op.Move Byte 11936128518282651007 11936128518282650889 1234605616436508552 ≡ 127
unfolding value_from
row680 = refl

row681 : computed op.Move Word 32768 0 1234605616436508552 ≡ 32768
unfolding value_from
row681 = refl

row682 : computed op.Move Word 11936128518282641407 11936128518282608649 1234605616436508552 ≡ 32767
unfolding value_from
row682 = refl

row683 : computed op.Move Long 2147483648 0 1234605616436508552 ≡ 2147483648
unfolding value_from
row683 = refl

row684 : computed op.Move Long 11936128517651038207 11936128515503554569 1234605616436508552 ≡ 2147483647
unfolding value_from
row684 = refl

row685 : computed op.Move Quad 9223372036854775808 0 1234605616436508552 ≡ 9223372036854775808
unfolding value_from
row685 = refl

row686 : computed op.Move Quad 9223372036854775807 9 1234605616436508552 ≡ 9223372036854775807
unfolding value_from
row686 = refl

row687 : computed op.Add Byte 255 1 1234605616436508552 ≡ 0
unfolding value_from
row687 = refl

row688 : computed op.Add Byte 11936128518282650880 11936128518282650881 1234605616436508552 ≡ 1
unfolding value_from
row688 = refl

row689 : computed op.Add Byte 131 5 1234605616436508552 ≡ 136
unfolding value_from
row689 = refl

row690 : computed op.Add Word 65535 1 1234605616436508552 ≡ 0
unfolding value_from
row690 = refl

row691 : computed op.Add Word 11936128518282608640 11936128518282608641 1234605616436508552 ≡ 1
unfolding value_from
row691 = refl

row692 : computed op.Add Word 32771 5 1234605616436508552 ≡ 32776
unfolding value_from
row692 = refl

row693 : computed op.Add Long 4294967295 1 1234605616436508552 ≡ 0
unfolding value_from
row693 = refl

row694 : computed op.Add Long 11936128515503554560 11936128515503554561 1234605616436508552 ≡ 1
unfolding value_from
row694 = refl

row695 : computed op.Add Long 2147483651 5 1234605616436508552 ≡ 2147483656
unfolding value_from
row695 = refl

row696 : computed op.Add Quad 18446744073709551615 1 1234605616436508552 ≡ 0
unfolding value_from
row696 = refl

row697 : computed op.Add Quad 0 1 1234605616436508552 ≡ 1
unfolding value_from
row697 = refl

row698 : computed op.Add Quad 9223372036854775811 5 1234605616436508552 ≡ 9223372036854775816
unfolding value_from
row698 = refl

row699 : computed op.Sub Byte 255 1 1234605616436508552 ≡ 254
unfolding value_from
row699 = refl

row700 : computed op.Sub Byte 11936128518282650880 11936128518282650881 1234605616436508552 ≡ 255
unfolding value_from
row700 = refl

row701 : computed op.Sub Byte 131 5 1234605616436508552 ≡ 126
unfolding value_from
row701 = refl

row702 : computed op.Sub Word 65535 1 1234605616436508552 ≡ 65534
unfolding value_from
row702 = refl

row703 : computed op.Sub Word 11936128518282608640 11936128518282608641 1234605616436508552 ≡ 65535
unfolding value_from
row703 = refl

row704 : computed op.Sub Word 32771 5 1234605616436508552 ≡ 32766
unfolding value_from
row704 = refl

row705 : computed op.Sub Long 4294967295 1 1234605616436508552 ≡ 4294967294
unfolding value_from
row705 = refl

row706 : computed op.Sub Long 11936128515503554560 11936128515503554561 1234605616436508552 ≡ 4294967295
unfolding value_from
row706 = refl

row707 : computed op.Sub Long 2147483651 5 1234605616436508552 ≡ 2147483646
unfolding value_from
row707 = refl

row708 : computed op.Sub Quad 18446744073709551615 1 1234605616436508552 ≡ 18446744073709551614
unfolding value_from
row708 = refl

row709 : computed op.Sub Quad 0 1 1234605616436508552 ≡ 18446744073709551615
unfolding value_from
row709 = refl

row710 : computed op.Sub Quad 9223372036854775811 5 1234605616436508552 ≡ 9223372036854775806
unfolding value_from
row710 = refl

row711 : computed op.Mul Byte 255 255 1234605616436508552 ≡ 1
unfolding value_from
row711 = refl

row712 : computed op.Mul Byte 11936128518282651008 11936128518282650882 1234605616436508552 ≡ 0
unfolding value_from
row712 = refl

row713 : computed op.Mul Byte 255 1 1234605616436508552 ≡ 255
unfolding value_from
row713 = refl

row714 : computed op.Mul Word 65535 65535 1234605616436508552 ≡ 1
unfolding value_from
row714 = refl

row715 : computed op.Mul Word 11936128518282641408 11936128518282608642 1234605616436508552 ≡ 0
unfolding value_from
row715 = refl

row716 : computed op.Mul Word 65535 1 1234605616436508552 ≡ 65535
unfolding value_from
row716 = refl

row717 : computed op.Mul Long 4294967295 4294967295 1234605616436508552 ≡ 1
unfolding value_from
row717 = refl

row718 : computed op.Mul Long 11936128517651038208 11936128515503554562 1234605616436508552 ≡ 0
unfolding value_from
row718 = refl

row719 : computed op.Mul Long 4294967295 1 1234605616436508552 ≡ 4294967295
unfolding value_from
row719 = refl

row720 : computed op.Mul Quad 18446744073709551615 18446744073709551615 1234605616436508552 ≡ 1
unfolding value_from
row720 = refl

row721 : computed op.Mul Quad 9223372036854775808 2 1234605616436508552 ≡ 0
unfolding value_from
row721 = refl

row722 : computed op.Mul Quad 18446744073709551615 1 1234605616436508552 ≡ 18446744073709551615
unfolding value_from
row722 = refl

row723 : computed op.And Byte 255 1 1234605616436508552 ≡ 1
unfolding value_from
row723 = refl

row724 : computed op.And Byte 11936128518282650880 11936128518282650881 1234605616436508552 ≡ 0
unfolding value_from
row724 = refl

row725 : computed op.And Byte 131 5 1234605616436508552 ≡ 1
unfolding value_from
row725 = refl

row726 : computed op.And Word 65535 1 1234605616436508552 ≡ 1
unfolding value_from
row726 = refl

row727 : computed op.And Word 11936128518282608640 11936128518282608641 1234605616436508552 ≡ 0
unfolding value_from
row727 = refl

row728 : computed op.And Word 32771 5 1234605616436508552 ≡ 1
unfolding value_from
row728 = refl

row729 : computed op.And Long 4294967295 1 1234605616436508552 ≡ 1
unfolding value_from
row729 = refl

row730 : computed op.And Long 11936128515503554560 11936128515503554561 1234605616436508552 ≡ 0
unfolding value_from
row730 = refl

row731 : computed op.And Long 2147483651 5 1234605616436508552 ≡ 1
unfolding value_from
row731 = refl

row732 : computed op.And Quad 18446744073709551615 1 1234605616436508552 ≡ 1
unfolding value_from
row732 = refl

row733 : computed op.And Quad 0 1 1234605616436508552 ≡ 0
unfolding value_from
row733 = refl

row734 : computed op.And Quad 9223372036854775811 5 1234605616436508552 ≡ 1
unfolding value_from
row734 = refl

row735 : computed op.Or Byte 255 1 1234605616436508552 ≡ 255
unfolding value_from
row735 = refl

row736 : computed op.Or Byte 11936128518282650880 11936128518282650881 1234605616436508552 ≡ 1
unfolding value_from
row736 = refl

row737 : computed op.Or Byte 131 5 1234605616436508552 ≡ 135
unfolding value_from
row737 = refl

row738 : computed op.Or Word 65535 1 1234605616436508552 ≡ 65535
unfolding value_from
row738 = refl

row739 : computed op.Or Word 11936128518282608640 11936128518282608641 1234605616436508552 ≡ 1
unfolding value_from
row739 = refl

row740 : computed op.Or Word 32771 5 1234605616436508552 ≡ 32775
unfolding value_from
row740 = refl

row741 : computed op.Or Long 4294967295 1 1234605616436508552 ≡ 4294967295
unfolding value_from
row741 = refl

row742 : computed op.Or Long 11936128515503554560 11936128515503554561 1234605616436508552 ≡ 1
unfolding value_from
row742 = refl

row743 : computed op.Or Long 2147483651 5 1234605616436508552 ≡ 2147483655
unfolding value_from
row743 = refl

row744 : computed op.Or Quad 18446744073709551615 1 1234605616436508552 ≡ 18446744073709551615
unfolding value_from
row744 = refl

row745 : computed op.Or Quad 0 1 1234605616436508552 ≡ 1
unfolding value_from
row745 = refl

row746 : computed op.Or Quad 9223372036854775811 5 1234605616436508552 ≡ 9223372036854775815
unfolding value_from
row746 = refl

row747 : computed op.Xor Byte 255 1 1234605616436508552 ≡ 254
unfolding value_from
row747 = refl

row748 : computed op.Xor Byte 11936128518282650880 11936128518282650881 1234605616436508552 ≡ 1
unfolding value_from
row748 = refl

row749 : computed op.Xor Byte 131 5 1234605616436508552 ≡ 134
unfolding value_from
row749 = refl

row750 : computed op.Xor Word 65535 1 1234605616436508552 ≡ 65534
unfolding value_from
row750 = refl

row751 : computed op.Xor Word 11936128518282608640 11936128518282608641 1234605616436508552 ≡ 1
unfolding value_from
row751 = refl

row752 : computed op.Xor Word 32771 5 1234605616436508552 ≡ 32774
unfolding value_from
row752 = refl

row753 : computed op.Xor Long 4294967295 1 1234605616436508552 ≡ 4294967294
unfolding value_from
row753 = refl

row754 : computed op.Xor Long 11936128515503554560 11936128515503554561 1234605616436508552 ≡ 1
unfolding value_from
row754 = refl

row755 : computed op.Xor Long 2147483651 5 1234605616436508552 ≡ 2147483654
unfolding value_from
row755 = refl

row756 : computed op.Xor Quad 18446744073709551615 1 1234605616436508552 ≡ 18446744073709551614
unfolding value_from
row756 = refl

row757 : computed op.Xor Quad 0 1 1234605616436508552 ≡ 1
unfolding value_from
row757 = refl

row758 : computed op.Xor Quad 9223372036854775811 5 1234605616436508552 ≡ 9223372036854775814
unfolding value_from
row758 = refl

row759 : computed op.AndNot Byte 255 1 1234605616436508552 ≡ 254
unfolding value_from
row759 = refl

row760 : computed op.AndNot Byte 11936128518282650880 11936128518282650881 1234605616436508552 ≡ 0
unfolding value_from
row760 = refl

row761 : computed op.AndNot Byte 131 5 1234605616436508552 ≡ 130
unfolding value_from
row761 = refl

row762 : computed op.AndNot Word 65535 1 1234605616436508552 ≡ 65534
unfolding value_from
row762 = refl

row763 : computed op.AndNot Word 11936128518282608640 11936128518282608641 1234605616436508552 ≡ 0
unfolding value_from
row763 = refl

row764 : computed op.AndNot Word 32771 5 1234605616436508552 ≡ 32770
unfolding value_from
row764 = refl

row765 : computed op.AndNot Long 4294967295 1 1234605616436508552 ≡ 4294967294
unfolding value_from
row765 = refl

row766 : computed op.AndNot Long 11936128515503554560 11936128515503554561 1234605616436508552 ≡ 0
unfolding value_from
row766 = refl

row767 : computed op.AndNot Long 2147483651 5 1234605616436508552 ≡ 2147483650
unfolding value_from
row767 = refl

row768 : computed op.AndNot Quad 18446744073709551615 1 1234605616436508552 ≡ 18446744073709551614
unfolding value_from
row768 = refl

row769 : computed op.AndNot Quad 0 1 1234605616436508552 ≡ 0
unfolding value_from
row769 = refl

row770 : computed op.AndNot Quad 9223372036854775811 5 1234605616436508552 ≡ 9223372036854775810
unfolding value_from
row770 = refl

row771 : computed op.ShiftLeft Byte 133 1 1234605616436508552 ≡ 10
unfolding value_from
row771 = refl

row772 : computed op.ShiftLeft Byte 11936128518282651135 11936128518282650887 1234605616436508552 ≡ 128
unfolding value_from
row772 = refl

row773 : computed op.ShiftLeft Byte 128 8 1234605616436508552 ≡ 0
unfolding value_from
row773 = refl

row774 : computed op.ShiftLeft Byte 11936128518282651007 9 1234605616436508552 ≡ 0
unfolding value_from
row774 = refl

row775 : computed op.ShiftLeft Byte 255 11936128518282651135 1234605616436508552 ≡ 0
unfolding value_from
row775 = refl

row776 : computed op.ShiftLeft Word 32773 1 1234605616436508552 ≡ 10
unfolding value_from
row776 = refl

row777 : computed op.ShiftLeft Word 11936128518282674175 11936128518282608655 1234605616436508552 ≡ 32768
unfolding value_from
row777 = refl

row778 : computed op.ShiftLeft Word 32768 16 1234605616436508552 ≡ 0
unfolding value_from
row778 = refl

row779 : computed op.ShiftLeft Word 11936128518282641407 17 1234605616436508552 ≡ 0
unfolding value_from
row779 = refl

row780 : computed op.ShiftLeft Word 65535 11936128518282674175 1234605616436508552 ≡ 0
unfolding value_from
row780 = refl

row781 : computed op.ShiftLeft Long 2147483653 1 1234605616436508552 ≡ 10
unfolding value_from
row781 = refl

row782 : computed op.ShiftLeft Long 11936128519798521855 11936128515503554591 1234605616436508552 ≡ 2147483648
unfolding value_from
row782 = refl

row783 : computed op.ShiftLeft Long 2147483648 32 1234605616436508552 ≡ 0
unfolding value_from
row783 = refl

row784 : computed op.ShiftLeft Long 11936128517651038207 33 1234605616436508552 ≡ 0
unfolding value_from
row784 = refl

row785 : computed op.ShiftLeft Long 4294967295 11936128519798521855 1234605616436508552 ≡ 0
unfolding value_from
row785 = refl

row786 : computed op.ShiftLeft Quad 9223372036854775813 1 1234605616436508552 ≡ 10
unfolding value_from
row786 = refl

row787 : computed op.ShiftLeft Quad 18446744073709551615 63 1234605616436508552 ≡ 9223372036854775808
unfolding value_from
row787 = refl

row788 : computed op.ShiftLeft Quad 9223372036854775808 64 1234605616436508552 ≡ 0
unfolding value_from
row788 = refl

row789 : computed op.ShiftLeft Quad 9223372036854775807 65 1234605616436508552 ≡ 0
unfolding value_from
row789 = refl

row790 : computed op.ShiftLeft Quad 18446744073709551615 18446744073709551615 1234605616436508552 ≡ 0
unfolding value_from
row790 = refl

row791 : computed op.ShiftRight Byte 133 1 1234605616436508552 ≡ 66
unfolding value_from
row791 = refl

row792 : computed op.ShiftRight Byte 11936128518282651135 11936128518282650887 1234605616436508552 ≡ 1
unfolding value_from
row792 = refl

row793 : computed op.ShiftRight Byte 128 8 1234605616436508552 ≡ 0
unfolding value_from
row793 = refl

row794 : computed op.ShiftRight Byte 11936128518282651007 9 1234605616436508552 ≡ 0
unfolding value_from
row794 = refl

row795 : computed op.ShiftRight Byte 255 11936128518282651135 1234605616436508552 ≡ 0
unfolding value_from
row795 = refl

row796 : computed op.ShiftRight Word 32773 1 1234605616436508552 ≡ 16386
unfolding value_from
row796 = refl

row797 : computed op.ShiftRight Word 11936128518282674175 11936128518282608655 1234605616436508552 ≡ 1
unfolding value_from
row797 = refl

row798 : computed op.ShiftRight Word 32768 16 1234605616436508552 ≡ 0
unfolding value_from
row798 = refl

row799 : computed op.ShiftRight Word 11936128518282641407 17 1234605616436508552 ≡ 0
unfolding value_from
row799 = refl

row800 : computed op.ShiftRight Word 65535 11936128518282674175 1234605616436508552 ≡ 0
unfolding value_from
row800 = refl

row801 : computed op.ShiftRight Long 2147483653 1 1234605616436508552 ≡ 1073741826
unfolding value_from
row801 = refl

row802 : computed op.ShiftRight Long 11936128519798521855 11936128515503554591 1234605616436508552 ≡ 1
unfolding value_from
row802 = refl

row803 : computed op.ShiftRight Long 2147483648 32 1234605616436508552 ≡ 0
unfolding value_from
row803 = refl

row804 : computed op.ShiftRight Long 11936128517651038207 33 1234605616436508552 ≡ 0
unfolding value_from
row804 = refl

row805 : computed op.ShiftRight Long 4294967295 11936128519798521855 1234605616436508552 ≡ 0
unfolding value_from
row805 = refl

row806 : computed op.ShiftRight Quad 9223372036854775813 1 1234605616436508552 ≡ 4611686018427387906
unfolding value_from
row806 = refl

row807 : computed op.ShiftRight Quad 18446744073709551615 63 1234605616436508552 ≡ 1
unfolding value_from
row807 = refl

row808 : computed op.ShiftRight Quad 9223372036854775808 64 1234605616436508552 ≡ 0
unfolding value_from
row808 = refl

row809 : computed op.ShiftRight Quad 9223372036854775807 65 1234605616436508552 ≡ 0
unfolding value_from
row809 = refl

row810 : computed op.ShiftRight Quad 18446744073709551615 18446744073709551615 1234605616436508552 ≡ 0
unfolding value_from
row810 = refl

row811 : computed op.ShiftSigned Byte 133 1 1234605616436508552 ≡ 194
unfolding value_from
row811 = refl

row812 : computed op.ShiftSigned Byte 11936128518282651135 11936128518282650887 1234605616436508552 ≡ 255
unfolding value_from
row812 = refl

row813 : computed op.ShiftSigned Byte 128 8 1234605616436508552 ≡ 255
unfolding value_from
row813 = refl

row814 : computed op.ShiftSigned Byte 11936128518282651007 9 1234605616436508552 ≡ 0
unfolding value_from
row814 = refl

row815 : computed op.ShiftSigned Byte 255 11936128518282651135 1234605616436508552 ≡ 255
unfolding value_from
row815 = refl

row816 : computed op.ShiftSigned Word 32773 1 1234605616436508552 ≡ 49154
unfolding value_from
row816 = refl

row817 : computed op.ShiftSigned Word 11936128518282674175 11936128518282608655 1234605616436508552 ≡ 65535
unfolding value_from
row817 = refl

row818 : computed op.ShiftSigned Word 32768 16 1234605616436508552 ≡ 65535
unfolding value_from
row818 = refl

row819 : computed op.ShiftSigned Word 11936128518282641407 17 1234605616436508552 ≡ 0
unfolding value_from
row819 = refl

row820 : computed op.ShiftSigned Word 65535 11936128518282674175 1234605616436508552 ≡ 65535
unfolding value_from
row820 = refl

row821 : computed op.ShiftSigned Long 2147483653 1 1234605616436508552 ≡ 3221225474
unfolding value_from
row821 = refl

row822 : computed op.ShiftSigned Long 11936128519798521855 11936128515503554591 1234605616436508552 ≡ 4294967295
unfolding value_from
row822 = refl

row823 : computed op.ShiftSigned Long 2147483648 32 1234605616436508552 ≡ 4294967295
unfolding value_from
row823 = refl

row824 : computed op.ShiftSigned Long 11936128517651038207 33 1234605616436508552 ≡ 0
unfolding value_from
row824 = refl

row825 : computed op.ShiftSigned Long 4294967295 11936128519798521855 1234605616436508552 ≡ 4294967295
unfolding value_from
row825 = refl

row826 : computed op.ShiftSigned Quad 9223372036854775813 1 1234605616436508552 ≡ 13835058055282163714
unfolding value_from
row826 = refl

row827 : computed op.ShiftSigned Quad 18446744073709551615 63 1234605616436508552 ≡ 18446744073709551615
unfolding value_from
row827 = refl

row828 : computed op.ShiftSigned Quad 9223372036854775808 64 1234605616436508552 ≡ 18446744073709551615
unfolding value_from
row828 = refl

row829 : computed op.ShiftSigned Quad 9223372036854775807 65 1234605616436508552 ≡ 0
unfolding value_from
row829 = refl

row830 : computed op.ShiftSigned Quad 18446744073709551615 18446744073709551615 1234605616436508552 ≡ 18446744073709551615
unfolding value_from
row830 = refl

row831 : computed op.SignExtend Byte 128 0 1234605616436508552 ≡ 18446744073709551488
unfolding value_from
row831 = refl

row832 : computed op.SignExtend Byte 11936128518282651007 11936128518282650889 1234605616436508552 ≡ 127
unfolding value_from
row832 = refl

row833 : computed op.SignExtend Word 32768 0 1234605616436508552 ≡ 18446744073709518848
unfolding value_from
row833 = refl

row834 : computed op.SignExtend Word 11936128518282641407 11936128518282608649 1234605616436508552 ≡ 32767
unfolding value_from
row834 = refl

row835 : computed op.SignExtend Long 2147483648 0 1234605616436508552 ≡ 18446744071562067968
unfolding value_from
row835 = refl

row836 : computed op.SignExtend Long 11936128517651038207 11936128515503554569 1234605616436508552 ≡ 2147483647
unfolding value_from
row836 = refl

row837 : computed op.SignExtend Quad 9223372036854775808 0 1234605616436508552 ≡ 9223372036854775808
unfolding value_from
row837 = refl

row838 : computed op.SignExtend Quad 9223372036854775807 9 1234605616436508552 ≡ 9223372036854775807
unfolding value_from
row838 = refl

row839 : computed op.ZeroExtend Byte 128 0 1234605616436508552 ≡ 128
unfolding value_from
row839 = refl

row840 : computed op.ZeroExtend Byte 11936128518282651007 11936128518282650889 1234605616436508552 ≡ 127
unfolding value_from
row840 = refl

row841 : computed op.ZeroExtend Word 32768 0 1234605616436508552 ≡ 32768
unfolding value_from
row841 = refl

row842 : computed op.ZeroExtend Word 11936128518282641407 11936128518282608649 1234605616436508552 ≡ 32767
unfolding value_from
row842 = refl

row843 : computed op.ZeroExtend Long 2147483648 0 1234605616436508552 ≡ 2147483648
unfolding value_from
row843 = refl

row844 : computed op.ZeroExtend Long 11936128517651038207 11936128515503554569 1234605616436508552 ≡ 2147483647
unfolding value_from
row844 = refl

row845 : computed op.ZeroExtend Quad 9223372036854775808 0 1234605616436508552 ≡ 9223372036854775808
unfolding value_from
row845 = refl

row846 : computed op.ZeroExtend Quad 9223372036854775807 9 1234605616436508552 ≡ 9223372036854775807
unfolding value_from
row846 = refl

row847 : computed op.Equal Byte 128 1 1234605616436508552 ≡ 0
unfolding value_from
row847 = refl

row848 : computed op.Equal Byte 11936128518282650881 11936128518282651008 1234605616436508552 ≡ 0
unfolding value_from
row848 = refl

row849 : computed op.Equal Byte 255 255 1234605616436508552 ≡ 1
unfolding value_from
row849 = refl

row850 : computed op.Equal Byte 11936128518282651135 0 1234605616436508552 ≡ 0
unfolding value_from
row850 = refl

row851 : computed op.Equal Word 32768 1 1234605616436508552 ≡ 0
unfolding value_from
row851 = refl

row852 : computed op.Equal Word 11936128518282608641 11936128518282641408 1234605616436508552 ≡ 0
unfolding value_from
row852 = refl

row853 : computed op.Equal Word 65535 65535 1234605616436508552 ≡ 1
unfolding value_from
row853 = refl

row854 : computed op.Equal Word 11936128518282674175 0 1234605616436508552 ≡ 0
unfolding value_from
row854 = refl

row855 : computed op.Equal Long 2147483648 1 1234605616436508552 ≡ 0
unfolding value_from
row855 = refl

row856 : computed op.Equal Long 11936128515503554561 11936128517651038208 1234605616436508552 ≡ 0
unfolding value_from
row856 = refl

row857 : computed op.Equal Long 4294967295 4294967295 1234605616436508552 ≡ 1
unfolding value_from
row857 = refl

row858 : computed op.Equal Long 11936128519798521855 0 1234605616436508552 ≡ 0
unfolding value_from
row858 = refl

row859 : computed op.Equal Quad 9223372036854775808 1 1234605616436508552 ≡ 0
unfolding value_from
row859 = refl

row860 : computed op.Equal Quad 1 9223372036854775808 1234605616436508552 ≡ 0
unfolding value_from
row860 = refl

row861 : computed op.Equal Quad 18446744073709551615 18446744073709551615 1234605616436508552 ≡ 1
unfolding value_from
row861 = refl

row862 : computed op.Equal Quad 18446744073709551615 0 1234605616436508552 ≡ 0
unfolding value_from
row862 = refl

row863 : computed op.Less Byte 128 1 1234605616436508552 ≡ 1
unfolding value_from
row863 = refl

row864 : computed op.Less Byte 11936128518282650881 11936128518282651008 1234605616436508552 ≡ 0
unfolding value_from
row864 = refl

row865 : computed op.Less Byte 255 255 1234605616436508552 ≡ 0
unfolding value_from
row865 = refl

row866 : computed op.Less Byte 11936128518282651135 0 1234605616436508552 ≡ 1
unfolding value_from
row866 = refl

row867 : computed op.Less Word 32768 1 1234605616436508552 ≡ 1
unfolding value_from
row867 = refl

row868 : computed op.Less Word 11936128518282608641 11936128518282641408 1234605616436508552 ≡ 0
unfolding value_from
row868 = refl

row869 : computed op.Less Word 65535 65535 1234605616436508552 ≡ 0
unfolding value_from
row869 = refl

row870 : computed op.Less Word 11936128518282674175 0 1234605616436508552 ≡ 1
unfolding value_from
row870 = refl

row871 : computed op.Less Long 2147483648 1 1234605616436508552 ≡ 1
unfolding value_from
row871 = refl

row872 : computed op.Less Long 11936128515503554561 11936128517651038208 1234605616436508552 ≡ 0
unfolding value_from
row872 = refl

row873 : computed op.Less Long 4294967295 4294967295 1234605616436508552 ≡ 0
unfolding value_from
row873 = refl

row874 : computed op.Less Long 11936128519798521855 0 1234605616436508552 ≡ 1
unfolding value_from
row874 = refl

row875 : computed op.Less Quad 9223372036854775808 1 1234605616436508552 ≡ 1
unfolding value_from
row875 = refl

row876 : computed op.Less Quad 1 9223372036854775808 1234605616436508552 ≡ 0
unfolding value_from
row876 = refl

row877 : computed op.Less Quad 18446744073709551615 18446744073709551615 1234605616436508552 ≡ 0
unfolding value_from
row877 = refl

row878 : computed op.Less Quad 18446744073709551615 0 1234605616436508552 ≡ 1
unfolding value_from
row878 = refl

row879 : computed op.LessUnsigned Byte 128 1 1234605616436508552 ≡ 0
unfolding value_from
row879 = refl

row880 : computed op.LessUnsigned Byte 11936128518282650881 11936128518282651008 1234605616436508552 ≡ 1
unfolding value_from
row880 = refl

row881 : computed op.LessUnsigned Byte 255 255 1234605616436508552 ≡ 0
unfolding value_from
row881 = refl

row882 : computed op.LessUnsigned Byte 11936128518282651135 0 1234605616436508552 ≡ 0
unfolding value_from
row882 = refl

row883 : computed op.LessUnsigned Word 32768 1 1234605616436508552 ≡ 0
unfolding value_from
row883 = refl

row884 : computed op.LessUnsigned Word 11936128518282608641 11936128518282641408 1234605616436508552 ≡ 1
unfolding value_from
row884 = refl

row885 : computed op.LessUnsigned Word 65535 65535 1234605616436508552 ≡ 0
unfolding value_from
row885 = refl

row886 : computed op.LessUnsigned Word 11936128518282674175 0 1234605616436508552 ≡ 0
unfolding value_from
row886 = refl

row887 : computed op.LessUnsigned Long 2147483648 1 1234605616436508552 ≡ 0
unfolding value_from
row887 = refl

row888 : computed op.LessUnsigned Long 11936128515503554561 11936128517651038208 1234605616436508552 ≡ 1
unfolding value_from
row888 = refl

row889 : computed op.LessUnsigned Long 4294967295 4294967295 1234605616436508552 ≡ 0
unfolding value_from
row889 = refl

row890 : computed op.LessUnsigned Long 11936128519798521855 0 1234605616436508552 ≡ 0
unfolding value_from
row890 = refl

row891 : computed op.LessUnsigned Quad 9223372036854775808 1 1234605616436508552 ≡ 0
unfolding value_from
row891 = refl

row892 : computed op.LessUnsigned Quad 1 9223372036854775808 1234605616436508552 ≡ 1
unfolding value_from
row892 = refl

row893 : computed op.LessUnsigned Quad 18446744073709551615 18446744073709551615 1234605616436508552 ≡ 0
unfolding value_from
row893 = refl

row894 : computed op.LessUnsigned Quad 18446744073709551615 0 1234605616436508552 ≡ 0
unfolding value_from
row894 = refl

row895 : computed op.SelectNonzero Byte 0 3 1234605616436508552 ≡ 136
unfolding value_from
row895 = refl

row896 : computed op.SelectNonzero Byte 11936128518282651008 11936128518282651135 1234605616436508552 ≡ 255
unfolding value_from
row896 = refl

row897 : computed op.SelectNonzero Word 0 3 1234605616436508552 ≡ 30600
unfolding value_from
row897 = refl

row898 : computed op.SelectNonzero Word 11936128518282641408 11936128518282674175 1234605616436508552 ≡ 65535
unfolding value_from
row898 = refl

row899 : computed op.SelectNonzero Long 0 3 1234605616436508552 ≡ 1432778632
unfolding value_from
row899 = refl

row900 : computed op.SelectNonzero Long 11936128517651038208 11936128519798521855 1234605616436508552 ≡ 4294967295
unfolding value_from
row900 = refl

row901 : computed op.SelectNonzero Quad 0 3 1234605616436508552 ≡ 1234605616436508552
unfolding value_from
row901 = refl

row902 : computed op.SelectNonzero Quad 9223372036854775808 18446744073709551615 1234605616436508552 ≡ 18446744073709551615
unfolding value_from
row902 = refl

row903 : computed op.MulHigh Byte 255 255 1234605616436508552 ≡ 254
unfolding value_from
row903 = refl

row904 : computed op.MulHigh Byte 11936128518282651008 11936128518282650882 1234605616436508552 ≡ 1
unfolding value_from
row904 = refl

row905 : computed op.MulHigh Byte 255 1 1234605616436508552 ≡ 0
unfolding value_from
row905 = refl

row906 : computed op.MulHigh Word 65535 65535 1234605616436508552 ≡ 65534
unfolding value_from
row906 = refl

row907 : computed op.MulHigh Word 11936128518282641408 11936128518282608642 1234605616436508552 ≡ 1
unfolding value_from
row907 = refl

row908 : computed op.MulHigh Word 65535 1 1234605616436508552 ≡ 0
unfolding value_from
row908 = refl

row909 : computed op.MulHigh Long 4294967295 4294967295 1234605616436508552 ≡ 4294967294
unfolding value_from
row909 = refl

row910 : computed op.MulHigh Long 11936128517651038208 11936128515503554562 1234605616436508552 ≡ 1
unfolding value_from
row910 = refl

row911 : computed op.MulHigh Long 4294967295 1 1234605616436508552 ≡ 0
unfolding value_from
row911 = refl

row912 : computed op.MulHigh Quad 18446744073709551615 18446744073709551615 1234605616436508552 ≡ 18446744073709551614
unfolding value_from
row912 = refl

row913 : computed op.MulHigh Quad 9223372036854775808 2 1234605616436508552 ≡ 1
unfolding value_from
row913 = refl

row914 : computed op.MulHigh Quad 18446744073709551615 1 1234605616436508552 ≡ 0
unfolding value_from
row914 = refl
