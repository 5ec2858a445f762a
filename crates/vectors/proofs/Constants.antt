-- What a register holds behind the words of a constant.
use Rattle.std.proofs.Common.{◌≡◌, ℕ, List, [], ◌∷◌, refl}
use Rattle.std.specs.Prelude.{◌==◌, if◌then◌else◌}
use Rattle.vax_form.specs.declared.instr.Size.TheVariants.{Byte, Word, Long, Quad}
use Rattle.vt_words.specs.Quad.{spread}
use Rattle.alpha_encode.specs.declared.instr.AlphaInstr.{AlphaInstr}
use Rattle.alpha_encode.specs.declared.instr.AlphaInstr.TheVariants.{Memory, Operate}
use Rattle.alpha_encode.specs.declared.instr.Second.TheVariants.{Literal}
use Rattle.alpha_encode.specs.Registers.{ZERO}
use Rattle.alpha_meaning.specs.Memory.{address_of}
use Rattle.alpha_meaning.specs.Result.{result_of}
use Rattle.compute_sequences.specs.Constants.{constant_code}

-- what the one register that the words write holds behind them
abbrev behind : List AlphaInstr → (held : ℕ) → ℕ
behind [] held = held
behind (Memory op to from displacement ∷ words) held = behind words (address_of op (if from == ZERO then 0 else held) displacement)
behind (Operate op from (Literal literal) to ∷ words) held = behind words (result_of op held literal held)
behind (word ∷ words) held = held

row1 : behind (constant_code 0 Byte 22) 0xFFFFFFFFFFFFFFFF ≡ 0
unfolding spread
row1 = refl

row2 : behind (constant_code 128 Byte 22) 0xFFFFFFFFFFFFFFFF ≡ 128
unfolding spread
row2 = refl

row3 : behind (constant_code 255 Byte 22) 0xFFFFFFFFFFFFFFFF ≡ 255
unfolding spread
row3 = refl

row4 : behind (constant_code 511 Byte 22) 0xFFFFFFFFFFFFFFFF ≡ 511
unfolding spread
row4 = refl

row5 : behind (constant_code 32767 Word 22) 0xFFFFFFFFFFFFFFFF ≡ 32767
unfolding spread
row5 = refl

row6 : behind (constant_code 32768 Word 22) 0xFFFFFFFFFFFFFFFF ≡ 18446744073709518848
unfolding spread
row6 = refl

row7 : behind (constant_code 65535 Word 22) 0xFFFFFFFFFFFFFFFF ≡ 18446744073709551615
unfolding spread
row7 = refl

row8 : behind (constant_code 305430528 Word 22) 0xFFFFFFFFFFFFFFFF ≡ 18446744073709518848
unfolding spread
row8 = refl

row9 : behind (constant_code 0 Long 22) 0xFFFFFFFFFFFFFFFF ≡ 0
unfolding spread
row9 = refl

row10 : behind (constant_code 1 Long 22) 0xFFFFFFFFFFFFFFFF ≡ 1
unfolding spread
row10 = refl

row11 : behind (constant_code 32767 Long 22) 0xFFFFFFFFFFFFFFFF ≡ 32767
unfolding spread
row11 = refl

row12 : behind (constant_code 32768 Long 22) 0xFFFFFFFFFFFFFFFF ≡ 32768
unfolding spread
row12 = refl

row13 : behind (constant_code 65535 Long 22) 0xFFFFFFFFFFFFFFFF ≡ 65535
unfolding spread
row13 = refl

row14 : behind (constant_code 305432421 Long 22) 0xFFFFFFFFFFFFFFFF ≡ 305432421
unfolding spread
row14 = refl

row15 : behind (constant_code 2147450879 Long 22) 0xFFFFFFFFFFFFFFFF ≡ 2147450879
unfolding spread
row15 = refl

row16 : behind (constant_code 2147450880 Long 22) 0xFFFFFFFFFFFFFFFF ≡ 18446744071562035200
unfolding spread
row16 = refl

row17 : behind (constant_code 2147483647 Long 22) 0xFFFFFFFFFFFFFFFF ≡ 18446744071562067967
unfolding spread
row17 = refl

row18 : behind (constant_code 2147483648 Long 22) 0xFFFFFFFFFFFFFFFF ≡ 18446744071562067968
unfolding spread
row18 = refl

row19 : behind (constant_code 4294934528 Long 22) 0xFFFFFFFFFFFFFFFF ≡ 18446744073709518848
unfolding spread
row19 = refl

row20 : behind (constant_code 4294967295 Long 22) 0xFFFFFFFFFFFFFFFF ≡ 18446744073709551615
unfolding spread
row20 = refl

row21 : behind (constant_code 1311768465173153637 Long 22) 0xFFFFFFFFFFFFFFFF ≡ 305432421
unfolding spread
row21 = refl

row22 : behind (constant_code 0 Quad 22) 0xFFFFFFFFFFFFFFFF ≡ 0
unfolding spread
row22 = refl

row23 : behind (constant_code 1 Quad 22) 0xFFFFFFFFFFFFFFFF ≡ 1
unfolding spread
row23 = refl

row24 : behind (constant_code 32768 Quad 22) 0xFFFFFFFFFFFFFFFF ≡ 32768
unfolding spread
row24 = refl

row25 : behind (constant_code 2147450880 Quad 22) 0xFFFFFFFFFFFFFFFF ≡ 2147450880
unfolding spread
row25 = refl

row26 : behind (constant_code 2147483647 Quad 22) 0xFFFFFFFFFFFFFFFF ≡ 2147483647
unfolding spread
row26 = refl

row27 : behind (constant_code 2147483648 Quad 22) 0xFFFFFFFFFFFFFFFF ≡ 2147483648
unfolding spread
row27 = refl

row28 : behind (constant_code 4294967295 Quad 22) 0xFFFFFFFFFFFFFFFF ≡ 4294967295
unfolding spread
row28 = refl

row29 : behind (constant_code 4294967296 Quad 22) 0xFFFFFFFFFFFFFFFF ≡ 4294967296
unfolding spread
row29 = refl

row30 : behind (constant_code 9223231297218904063 Quad 22) 0xFFFFFFFFFFFFFFFF ≡ 9223231297218904063
unfolding spread
row30 = refl

row31 : behind (constant_code 9223231297218904064 Quad 22) 0xFFFFFFFFFFFFFFFF ≡ 9223231297218904064
unfolding spread
row31 = refl

row32 : behind (constant_code 9223231299366420479 Quad 22) 0xFFFFFFFFFFFFFFFF ≡ 9223231299366420479
unfolding spread
row32 = refl

row33 : behind (constant_code 9223372034707259392 Quad 22) 0xFFFFFFFFFFFFFFFF ≡ 9223372034707259392
unfolding spread
row33 = refl

row34 : behind (constant_code 9223372036854775807 Quad 22) 0xFFFFFFFFFFFFFFFF ≡ 9223372036854775807
unfolding spread
row34 = refl

row35 : behind (constant_code 9223372036854775808 Quad 22) 0xFFFFFFFFFFFFFFFF ≡ 9223372036854775808
unfolding spread
row35 = refl

row36 : behind (constant_code 9223512776490647552 Quad 22) 0xFFFFFFFFFFFFFFFF ≡ 9223512776490647552
unfolding spread
row36 = refl

row37 : behind (constant_code 18364758544493064720 Quad 22) 0xFFFFFFFFFFFFFFFF ≡ 18364758544493064720
unfolding spread
row37 = refl

row38 : behind (constant_code 18446744071562035199 Quad 22) 0xFFFFFFFFFFFFFFFF ≡ 18446744071562035199
unfolding spread
row38 = refl

row39 : behind (constant_code 18446744071562035200 Quad 22) 0xFFFFFFFFFFFFFFFF ≡ 18446744071562035200
unfolding spread
row39 = refl

row40 : behind (constant_code 18446744073709551615 Quad 22) 0xFFFFFFFFFFFFFFFF ≡ 18446744073709551615
unfolding spread
row40 = refl
