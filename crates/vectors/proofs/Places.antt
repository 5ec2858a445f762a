-- Micro operations whose arguments stand in registers and flags.
use Rattle.std.proofs.Common.{◌≡◌, ℕ, [], ◌∷◌, refl}
use Rattle.std.specs.Prelude.{◌+◌}
use Rattle.vax_form.specs.declared.state.Pending.TheVariants.{Nothing}
use Rattle.micro_ops.specs.declared.program.Arg.{Arg}
use Rattle.micro_ops.specs.declared.program.Arg.TheVariants.{Temp, Register, Flag, Const}
use Rattle.micro_ops.specs.declared.program.MicroOp.{MicroOp}
use Rattle.vax_form.specs.declared.instr.Size.{Size}
use Rattle.vax_form.specs.declared.instr.Size.TheVariants.{Byte, Word, Long, Quad}
use Rattle.micro_ops.specs.declared.program.MicroOp.TheVariants as op
use Rattle.micro_ops.specs.Values.{computed, value_from}
use Rattle.micro_ops.specs.Meaning.{Found, Temps, value_of_arg}

-- each register holds its number in each digit; of the flags N, V, IV and DV are set
abbrev found : Found
found = record {
  state = record {
    r = 0x00000000 ∷ 0x11111111 ∷ 0x22222222 ∷ 0x33333333 ∷ 0x44444444 ∷ 0x55555555 ∷ 0x66666666 ∷ 0x77777777 ∷ 0x88888888 ∷ 0x99999999 ∷ 0xAAAAAAAA ∷ 0xBBBBBBBB ∷ 0xCCCCCCCC ∷ 0xDDDDDDDD ∷ 0xEEEEEEEE ∷ [];
    pc = 0x200;
    psw = 0xAA;
    handler = 0;
    pending = Nothing;
  };
  after = 0x204;
}

-- each temporary holds its number and 1
abbrev temps : Temps
temps temp = temp + 1

abbrev result : MicroOp → Size → (a b : Arg) → (to : ℕ) → ℕ
result op size a b to = computed op size (value_of_arg found temps a) (value_of_arg found temps b) (temps to)

row1 : result op.Move Byte (Register 9) (Const 0) 2 ≡ 153
unfolding value_from
row1 = refl

row2 : result op.Move Word (Register 9) (Const 0) 2 ≡ 39321
unfolding value_from
row2 = refl

row3 : result op.Move Long (Register 9) (Const 0) 2 ≡ 2576980377
unfolding value_from
row3 = refl

row4 : result op.Move Quad (Register 9) (Const 0) 2 ≡ 2576980377
unfolding value_from
row4 = refl

row5 : result op.Move Quad (Register 7) (Const 0) 0 ≡ 2004318071
unfolding value_from
row5 = refl

row6 : result op.SignExtend Byte (Register 9) (Const 0) 2 ≡ 18446744073709551513
unfolding value_from
row6 = refl

row7 : result op.SignExtend Long (Register 7) (Const 0) 2 ≡ 2004318071
unfolding value_from
row7 = refl

row8 : result op.SignExtend Long (Register 9) (Const 0) 2 ≡ 18446744071991564697
unfolding value_from
row8 = refl

row9 : result op.SignExtend Quad (Register 9) (Const 0) 2 ≡ 2576980377
unfolding value_from
row9 = refl

row10 : result op.Move Byte (Flag 0) (Const 0) 2 ≡ 1
unfolding value_from
row10 = refl

row11 : result op.Move Byte (Flag 1) (Const 0) 2 ≡ 0
unfolding value_from
row11 = refl

row12 : result op.Move Byte (Flag 2) (Const 0) 2 ≡ 1
unfolding value_from
row12 = refl

row13 : result op.Move Byte (Flag 3) (Const 0) 2 ≡ 0
unfolding value_from
row13 = refl

row14 : result op.Move Byte (Flag 4) (Const 0) 2 ≡ 0
unfolding value_from
row14 = refl

row15 : result op.Move Byte (Flag 5) (Const 0) 2 ≡ 1
unfolding value_from
row15 = refl

row16 : result op.Move Byte (Flag 6) (Const 0) 2 ≡ 0
unfolding value_from
row16 = refl

row17 : result op.Move Byte (Flag 7) (Const 0) 2 ≡ 1
unfolding value_from
row17 = refl

row18 : result op.Move Quad (Flag 7) (Const 0) 5 ≡ 1
unfolding value_from
row18 = refl

row19 : result op.Add Long (Register 9) (Register 7) 2 ≡ 286331152
unfolding value_from
row19 = refl

row20 : result op.Add Quad (Register 9) (Register 9) 2 ≡ 5153960754
unfolding value_from
row20 = refl

row21 : result op.Add Quad (Register 9) (Temp 0) 2 ≡ 2576980378
unfolding value_from
row21 = refl

row22 : result op.Add Quad (Temp 1) (Register 9) 1 ≡ 2576980379
unfolding value_from
row22 = refl

row23 : result op.Add Quad (Register 14) (Flag 5) 0 ≡ 4008636143
unfolding value_from
row23 = refl

row24 : result op.Add Byte (Flag 5) (Flag 7) 3 ≡ 2
unfolding value_from
row24 = refl

row25 : result op.Sub Quad (Register 0) (Register 1) 2 ≡ 18446744073423220463
unfolding value_from
row25 = refl

row26 : result op.Sub Long (Temp 0) (Flag 0) 0 ≡ 0
unfolding value_from
row26 = refl

row27 : result op.And Long (Register 9) (Const 4042322160) 2 ≡ 2425393296
unfolding value_from
row27 = refl

row28 : result op.Or Quad (Flag 5) (Const 9223372036854775808) 4 ≡ 9223372036854775809
unfolding value_from
row28 = refl

row29 : result op.Xor Byte (Flag 7) (Temp 0) 1 ≡ 0
unfolding value_from
row29 = refl

row30 : result op.AndNot Quad (Const 18446744073709551615) (Register 9) 2 ≡ 18446744071132571238
unfolding value_from
row30 = refl

row31 : result op.Mul Quad (Register 9) (Register 9) 2 ≡ 6640827863443062129
unfolding value_from
row31 = refl

row32 : result op.MulHigh Long (Register 9) (Register 9) 2 ≡ 1546188225
unfolding value_from
row32 = refl

row33 : result op.MulHigh Quad (Register 9) (Const 18446744073709551615) 2 ≡ 2576980376
unfolding value_from
row33 = refl

row34 : result op.ShiftLeft Quad (Register 9) (Const 32) 2 ≡ 11068046441648750592
unfolding value_from
row34 = refl

row35 : result op.ShiftRight Quad (Register 9) (Flag 5) 2 ≡ 1288490188
unfolding value_from
row35 = refl

row36 : result op.ShiftSigned Long (Register 9) (Const 4) 2 ≡ 4187593113
unfolding value_from
row36 = refl

row37 : result op.ShiftSigned Quad (Register 9) (Const 4) 2 ≡ 161061273
unfolding value_from
row37 = refl

row38 : result op.ShiftLeft Byte (Flag 5) (Flag 7) 2 ≡ 2
unfolding value_from
row38 = refl

row39 : result op.Equal Quad (Register 9) (Const 2576980377) 2 ≡ 1
unfolding value_from
row39 = refl

row40 : result op.Equal Quad (Register 9) (Const 18446744071991564697) 2 ≡ 0
unfolding value_from
row40 = refl

row41 : result op.Less Long (Register 9) (Register 7) 2 ≡ 1
unfolding value_from
row41 = refl

row42 : result op.Less Quad (Register 9) (Register 7) 2 ≡ 0
unfolding value_from
row42 = refl

row43 : result op.LessUnsigned Long (Register 9) (Register 7) 2 ≡ 0
unfolding value_from
row43 = refl

row44 : result op.SelectNonzero Byte (Flag 5) (Flag 7) 2 ≡ 1
unfolding value_from
row44 = refl

row45 : result op.SelectNonzero Byte (Flag 4) (Flag 7) 2 ≡ 3
unfolding value_from
row45 = refl

row46 : result op.SelectNonzero Long (Register 1) (Register 9) 2 ≡ 2576980377
unfolding value_from
row46 = refl

row47 : result op.SelectNonzero Quad (Register 1) (Register 9) 2 ≡ 2576980377
unfolding value_from
row47 = refl

row48 : result op.SelectNonzero Quad (Register 0) (Register 9) 2 ≡ 3
unfolding value_from
row48 = refl

row49 : result op.SelectNonzero Quad (Temp 0) (Const 18364758544493064720) 3 ≡ 18364758544493064720
unfolding value_from
row49 = refl

row50 : result op.SelectNonzero Quad (Flag 6) (Const 18364758544493064720) 3 ≡ 4
unfolding value_from
row50 = refl

row51 : result op.SelectNonzero Word (Const 65536) (Const 4660) 2 ≡ 3
unfolding value_from
row51 = refl

row52 : result op.SelectNonzero Word (Const 65537) (Const 4660) 2 ≡ 4660
unfolding value_from
row52 = refl
