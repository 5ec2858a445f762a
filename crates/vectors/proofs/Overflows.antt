-- V of sums and differences.
use Rattle.std.proofs.Common.{◌≡◌, ℕ, Bool, true, false, refl}
use Rattle.vax_form.specs.Size.{size_of}
use Rattle.vax_form.specs.declared.instr.Width.{Width}
use Rattle.vax_form.specs.declared.instr.Width.TheVariants.{Byte, Word, Long}
use Rattle.vt_words.specs.Arithmetic.{sum_of, difference_of}
use Rattle.micro_ops.specs.Values.{low}
use Rattle.compute_sequences.specs.declared.overflow.Arithmetic.{Arithmetic}
use Rattle.compute_sequences.specs.declared.overflow.Arithmetic.TheVariants.{Sum, Difference}
use Rattle.compute_sequences.specs.Overflow.{overflows}

-- for what two registers hold
abbrev overflow : Arithmetic → Width → (a b : ℕ) → Bool
overflow arithmetic width a b = overflows arithmetic width (low (size_of width) a) (low (size_of width) b)

row1 : overflow Sum Byte 0 0 ≡ false
unfolding sum_of difference_of
row1 = refl

row2 : overflow Sum Byte 127 0 ≡ false
unfolding sum_of difference_of
row2 = refl

row3 : overflow Sum Byte 127 1 ≡ true
unfolding sum_of difference_of
row3 = refl

row4 : overflow Sum Byte 64 64 ≡ true
unfolding sum_of difference_of
row4 = refl

row5 : overflow Sum Byte 64 63 ≡ false
unfolding sum_of difference_of
row5 = refl

row6 : overflow Sum Byte 128 255 ≡ true
unfolding sum_of difference_of
row6 = refl

row7 : overflow Sum Byte 128 128 ≡ true
unfolding sum_of difference_of
row7 = refl

row8 : overflow Sum Byte 129 255 ≡ false
unfolding sum_of difference_of
row8 = refl

row9 : overflow Sum Byte 128 127 ≡ false
unfolding sum_of difference_of
row9 = refl

row10 : overflow Sum Byte 255 1 ≡ false
unfolding sum_of difference_of
row10 = refl

row11 : overflow Sum Byte 255 255 ≡ false
unfolding sum_of difference_of
row11 = refl

row12 : overflow Sum Byte 43647 18446744073709551361 ≡ true
unfolding sum_of difference_of
row12 = refl

row13 : overflow Sum Word 32767 1 ≡ true
unfolding sum_of difference_of
row13 = refl

row14 : overflow Sum Word 32767 0 ≡ false
unfolding sum_of difference_of
row14 = refl

row15 : overflow Sum Word 127 1 ≡ false
unfolding sum_of difference_of
row15 = refl

row16 : overflow Sum Word 32768 65535 ≡ true
unfolding sum_of difference_of
row16 = refl

row17 : overflow Sum Word 32769 65535 ≡ false
unfolding sum_of difference_of
row17 = refl

row18 : overflow Sum Word 16384 16384 ≡ true
unfolding sum_of difference_of
row18 = refl

row19 : overflow Sum Word 16384 16383 ≡ false
unfolding sum_of difference_of
row19 = refl

row20 : overflow Sum Word 65535 65535 ≡ false
unfolding sum_of difference_of
row20 = refl

row21 : overflow Sum Word 305430527 1 ≡ true
unfolding sum_of difference_of
row21 = refl

row22 : overflow Sum Long 2147483647 1 ≡ true
unfolding sum_of difference_of
row22 = refl

row23 : overflow Sum Long 2147483647 0 ≡ false
unfolding sum_of difference_of
row23 = refl

row24 : overflow Sum Long 32767 1 ≡ false
unfolding sum_of difference_of
row24 = refl

row25 : overflow Sum Long 2147483648 4294967295 ≡ true
unfolding sum_of difference_of
row25 = refl

row26 : overflow Sum Long 2147483649 4294967295 ≡ false
unfolding sum_of difference_of
row26 = refl

row27 : overflow Sum Long 2147483648 2147483648 ≡ true
unfolding sum_of difference_of
row27 = refl

row28 : overflow Sum Long 1073741824 1073741824 ≡ true
unfolding sum_of difference_of
row28 = refl

row29 : overflow Sum Long 1073741824 1073741823 ≡ false
unfolding sum_of difference_of
row29 = refl

row30 : overflow Sum Long 4294967295 4294967295 ≡ false
unfolding sum_of difference_of
row30 = refl

row31 : overflow Sum Long 2147483647 2147483648 ≡ false
unfolding sum_of difference_of
row31 = refl

row32 : overflow Sum Long 18446744071562067967 4294967297 ≡ true
unfolding sum_of difference_of
row32 = refl

row33 : overflow Difference Byte 0 0 ≡ false
unfolding sum_of difference_of
row33 = refl

row34 : overflow Difference Byte 0 128 ≡ true
unfolding sum_of difference_of
row34 = refl

row35 : overflow Difference Byte 0 127 ≡ false
unfolding sum_of difference_of
row35 = refl

row36 : overflow Difference Byte 128 1 ≡ true
unfolding sum_of difference_of
row36 = refl

row37 : overflow Difference Byte 128 0 ≡ false
unfolding sum_of difference_of
row37 = refl

row38 : overflow Difference Byte 128 128 ≡ false
unfolding sum_of difference_of
row38 = refl

row39 : overflow Difference Byte 127 255 ≡ true
unfolding sum_of difference_of
row39 = refl

row40 : overflow Difference Byte 127 1 ≡ false
unfolding sum_of difference_of
row40 = refl

row41 : overflow Difference Byte 255 128 ≡ false
unfolding sum_of difference_of
row41 = refl

row42 : overflow Difference Byte 127 128 ≡ true
unfolding sum_of difference_of
row42 = refl

row43 : overflow Difference Word 0 32768 ≡ true
unfolding sum_of difference_of
row43 = refl

row44 : overflow Difference Word 32768 1 ≡ true
unfolding sum_of difference_of
row44 = refl

row45 : overflow Difference Word 32768 65535 ≡ false
unfolding sum_of difference_of
row45 = refl

row46 : overflow Difference Word 32767 65535 ≡ true
unfolding sum_of difference_of
row46 = refl

row47 : overflow Difference Word 128 1 ≡ false
unfolding sum_of difference_of
row47 = refl

row48 : overflow Difference Word 65535 32768 ≡ false
unfolding sum_of difference_of
row48 = refl

row49 : overflow Difference Long 0 2147483648 ≡ true
unfolding sum_of difference_of
row49 = refl

row50 : overflow Difference Long 0 2147483647 ≡ false
unfolding sum_of difference_of
row50 = refl

row51 : overflow Difference Long 2147483648 1 ≡ true
unfolding sum_of difference_of
row51 = refl

row52 : overflow Difference Long 2147483648 4294967295 ≡ false
unfolding sum_of difference_of
row52 = refl

row53 : overflow Difference Long 2147483647 4294967295 ≡ true
unfolding sum_of difference_of
row53 = refl

row54 : overflow Difference Long 2147483647 2147483648 ≡ true
unfolding sum_of difference_of
row54 = refl

row55 : overflow Difference Long 32768 1 ≡ false
unfolding sum_of difference_of
row55 = refl

row56 : overflow Difference Long 4294967295 2147483648 ≡ false
unfolding sum_of difference_of
row56 = refl

row57 : overflow Difference Long 23622320128 1 ≡ true
unfolding sum_of difference_of
row57 = refl
