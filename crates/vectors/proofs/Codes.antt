-- The condition codes that an instruction leaves, by what the temporaries of its micro program hold.
use Rattle.std.proofs.Common.{ℕ, false, refl}
use Rattle.std.proofs.Common.{ltb-true}
use Rattle.std.specs.Prelude.{◌==◌, if◌then◌else◌}
use Rattle.vax_form.specs.declared.operation.BinaryOperation.TheVariants.{Add, Subtract, Multiply}
use Rattle.vax_form.specs.declared.instr.Size.TheVariants as sizes
use Rattle.vax_form.specs.declared.instr.Width.TheVariants.{Byte, Word, Long}
use Rattle.vax_form.specs.declared.operation.Operation.TheVariants as op
use Rattle.vt_words.specs.Arithmetic.{sum_of, difference_of}
use Rattle.micro_ops.specs.declared.codes.CodeSources.{CodeSources}
use Rattle.micro_ops.specs.Leaving.{SignsComeFrom, CarryComesFrom}
use Rattle.micro_ops.specs.Meaning.{Temps}
use Rattle.micro_ops.specs.Sources.{sources_of}

abbrev temps : (t0 t1 t2 t3 t4 : ℕ) → Temps
temps t0 t1 t2 t3 t4 temp = if temp == 0 then t0 else if temp == 1 then t1 else if temp == 2 then t2 else if temp == 3 then t3 else t4

-- before the instruction all codes are set
abbrev Leaves : CodeSources → (left : ℕ) → Temps → Type 0
Leaves codes left temps = SignsComeFrom codes.nzv 0xF left temps × CarryComesFrom codes.c 0xF left temps

row1 : Leaves (sources_of (op.Move sizes.Byte)) 5 (temps 0 16045690984833335023 0 16045690984833335023 16045690984833335023)
unfolding sources_of sum_of difference_of
row1 = ((ltb-true 0 256 refl, (refl, refl, refl)), refl)

row2 : Leaves (sources_of (op.Move sizes.Byte)) 1 (temps 1 16045690984833335023 1 16045690984833335023 16045690984833335023)
unfolding sources_of sum_of difference_of
row2 = ((ltb-true 1 256 refl, (refl, refl, refl)), refl)

row3 : Leaves (sources_of (op.Move sizes.Byte)) 1 (temps 2 16045690984833335023 2 16045690984833335023 16045690984833335023)
unfolding sources_of sum_of difference_of
row3 = ((ltb-true 2 256 refl, (refl, refl, refl)), refl)

row4 : Leaves (sources_of (op.Move sizes.Byte)) 1 (temps 127 16045690984833335023 127 16045690984833335023 16045690984833335023)
unfolding sources_of sum_of difference_of
row4 = ((ltb-true 127 256 refl, (refl, refl, refl)), refl)

row5 : Leaves (sources_of (op.Move sizes.Byte)) 9 (temps 128 16045690984833335023 128 16045690984833335023 16045690984833335023)
unfolding sources_of sum_of difference_of
row5 = ((ltb-true 128 256 refl, (refl, refl, refl)), refl)

row6 : Leaves (sources_of (op.Move sizes.Byte)) 9 (temps 129 16045690984833335023 129 16045690984833335023 16045690984833335023)
unfolding sources_of sum_of difference_of
row6 = ((ltb-true 129 256 refl, (refl, refl, refl)), refl)

row7 : Leaves (sources_of (op.Move sizes.Byte)) 9 (temps 255 16045690984833335023 255 16045690984833335023 16045690984833335023)
unfolding sources_of sum_of difference_of
row7 = ((ltb-true 255 256 refl, (refl, refl, refl)), refl)

row8 : Leaves (sources_of (op.Move sizes.Word)) 5 (temps 0 16045690984833335023 0 16045690984833335023 16045690984833335023)
unfolding sources_of sum_of difference_of
row8 = ((ltb-true 0 65536 refl, (refl, refl, refl)), refl)

row9 : Leaves (sources_of (op.Move sizes.Word)) 1 (temps 1 16045690984833335023 1 16045690984833335023 16045690984833335023)
unfolding sources_of sum_of difference_of
row9 = ((ltb-true 1 65536 refl, (refl, refl, refl)), refl)

row10 : Leaves (sources_of (op.Move sizes.Word)) 1 (temps 2 16045690984833335023 2 16045690984833335023 16045690984833335023)
unfolding sources_of sum_of difference_of
row10 = ((ltb-true 2 65536 refl, (refl, refl, refl)), refl)

row11 : Leaves (sources_of (op.Move sizes.Word)) 1 (temps 32767 16045690984833335023 32767 16045690984833335023 16045690984833335023)
unfolding sources_of sum_of difference_of
row11 = ((ltb-true 32767 65536 refl, (refl, refl, refl)), refl)

row12 : Leaves (sources_of (op.Move sizes.Word)) 9 (temps 32768 16045690984833335023 32768 16045690984833335023 16045690984833335023)
unfolding sources_of sum_of difference_of
row12 = ((ltb-true 32768 65536 refl, (refl, refl, refl)), refl)

row13 : Leaves (sources_of (op.Move sizes.Word)) 9 (temps 32769 16045690984833335023 32769 16045690984833335023 16045690984833335023)
unfolding sources_of sum_of difference_of
row13 = ((ltb-true 32769 65536 refl, (refl, refl, refl)), refl)

row14 : Leaves (sources_of (op.Move sizes.Word)) 9 (temps 65535 16045690984833335023 65535 16045690984833335023 16045690984833335023)
unfolding sources_of sum_of difference_of
row14 = ((ltb-true 65535 65536 refl, (refl, refl, refl)), refl)

row15 : Leaves (sources_of (op.Move sizes.Long)) 5 (temps 0 16045690984833335023 0 16045690984833335023 16045690984833335023)
unfolding sources_of sum_of difference_of
row15 = ((ltb-true 0 4294967296 refl, (refl, refl, refl)), refl)

row16 : Leaves (sources_of (op.Move sizes.Long)) 1 (temps 1 16045690984833335023 1 16045690984833335023 16045690984833335023)
unfolding sources_of sum_of difference_of
row16 = ((ltb-true 1 4294967296 refl, (refl, refl, refl)), refl)

row17 : Leaves (sources_of (op.Move sizes.Long)) 1 (temps 2 16045690984833335023 2 16045690984833335023 16045690984833335023)
unfolding sources_of sum_of difference_of
row17 = ((ltb-true 2 4294967296 refl, (refl, refl, refl)), refl)

row18 : Leaves (sources_of (op.Move sizes.Long)) 1 (temps 2147483647 16045690984833335023 2147483647 16045690984833335023 16045690984833335023)
unfolding sources_of sum_of difference_of
row18 = ((ltb-true 2147483647 4294967296 refl, (refl, refl, refl)), refl)

row19 : Leaves (sources_of (op.Move sizes.Long)) 9 (temps 2147483648 16045690984833335023 2147483648 16045690984833335023 16045690984833335023)
unfolding sources_of sum_of difference_of
row19 = ((ltb-true 2147483648 4294967296 refl, (refl, refl, refl)), refl)

row20 : Leaves (sources_of (op.Move sizes.Long)) 9 (temps 2147483649 16045690984833335023 2147483649 16045690984833335023 16045690984833335023)
unfolding sources_of sum_of difference_of
row20 = ((ltb-true 2147483649 4294967296 refl, (refl, refl, refl)), refl)

row21 : Leaves (sources_of (op.Move sizes.Long)) 9 (temps 4294967295 16045690984833335023 4294967295 16045690984833335023 16045690984833335023)
unfolding sources_of sum_of difference_of
row21 = ((ltb-true 4294967295 4294967296 refl, (refl, refl, refl)), refl)

row22 : Leaves (sources_of (op.Move sizes.Quad)) 5 (temps 0 16045690984833335023 0 16045690984833335023 16045690984833335023)
unfolding sources_of sum_of difference_of
row22 = ((ltb-true 0 18446744073709551616 refl, (refl, refl, refl)), refl)

row23 : Leaves (sources_of (op.Move sizes.Quad)) 1 (temps 1 16045690984833335023 1 16045690984833335023 16045690984833335023)
unfolding sources_of sum_of difference_of
row23 = ((ltb-true 1 18446744073709551616 refl, (refl, refl, refl)), refl)

row24 : Leaves (sources_of (op.Move sizes.Quad)) 1 (temps 2 16045690984833335023 2 16045690984833335023 16045690984833335023)
unfolding sources_of sum_of difference_of
row24 = ((ltb-true 2 18446744073709551616 refl, (refl, refl, refl)), refl)

row25 : Leaves (sources_of (op.Move sizes.Quad)) 1 (temps 9223372036854775807 16045690984833335023 9223372036854775807 16045690984833335023 16045690984833335023)
unfolding sources_of sum_of difference_of
row25 = ((ltb-true 9223372036854775807 18446744073709551616 refl, (refl, refl, refl)), refl)

row26 : Leaves (sources_of (op.Move sizes.Quad)) 9 (temps 9223372036854775808 16045690984833335023 9223372036854775808 16045690984833335023 16045690984833335023)
unfolding sources_of sum_of difference_of
row26 = ((ltb-true 9223372036854775808 18446744073709551616 refl, (refl, refl, refl)), refl)

row27 : Leaves (sources_of (op.Move sizes.Quad)) 9 (temps 9223372036854775809 16045690984833335023 9223372036854775809 16045690984833335023 16045690984833335023)
unfolding sources_of sum_of difference_of
row27 = ((ltb-true 9223372036854775809 18446744073709551616 refl, (refl, refl, refl)), refl)

row28 : Leaves (sources_of (op.Move sizes.Quad)) 9 (temps 18446744073709551615 16045690984833335023 18446744073709551615 16045690984833335023 16045690984833335023)
unfolding sources_of sum_of difference_of
row28 = ((ltb-true 18446744073709551615 18446744073709551616 refl, (refl, refl, refl)), refl)

row29 : Leaves (sources_of (op.Test Byte)) 4 (temps 0 16045690984833335023 0 16045690984833335023 16045690984833335023)
unfolding sources_of sum_of difference_of
row29 = ((ltb-true 0 256 refl, (refl, refl, refl)), refl)

row30 : Leaves (sources_of (op.Test Byte)) 0 (temps 1 16045690984833335023 1 16045690984833335023 16045690984833335023)
unfolding sources_of sum_of difference_of
row30 = ((ltb-true 1 256 refl, (refl, refl, refl)), refl)

row31 : Leaves (sources_of (op.Test Byte)) 0 (temps 2 16045690984833335023 2 16045690984833335023 16045690984833335023)
unfolding sources_of sum_of difference_of
row31 = ((ltb-true 2 256 refl, (refl, refl, refl)), refl)

row32 : Leaves (sources_of (op.Test Byte)) 0 (temps 127 16045690984833335023 127 16045690984833335023 16045690984833335023)
unfolding sources_of sum_of difference_of
row32 = ((ltb-true 127 256 refl, (refl, refl, refl)), refl)

row33 : Leaves (sources_of (op.Test Byte)) 8 (temps 128 16045690984833335023 128 16045690984833335023 16045690984833335023)
unfolding sources_of sum_of difference_of
row33 = ((ltb-true 128 256 refl, (refl, refl, refl)), refl)

row34 : Leaves (sources_of (op.Test Byte)) 8 (temps 129 16045690984833335023 129 16045690984833335023 16045690984833335023)
unfolding sources_of sum_of difference_of
row34 = ((ltb-true 129 256 refl, (refl, refl, refl)), refl)

row35 : Leaves (sources_of (op.Test Byte)) 8 (temps 255 16045690984833335023 255 16045690984833335023 16045690984833335023)
unfolding sources_of sum_of difference_of
row35 = ((ltb-true 255 256 refl, (refl, refl, refl)), refl)

row36 : Leaves (sources_of (op.Test Word)) 4 (temps 0 16045690984833335023 0 16045690984833335023 16045690984833335023)
unfolding sources_of sum_of difference_of
row36 = ((ltb-true 0 65536 refl, (refl, refl, refl)), refl)

row37 : Leaves (sources_of (op.Test Word)) 0 (temps 1 16045690984833335023 1 16045690984833335023 16045690984833335023)
unfolding sources_of sum_of difference_of
row37 = ((ltb-true 1 65536 refl, (refl, refl, refl)), refl)

row38 : Leaves (sources_of (op.Test Word)) 0 (temps 2 16045690984833335023 2 16045690984833335023 16045690984833335023)
unfolding sources_of sum_of difference_of
row38 = ((ltb-true 2 65536 refl, (refl, refl, refl)), refl)

row39 : Leaves (sources_of (op.Test Word)) 0 (temps 32767 16045690984833335023 32767 16045690984833335023 16045690984833335023)
unfolding sources_of sum_of difference_of
row39 = ((ltb-true 32767 65536 refl, (refl, refl, refl)), refl)

row40 : Leaves (sources_of (op.Test Word)) 8 (temps 32768 16045690984833335023 32768 16045690984833335023 16045690984833335023)
unfolding sources_of sum_of difference_of
row40 = ((ltb-true 32768 65536 refl, (refl, refl, refl)), refl)

row41 : Leaves (sources_of (op.Test Word)) 8 (temps 32769 16045690984833335023 32769 16045690984833335023 16045690984833335023)
unfolding sources_of sum_of difference_of
row41 = ((ltb-true 32769 65536 refl, (refl, refl, refl)), refl)

row42 : Leaves (sources_of (op.Test Word)) 8 (temps 65535 16045690984833335023 65535 16045690984833335023 16045690984833335023)
unfolding sources_of sum_of difference_of
row42 = ((ltb-true 65535 65536 refl, (refl, refl, refl)), refl)

row43 : Leaves (sources_of (op.Test Long)) 4 (temps 0 16045690984833335023 0 16045690984833335023 16045690984833335023)
unfolding sources_of sum_of difference_of
row43 = ((ltb-true 0 4294967296 refl, (refl, refl, refl)), refl)

row44 : Leaves (sources_of (op.Test Long)) 0 (temps 1 16045690984833335023 1 16045690984833335023 16045690984833335023)
unfolding sources_of sum_of difference_of
row44 = ((ltb-true 1 4294967296 refl, (refl, refl, refl)), refl)

row45 : Leaves (sources_of (op.Test Long)) 0 (temps 2 16045690984833335023 2 16045690984833335023 16045690984833335023)
unfolding sources_of sum_of difference_of
row45 = ((ltb-true 2 4294967296 refl, (refl, refl, refl)), refl)

row46 : Leaves (sources_of (op.Test Long)) 0 (temps 2147483647 16045690984833335023 2147483647 16045690984833335023 16045690984833335023)
unfolding sources_of sum_of difference_of
row46 = ((ltb-true 2147483647 4294967296 refl, (refl, refl, refl)), refl)

row47 : Leaves (sources_of (op.Test Long)) 8 (temps 2147483648 16045690984833335023 2147483648 16045690984833335023 16045690984833335023)
unfolding sources_of sum_of difference_of
row47 = ((ltb-true 2147483648 4294967296 refl, (refl, refl, refl)), refl)

row48 : Leaves (sources_of (op.Test Long)) 8 (temps 2147483649 16045690984833335023 2147483649 16045690984833335023 16045690984833335023)
unfolding sources_of sum_of difference_of
row48 = ((ltb-true 2147483649 4294967296 refl, (refl, refl, refl)), refl)

row49 : Leaves (sources_of (op.Test Long)) 8 (temps 4294967295 16045690984833335023 4294967295 16045690984833335023 16045690984833335023)
unfolding sources_of sum_of difference_of
row49 = ((ltb-true 4294967295 4294967296 refl, (refl, refl, refl)), refl)

row50 : Leaves (sources_of op.ExtendedMultiply) 4 (temps 0 16045690984833335023 0 16045690984833335023 16045690984833335023)
unfolding sources_of sum_of difference_of
row50 = ((ltb-true 0 18446744073709551616 refl, (refl, refl, refl)), refl)

row51 : Leaves (sources_of op.ExtendedMultiply) 0 (temps 1 16045690984833335023 1 16045690984833335023 16045690984833335023)
unfolding sources_of sum_of difference_of
row51 = ((ltb-true 1 18446744073709551616 refl, (refl, refl, refl)), refl)

row52 : Leaves (sources_of op.ExtendedMultiply) 0 (temps 2 16045690984833335023 2 16045690984833335023 16045690984833335023)
unfolding sources_of sum_of difference_of
row52 = ((ltb-true 2 18446744073709551616 refl, (refl, refl, refl)), refl)

row53 : Leaves (sources_of op.ExtendedMultiply) 0 (temps 9223372036854775807 16045690984833335023 9223372036854775807 16045690984833335023 16045690984833335023)
unfolding sources_of sum_of difference_of
row53 = ((ltb-true 9223372036854775807 18446744073709551616 refl, (refl, refl, refl)), refl)

row54 : Leaves (sources_of op.ExtendedMultiply) 8 (temps 9223372036854775808 16045690984833335023 9223372036854775808 16045690984833335023 16045690984833335023)
unfolding sources_of sum_of difference_of
row54 = ((ltb-true 9223372036854775808 18446744073709551616 refl, (refl, refl, refl)), refl)

row55 : Leaves (sources_of op.ExtendedMultiply) 8 (temps 9223372036854775809 16045690984833335023 9223372036854775809 16045690984833335023 16045690984833335023)
unfolding sources_of sum_of difference_of
row55 = ((ltb-true 9223372036854775809 18446744073709551616 refl, (refl, refl, refl)), refl)

row56 : Leaves (sources_of op.ExtendedMultiply) 8 (temps 18446744073709551615 16045690984833335023 18446744073709551615 16045690984833335023 16045690984833335023)
unfolding sources_of sum_of difference_of
row56 = ((ltb-true 18446744073709551615 18446744073709551616 refl, (refl, refl, refl)), refl)

row57 : Leaves (sources_of (op.TwoOperands Add Byte)) 4 (temps 0 0 0 16045690984833335023 16045690984833335023)
unfolding sources_of sum_of difference_of
row57 = (((ltb-true 0 256 refl, ltb-true 0 256 refl), refl, (refl, refl, refl)), ((ltb-true 0 256 refl, ltb-true 0 256 refl), refl))

row58 : Leaves (sources_of (op.TwoOperands Subtract Byte)) 4 (temps 0 0 0 16045690984833335023 16045690984833335023)
unfolding sources_of sum_of difference_of
row58 = (((ltb-true 0 256 refl, ltb-true 0 256 refl), refl, (refl, refl, refl)), ((ltb-true 0 256 refl, ltb-true 0 256 refl), refl))

row59 : Leaves (sources_of (op.Compare Byte)) 4 (temps 0 0 16045690984833335023 16045690984833335023 16045690984833335023)
unfolding sources_of sum_of difference_of
row59 = (((ltb-true 0 256 refl, ltb-true 0 256 refl), (refl, refl, refl)), ((ltb-true 0 256 refl, ltb-true 0 256 refl), refl))

row60 : Leaves (sources_of (op.TwoOperands Add Byte)) 0 (temps 0 1 1 16045690984833335023 16045690984833335023)
unfolding sources_of sum_of difference_of
row60 = (((ltb-true 0 256 refl, ltb-true 1 256 refl), refl, (refl, refl, refl)), ((ltb-true 0 256 refl, ltb-true 1 256 refl), refl))

row61 : Leaves (sources_of (op.TwoOperands Subtract Byte)) 9 (temps 0 1 255 16045690984833335023 16045690984833335023)
unfolding sources_of sum_of difference_of
row61 = (((ltb-true 0 256 refl, ltb-true 1 256 refl), refl, (refl, refl, refl)), ((ltb-true 0 256 refl, ltb-true 1 256 refl), refl))

row62 : Leaves (sources_of (op.Compare Byte)) 9 (temps 0 1 16045690984833335023 16045690984833335023 16045690984833335023)
unfolding sources_of sum_of difference_of
row62 = (((ltb-true 0 256 refl, ltb-true 1 256 refl), (refl, refl, refl)), ((ltb-true 0 256 refl, ltb-true 1 256 refl), refl))

row63 : Leaves (sources_of (op.TwoOperands Add Byte)) 0 (temps 0 2 2 16045690984833335023 16045690984833335023)
unfolding sources_of sum_of difference_of
row63 = (((ltb-true 0 256 refl, ltb-true 2 256 refl), refl, (refl, refl, refl)), ((ltb-true 0 256 refl, ltb-true 2 256 refl), refl))

row64 : Leaves (sources_of (op.TwoOperands Subtract Byte)) 9 (temps 0 2 254 16045690984833335023 16045690984833335023)
unfolding sources_of sum_of difference_of
row64 = (((ltb-true 0 256 refl, ltb-true 2 256 refl), refl, (refl, refl, refl)), ((ltb-true 0 256 refl, ltb-true 2 256 refl), refl))

row65 : Leaves (sources_of (op.Compare Byte)) 9 (temps 0 2 16045690984833335023 16045690984833335023 16045690984833335023)
unfolding sources_of sum_of difference_of
row65 = (((ltb-true 0 256 refl, ltb-true 2 256 refl), (refl, refl, refl)), ((ltb-true 0 256 refl, ltb-true 2 256 refl), refl))

row66 : Leaves (sources_of (op.TwoOperands Add Byte)) 0 (temps 0 127 127 16045690984833335023 16045690984833335023)
unfolding sources_of sum_of difference_of
row66 = (((ltb-true 0 256 refl, ltb-true 127 256 refl), refl, (refl, refl, refl)), ((ltb-true 0 256 refl, ltb-true 127 256 refl), refl))

row67 : Leaves (sources_of (op.TwoOperands Subtract Byte)) 9 (temps 0 127 129 16045690984833335023 16045690984833335023)
unfolding sources_of sum_of difference_of
row67 = (((ltb-true 0 256 refl, ltb-true 127 256 refl), refl, (refl, refl, refl)), ((ltb-true 0 256 refl, ltb-true 127 256 refl), refl))

row68 : Leaves (sources_of (op.Compare Byte)) 9 (temps 0 127 16045690984833335023 16045690984833335023 16045690984833335023)
unfolding sources_of sum_of difference_of
row68 = (((ltb-true 0 256 refl, ltb-true 127 256 refl), (refl, refl, refl)), ((ltb-true 0 256 refl, ltb-true 127 256 refl), refl))

row69 : Leaves (sources_of (op.TwoOperands Add Byte)) 8 (temps 0 128 128 16045690984833335023 16045690984833335023)
unfolding sources_of sum_of difference_of
row69 = (((ltb-true 0 256 refl, ltb-true 128 256 refl), refl, (refl, refl, refl)), ((ltb-true 0 256 refl, ltb-true 128 256 refl), refl))

row70 : Leaves (sources_of (op.TwoOperands Subtract Byte)) 11 (temps 0 128 128 16045690984833335023 16045690984833335023)
unfolding sources_of sum_of difference_of
row70 = (((ltb-true 0 256 refl, ltb-true 128 256 refl), refl, (refl, refl, refl)), ((ltb-true 0 256 refl, ltb-true 128 256 refl), refl))

row71 : Leaves (sources_of (op.Compare Byte)) 1 (temps 0 128 16045690984833335023 16045690984833335023 16045690984833335023)
unfolding sources_of sum_of difference_of
row71 = (((ltb-true 0 256 refl, ltb-true 128 256 refl), (refl, refl, refl)), ((ltb-true 0 256 refl, ltb-true 128 256 refl), refl))

row72 : Leaves (sources_of (op.TwoOperands Add Byte)) 8 (temps 0 129 129 16045690984833335023 16045690984833335023)
unfolding sources_of sum_of difference_of
row72 = (((ltb-true 0 256 refl, ltb-true 129 256 refl), refl, (refl, refl, refl)), ((ltb-true 0 256 refl, ltb-true 129 256 refl), refl))

row73 : Leaves (sources_of (op.TwoOperands Subtract Byte)) 1 (temps 0 129 127 16045690984833335023 16045690984833335023)
unfolding sources_of sum_of difference_of
row73 = (((ltb-true 0 256 refl, ltb-true 129 256 refl), refl, (refl, refl, refl)), ((ltb-true 0 256 refl, ltb-true 129 256 refl), refl))

row74 : Leaves (sources_of (op.Compare Byte)) 1 (temps 0 129 16045690984833335023 16045690984833335023 16045690984833335023)
unfolding sources_of sum_of difference_of
row74 = (((ltb-true 0 256 refl, ltb-true 129 256 refl), (refl, refl, refl)), ((ltb-true 0 256 refl, ltb-true 129 256 refl), refl))

row75 : Leaves (sources_of (op.TwoOperands Add Byte)) 8 (temps 0 255 255 16045690984833335023 16045690984833335023)
unfolding sources_of sum_of difference_of
row75 = (((ltb-true 0 256 refl, ltb-true 255 256 refl), refl, (refl, refl, refl)), ((ltb-true 0 256 refl, ltb-true 255 256 refl), refl))

row76 : Leaves (sources_of (op.TwoOperands Subtract Byte)) 1 (temps 0 255 1 16045690984833335023 16045690984833335023)
unfolding sources_of sum_of difference_of
row76 = (((ltb-true 0 256 refl, ltb-true 255 256 refl), refl, (refl, refl, refl)), ((ltb-true 0 256 refl, ltb-true 255 256 refl), refl))

row77 : Leaves (sources_of (op.Compare Byte)) 1 (temps 0 255 16045690984833335023 16045690984833335023 16045690984833335023)
unfolding sources_of sum_of difference_of
row77 = (((ltb-true 0 256 refl, ltb-true 255 256 refl), (refl, refl, refl)), ((ltb-true 0 256 refl, ltb-true 255 256 refl), refl))

row78 : Leaves (sources_of (op.TwoOperands Add Byte)) 0 (temps 1 0 1 16045690984833335023 16045690984833335023)
unfolding sources_of sum_of difference_of
row78 = (((ltb-true 1 256 refl, ltb-true 0 256 refl), refl, (refl, refl, refl)), ((ltb-true 1 256 refl, ltb-true 0 256 refl), refl))

row79 : Leaves (sources_of (op.TwoOperands Subtract Byte)) 0 (temps 1 0 1 16045690984833335023 16045690984833335023)
unfolding sources_of sum_of difference_of
row79 = (((ltb-true 1 256 refl, ltb-true 0 256 refl), refl, (refl, refl, refl)), ((ltb-true 1 256 refl, ltb-true 0 256 refl), refl))

row80 : Leaves (sources_of (op.Compare Byte)) 0 (temps 1 0 16045690984833335023 16045690984833335023 16045690984833335023)
unfolding sources_of sum_of difference_of
row80 = (((ltb-true 1 256 refl, ltb-true 0 256 refl), (refl, refl, refl)), ((ltb-true 1 256 refl, ltb-true 0 256 refl), refl))

row81 : Leaves (sources_of (op.TwoOperands Add Byte)) 0 (temps 1 1 2 16045690984833335023 16045690984833335023)
unfolding sources_of sum_of difference_of
row81 = (((ltb-true 1 256 refl, ltb-true 1 256 refl), refl, (refl, refl, refl)), ((ltb-true 1 256 refl, ltb-true 1 256 refl), refl))

row82 : Leaves (sources_of (op.TwoOperands Subtract Byte)) 4 (temps 1 1 0 16045690984833335023 16045690984833335023)
unfolding sources_of sum_of difference_of
row82 = (((ltb-true 1 256 refl, ltb-true 1 256 refl), refl, (refl, refl, refl)), ((ltb-true 1 256 refl, ltb-true 1 256 refl), refl))

row83 : Leaves (sources_of (op.Compare Byte)) 4 (temps 1 1 16045690984833335023 16045690984833335023 16045690984833335023)
unfolding sources_of sum_of difference_of
row83 = (((ltb-true 1 256 refl, ltb-true 1 256 refl), (refl, refl, refl)), ((ltb-true 1 256 refl, ltb-true 1 256 refl), refl))

row84 : Leaves (sources_of (op.TwoOperands Add Byte)) 0 (temps 1 2 3 16045690984833335023 16045690984833335023)
unfolding sources_of sum_of difference_of
row84 = (((ltb-true 1 256 refl, ltb-true 2 256 refl), refl, (refl, refl, refl)), ((ltb-true 1 256 refl, ltb-true 2 256 refl), refl))

row85 : Leaves (sources_of (op.TwoOperands Subtract Byte)) 9 (temps 1 2 255 16045690984833335023 16045690984833335023)
unfolding sources_of sum_of difference_of
row85 = (((ltb-true 1 256 refl, ltb-true 2 256 refl), refl, (refl, refl, refl)), ((ltb-true 1 256 refl, ltb-true 2 256 refl), refl))

row86 : Leaves (sources_of (op.Compare Byte)) 9 (temps 1 2 16045690984833335023 16045690984833335023 16045690984833335023)
unfolding sources_of sum_of difference_of
row86 = (((ltb-true 1 256 refl, ltb-true 2 256 refl), (refl, refl, refl)), ((ltb-true 1 256 refl, ltb-true 2 256 refl), refl))

row87 : Leaves (sources_of (op.TwoOperands Add Byte)) 10 (temps 1 127 128 16045690984833335023 16045690984833335023)
unfolding sources_of sum_of difference_of
row87 = (((ltb-true 1 256 refl, ltb-true 127 256 refl), refl, (refl, refl, refl)), ((ltb-true 1 256 refl, ltb-true 127 256 refl), refl))

row88 : Leaves (sources_of (op.TwoOperands Subtract Byte)) 9 (temps 1 127 130 16045690984833335023 16045690984833335023)
unfolding sources_of sum_of difference_of
row88 = (((ltb-true 1 256 refl, ltb-true 127 256 refl), refl, (refl, refl, refl)), ((ltb-true 1 256 refl, ltb-true 127 256 refl), refl))

row89 : Leaves (sources_of (op.Compare Byte)) 9 (temps 1 127 16045690984833335023 16045690984833335023 16045690984833335023)
unfolding sources_of sum_of difference_of
row89 = (((ltb-true 1 256 refl, ltb-true 127 256 refl), (refl, refl, refl)), ((ltb-true 1 256 refl, ltb-true 127 256 refl), refl))

row90 : Leaves (sources_of (op.TwoOperands Add Byte)) 8 (temps 1 128 129 16045690984833335023 16045690984833335023)
unfolding sources_of sum_of difference_of
row90 = (((ltb-true 1 256 refl, ltb-true 128 256 refl), refl, (refl, refl, refl)), ((ltb-true 1 256 refl, ltb-true 128 256 refl), refl))

row91 : Leaves (sources_of (op.TwoOperands Subtract Byte)) 11 (temps 1 128 129 16045690984833335023 16045690984833335023)
unfolding sources_of sum_of difference_of
row91 = (((ltb-true 1 256 refl, ltb-true 128 256 refl), refl, (refl, refl, refl)), ((ltb-true 1 256 refl, ltb-true 128 256 refl), refl))

row92 : Leaves (sources_of (op.Compare Byte)) 1 (temps 1 128 16045690984833335023 16045690984833335023 16045690984833335023)
unfolding sources_of sum_of difference_of
row92 = (((ltb-true 1 256 refl, ltb-true 128 256 refl), (refl, refl, refl)), ((ltb-true 1 256 refl, ltb-true 128 256 refl), refl))

row93 : Leaves (sources_of (op.TwoOperands Add Byte)) 8 (temps 1 129 130 16045690984833335023 16045690984833335023)
unfolding sources_of sum_of difference_of
row93 = (((ltb-true 1 256 refl, ltb-true 129 256 refl), refl, (refl, refl, refl)), ((ltb-true 1 256 refl, ltb-true 129 256 refl), refl))

row94 : Leaves (sources_of (op.TwoOperands Subtract Byte)) 11 (temps 1 129 128 16045690984833335023 16045690984833335023)
unfolding sources_of sum_of difference_of
row94 = (((ltb-true 1 256 refl, ltb-true 129 256 refl), refl, (refl, refl, refl)), ((ltb-true 1 256 refl, ltb-true 129 256 refl), refl))

row95 : Leaves (sources_of (op.Compare Byte)) 1 (temps 1 129 16045690984833335023 16045690984833335023 16045690984833335023)
unfolding sources_of sum_of difference_of
row95 = (((ltb-true 1 256 refl, ltb-true 129 256 refl), (refl, refl, refl)), ((ltb-true 1 256 refl, ltb-true 129 256 refl), refl))

row96 : Leaves (sources_of (op.TwoOperands Add Byte)) 5 (temps 1 255 0 16045690984833335023 16045690984833335023)
unfolding sources_of sum_of difference_of
row96 = (((ltb-true 1 256 refl, ltb-true 255 256 refl), refl, (refl, refl, refl)), ((ltb-true 1 256 refl, ltb-true 255 256 refl), refl))

row97 : Leaves (sources_of (op.TwoOperands Subtract Byte)) 1 (temps 1 255 2 16045690984833335023 16045690984833335023)
unfolding sources_of sum_of difference_of
row97 = (((ltb-true 1 256 refl, ltb-true 255 256 refl), refl, (refl, refl, refl)), ((ltb-true 1 256 refl, ltb-true 255 256 refl), refl))

row98 : Leaves (sources_of (op.Compare Byte)) 1 (temps 1 255 16045690984833335023 16045690984833335023 16045690984833335023)
unfolding sources_of sum_of difference_of
row98 = (((ltb-true 1 256 refl, ltb-true 255 256 refl), (refl, refl, refl)), ((ltb-true 1 256 refl, ltb-true 255 256 refl), refl))

row99 : Leaves (sources_of (op.TwoOperands Add Byte)) 0 (temps 2 0 2 16045690984833335023 16045690984833335023)
unfolding sources_of sum_of difference_of
row99 = (((ltb-true 2 256 refl, ltb-true 0 256 refl), refl, (refl, refl, refl)), ((ltb-true 2 256 refl, ltb-true 0 256 refl), refl))

row100 : Leaves (sources_of (op.TwoOperands Subtract Byte)) 0 (temps 2 0 2 16045690984833335023 16045690984833335023)
unfolding sources_of sum_of difference_of
row100 = (((ltb-true 2 256 refl, ltb-true 0 256 refl), refl, (refl, refl, refl)), ((ltb-true 2 256 refl, ltb-true 0 256 refl), refl))

row101 : Leaves (sources_of (op.Compare Byte)) 0 (temps 2 0 16045690984833335023 16045690984833335023 16045690984833335023)
unfolding sources_of sum_of difference_of
row101 = (((ltb-true 2 256 refl, ltb-true 0 256 refl), (refl, refl, refl)), ((ltb-true 2 256 refl, ltb-true 0 256 refl), refl))

row102 : Leaves (sources_of (op.TwoOperands Add Byte)) 0 (temps 2 1 3 16045690984833335023 16045690984833335023)
unfolding sources_of sum_of difference_of
row102 = (((ltb-true 2 256 refl, ltb-true 1 256 refl), refl, (refl, refl, refl)), ((ltb-true 2 256 refl, ltb-true 1 256 refl), refl))

row103 : Leaves (sources_of (op.TwoOperands Subtract Byte)) 0 (temps 2 1 1 16045690984833335023 16045690984833335023)
unfolding sources_of sum_of difference_of
row103 = (((ltb-true 2 256 refl, ltb-true 1 256 refl), refl, (refl, refl, refl)), ((ltb-true 2 256 refl, ltb-true 1 256 refl), refl))

row104 : Leaves (sources_of (op.Compare Byte)) 0 (temps 2 1 16045690984833335023 16045690984833335023 16045690984833335023)
unfolding sources_of sum_of difference_of
row104 = (((ltb-true 2 256 refl, ltb-true 1 256 refl), (refl, refl, refl)), ((ltb-true 2 256 refl, ltb-true 1 256 refl), refl))

row105 : Leaves (sources_of (op.TwoOperands Add Byte)) 0 (temps 2 2 4 16045690984833335023 16045690984833335023)
unfolding sources_of sum_of difference_of
row105 = (((ltb-true 2 256 refl, ltb-true 2 256 refl), refl, (refl, refl, refl)), ((ltb-true 2 256 refl, ltb-true 2 256 refl), refl))

row106 : Leaves (sources_of (op.TwoOperands Subtract Byte)) 4 (temps 2 2 0 16045690984833335023 16045690984833335023)
unfolding sources_of sum_of difference_of
row106 = (((ltb-true 2 256 refl, ltb-true 2 256 refl), refl, (refl, refl, refl)), ((ltb-true 2 256 refl, ltb-true 2 256 refl), refl))

row107 : Leaves (sources_of (op.Compare Byte)) 4 (temps 2 2 16045690984833335023 16045690984833335023 16045690984833335023)
unfolding sources_of sum_of difference_of
row107 = (((ltb-true 2 256 refl, ltb-true 2 256 refl), (refl, refl, refl)), ((ltb-true 2 256 refl, ltb-true 2 256 refl), refl))

row108 : Leaves (sources_of (op.TwoOperands Add Byte)) 10 (temps 2 127 129 16045690984833335023 16045690984833335023)
unfolding sources_of sum_of difference_of
row108 = (((ltb-true 2 256 refl, ltb-true 127 256 refl), refl, (refl, refl, refl)), ((ltb-true 2 256 refl, ltb-true 127 256 refl), refl))

row109 : Leaves (sources_of (op.TwoOperands Subtract Byte)) 9 (temps 2 127 131 16045690984833335023 16045690984833335023)
unfolding sources_of sum_of difference_of
row109 = (((ltb-true 2 256 refl, ltb-true 127 256 refl), refl, (refl, refl, refl)), ((ltb-true 2 256 refl, ltb-true 127 256 refl), refl))

row110 : Leaves (sources_of (op.Compare Byte)) 9 (temps 2 127 16045690984833335023 16045690984833335023 16045690984833335023)
unfolding sources_of sum_of difference_of
row110 = (((ltb-true 2 256 refl, ltb-true 127 256 refl), (refl, refl, refl)), ((ltb-true 2 256 refl, ltb-true 127 256 refl), refl))

row111 : Leaves (sources_of (op.TwoOperands Add Byte)) 8 (temps 2 128 130 16045690984833335023 16045690984833335023)
unfolding sources_of sum_of difference_of
row111 = (((ltb-true 2 256 refl, ltb-true 128 256 refl), refl, (refl, refl, refl)), ((ltb-true 2 256 refl, ltb-true 128 256 refl), refl))

row112 : Leaves (sources_of (op.TwoOperands Subtract Byte)) 11 (temps 2 128 130 16045690984833335023 16045690984833335023)
unfolding sources_of sum_of difference_of
row112 = (((ltb-true 2 256 refl, ltb-true 128 256 refl), refl, (refl, refl, refl)), ((ltb-true 2 256 refl, ltb-true 128 256 refl), refl))

row113 : Leaves (sources_of (op.Compare Byte)) 1 (temps 2 128 16045690984833335023 16045690984833335023 16045690984833335023)
unfolding sources_of sum_of difference_of
row113 = (((ltb-true 2 256 refl, ltb-true 128 256 refl), (refl, refl, refl)), ((ltb-true 2 256 refl, ltb-true 128 256 refl), refl))

row114 : Leaves (sources_of (op.TwoOperands Add Byte)) 8 (temps 2 129 131 16045690984833335023 16045690984833335023)
unfolding sources_of sum_of difference_of
row114 = (((ltb-true 2 256 refl, ltb-true 129 256 refl), refl, (refl, refl, refl)), ((ltb-true 2 256 refl, ltb-true 129 256 refl), refl))

row115 : Leaves (sources_of (op.TwoOperands Subtract Byte)) 11 (temps 2 129 129 16045690984833335023 16045690984833335023)
unfolding sources_of sum_of difference_of
row115 = (((ltb-true 2 256 refl, ltb-true 129 256 refl), refl, (refl, refl, refl)), ((ltb-true 2 256 refl, ltb-true 129 256 refl), refl))

row116 : Leaves (sources_of (op.Compare Byte)) 1 (temps 2 129 16045690984833335023 16045690984833335023 16045690984833335023)
unfolding sources_of sum_of difference_of
row116 = (((ltb-true 2 256 refl, ltb-true 129 256 refl), (refl, refl, refl)), ((ltb-true 2 256 refl, ltb-true 129 256 refl), refl))

row117 : Leaves (sources_of (op.TwoOperands Add Byte)) 1 (temps 2 255 1 16045690984833335023 16045690984833335023)
unfolding sources_of sum_of difference_of
row117 = (((ltb-true 2 256 refl, ltb-true 255 256 refl), refl, (refl, refl, refl)), ((ltb-true 2 256 refl, ltb-true 255 256 refl), refl))

row118 : Leaves (sources_of (op.TwoOperands Subtract Byte)) 1 (temps 2 255 3 16045690984833335023 16045690984833335023)
unfolding sources_of sum_of difference_of
row118 = (((ltb-true 2 256 refl, ltb-true 255 256 refl), refl, (refl, refl, refl)), ((ltb-true 2 256 refl, ltb-true 255 256 refl), refl))

row119 : Leaves (sources_of (op.Compare Byte)) 1 (temps 2 255 16045690984833335023 16045690984833335023 16045690984833335023)
unfolding sources_of sum_of difference_of
row119 = (((ltb-true 2 256 refl, ltb-true 255 256 refl), (refl, refl, refl)), ((ltb-true 2 256 refl, ltb-true 255 256 refl), refl))

row120 : Leaves (sources_of (op.TwoOperands Add Byte)) 0 (temps 127 0 127 16045690984833335023 16045690984833335023)
unfolding sources_of sum_of difference_of
row120 = (((ltb-true 127 256 refl, ltb-true 0 256 refl), refl, (refl, refl, refl)), ((ltb-true 127 256 refl, ltb-true 0 256 refl), refl))

row121 : Leaves (sources_of (op.TwoOperands Subtract Byte)) 0 (temps 127 0 127 16045690984833335023 16045690984833335023)
unfolding sources_of sum_of difference_of
row121 = (((ltb-true 127 256 refl, ltb-true 0 256 refl), refl, (refl, refl, refl)), ((ltb-true 127 256 refl, ltb-true 0 256 refl), refl))

row122 : Leaves (sources_of (op.Compare Byte)) 0 (temps 127 0 16045690984833335023 16045690984833335023 16045690984833335023)
unfolding sources_of sum_of difference_of
row122 = (((ltb-true 127 256 refl, ltb-true 0 256 refl), (refl, refl, refl)), ((ltb-true 127 256 refl, ltb-true 0 256 refl), refl))

row123 : Leaves (sources_of (op.TwoOperands Add Byte)) 10 (temps 127 1 128 16045690984833335023 16045690984833335023)
unfolding sources_of sum_of difference_of
row123 = (((ltb-true 127 256 refl, ltb-true 1 256 refl), refl, (refl, refl, refl)), ((ltb-true 127 256 refl, ltb-true 1 256 refl), refl))

row124 : Leaves (sources_of (op.TwoOperands Subtract Byte)) 0 (temps 127 1 126 16045690984833335023 16045690984833335023)
unfolding sources_of sum_of difference_of
row124 = (((ltb-true 127 256 refl, ltb-true 1 256 refl), refl, (refl, refl, refl)), ((ltb-true 127 256 refl, ltb-true 1 256 refl), refl))

row125 : Leaves (sources_of (op.Compare Byte)) 0 (temps 127 1 16045690984833335023 16045690984833335023 16045690984833335023)
unfolding sources_of sum_of difference_of
row125 = (((ltb-true 127 256 refl, ltb-true 1 256 refl), (refl, refl, refl)), ((ltb-true 127 256 refl, ltb-true 1 256 refl), refl))

row126 : Leaves (sources_of (op.TwoOperands Add Byte)) 10 (temps 127 2 129 16045690984833335023 16045690984833335023)
unfolding sources_of sum_of difference_of
row126 = (((ltb-true 127 256 refl, ltb-true 2 256 refl), refl, (refl, refl, refl)), ((ltb-true 127 256 refl, ltb-true 2 256 refl), refl))

row127 : Leaves (sources_of (op.TwoOperands Subtract Byte)) 0 (temps 127 2 125 16045690984833335023 16045690984833335023)
unfolding sources_of sum_of difference_of
row127 = (((ltb-true 127 256 refl, ltb-true 2 256 refl), refl, (refl, refl, refl)), ((ltb-true 127 256 refl, ltb-true 2 256 refl), refl))

row128 : Leaves (sources_of (op.Compare Byte)) 0 (temps 127 2 16045690984833335023 16045690984833335023 16045690984833335023)
unfolding sources_of sum_of difference_of
row128 = (((ltb-true 127 256 refl, ltb-true 2 256 refl), (refl, refl, refl)), ((ltb-true 127 256 refl, ltb-true 2 256 refl), refl))

row129 : Leaves (sources_of (op.TwoOperands Add Byte)) 10 (temps 127 127 254 16045690984833335023 16045690984833335023)
unfolding sources_of sum_of difference_of
row129 = (((ltb-true 127 256 refl, ltb-true 127 256 refl), refl, (refl, refl, refl)), ((ltb-true 127 256 refl, ltb-true 127 256 refl), refl))

row130 : Leaves (sources_of (op.TwoOperands Subtract Byte)) 4 (temps 127 127 0 16045690984833335023 16045690984833335023)
unfolding sources_of sum_of difference_of
row130 = (((ltb-true 127 256 refl, ltb-true 127 256 refl), refl, (refl, refl, refl)), ((ltb-true 127 256 refl, ltb-true 127 256 refl), refl))

row131 : Leaves (sources_of (op.Compare Byte)) 4 (temps 127 127 16045690984833335023 16045690984833335023 16045690984833335023)
unfolding sources_of sum_of difference_of
row131 = (((ltb-true 127 256 refl, ltb-true 127 256 refl), (refl, refl, refl)), ((ltb-true 127 256 refl, ltb-true 127 256 refl), refl))

row132 : Leaves (sources_of (op.TwoOperands Add Byte)) 8 (temps 127 128 255 16045690984833335023 16045690984833335023)
unfolding sources_of sum_of difference_of
row132 = (((ltb-true 127 256 refl, ltb-true 128 256 refl), refl, (refl, refl, refl)), ((ltb-true 127 256 refl, ltb-true 128 256 refl), refl))

row133 : Leaves (sources_of (op.TwoOperands Subtract Byte)) 11 (temps 127 128 255 16045690984833335023 16045690984833335023)
unfolding sources_of sum_of difference_of
row133 = (((ltb-true 127 256 refl, ltb-true 128 256 refl), refl, (refl, refl, refl)), ((ltb-true 127 256 refl, ltb-true 128 256 refl), refl))

row134 : Leaves (sources_of (op.Compare Byte)) 1 (temps 127 128 16045690984833335023 16045690984833335023 16045690984833335023)
unfolding sources_of sum_of difference_of
row134 = (((ltb-true 127 256 refl, ltb-true 128 256 refl), (refl, refl, refl)), ((ltb-true 127 256 refl, ltb-true 128 256 refl), refl))

row135 : Leaves (sources_of (op.TwoOperands Add Byte)) 5 (temps 127 129 0 16045690984833335023 16045690984833335023)
unfolding sources_of sum_of difference_of
row135 = (((ltb-true 127 256 refl, ltb-true 129 256 refl), refl, (refl, refl, refl)), ((ltb-true 127 256 refl, ltb-true 129 256 refl), refl))

row136 : Leaves (sources_of (op.TwoOperands Subtract Byte)) 11 (temps 127 129 254 16045690984833335023 16045690984833335023)
unfolding sources_of sum_of difference_of
row136 = (((ltb-true 127 256 refl, ltb-true 129 256 refl), refl, (refl, refl, refl)), ((ltb-true 127 256 refl, ltb-true 129 256 refl), refl))

row137 : Leaves (sources_of (op.Compare Byte)) 1 (temps 127 129 16045690984833335023 16045690984833335023 16045690984833335023)
unfolding sources_of sum_of difference_of
row137 = (((ltb-true 127 256 refl, ltb-true 129 256 refl), (refl, refl, refl)), ((ltb-true 127 256 refl, ltb-true 129 256 refl), refl))

row138 : Leaves (sources_of (op.TwoOperands Add Byte)) 1 (temps 127 255 126 16045690984833335023 16045690984833335023)
unfolding sources_of sum_of difference_of
row138 = (((ltb-true 127 256 refl, ltb-true 255 256 refl), refl, (refl, refl, refl)), ((ltb-true 127 256 refl, ltb-true 255 256 refl), refl))

row139 : Leaves (sources_of (op.TwoOperands Subtract Byte)) 11 (temps 127 255 128 16045690984833335023 16045690984833335023)
unfolding sources_of sum_of difference_of
row139 = (((ltb-true 127 256 refl, ltb-true 255 256 refl), refl, (refl, refl, refl)), ((ltb-true 127 256 refl, ltb-true 255 256 refl), refl))

row140 : Leaves (sources_of (op.Compare Byte)) 1 (temps 127 255 16045690984833335023 16045690984833335023 16045690984833335023)
unfolding sources_of sum_of difference_of
row140 = (((ltb-true 127 256 refl, ltb-true 255 256 refl), (refl, refl, refl)), ((ltb-true 127 256 refl, ltb-true 255 256 refl), refl))

row141 : Leaves (sources_of (op.TwoOperands Add Byte)) 8 (temps 128 0 128 16045690984833335023 16045690984833335023)
unfolding sources_of sum_of difference_of
row141 = (((ltb-true 128 256 refl, ltb-true 0 256 refl), refl, (refl, refl, refl)), ((ltb-true 128 256 refl, ltb-true 0 256 refl), refl))

row142 : Leaves (sources_of (op.TwoOperands Subtract Byte)) 8 (temps 128 0 128 16045690984833335023 16045690984833335023)
unfolding sources_of sum_of difference_of
row142 = (((ltb-true 128 256 refl, ltb-true 0 256 refl), refl, (refl, refl, refl)), ((ltb-true 128 256 refl, ltb-true 0 256 refl), refl))

row143 : Leaves (sources_of (op.Compare Byte)) 8 (temps 128 0 16045690984833335023 16045690984833335023 16045690984833335023)
unfolding sources_of sum_of difference_of
row143 = (((ltb-true 128 256 refl, ltb-true 0 256 refl), (refl, refl, refl)), ((ltb-true 128 256 refl, ltb-true 0 256 refl), refl))

row144 : Leaves (sources_of (op.TwoOperands Add Byte)) 8 (temps 128 1 129 16045690984833335023 16045690984833335023)
unfolding sources_of sum_of difference_of
row144 = (((ltb-true 128 256 refl, ltb-true 1 256 refl), refl, (refl, refl, refl)), ((ltb-true 128 256 refl, ltb-true 1 256 refl), refl))

row145 : Leaves (sources_of (op.TwoOperands Subtract Byte)) 2 (temps 128 1 127 16045690984833335023 16045690984833335023)
unfolding sources_of sum_of difference_of
row145 = (((ltb-true 128 256 refl, ltb-true 1 256 refl), refl, (refl, refl, refl)), ((ltb-true 128 256 refl, ltb-true 1 256 refl), refl))

row146 : Leaves (sources_of (op.Compare Byte)) 8 (temps 128 1 16045690984833335023 16045690984833335023 16045690984833335023)
unfolding sources_of sum_of difference_of
row146 = (((ltb-true 128 256 refl, ltb-true 1 256 refl), (refl, refl, refl)), ((ltb-true 128 256 refl, ltb-true 1 256 refl), refl))

row147 : Leaves (sources_of (op.TwoOperands Add Byte)) 8 (temps 128 2 130 16045690984833335023 16045690984833335023)
unfolding sources_of sum_of difference_of
row147 = (((ltb-true 128 256 refl, ltb-true 2 256 refl), refl, (refl, refl, refl)), ((ltb-true 128 256 refl, ltb-true 2 256 refl), refl))

row148 : Leaves (sources_of (op.TwoOperands Subtract Byte)) 2 (temps 128 2 126 16045690984833335023 16045690984833335023)
unfolding sources_of sum_of difference_of
row148 = (((ltb-true 128 256 refl, ltb-true 2 256 refl), refl, (refl, refl, refl)), ((ltb-true 128 256 refl, ltb-true 2 256 refl), refl))

row149 : Leaves (sources_of (op.Compare Byte)) 8 (temps 128 2 16045690984833335023 16045690984833335023 16045690984833335023)
unfolding sources_of sum_of difference_of
row149 = (((ltb-true 128 256 refl, ltb-true 2 256 refl), (refl, refl, refl)), ((ltb-true 128 256 refl, ltb-true 2 256 refl), refl))

row150 : Leaves (sources_of (op.TwoOperands Add Byte)) 8 (temps 128 127 255 16045690984833335023 16045690984833335023)
unfolding sources_of sum_of difference_of
row150 = (((ltb-true 128 256 refl, ltb-true 127 256 refl), refl, (refl, refl, refl)), ((ltb-true 128 256 refl, ltb-true 127 256 refl), refl))

row151 : Leaves (sources_of (op.TwoOperands Subtract Byte)) 2 (temps 128 127 1 16045690984833335023 16045690984833335023)
unfolding sources_of sum_of difference_of
row151 = (((ltb-true 128 256 refl, ltb-true 127 256 refl), refl, (refl, refl, refl)), ((ltb-true 128 256 refl, ltb-true 127 256 refl), refl))

row152 : Leaves (sources_of (op.Compare Byte)) 8 (temps 128 127 16045690984833335023 16045690984833335023 16045690984833335023)
unfolding sources_of sum_of difference_of
row152 = (((ltb-true 128 256 refl, ltb-true 127 256 refl), (refl, refl, refl)), ((ltb-true 128 256 refl, ltb-true 127 256 refl), refl))

row153 : Leaves (sources_of (op.TwoOperands Add Byte)) 7 (temps 128 128 0 16045690984833335023 16045690984833335023)
unfolding sources_of sum_of difference_of
row153 = (((ltb-true 128 256 refl, ltb-true 128 256 refl), refl, (refl, refl, refl)), ((ltb-true 128 256 refl, ltb-true 128 256 refl), refl))

row154 : Leaves (sources_of (op.TwoOperands Subtract Byte)) 4 (temps 128 128 0 16045690984833335023 16045690984833335023)
unfolding sources_of sum_of difference_of
row154 = (((ltb-true 128 256 refl, ltb-true 128 256 refl), refl, (refl, refl, refl)), ((ltb-true 128 256 refl, ltb-true 128 256 refl), refl))

row155 : Leaves (sources_of (op.Compare Byte)) 4 (temps 128 128 16045690984833335023 16045690984833335023 16045690984833335023)
unfolding sources_of sum_of difference_of
row155 = (((ltb-true 128 256 refl, ltb-true 128 256 refl), (refl, refl, refl)), ((ltb-true 128 256 refl, ltb-true 128 256 refl), refl))

row156 : Leaves (sources_of (op.TwoOperands Add Byte)) 3 (temps 128 129 1 16045690984833335023 16045690984833335023)
unfolding sources_of sum_of difference_of
row156 = (((ltb-true 128 256 refl, ltb-true 129 256 refl), refl, (refl, refl, refl)), ((ltb-true 128 256 refl, ltb-true 129 256 refl), refl))

row157 : Leaves (sources_of (op.TwoOperands Subtract Byte)) 9 (temps 128 129 255 16045690984833335023 16045690984833335023)
unfolding sources_of sum_of difference_of
row157 = (((ltb-true 128 256 refl, ltb-true 129 256 refl), refl, (refl, refl, refl)), ((ltb-true 128 256 refl, ltb-true 129 256 refl), refl))

row158 : Leaves (sources_of (op.Compare Byte)) 9 (temps 128 129 16045690984833335023 16045690984833335023 16045690984833335023)
unfolding sources_of sum_of difference_of
row158 = (((ltb-true 128 256 refl, ltb-true 129 256 refl), (refl, refl, refl)), ((ltb-true 128 256 refl, ltb-true 129 256 refl), refl))

row159 : Leaves (sources_of (op.TwoOperands Add Byte)) 3 (temps 128 255 127 16045690984833335023 16045690984833335023)
unfolding sources_of sum_of difference_of
row159 = (((ltb-true 128 256 refl, ltb-true 255 256 refl), refl, (refl, refl, refl)), ((ltb-true 128 256 refl, ltb-true 255 256 refl), refl))

row160 : Leaves (sources_of (op.TwoOperands Subtract Byte)) 9 (temps 128 255 129 16045690984833335023 16045690984833335023)
unfolding sources_of sum_of difference_of
row160 = (((ltb-true 128 256 refl, ltb-true 255 256 refl), refl, (refl, refl, refl)), ((ltb-true 128 256 refl, ltb-true 255 256 refl), refl))

row161 : Leaves (sources_of (op.Compare Byte)) 9 (temps 128 255 16045690984833335023 16045690984833335023 16045690984833335023)
unfolding sources_of sum_of difference_of
row161 = (((ltb-true 128 256 refl, ltb-true 255 256 refl), (refl, refl, refl)), ((ltb-true 128 256 refl, ltb-true 255 256 refl), refl))

row162 : Leaves (sources_of (op.TwoOperands Add Byte)) 8 (temps 129 0 129 16045690984833335023 16045690984833335023)
unfolding sources_of sum_of difference_of
row162 = (((ltb-true 129 256 refl, ltb-true 0 256 refl), refl, (refl, refl, refl)), ((ltb-true 129 256 refl, ltb-true 0 256 refl), refl))

row163 : Leaves (sources_of (op.TwoOperands Subtract Byte)) 8 (temps 129 0 129 16045690984833335023 16045690984833335023)
unfolding sources_of sum_of difference_of
row163 = (((ltb-true 129 256 refl, ltb-true 0 256 refl), refl, (refl, refl, refl)), ((ltb-true 129 256 refl, ltb-true 0 256 refl), refl))

row164 : Leaves (sources_of (op.Compare Byte)) 8 (temps 129 0 16045690984833335023 16045690984833335023 16045690984833335023)
unfolding sources_of sum_of difference_of
row164 = (((ltb-true 129 256 refl, ltb-true 0 256 refl), (refl, refl, refl)), ((ltb-true 129 256 refl, ltb-true 0 256 refl), refl))

row165 : Leaves (sources_of (op.TwoOperands Add Byte)) 8 (temps 129 1 130 16045690984833335023 16045690984833335023)
unfolding sources_of sum_of difference_of
row165 = (((ltb-true 129 256 refl, ltb-true 1 256 refl), refl, (refl, refl, refl)), ((ltb-true 129 256 refl, ltb-true 1 256 refl), refl))

row166 : Leaves (sources_of (op.TwoOperands Subtract Byte)) 8 (temps 129 1 128 16045690984833335023 16045690984833335023)
unfolding sources_of sum_of difference_of
row166 = (((ltb-true 129 256 refl, ltb-true 1 256 refl), refl, (refl, refl, refl)), ((ltb-true 129 256 refl, ltb-true 1 256 refl), refl))

row167 : Leaves (sources_of (op.Compare Byte)) 8 (temps 129 1 16045690984833335023 16045690984833335023 16045690984833335023)
unfolding sources_of sum_of difference_of
row167 = (((ltb-true 129 256 refl, ltb-true 1 256 refl), (refl, refl, refl)), ((ltb-true 129 256 refl, ltb-true 1 256 refl), refl))

row168 : Leaves (sources_of (op.TwoOperands Add Byte)) 8 (temps 129 2 131 16045690984833335023 16045690984833335023)
unfolding sources_of sum_of difference_of
row168 = (((ltb-true 129 256 refl, ltb-true 2 256 refl), refl, (refl, refl, refl)), ((ltb-true 129 256 refl, ltb-true 2 256 refl), refl))

row169 : Leaves (sources_of (op.TwoOperands Subtract Byte)) 2 (temps 129 2 127 16045690984833335023 16045690984833335023)
unfolding sources_of sum_of difference_of
row169 = (((ltb-true 129 256 refl, ltb-true 2 256 refl), refl, (refl, refl, refl)), ((ltb-true 129 256 refl, ltb-true 2 256 refl), refl))

row170 : Leaves (sources_of (op.Compare Byte)) 8 (temps 129 2 16045690984833335023 16045690984833335023 16045690984833335023)
unfolding sources_of sum_of difference_of
row170 = (((ltb-true 129 256 refl, ltb-true 2 256 refl), (refl, refl, refl)), ((ltb-true 129 256 refl, ltb-true 2 256 refl), refl))

row171 : Leaves (sources_of (op.TwoOperands Add Byte)) 5 (temps 129 127 0 16045690984833335023 16045690984833335023)
unfolding sources_of sum_of difference_of
row171 = (((ltb-true 129 256 refl, ltb-true 127 256 refl), refl, (refl, refl, refl)), ((ltb-true 129 256 refl, ltb-true 127 256 refl), refl))

row172 : Leaves (sources_of (op.TwoOperands Subtract Byte)) 2 (temps 129 127 2 16045690984833335023 16045690984833335023)
unfolding sources_of sum_of difference_of
row172 = (((ltb-true 129 256 refl, ltb-true 127 256 refl), refl, (refl, refl, refl)), ((ltb-true 129 256 refl, ltb-true 127 256 refl), refl))

row173 : Leaves (sources_of (op.Compare Byte)) 8 (temps 129 127 16045690984833335023 16045690984833335023 16045690984833335023)
unfolding sources_of sum_of difference_of
row173 = (((ltb-true 129 256 refl, ltb-true 127 256 refl), (refl, refl, refl)), ((ltb-true 129 256 refl, ltb-true 127 256 refl), refl))

row174 : Leaves (sources_of (op.TwoOperands Add Byte)) 3 (temps 129 128 1 16045690984833335023 16045690984833335023)
unfolding sources_of sum_of difference_of
row174 = (((ltb-true 129 256 refl, ltb-true 128 256 refl), refl, (refl, refl, refl)), ((ltb-true 129 256 refl, ltb-true 128 256 refl), refl))

row175 : Leaves (sources_of (op.TwoOperands Subtract Byte)) 0 (temps 129 128 1 16045690984833335023 16045690984833335023)
unfolding sources_of sum_of difference_of
row175 = (((ltb-true 129 256 refl, ltb-true 128 256 refl), refl, (refl, refl, refl)), ((ltb-true 129 256 refl, ltb-true 128 256 refl), refl))

row176 : Leaves (sources_of (op.Compare Byte)) 0 (temps 129 128 16045690984833335023 16045690984833335023 16045690984833335023)
unfolding sources_of sum_of difference_of
row176 = (((ltb-true 129 256 refl, ltb-true 128 256 refl), (refl, refl, refl)), ((ltb-true 129 256 refl, ltb-true 128 256 refl), refl))

row177 : Leaves (sources_of (op.TwoOperands Add Byte)) 3 (temps 129 129 2 16045690984833335023 16045690984833335023)
unfolding sources_of sum_of difference_of
row177 = (((ltb-true 129 256 refl, ltb-true 129 256 refl), refl, (refl, refl, refl)), ((ltb-true 129 256 refl, ltb-true 129 256 refl), refl))

row178 : Leaves (sources_of (op.TwoOperands Subtract Byte)) 4 (temps 129 129 0 16045690984833335023 16045690984833335023)
unfolding sources_of sum_of difference_of
row178 = (((ltb-true 129 256 refl, ltb-true 129 256 refl), refl, (refl, refl, refl)), ((ltb-true 129 256 refl, ltb-true 129 256 refl), refl))

row179 : Leaves (sources_of (op.Compare Byte)) 4 (temps 129 129 16045690984833335023 16045690984833335023 16045690984833335023)
unfolding sources_of sum_of difference_of
row179 = (((ltb-true 129 256 refl, ltb-true 129 256 refl), (refl, refl, refl)), ((ltb-true 129 256 refl, ltb-true 129 256 refl), refl))

row180 : Leaves (sources_of (op.TwoOperands Add Byte)) 9 (temps 129 255 128 16045690984833335023 16045690984833335023)
unfolding sources_of sum_of difference_of
row180 = (((ltb-true 129 256 refl, ltb-true 255 256 refl), refl, (refl, refl, refl)), ((ltb-true 129 256 refl, ltb-true 255 256 refl), refl))

row181 : Leaves (sources_of (op.TwoOperands Subtract Byte)) 9 (temps 129 255 130 16045690984833335023 16045690984833335023)
unfolding sources_of sum_of difference_of
row181 = (((ltb-true 129 256 refl, ltb-true 255 256 refl), refl, (refl, refl, refl)), ((ltb-true 129 256 refl, ltb-true 255 256 refl), refl))

row182 : Leaves (sources_of (op.Compare Byte)) 9 (temps 129 255 16045690984833335023 16045690984833335023 16045690984833335023)
unfolding sources_of sum_of difference_of
row182 = (((ltb-true 129 256 refl, ltb-true 255 256 refl), (refl, refl, refl)), ((ltb-true 129 256 refl, ltb-true 255 256 refl), refl))

row183 : Leaves (sources_of (op.TwoOperands Add Byte)) 8 (temps 255 0 255 16045690984833335023 16045690984833335023)
unfolding sources_of sum_of difference_of
row183 = (((ltb-true 255 256 refl, ltb-true 0 256 refl), refl, (refl, refl, refl)), ((ltb-true 255 256 refl, ltb-true 0 256 refl), refl))

row184 : Leaves (sources_of (op.TwoOperands Subtract Byte)) 8 (temps 255 0 255 16045690984833335023 16045690984833335023)
unfolding sources_of sum_of difference_of
row184 = (((ltb-true 255 256 refl, ltb-true 0 256 refl), refl, (refl, refl, refl)), ((ltb-true 255 256 refl, ltb-true 0 256 refl), refl))

row185 : Leaves (sources_of (op.Compare Byte)) 8 (temps 255 0 16045690984833335023 16045690984833335023 16045690984833335023)
unfolding sources_of sum_of difference_of
row185 = (((ltb-true 255 256 refl, ltb-true 0 256 refl), (refl, refl, refl)), ((ltb-true 255 256 refl, ltb-true 0 256 refl), refl))

row186 : Leaves (sources_of (op.TwoOperands Add Byte)) 5 (temps 255 1 0 16045690984833335023 16045690984833335023)
unfolding sources_of sum_of difference_of
row186 = (((ltb-true 255 256 refl, ltb-true 1 256 refl), refl, (refl, refl, refl)), ((ltb-true 255 256 refl, ltb-true 1 256 refl), refl))

row187 : Leaves (sources_of (op.TwoOperands Subtract Byte)) 8 (temps 255 1 254 16045690984833335023 16045690984833335023)
unfolding sources_of sum_of difference_of
row187 = (((ltb-true 255 256 refl, ltb-true 1 256 refl), refl, (refl, refl, refl)), ((ltb-true 255 256 refl, ltb-true 1 256 refl), refl))

row188 : Leaves (sources_of (op.Compare Byte)) 8 (temps 255 1 16045690984833335023 16045690984833335023 16045690984833335023)
unfolding sources_of sum_of difference_of
row188 = (((ltb-true 255 256 refl, ltb-true 1 256 refl), (refl, refl, refl)), ((ltb-true 255 256 refl, ltb-true 1 256 refl), refl))

row189 : Leaves (sources_of (op.TwoOperands Add Byte)) 1 (temps 255 2 1 16045690984833335023 16045690984833335023)
unfolding sources_of sum_of difference_of
row189 = (((ltb-true 255 256 refl, ltb-true 2 256 refl), refl, (refl, refl, refl)), ((ltb-true 255 256 refl, ltb-true 2 256 refl), refl))

row190 : Leaves (sources_of (op.TwoOperands Subtract Byte)) 8 (temps 255 2 253 16045690984833335023 16045690984833335023)
unfolding sources_of sum_of difference_of
row190 = (((ltb-true 255 256 refl, ltb-true 2 256 refl), refl, (refl, refl, refl)), ((ltb-true 255 256 refl, ltb-true 2 256 refl), refl))

row191 : Leaves (sources_of (op.Compare Byte)) 8 (temps 255 2 16045690984833335023 16045690984833335023 16045690984833335023)
unfolding sources_of sum_of difference_of
row191 = (((ltb-true 255 256 refl, ltb-true 2 256 refl), (refl, refl, refl)), ((ltb-true 255 256 refl, ltb-true 2 256 refl), refl))

row192 : Leaves (sources_of (op.TwoOperands Add Byte)) 1 (temps 255 127 126 16045690984833335023 16045690984833335023)
unfolding sources_of sum_of difference_of
row192 = (((ltb-true 255 256 refl, ltb-true 127 256 refl), refl, (refl, refl, refl)), ((ltb-true 255 256 refl, ltb-true 127 256 refl), refl))

row193 : Leaves (sources_of (op.TwoOperands Subtract Byte)) 8 (temps 255 127 128 16045690984833335023 16045690984833335023)
unfolding sources_of sum_of difference_of
row193 = (((ltb-true 255 256 refl, ltb-true 127 256 refl), refl, (refl, refl, refl)), ((ltb-true 255 256 refl, ltb-true 127 256 refl), refl))

row194 : Leaves (sources_of (op.Compare Byte)) 8 (temps 255 127 16045690984833335023 16045690984833335023 16045690984833335023)
unfolding sources_of sum_of difference_of
row194 = (((ltb-true 255 256 refl, ltb-true 127 256 refl), (refl, refl, refl)), ((ltb-true 255 256 refl, ltb-true 127 256 refl), refl))

row195 : Leaves (sources_of (op.TwoOperands Add Byte)) 3 (temps 255 128 127 16045690984833335023 16045690984833335023)
unfolding sources_of sum_of difference_of
row195 = (((ltb-true 255 256 refl, ltb-true 128 256 refl), refl, (refl, refl, refl)), ((ltb-true 255 256 refl, ltb-true 128 256 refl), refl))

row196 : Leaves (sources_of (op.TwoOperands Subtract Byte)) 0 (temps 255 128 127 16045690984833335023 16045690984833335023)
unfolding sources_of sum_of difference_of
row196 = (((ltb-true 255 256 refl, ltb-true 128 256 refl), refl, (refl, refl, refl)), ((ltb-true 255 256 refl, ltb-true 128 256 refl), refl))

row197 : Leaves (sources_of (op.Compare Byte)) 0 (temps 255 128 16045690984833335023 16045690984833335023 16045690984833335023)
unfolding sources_of sum_of difference_of
row197 = (((ltb-true 255 256 refl, ltb-true 128 256 refl), (refl, refl, refl)), ((ltb-true 255 256 refl, ltb-true 128 256 refl), refl))

row198 : Leaves (sources_of (op.TwoOperands Add Byte)) 9 (temps 255 129 128 16045690984833335023 16045690984833335023)
unfolding sources_of sum_of difference_of
row198 = (((ltb-true 255 256 refl, ltb-true 129 256 refl), refl, (refl, refl, refl)), ((ltb-true 255 256 refl, ltb-true 129 256 refl), refl))

row199 : Leaves (sources_of (op.TwoOperands Subtract Byte)) 0 (temps 255 129 126 16045690984833335023 16045690984833335023)
unfolding sources_of sum_of difference_of
row199 = (((ltb-true 255 256 refl, ltb-true 129 256 refl), refl, (refl, refl, refl)), ((ltb-true 255 256 refl, ltb-true 129 256 refl), refl))

row200 : Leaves (sources_of (op.Compare Byte)) 0 (temps 255 129 16045690984833335023 16045690984833335023 16045690984833335023)
unfolding sources_of sum_of difference_of
row200 = (((ltb-true 255 256 refl, ltb-true 129 256 refl), (refl, refl, refl)), ((ltb-true 255 256 refl, ltb-true 129 256 refl), refl))

row201 : Leaves (sources_of (op.TwoOperands Add Byte)) 9 (temps 255 255 254 16045690984833335023 16045690984833335023)
unfolding sources_of sum_of difference_of
row201 = (((ltb-true 255 256 refl, ltb-true 255 256 refl), refl, (refl, refl, refl)), ((ltb-true 255 256 refl, ltb-true 255 256 refl), refl))

row202 : Leaves (sources_of (op.TwoOperands Subtract Byte)) 4 (temps 255 255 0 16045690984833335023 16045690984833335023)
unfolding sources_of sum_of difference_of
row202 = (((ltb-true 255 256 refl, ltb-true 255 256 refl), refl, (refl, refl, refl)), ((ltb-true 255 256 refl, ltb-true 255 256 refl), refl))

row203 : Leaves (sources_of (op.Compare Byte)) 4 (temps 255 255 16045690984833335023 16045690984833335023 16045690984833335023)
unfolding sources_of sum_of difference_of
row203 = (((ltb-true 255 256 refl, ltb-true 255 256 refl), (refl, refl, refl)), ((ltb-true 255 256 refl, ltb-true 255 256 refl), refl))

row204 : Leaves (sources_of (op.TwoOperands Add Word)) 4 (temps 0 0 0 16045690984833335023 16045690984833335023)
unfolding sources_of sum_of difference_of
row204 = (((ltb-true 0 65536 refl, ltb-true 0 65536 refl), refl, (refl, refl, refl)), ((ltb-true 0 65536 refl, ltb-true 0 65536 refl), refl))

row205 : Leaves (sources_of (op.TwoOperands Subtract Word)) 4 (temps 0 0 0 16045690984833335023 16045690984833335023)
unfolding sources_of sum_of difference_of
row205 = (((ltb-true 0 65536 refl, ltb-true 0 65536 refl), refl, (refl, refl, refl)), ((ltb-true 0 65536 refl, ltb-true 0 65536 refl), refl))

row206 : Leaves (sources_of (op.Compare Word)) 4 (temps 0 0 16045690984833335023 16045690984833335023 16045690984833335023)
unfolding sources_of sum_of difference_of
row206 = (((ltb-true 0 65536 refl, ltb-true 0 65536 refl), (refl, refl, refl)), ((ltb-true 0 65536 refl, ltb-true 0 65536 refl), refl))

row207 : Leaves (sources_of (op.TwoOperands Add Word)) 0 (temps 0 1 1 16045690984833335023 16045690984833335023)
unfolding sources_of sum_of difference_of
row207 = (((ltb-true 0 65536 refl, ltb-true 1 65536 refl), refl, (refl, refl, refl)), ((ltb-true 0 65536 refl, ltb-true 1 65536 refl), refl))

row208 : Leaves (sources_of (op.TwoOperands Subtract Word)) 9 (temps 0 1 65535 16045690984833335023 16045690984833335023)
unfolding sources_of sum_of difference_of
row208 = (((ltb-true 0 65536 refl, ltb-true 1 65536 refl), refl, (refl, refl, refl)), ((ltb-true 0 65536 refl, ltb-true 1 65536 refl), refl))

row209 : Leaves (sources_of (op.Compare Word)) 9 (temps 0 1 16045690984833335023 16045690984833335023 16045690984833335023)
unfolding sources_of sum_of difference_of
row209 = (((ltb-true 0 65536 refl, ltb-true 1 65536 refl), (refl, refl, refl)), ((ltb-true 0 65536 refl, ltb-true 1 65536 refl), refl))

row210 : Leaves (sources_of (op.TwoOperands Add Word)) 0 (temps 0 2 2 16045690984833335023 16045690984833335023)
unfolding sources_of sum_of difference_of
row210 = (((ltb-true 0 65536 refl, ltb-true 2 65536 refl), refl, (refl, refl, refl)), ((ltb-true 0 65536 refl, ltb-true 2 65536 refl), refl))

row211 : Leaves (sources_of (op.TwoOperands Subtract Word)) 9 (temps 0 2 65534 16045690984833335023 16045690984833335023)
unfolding sources_of sum_of difference_of
row211 = (((ltb-true 0 65536 refl, ltb-true 2 65536 refl), refl, (refl, refl, refl)), ((ltb-true 0 65536 refl, ltb-true 2 65536 refl), refl))

row212 : Leaves (sources_of (op.Compare Word)) 9 (temps 0 2 16045690984833335023 16045690984833335023 16045690984833335023)
unfolding sources_of sum_of difference_of
row212 = (((ltb-true 0 65536 refl, ltb-true 2 65536 refl), (refl, refl, refl)), ((ltb-true 0 65536 refl, ltb-true 2 65536 refl), refl))

row213 : Leaves (sources_of (op.TwoOperands Add Word)) 0 (temps 0 32767 32767 16045690984833335023 16045690984833335023)
unfolding sources_of sum_of difference_of
row213 = (((ltb-true 0 65536 refl, ltb-true 32767 65536 refl), refl, (refl, refl, refl)), ((ltb-true 0 65536 refl, ltb-true 32767 65536 refl), refl))

row214 : Leaves (sources_of (op.TwoOperands Subtract Word)) 9 (temps 0 32767 32769 16045690984833335023 16045690984833335023)
unfolding sources_of sum_of difference_of
row214 = (((ltb-true 0 65536 refl, ltb-true 32767 65536 refl), refl, (refl, refl, refl)), ((ltb-true 0 65536 refl, ltb-true 32767 65536 refl), refl))

row215 : Leaves (sources_of (op.Compare Word)) 9 (temps 0 32767 16045690984833335023 16045690984833335023 16045690984833335023)
unfolding sources_of sum_of difference_of
row215 = (((ltb-true 0 65536 refl, ltb-true 32767 65536 refl), (refl, refl, refl)), ((ltb-true 0 65536 refl, ltb-true 32767 65536 refl), refl))

row216 : Leaves (sources_of (op.TwoOperands Add Word)) 8 (temps 0 32768 32768 16045690984833335023 16045690984833335023)
unfolding sources_of sum_of difference_of
row216 = (((ltb-true 0 65536 refl, ltb-true 32768 65536 refl), refl, (refl, refl, refl)), ((ltb-true 0 65536 refl, ltb-true 32768 65536 refl), refl))

row217 : Leaves (sources_of (op.TwoOperands Subtract Word)) 11 (temps 0 32768 32768 16045690984833335023 16045690984833335023)
unfolding sources_of sum_of difference_of
row217 = (((ltb-true 0 65536 refl, ltb-true 32768 65536 refl), refl, (refl, refl, refl)), ((ltb-true 0 65536 refl, ltb-true 32768 65536 refl), refl))

row218 : Leaves (sources_of (op.Compare Word)) 1 (temps 0 32768 16045690984833335023 16045690984833335023 16045690984833335023)
unfolding sources_of sum_of difference_of
row218 = (((ltb-true 0 65536 refl, ltb-true 32768 65536 refl), (refl, refl, refl)), ((ltb-true 0 65536 refl, ltb-true 32768 65536 refl), refl))

row219 : Leaves (sources_of (op.TwoOperands Add Word)) 8 (temps 0 32769 32769 16045690984833335023 16045690984833335023)
unfolding sources_of sum_of difference_of
row219 = (((ltb-true 0 65536 refl, ltb-true 32769 65536 refl), refl, (refl, refl, refl)), ((ltb-true 0 65536 refl, ltb-true 32769 65536 refl), refl))

row220 : Leaves (sources_of (op.TwoOperands Subtract Word)) 1 (temps 0 32769 32767 16045690984833335023 16045690984833335023)
unfolding sources_of sum_of difference_of
row220 = (((ltb-true 0 65536 refl, ltb-true 32769 65536 refl), refl, (refl, refl, refl)), ((ltb-true 0 65536 refl, ltb-true 32769 65536 refl), refl))

row221 : Leaves (sources_of (op.Compare Word)) 1 (temps 0 32769 16045690984833335023 16045690984833335023 16045690984833335023)
unfolding sources_of sum_of difference_of
row221 = (((ltb-true 0 65536 refl, ltb-true 32769 65536 refl), (refl, refl, refl)), ((ltb-true 0 65536 refl, ltb-true 32769 65536 refl), refl))

row222 : Leaves (sources_of (op.TwoOperands Add Word)) 8 (temps 0 65535 65535 16045690984833335023 16045690984833335023)
unfolding sources_of sum_of difference_of
row222 = (((ltb-true 0 65536 refl, ltb-true 65535 65536 refl), refl, (refl, refl, refl)), ((ltb-true 0 65536 refl, ltb-true 65535 65536 refl), refl))

row223 : Leaves (sources_of (op.TwoOperands Subtract Word)) 1 (temps 0 65535 1 16045690984833335023 16045690984833335023)
unfolding sources_of sum_of difference_of
row223 = (((ltb-true 0 65536 refl, ltb-true 65535 65536 refl), refl, (refl, refl, refl)), ((ltb-true 0 65536 refl, ltb-true 65535 65536 refl), refl))

row224 : Leaves (sources_of (op.Compare Word)) 1 (temps 0 65535 16045690984833335023 16045690984833335023 16045690984833335023)
unfolding sources_of sum_of difference_of
row224 = (((ltb-true 0 65536 refl, ltb-true 65535 65536 refl), (refl, refl, refl)), ((ltb-true 0 65536 refl, ltb-true 65535 65536 refl), refl))

row225 : Leaves (sources_of (op.TwoOperands Add Word)) 0 (temps 1 0 1 16045690984833335023 16045690984833335023)
unfolding sources_of sum_of difference_of
row225 = (((ltb-true 1 65536 refl, ltb-true 0 65536 refl), refl, (refl, refl, refl)), ((ltb-true 1 65536 refl, ltb-true 0 65536 refl), refl))

row226 : Leaves (sources_of (op.TwoOperands Subtract Word)) 0 (temps 1 0 1 16045690984833335023 16045690984833335023)
unfolding sources_of sum_of difference_of
row226 = (((ltb-true 1 65536 refl, ltb-true 0 65536 refl), refl, (refl, refl, refl)), ((ltb-true 1 65536 refl, ltb-true 0 65536 refl), refl))

row227 : Leaves (sources_of (op.Compare Word)) 0 (temps 1 0 16045690984833335023 16045690984833335023 16045690984833335023)
unfolding sources_of sum_of difference_of
row227 = (((ltb-true 1 65536 refl, ltb-true 0 65536 refl), (refl, refl, refl)), ((ltb-true 1 65536 refl, ltb-true 0 65536 refl), refl))

row228 : Leaves (sources_of (op.TwoOperands Add Word)) 0 (temps 1 1 2 16045690984833335023 16045690984833335023)
unfolding sources_of sum_of difference_of
row228 = (((ltb-true 1 65536 refl, ltb-true 1 65536 refl), refl, (refl, refl, refl)), ((ltb-true 1 65536 refl, ltb-true 1 65536 refl), refl))

row229 : Leaves (sources_of (op.TwoOperands Subtract Word)) 4 (temps 1 1 0 16045690984833335023 16045690984833335023)
unfolding sources_of sum_of difference_of
row229 = (((ltb-true 1 65536 refl, ltb-true 1 65536 refl), refl, (refl, refl, refl)), ((ltb-true 1 65536 refl, ltb-true 1 65536 refl), refl))

row230 : Leaves (sources_of (op.Compare Word)) 4 (temps 1 1 16045690984833335023 16045690984833335023 16045690984833335023)
unfolding sources_of sum_of difference_of
row230 = (((ltb-true 1 65536 refl, ltb-true 1 65536 refl), (refl, refl, refl)), ((ltb-true 1 65536 refl, ltb-true 1 65536 refl), refl))

row231 : Leaves (sources_of (op.TwoOperands Add Word)) 0 (temps 1 2 3 16045690984833335023 16045690984833335023)
unfolding sources_of sum_of difference_of
row231 = (((ltb-true 1 65536 refl, ltb-true 2 65536 refl), refl, (refl, refl, refl)), ((ltb-true 1 65536 refl, ltb-true 2 65536 refl), refl))

row232 : Leaves (sources_of (op.TwoOperands Subtract Word)) 9 (temps 1 2 65535 16045690984833335023 16045690984833335023)
unfolding sources_of sum_of difference_of
row232 = (((ltb-true 1 65536 refl, ltb-true 2 65536 refl), refl, (refl, refl, refl)), ((ltb-true 1 65536 refl, ltb-true 2 65536 refl), refl))

row233 : Leaves (sources_of (op.Compare Word)) 9 (temps 1 2 16045690984833335023 16045690984833335023 16045690984833335023)
unfolding sources_of sum_of difference_of
row233 = (((ltb-true 1 65536 refl, ltb-true 2 65536 refl), (refl, refl, refl)), ((ltb-true 1 65536 refl, ltb-true 2 65536 refl), refl))

row234 : Leaves (sources_of (op.TwoOperands Add Word)) 10 (temps 1 32767 32768 16045690984833335023 16045690984833335023)
unfolding sources_of sum_of difference_of
row234 = (((ltb-true 1 65536 refl, ltb-true 32767 65536 refl), refl, (refl, refl, refl)), ((ltb-true 1 65536 refl, ltb-true 32767 65536 refl), refl))

row235 : Leaves (sources_of (op.TwoOperands Subtract Word)) 9 (temps 1 32767 32770 16045690984833335023 16045690984833335023)
unfolding sources_of sum_of difference_of
row235 = (((ltb-true 1 65536 refl, ltb-true 32767 65536 refl), refl, (refl, refl, refl)), ((ltb-true 1 65536 refl, ltb-true 32767 65536 refl), refl))

row236 : Leaves (sources_of (op.Compare Word)) 9 (temps 1 32767 16045690984833335023 16045690984833335023 16045690984833335023)
unfolding sources_of sum_of difference_of
row236 = (((ltb-true 1 65536 refl, ltb-true 32767 65536 refl), (refl, refl, refl)), ((ltb-true 1 65536 refl, ltb-true 32767 65536 refl), refl))

row237 : Leaves (sources_of (op.TwoOperands Add Word)) 8 (temps 1 32768 32769 16045690984833335023 16045690984833335023)
unfolding sources_of sum_of difference_of
row237 = (((ltb-true 1 65536 refl, ltb-true 32768 65536 refl), refl, (refl, refl, refl)), ((ltb-true 1 65536 refl, ltb-true 32768 65536 refl), refl))

row238 : Leaves (sources_of (op.TwoOperands Subtract Word)) 11 (temps 1 32768 32769 16045690984833335023 16045690984833335023)
unfolding sources_of sum_of difference_of
row238 = (((ltb-true 1 65536 refl, ltb-true 32768 65536 refl), refl, (refl, refl, refl)), ((ltb-true 1 65536 refl, ltb-true 32768 65536 refl), refl))

row239 : Leaves (sources_of (op.Compare Word)) 1 (temps 1 32768 16045690984833335023 16045690984833335023 16045690984833335023)
unfolding sources_of sum_of difference_of
row239 = (((ltb-true 1 65536 refl, ltb-true 32768 65536 refl), (refl, refl, refl)), ((ltb-true 1 65536 refl, ltb-true 32768 65536 refl), refl))

row240 : Leaves (sources_of (op.TwoOperands Add Word)) 8 (temps 1 32769 32770 16045690984833335023 16045690984833335023)
unfolding sources_of sum_of difference_of
row240 = (((ltb-true 1 65536 refl, ltb-true 32769 65536 refl), refl, (refl, refl, refl)), ((ltb-true 1 65536 refl, ltb-true 32769 65536 refl), refl))

row241 : Leaves (sources_of (op.TwoOperands Subtract Word)) 11 (temps 1 32769 32768 16045690984833335023 16045690984833335023)
unfolding sources_of sum_of difference_of
row241 = (((ltb-true 1 65536 refl, ltb-true 32769 65536 refl), refl, (refl, refl, refl)), ((ltb-true 1 65536 refl, ltb-true 32769 65536 refl), refl))

row242 : Leaves (sources_of (op.Compare Word)) 1 (temps 1 32769 16045690984833335023 16045690984833335023 16045690984833335023)
unfolding sources_of sum_of difference_of
row242 = (((ltb-true 1 65536 refl, ltb-true 32769 65536 refl), (refl, refl, refl)), ((ltb-true 1 65536 refl, ltb-true 32769 65536 refl), refl))

row243 : Leaves (sources_of (op.TwoOperands Add Word)) 5 (temps 1 65535 0 16045690984833335023 16045690984833335023)
unfolding sources_of sum_of difference_of
row243 = (((ltb-true 1 65536 refl, ltb-true 65535 65536 refl), refl, (refl, refl, refl)), ((ltb-true 1 65536 refl, ltb-true 65535 65536 refl), refl))

row244 : Leaves (sources_of (op.TwoOperands Subtract Word)) 1 (temps 1 65535 2 16045690984833335023 16045690984833335023)
unfolding sources_of sum_of difference_of
row244 = (((ltb-true 1 65536 refl, ltb-true 65535 65536 refl), refl, (refl, refl, refl)), ((ltb-true 1 65536 refl, ltb-true 65535 65536 refl), refl))

row245 : Leaves (sources_of (op.Compare Word)) 1 (temps 1 65535 16045690984833335023 16045690984833335023 16045690984833335023)
unfolding sources_of sum_of difference_of
row245 = (((ltb-true 1 65536 refl, ltb-true 65535 65536 refl), (refl, refl, refl)), ((ltb-true 1 65536 refl, ltb-true 65535 65536 refl), refl))

row246 : Leaves (sources_of (op.TwoOperands Add Word)) 0 (temps 2 0 2 16045690984833335023 16045690984833335023)
unfolding sources_of sum_of difference_of
row246 = (((ltb-true 2 65536 refl, ltb-true 0 65536 refl), refl, (refl, refl, refl)), ((ltb-true 2 65536 refl, ltb-true 0 65536 refl), refl))

row247 : Leaves (sources_of (op.TwoOperands Subtract Word)) 0 (temps 2 0 2 16045690984833335023 16045690984833335023)
unfolding sources_of sum_of difference_of
row247 = (((ltb-true 2 65536 refl, ltb-true 0 65536 refl), refl, (refl, refl, refl)), ((ltb-true 2 65536 refl, ltb-true 0 65536 refl), refl))

row248 : Leaves (sources_of (op.Compare Word)) 0 (temps 2 0 16045690984833335023 16045690984833335023 16045690984833335023)
unfolding sources_of sum_of difference_of
row248 = (((ltb-true 2 65536 refl, ltb-true 0 65536 refl), (refl, refl, refl)), ((ltb-true 2 65536 refl, ltb-true 0 65536 refl), refl))

row249 : Leaves (sources_of (op.TwoOperands Add Word)) 0 (temps 2 1 3 16045690984833335023 16045690984833335023)
unfolding sources_of sum_of difference_of
row249 = (((ltb-true 2 65536 refl, ltb-true 1 65536 refl), refl, (refl, refl, refl)), ((ltb-true 2 65536 refl, ltb-true 1 65536 refl), refl))

row250 : Leaves (sources_of (op.TwoOperands Subtract Word)) 0 (temps 2 1 1 16045690984833335023 16045690984833335023)
unfolding sources_of sum_of difference_of
row250 = (((ltb-true 2 65536 refl, ltb-true 1 65536 refl), refl, (refl, refl, refl)), ((ltb-true 2 65536 refl, ltb-true 1 65536 refl), refl))

row251 : Leaves (sources_of (op.Compare Word)) 0 (temps 2 1 16045690984833335023 16045690984833335023 16045690984833335023)
unfolding sources_of sum_of difference_of
row251 = (((ltb-true 2 65536 refl, ltb-true 1 65536 refl), (refl, refl, refl)), ((ltb-true 2 65536 refl, ltb-true 1 65536 refl), refl))

row252 : Leaves (sources_of (op.TwoOperands Add Word)) 0 (temps 2 2 4 16045690984833335023 16045690984833335023)
unfolding sources_of sum_of difference_of
row252 = (((ltb-true 2 65536 refl, ltb-true 2 65536 refl), refl, (refl, refl, refl)), ((ltb-true 2 65536 refl, ltb-true 2 65536 refl), refl))

row253 : Leaves (sources_of (op.TwoOperands Subtract Word)) 4 (temps 2 2 0 16045690984833335023 16045690984833335023)
unfolding sources_of sum_of difference_of
row253 = (((ltb-true 2 65536 refl, ltb-true 2 65536 refl), refl, (refl, refl, refl)), ((ltb-true 2 65536 refl, ltb-true 2 65536 refl), refl))

row254 : Leaves (sources_of (op.Compare Word)) 4 (temps 2 2 16045690984833335023 16045690984833335023 16045690984833335023)
unfolding sources_of sum_of difference_of
row254 = (((ltb-true 2 65536 refl, ltb-true 2 65536 refl), (refl, refl, refl)), ((ltb-true 2 65536 refl, ltb-true 2 65536 refl), refl))

row255 : Leaves (sources_of (op.TwoOperands Add Word)) 10 (temps 2 32767 32769 16045690984833335023 16045690984833335023)
unfolding sources_of sum_of difference_of
row255 = (((ltb-true 2 65536 refl, ltb-true 32767 65536 refl), refl, (refl, refl, refl)), ((ltb-true 2 65536 refl, ltb-true 32767 65536 refl), refl))

row256 : Leaves (sources_of (op.TwoOperands Subtract Word)) 9 (temps 2 32767 32771 16045690984833335023 16045690984833335023)
unfolding sources_of sum_of difference_of
row256 = (((ltb-true 2 65536 refl, ltb-true 32767 65536 refl), refl, (refl, refl, refl)), ((ltb-true 2 65536 refl, ltb-true 32767 65536 refl), refl))

row257 : Leaves (sources_of (op.Compare Word)) 9 (temps 2 32767 16045690984833335023 16045690984833335023 16045690984833335023)
unfolding sources_of sum_of difference_of
row257 = (((ltb-true 2 65536 refl, ltb-true 32767 65536 refl), (refl, refl, refl)), ((ltb-true 2 65536 refl, ltb-true 32767 65536 refl), refl))

row258 : Leaves (sources_of (op.TwoOperands Add Word)) 8 (temps 2 32768 32770 16045690984833335023 16045690984833335023)
unfolding sources_of sum_of difference_of
row258 = (((ltb-true 2 65536 refl, ltb-true 32768 65536 refl), refl, (refl, refl, refl)), ((ltb-true 2 65536 refl, ltb-true 32768 65536 refl), refl))

row259 : Leaves (sources_of (op.TwoOperands Subtract Word)) 11 (temps 2 32768 32770 16045690984833335023 16045690984833335023)
unfolding sources_of sum_of difference_of
row259 = (((ltb-true 2 65536 refl, ltb-true 32768 65536 refl), refl, (refl, refl, refl)), ((ltb-true 2 65536 refl, ltb-true 32768 65536 refl), refl))

row260 : Leaves (sources_of (op.Compare Word)) 1 (temps 2 32768 16045690984833335023 16045690984833335023 16045690984833335023)
unfolding sources_of sum_of difference_of
row260 = (((ltb-true 2 65536 refl, ltb-true 32768 65536 refl), (refl, refl, refl)), ((ltb-true 2 65536 refl, ltb-true 32768 65536 refl), refl))

row261 : Leaves (sources_of (op.TwoOperands Add Word)) 8 (temps 2 32769 32771 16045690984833335023 16045690984833335023)
unfolding sources_of sum_of difference_of
row261 = (((ltb-true 2 65536 refl, ltb-true 32769 65536 refl), refl, (refl, refl, refl)), ((ltb-true 2 65536 refl, ltb-true 32769 65536 refl), refl))

row262 : Leaves (sources_of (op.TwoOperands Subtract Word)) 11 (temps 2 32769 32769 16045690984833335023 16045690984833335023)
unfolding sources_of sum_of difference_of
row262 = (((ltb-true 2 65536 refl, ltb-true 32769 65536 refl), refl, (refl, refl, refl)), ((ltb-true 2 65536 refl, ltb-true 32769 65536 refl), refl))

row263 : Leaves (sources_of (op.Compare Word)) 1 (temps 2 32769 16045690984833335023 16045690984833335023 16045690984833335023)
unfolding sources_of sum_of difference_of
row263 = (((ltb-true 2 65536 refl, ltb-true 32769 65536 refl), (refl, refl, refl)), ((ltb-true 2 65536 refl, ltb-true 32769 65536 refl), refl))

row264 : Leaves (sources_of (op.TwoOperands Add Word)) 1 (temps 2 65535 1 16045690984833335023 16045690984833335023)
unfolding sources_of sum_of difference_of
row264 = (((ltb-true 2 65536 refl, ltb-true 65535 65536 refl), refl, (refl, refl, refl)), ((ltb-true 2 65536 refl, ltb-true 65535 65536 refl), refl))

row265 : Leaves (sources_of (op.TwoOperands Subtract Word)) 1 (temps 2 65535 3 16045690984833335023 16045690984833335023)
unfolding sources_of sum_of difference_of
row265 = (((ltb-true 2 65536 refl, ltb-true 65535 65536 refl), refl, (refl, refl, refl)), ((ltb-true 2 65536 refl, ltb-true 65535 65536 refl), refl))

row266 : Leaves (sources_of (op.Compare Word)) 1 (temps 2 65535 16045690984833335023 16045690984833335023 16045690984833335023)
unfolding sources_of sum_of difference_of
row266 = (((ltb-true 2 65536 refl, ltb-true 65535 65536 refl), (refl, refl, refl)), ((ltb-true 2 65536 refl, ltb-true 65535 65536 refl), refl))

row267 : Leaves (sources_of (op.TwoOperands Add Word)) 0 (temps 32767 0 32767 16045690984833335023 16045690984833335023)
unfolding sources_of sum_of difference_of
row267 = (((ltb-true 32767 65536 refl, ltb-true 0 65536 refl), refl, (refl, refl, refl)), ((ltb-true 32767 65536 refl, ltb-true 0 65536 refl), refl))

row268 : Leaves (sources_of (op.TwoOperands Subtract Word)) 0 (temps 32767 0 32767 16045690984833335023 16045690984833335023)
unfolding sources_of sum_of difference_of
row268 = (((ltb-true 32767 65536 refl, ltb-true 0 65536 refl), refl, (refl, refl, refl)), ((ltb-true 32767 65536 refl, ltb-true 0 65536 refl), refl))

row269 : Leaves (sources_of (op.Compare Word)) 0 (temps 32767 0 16045690984833335023 16045690984833335023 16045690984833335023)
unfolding sources_of sum_of difference_of
row269 = (((ltb-true 32767 65536 refl, ltb-true 0 65536 refl), (refl, refl, refl)), ((ltb-true 32767 65536 refl, ltb-true 0 65536 refl), refl))

row270 : Leaves (sources_of (op.TwoOperands Add Word)) 10 (temps 32767 1 32768 16045690984833335023 16045690984833335023)
unfolding sources_of sum_of difference_of
row270 = (((ltb-true 32767 65536 refl, ltb-true 1 65536 refl), refl, (refl, refl, refl)), ((ltb-true 32767 65536 refl, ltb-true 1 65536 refl), refl))

row271 : Leaves (sources_of (op.TwoOperands Subtract Word)) 0 (temps 32767 1 32766 16045690984833335023 16045690984833335023)
unfolding sources_of sum_of difference_of
row271 = (((ltb-true 32767 65536 refl, ltb-true 1 65536 refl), refl, (refl, refl, refl)), ((ltb-true 32767 65536 refl, ltb-true 1 65536 refl), refl))

row272 : Leaves (sources_of (op.Compare Word)) 0 (temps 32767 1 16045690984833335023 16045690984833335023 16045690984833335023)
unfolding sources_of sum_of difference_of
row272 = (((ltb-true 32767 65536 refl, ltb-true 1 65536 refl), (refl, refl, refl)), ((ltb-true 32767 65536 refl, ltb-true 1 65536 refl), refl))

row273 : Leaves (sources_of (op.TwoOperands Add Word)) 10 (temps 32767 2 32769 16045690984833335023 16045690984833335023)
unfolding sources_of sum_of difference_of
row273 = (((ltb-true 32767 65536 refl, ltb-true 2 65536 refl), refl, (refl, refl, refl)), ((ltb-true 32767 65536 refl, ltb-true 2 65536 refl), refl))

row274 : Leaves (sources_of (op.TwoOperands Subtract Word)) 0 (temps 32767 2 32765 16045690984833335023 16045690984833335023)
unfolding sources_of sum_of difference_of
row274 = (((ltb-true 32767 65536 refl, ltb-true 2 65536 refl), refl, (refl, refl, refl)), ((ltb-true 32767 65536 refl, ltb-true 2 65536 refl), refl))

row275 : Leaves (sources_of (op.Compare Word)) 0 (temps 32767 2 16045690984833335023 16045690984833335023 16045690984833335023)
unfolding sources_of sum_of difference_of
row275 = (((ltb-true 32767 65536 refl, ltb-true 2 65536 refl), (refl, refl, refl)), ((ltb-true 32767 65536 refl, ltb-true 2 65536 refl), refl))

row276 : Leaves (sources_of (op.TwoOperands Add Word)) 10 (temps 32767 32767 65534 16045690984833335023 16045690984833335023)
unfolding sources_of sum_of difference_of
row276 = (((ltb-true 32767 65536 refl, ltb-true 32767 65536 refl), refl, (refl, refl, refl)), ((ltb-true 32767 65536 refl, ltb-true 32767 65536 refl), refl))

row277 : Leaves (sources_of (op.TwoOperands Subtract Word)) 4 (temps 32767 32767 0 16045690984833335023 16045690984833335023)
unfolding sources_of sum_of difference_of
row277 = (((ltb-true 32767 65536 refl, ltb-true 32767 65536 refl), refl, (refl, refl, refl)), ((ltb-true 32767 65536 refl, ltb-true 32767 65536 refl), refl))

row278 : Leaves (sources_of (op.Compare Word)) 4 (temps 32767 32767 16045690984833335023 16045690984833335023 16045690984833335023)
unfolding sources_of sum_of difference_of
row278 = (((ltb-true 32767 65536 refl, ltb-true 32767 65536 refl), (refl, refl, refl)), ((ltb-true 32767 65536 refl, ltb-true 32767 65536 refl), refl))

row279 : Leaves (sources_of (op.TwoOperands Add Word)) 8 (temps 32767 32768 65535 16045690984833335023 16045690984833335023)
unfolding sources_of sum_of difference_of
row279 = (((ltb-true 32767 65536 refl, ltb-true 32768 65536 refl), refl, (refl, refl, refl)), ((ltb-true 32767 65536 refl, ltb-true 32768 65536 refl), refl))

row280 : Leaves (sources_of (op.TwoOperands Subtract Word)) 11 (temps 32767 32768 65535 16045690984833335023 16045690984833335023)
unfolding sources_of sum_of difference_of
row280 = (((ltb-true 32767 65536 refl, ltb-true 32768 65536 refl), refl, (refl, refl, refl)), ((ltb-true 32767 65536 refl, ltb-true 32768 65536 refl), refl))

row281 : Leaves (sources_of (op.Compare Word)) 1 (temps 32767 32768 16045690984833335023 16045690984833335023 16045690984833335023)
unfolding sources_of sum_of difference_of
row281 = (((ltb-true 32767 65536 refl, ltb-true 32768 65536 refl), (refl, refl, refl)), ((ltb-true 32767 65536 refl, ltb-true 32768 65536 refl), refl))

row282 : Leaves (sources_of (op.TwoOperands Add Word)) 5 (temps 32767 32769 0 16045690984833335023 16045690984833335023)
unfolding sources_of sum_of difference_of
row282 = (((ltb-true 32767 65536 refl, ltb-true 32769 65536 refl), refl, (refl, refl, refl)), ((ltb-true 32767 65536 refl, ltb-true 32769 65536 refl), refl))

row283 : Leaves (sources_of (op.TwoOperands Subtract Word)) 11 (temps 32767 32769 65534 16045690984833335023 16045690984833335023)
unfolding sources_of sum_of difference_of
row283 = (((ltb-true 32767 65536 refl, ltb-true 32769 65536 refl), refl, (refl, refl, refl)), ((ltb-true 32767 65536 refl, ltb-true 32769 65536 refl), refl))

row284 : Leaves (sources_of (op.Compare Word)) 1 (temps 32767 32769 16045690984833335023 16045690984833335023 16045690984833335023)
unfolding sources_of sum_of difference_of
row284 = (((ltb-true 32767 65536 refl, ltb-true 32769 65536 refl), (refl, refl, refl)), ((ltb-true 32767 65536 refl, ltb-true 32769 65536 refl), refl))

row285 : Leaves (sources_of (op.TwoOperands Add Word)) 1 (temps 32767 65535 32766 16045690984833335023 16045690984833335023)
unfolding sources_of sum_of difference_of
row285 = (((ltb-true 32767 65536 refl, ltb-true 65535 65536 refl), refl, (refl, refl, refl)), ((ltb-true 32767 65536 refl, ltb-true 65535 65536 refl), refl))

row286 : Leaves (sources_of (op.TwoOperands Subtract Word)) 11 (temps 32767 65535 32768 16045690984833335023 16045690984833335023)
unfolding sources_of sum_of difference_of
row286 = (((ltb-true 32767 65536 refl, ltb-true 65535 65536 refl), refl, (refl, refl, refl)), ((ltb-true 32767 65536 refl, ltb-true 65535 65536 refl), refl))

row287 : Leaves (sources_of (op.Compare Word)) 1 (temps 32767 65535 16045690984833335023 16045690984833335023 16045690984833335023)
unfolding sources_of sum_of difference_of
row287 = (((ltb-true 32767 65536 refl, ltb-true 65535 65536 refl), (refl, refl, refl)), ((ltb-true 32767 65536 refl, ltb-true 65535 65536 refl), refl))

row288 : Leaves (sources_of (op.TwoOperands Add Word)) 8 (temps 32768 0 32768 16045690984833335023 16045690984833335023)
unfolding sources_of sum_of difference_of
row288 = (((ltb-true 32768 65536 refl, ltb-true 0 65536 refl), refl, (refl, refl, refl)), ((ltb-true 32768 65536 refl, ltb-true 0 65536 refl), refl))

row289 : Leaves (sources_of (op.TwoOperands Subtract Word)) 8 (temps 32768 0 32768 16045690984833335023 16045690984833335023)
unfolding sources_of sum_of difference_of
row289 = (((ltb-true 32768 65536 refl, ltb-true 0 65536 refl), refl, (refl, refl, refl)), ((ltb-true 32768 65536 refl, ltb-true 0 65536 refl), refl))

row290 : Leaves (sources_of (op.Compare Word)) 8 (temps 32768 0 16045690984833335023 16045690984833335023 16045690984833335023)
unfolding sources_of sum_of difference_of
row290 = (((ltb-true 32768 65536 refl, ltb-true 0 65536 refl), (refl, refl, refl)), ((ltb-true 32768 65536 refl, ltb-true 0 65536 refl), refl))

row291 : Leaves (sources_of (op.TwoOperands Add Word)) 8 (temps 32768 1 32769 16045690984833335023 16045690984833335023)
unfolding sources_of sum_of difference_of
row291 = (((ltb-true 32768 65536 refl, ltb-true 1 65536 refl), refl, (refl, refl, refl)), ((ltb-true 32768 65536 refl, ltb-true 1 65536 refl), refl))

row292 : Leaves (sources_of (op.TwoOperands Subtract Word)) 2 (temps 32768 1 32767 16045690984833335023 16045690984833335023)
unfolding sources_of sum_of difference_of
row292 = (((ltb-true 32768 65536 refl, ltb-true 1 65536 refl), refl, (refl, refl, refl)), ((ltb-true 32768 65536 refl, ltb-true 1 65536 refl), refl))

row293 : Leaves (sources_of (op.Compare Word)) 8 (temps 32768 1 16045690984833335023 16045690984833335023 16045690984833335023)
unfolding sources_of sum_of difference_of
row293 = (((ltb-true 32768 65536 refl, ltb-true 1 65536 refl), (refl, refl, refl)), ((ltb-true 32768 65536 refl, ltb-true 1 65536 refl), refl))

row294 : Leaves (sources_of (op.TwoOperands Add Word)) 8 (temps 32768 2 32770 16045690984833335023 16045690984833335023)
unfolding sources_of sum_of difference_of
row294 = (((ltb-true 32768 65536 refl, ltb-true 2 65536 refl), refl, (refl, refl, refl)), ((ltb-true 32768 65536 refl, ltb-true 2 65536 refl), refl))

row295 : Leaves (sources_of (op.TwoOperands Subtract Word)) 2 (temps 32768 2 32766 16045690984833335023 16045690984833335023)
unfolding sources_of sum_of difference_of
row295 = (((ltb-true 32768 65536 refl, ltb-true 2 65536 refl), refl, (refl, refl, refl)), ((ltb-true 32768 65536 refl, ltb-true 2 65536 refl), refl))

row296 : Leaves (sources_of (op.Compare Word)) 8 (temps 32768 2 16045690984833335023 16045690984833335023 16045690984833335023)
unfolding sources_of sum_of difference_of
row296 = (((ltb-true 32768 65536 refl, ltb-true 2 65536 refl), (refl, refl, refl)), ((ltb-true 32768 65536 refl, ltb-true 2 65536 refl), refl))

row297 : Leaves (sources_of (op.TwoOperands Add Word)) 8 (temps 32768 32767 65535 16045690984833335023 16045690984833335023)
unfolding sources_of sum_of difference_of
row297 = (((ltb-true 32768 65536 refl, ltb-true 32767 65536 refl), refl, (refl, refl, refl)), ((ltb-true 32768 65536 refl, ltb-true 32767 65536 refl), refl))

row298 : Leaves (sources_of (op.TwoOperands Subtract Word)) 2 (temps 32768 32767 1 16045690984833335023 16045690984833335023)
unfolding sources_of sum_of difference_of
row298 = (((ltb-true 32768 65536 refl, ltb-true 32767 65536 refl), refl, (refl, refl, refl)), ((ltb-true 32768 65536 refl, ltb-true 32767 65536 refl), refl))

row299 : Leaves (sources_of (op.Compare Word)) 8 (temps 32768 32767 16045690984833335023 16045690984833335023 16045690984833335023)
unfolding sources_of sum_of difference_of
row299 = (((ltb-true 32768 65536 refl, ltb-true 32767 65536 refl), (refl, refl, refl)), ((ltb-true 32768 65536 refl, ltb-true 32767 65536 refl), refl))

row300 : Leaves (sources_of (op.TwoOperands Add Word)) 7 (temps 32768 32768 0 16045690984833335023 16045690984833335023)
unfolding sources_of sum_of difference_of
row300 = (((ltb-true 32768 65536 refl, ltb-true 32768 65536 refl), refl, (refl, refl, refl)), ((ltb-true 32768 65536 refl, ltb-true 32768 65536 refl), refl))

row301 : Leaves (sources_of (op.TwoOperands Subtract Word)) 4 (temps 32768 32768 0 16045690984833335023 16045690984833335023)
unfolding sources_of sum_of difference_of
row301 = (((ltb-true 32768 65536 refl, ltb-true 32768 65536 refl), refl, (refl, refl, refl)), ((ltb-true 32768 65536 refl, ltb-true 32768 65536 refl), refl))

row302 : Leaves (sources_of (op.Compare Word)) 4 (temps 32768 32768 16045690984833335023 16045690984833335023 16045690984833335023)
unfolding sources_of sum_of difference_of
row302 = (((ltb-true 32768 65536 refl, ltb-true 32768 65536 refl), (refl, refl, refl)), ((ltb-true 32768 65536 refl, ltb-true 32768 65536 refl), refl))

row303 : Leaves (sources_of (op.TwoOperands Add Word)) 3 (temps 32768 32769 1 16045690984833335023 16045690984833335023)
unfolding sources_of sum_of difference_of
row303 = (((ltb-true 32768 65536 refl, ltb-true 32769 65536 refl), refl, (refl, refl, refl)), ((ltb-true 32768 65536 refl, ltb-true 32769 65536 refl), refl))

row304 : Leaves (sources_of (op.TwoOperands Subtract Word)) 9 (temps 32768 32769 65535 16045690984833335023 16045690984833335023)
unfolding sources_of sum_of difference_of
row304 = (((ltb-true 32768 65536 refl, ltb-true 32769 65536 refl), refl, (refl, refl, refl)), ((ltb-true 32768 65536 refl, ltb-true 32769 65536 refl), refl))

row305 : Leaves (sources_of (op.Compare Word)) 9 (temps 32768 32769 16045690984833335023 16045690984833335023 16045690984833335023)
unfolding sources_of sum_of difference_of
row305 = (((ltb-true 32768 65536 refl, ltb-true 32769 65536 refl), (refl, refl, refl)), ((ltb-true 32768 65536 refl, ltb-true 32769 65536 refl), refl))

row306 : Leaves (sources_of (op.TwoOperands Add Word)) 3 (temps 32768 65535 32767 16045690984833335023 16045690984833335023)
unfolding sources_of sum_of difference_of
row306 = (((ltb-true 32768 65536 refl, ltb-true 65535 65536 refl), refl, (refl, refl, refl)), ((ltb-true 32768 65536 refl, ltb-true 65535 65536 refl), refl))

row307 : Leaves (sources_of (op.TwoOperands Subtract Word)) 9 (temps 32768 65535 32769 16045690984833335023 16045690984833335023)
unfolding sources_of sum_of difference_of
row307 = (((ltb-true 32768 65536 refl, ltb-true 65535 65536 refl), refl, (refl, refl, refl)), ((ltb-true 32768 65536 refl, ltb-true 65535 65536 refl), refl))

row308 : Leaves (sources_of (op.Compare Word)) 9 (temps 32768 65535 16045690984833335023 16045690984833335023 16045690984833335023)
unfolding sources_of sum_of difference_of
row308 = (((ltb-true 32768 65536 refl, ltb-true 65535 65536 refl), (refl, refl, refl)), ((ltb-true 32768 65536 refl, ltb-true 65535 65536 refl), refl))

row309 : Leaves (sources_of (op.TwoOperands Add Word)) 8 (temps 32769 0 32769 16045690984833335023 16045690984833335023)
unfolding sources_of sum_of difference_of
row309 = (((ltb-true 32769 65536 refl, ltb-true 0 65536 refl), refl, (refl, refl, refl)), ((ltb-true 32769 65536 refl, ltb-true 0 65536 refl), refl))

row310 : Leaves (sources_of (op.TwoOperands Subtract Word)) 8 (temps 32769 0 32769 16045690984833335023 16045690984833335023)
unfolding sources_of sum_of difference_of
row310 = (((ltb-true 32769 65536 refl, ltb-true 0 65536 refl), refl, (refl, refl, refl)), ((ltb-true 32769 65536 refl, ltb-true 0 65536 refl), refl))

row311 : Leaves (sources_of (op.Compare Word)) 8 (temps 32769 0 16045690984833335023 16045690984833335023 16045690984833335023)
unfolding sources_of sum_of difference_of
row311 = (((ltb-true 32769 65536 refl, ltb-true 0 65536 refl), (refl, refl, refl)), ((ltb-true 32769 65536 refl, ltb-true 0 65536 refl), refl))

row312 : Leaves (sources_of (op.TwoOperands Add Word)) 8 (temps 32769 1 32770 16045690984833335023 16045690984833335023)
unfolding sources_of sum_of difference_of
row312 = (((ltb-true 32769 65536 refl, ltb-true 1 65536 refl), refl, (refl, refl, refl)), ((ltb-true 32769 65536 refl, ltb-true 1 65536 refl), refl))

row313 : Leaves (sources_of (op.TwoOperands Subtract Word)) 8 (temps 32769 1 32768 16045690984833335023 16045690984833335023)
unfolding sources_of sum_of difference_of
row313 = (((ltb-true 32769 65536 refl, ltb-true 1 65536 refl), refl, (refl, refl, refl)), ((ltb-true 32769 65536 refl, ltb-true 1 65536 refl), refl))

row314 : Leaves (sources_of (op.Compare Word)) 8 (temps 32769 1 16045690984833335023 16045690984833335023 16045690984833335023)
unfolding sources_of sum_of difference_of
row314 = (((ltb-true 32769 65536 refl, ltb-true 1 65536 refl), (refl, refl, refl)), ((ltb-true 32769 65536 refl, ltb-true 1 65536 refl), refl))

row315 : Leaves (sources_of (op.TwoOperands Add Word)) 8 (temps 32769 2 32771 16045690984833335023 16045690984833335023)
unfolding sources_of sum_of difference_of
row315 = (((ltb-true 32769 65536 refl, ltb-true 2 65536 refl), refl, (refl, refl, refl)), ((ltb-true 32769 65536 refl, ltb-true 2 65536 refl), refl))

row316 : Leaves (sources_of (op.TwoOperands Subtract Word)) 2 (temps 32769 2 32767 16045690984833335023 16045690984833335023)
unfolding sources_of sum_of difference_of
row316 = (((ltb-true 32769 65536 refl, ltb-true 2 65536 refl), refl, (refl, refl, refl)), ((ltb-true 32769 65536 refl, ltb-true 2 65536 refl), refl))

row317 : Leaves (sources_of (op.Compare Word)) 8 (temps 32769 2 16045690984833335023 16045690984833335023 16045690984833335023)
unfolding sources_of sum_of difference_of
row317 = (((ltb-true 32769 65536 refl, ltb-true 2 65536 refl), (refl, refl, refl)), ((ltb-true 32769 65536 refl, ltb-true 2 65536 refl), refl))

row318 : Leaves (sources_of (op.TwoOperands Add Word)) 5 (temps 32769 32767 0 16045690984833335023 16045690984833335023)
unfolding sources_of sum_of difference_of
row318 = (((ltb-true 32769 65536 refl, ltb-true 32767 65536 refl), refl, (refl, refl, refl)), ((ltb-true 32769 65536 refl, ltb-true 32767 65536 refl), refl))

row319 : Leaves (sources_of (op.TwoOperands Subtract Word)) 2 (temps 32769 32767 2 16045690984833335023 16045690984833335023)
unfolding sources_of sum_of difference_of
row319 = (((ltb-true 32769 65536 refl, ltb-true 32767 65536 refl), refl, (refl, refl, refl)), ((ltb-true 32769 65536 refl, ltb-true 32767 65536 refl), refl))

row320 : Leaves (sources_of (op.Compare Word)) 8 (temps 32769 32767 16045690984833335023 16045690984833335023 16045690984833335023)
unfolding sources_of sum_of difference_of
row320 = (((ltb-true 32769 65536 refl, ltb-true 32767 65536 refl), (refl, refl, refl)), ((ltb-true 32769 65536 refl, ltb-true 32767 65536 refl), refl))

row321 : Leaves (sources_of (op.TwoOperands Add Word)) 3 (temps 32769 32768 1 16045690984833335023 16045690984833335023)
unfolding sources_of sum_of difference_of
row321 = (((ltb-true 32769 65536 refl, ltb-true 32768 65536 refl), refl, (refl, refl, refl)), ((ltb-true 32769 65536 refl, ltb-true 32768 65536 refl), refl))

row322 : Leaves (sources_of (op.TwoOperands Subtract Word)) 0 (temps 32769 32768 1 16045690984833335023 16045690984833335023)
unfolding sources_of sum_of difference_of
row322 = (((ltb-true 32769 65536 refl, ltb-true 32768 65536 refl), refl, (refl, refl, refl)), ((ltb-true 32769 65536 refl, ltb-true 32768 65536 refl), refl))

row323 : Leaves (sources_of (op.Compare Word)) 0 (temps 32769 32768 16045690984833335023 16045690984833335023 16045690984833335023)
unfolding sources_of sum_of difference_of
row323 = (((ltb-true 32769 65536 refl, ltb-true 32768 65536 refl), (refl, refl, refl)), ((ltb-true 32769 65536 refl, ltb-true 32768 65536 refl), refl))

row324 : Leaves (sources_of (op.TwoOperands Add Word)) 3 (temps 32769 32769 2 16045690984833335023 16045690984833335023)
unfolding sources_of sum_of difference_of
row324 = (((ltb-true 32769 65536 refl, ltb-true 32769 65536 refl), refl, (refl, refl, refl)), ((ltb-true 32769 65536 refl, ltb-true 32769 65536 refl), refl))

row325 : Leaves (sources_of (op.TwoOperands Subtract Word)) 4 (temps 32769 32769 0 16045690984833335023 16045690984833335023)
unfolding sources_of sum_of difference_of
row325 = (((ltb-true 32769 65536 refl, ltb-true 32769 65536 refl), refl, (refl, refl, refl)), ((ltb-true 32769 65536 refl, ltb-true 32769 65536 refl), refl))

row326 : Leaves (sources_of (op.Compare Word)) 4 (temps 32769 32769 16045690984833335023 16045690984833335023 16045690984833335023)
unfolding sources_of sum_of difference_of
row326 = (((ltb-true 32769 65536 refl, ltb-true 32769 65536 refl), (refl, refl, refl)), ((ltb-true 32769 65536 refl, ltb-true 32769 65536 refl), refl))

row327 : Leaves (sources_of (op.TwoOperands Add Word)) 9 (temps 32769 65535 32768 16045690984833335023 16045690984833335023)
unfolding sources_of sum_of difference_of
row327 = (((ltb-true 32769 65536 refl, ltb-true 65535 65536 refl), refl, (refl, refl, refl)), ((ltb-true 32769 65536 refl, ltb-true 65535 65536 refl), refl))

row328 : Leaves (sources_of (op.TwoOperands Subtract Word)) 9 (temps 32769 65535 32770 16045690984833335023 16045690984833335023)
unfolding sources_of sum_of difference_of
row328 = (((ltb-true 32769 65536 refl, ltb-true 65535 65536 refl), refl, (refl, refl, refl)), ((ltb-true 32769 65536 refl, ltb-true 65535 65536 refl), refl))

row329 : Leaves (sources_of (op.Compare Word)) 9 (temps 32769 65535 16045690984833335023 16045690984833335023 16045690984833335023)
unfolding sources_of sum_of difference_of
row329 = (((ltb-true 32769 65536 refl, ltb-true 65535 65536 refl), (refl, refl, refl)), ((ltb-true 32769 65536 refl, ltb-true 65535 65536 refl), refl))

row330 : Leaves (sources_of (op.TwoOperands Add Word)) 8 (temps 65535 0 65535 16045690984833335023 16045690984833335023)
unfolding sources_of sum_of difference_of
row330 = (((ltb-true 65535 65536 refl, ltb-true 0 65536 refl), refl, (refl, refl, refl)), ((ltb-true 65535 65536 refl, ltb-true 0 65536 refl), refl))

row331 : Leaves (sources_of (op.TwoOperands Subtract Word)) 8 (temps 65535 0 65535 16045690984833335023 16045690984833335023)
unfolding sources_of sum_of difference_of
row331 = (((ltb-true 65535 65536 refl, ltb-true 0 65536 refl), refl, (refl, refl, refl)), ((ltb-true 65535 65536 refl, ltb-true 0 65536 refl), refl))

row332 : Leaves (sources_of (op.Compare Word)) 8 (temps 65535 0 16045690984833335023 16045690984833335023 16045690984833335023)
unfolding sources_of sum_of difference_of
row332 = (((ltb-true 65535 65536 refl, ltb-true 0 65536 refl), (refl, refl, refl)), ((ltb-true 65535 65536 refl, ltb-true 0 65536 refl), refl))

row333 : Leaves (sources_of (op.TwoOperands Add Word)) 5 (temps 65535 1 0 16045690984833335023 16045690984833335023)
unfolding sources_of sum_of difference_of
row333 = (((ltb-true 65535 65536 refl, ltb-true 1 65536 refl), refl, (refl, refl, refl)), ((ltb-true 65535 65536 refl, ltb-true 1 65536 refl), refl))

row334 : Leaves (sources_of (op.TwoOperands Subtract Word)) 8 (temps 65535 1 65534 16045690984833335023 16045690984833335023)
unfolding sources_of sum_of difference_of
row334 = (((ltb-true 65535 65536 refl, ltb-true 1 65536 refl), refl, (refl, refl, refl)), ((ltb-true 65535 65536 refl, ltb-true 1 65536 refl), refl))

row335 : Leaves (sources_of (op.Compare Word)) 8 (temps 65535 1 16045690984833335023 16045690984833335023 16045690984833335023)
unfolding sources_of sum_of difference_of
row335 = (((ltb-true 65535 65536 refl, ltb-true 1 65536 refl), (refl, refl, refl)), ((ltb-true 65535 65536 refl, ltb-true 1 65536 refl), refl))

row336 : Leaves (sources_of (op.TwoOperands Add Word)) 1 (temps 65535 2 1 16045690984833335023 16045690984833335023)
unfolding sources_of sum_of difference_of
row336 = (((ltb-true 65535 65536 refl, ltb-true 2 65536 refl), refl, (refl, refl, refl)), ((ltb-true 65535 65536 refl, ltb-true 2 65536 refl), refl))

row337 : Leaves (sources_of (op.TwoOperands Subtract Word)) 8 (temps 65535 2 65533 16045690984833335023 16045690984833335023)
unfolding sources_of sum_of difference_of
row337 = (((ltb-true 65535 65536 refl, ltb-true 2 65536 refl), refl, (refl, refl, refl)), ((ltb-true 65535 65536 refl, ltb-true 2 65536 refl), refl))

row338 : Leaves (sources_of (op.Compare Word)) 8 (temps 65535 2 16045690984833335023 16045690984833335023 16045690984833335023)
unfolding sources_of sum_of difference_of
row338 = (((ltb-true 65535 65536 refl, ltb-true 2 65536 refl), (refl, refl, refl)), ((ltb-true 65535 65536 refl, ltb-true 2 65536 refl), refl))

row339 : Leaves (sources_of (op.TwoOperands Add Word)) 1 (temps 65535 32767 32766 16045690984833335023 16045690984833335023)
unfolding sources_of sum_of difference_of
row339 = (((ltb-true 65535 65536 refl, ltb-true 32767 65536 refl), refl, (refl, refl, refl)), ((ltb-true 65535 65536 refl, ltb-true 32767 65536 refl), refl))

row340 : Leaves (sources_of (op.TwoOperands Subtract Word)) 8 (temps 65535 32767 32768 16045690984833335023 16045690984833335023)
unfolding sources_of sum_of difference_of
row340 = (((ltb-true 65535 65536 refl, ltb-true 32767 65536 refl), refl, (refl, refl, refl)), ((ltb-true 65535 65536 refl, ltb-true 32767 65536 refl), refl))

row341 : Leaves (sources_of (op.Compare Word)) 8 (temps 65535 32767 16045690984833335023 16045690984833335023 16045690984833335023)
unfolding sources_of sum_of difference_of
row341 = (((ltb-true 65535 65536 refl, ltb-true 32767 65536 refl), (refl, refl, refl)), ((ltb-true 65535 65536 refl, ltb-true 32767 65536 refl), refl))

row342 : Leaves (sources_of (op.TwoOperands Add Word)) 3 (temps 65535 32768 32767 16045690984833335023 16045690984833335023)
unfolding sources_of sum_of difference_of
row342 = (((ltb-true 65535 65536 refl, ltb-true 32768 65536 refl), refl, (refl, refl, refl)), ((ltb-true 65535 65536 refl, ltb-true 32768 65536 refl), refl))

row343 : Leaves (sources_of (op.TwoOperands Subtract Word)) 0 (temps 65535 32768 32767 16045690984833335023 16045690984833335023)
unfolding sources_of sum_of difference_of
row343 = (((ltb-true 65535 65536 refl, ltb-true 32768 65536 refl), refl, (refl, refl, refl)), ((ltb-true 65535 65536 refl, ltb-true 32768 65536 refl), refl))

row344 : Leaves (sources_of (op.Compare Word)) 0 (temps 65535 32768 16045690984833335023 16045690984833335023 16045690984833335023)
unfolding sources_of sum_of difference_of
row344 = (((ltb-true 65535 65536 refl, ltb-true 32768 65536 refl), (refl, refl, refl)), ((ltb-true 65535 65536 refl, ltb-true 32768 65536 refl), refl))

row345 : Leaves (sources_of (op.TwoOperands Add Word)) 9 (temps 65535 32769 32768 16045690984833335023 16045690984833335023)
unfolding sources_of sum_of difference_of
row345 = (((ltb-true 65535 65536 refl, ltb-true 32769 65536 refl), refl, (refl, refl, refl)), ((ltb-true 65535 65536 refl, ltb-true 32769 65536 refl), refl))

row346 : Leaves (sources_of (op.TwoOperands Subtract Word)) 0 (temps 65535 32769 32766 16045690984833335023 16045690984833335023)
unfolding sources_of sum_of difference_of
row346 = (((ltb-true 65535 65536 refl, ltb-true 32769 65536 refl), refl, (refl, refl, refl)), ((ltb-true 65535 65536 refl, ltb-true 32769 65536 refl), refl))

row347 : Leaves (sources_of (op.Compare Word)) 0 (temps 65535 32769 16045690984833335023 16045690984833335023 16045690984833335023)
unfolding sources_of sum_of difference_of
row347 = (((ltb-true 65535 65536 refl, ltb-true 32769 65536 refl), (refl, refl, refl)), ((ltb-true 65535 65536 refl, ltb-true 32769 65536 refl), refl))

row348 : Leaves (sources_of (op.TwoOperands Add Word)) 9 (temps 65535 65535 65534 16045690984833335023 16045690984833335023)
unfolding sources_of sum_of difference_of
row348 = (((ltb-true 65535 65536 refl, ltb-true 65535 65536 refl), refl, (refl, refl, refl)), ((ltb-true 65535 65536 refl, ltb-true 65535 65536 refl), refl))

row349 : Leaves (sources_of (op.TwoOperands Subtract Word)) 4 (temps 65535 65535 0 16045690984833335023 16045690984833335023)
unfolding sources_of sum_of difference_of
row349 = (((ltb-true 65535 65536 refl, ltb-true 65535 65536 refl), refl, (refl, refl, refl)), ((ltb-true 65535 65536 refl, ltb-true 65535 65536 refl), refl))

row350 : Leaves (sources_of (op.Compare Word)) 4 (temps 65535 65535 16045690984833335023 16045690984833335023 16045690984833335023)
unfolding sources_of sum_of difference_of
row350 = (((ltb-true 65535 65536 refl, ltb-true 65535 65536 refl), (refl, refl, refl)), ((ltb-true 65535 65536 refl, ltb-true 65535 65536 refl), refl))

row351 : Leaves (sources_of (op.TwoOperands Add Long)) 4 (temps 0 0 0 16045690984833335023 16045690984833335023)
unfolding sources_of sum_of difference_of
row351 = (((ltb-true 0 4294967296 refl, ltb-true 0 4294967296 refl), refl, (refl, refl, refl)), ((ltb-true 0 4294967296 refl, ltb-true 0 4294967296 refl), refl))

row352 : Leaves (sources_of (op.TwoOperands Subtract Long)) 4 (temps 0 0 0 16045690984833335023 16045690984833335023)
unfolding sources_of sum_of difference_of
row352 = (((ltb-true 0 4294967296 refl, ltb-true 0 4294967296 refl), refl, (refl, refl, refl)), ((ltb-true 0 4294967296 refl, ltb-true 0 4294967296 refl), refl))

row353 : Leaves (sources_of (op.Compare Long)) 4 (temps 0 0 16045690984833335023 16045690984833335023 16045690984833335023)
unfolding sources_of sum_of difference_of
row353 = (((ltb-true 0 4294967296 refl, ltb-true 0 4294967296 refl), (refl, refl, refl)), ((ltb-true 0 4294967296 refl, ltb-true 0 4294967296 refl), refl))

row354 : Leaves (sources_of (op.TwoOperands Add Long)) 0 (temps 0 1 1 16045690984833335023 16045690984833335023)
unfolding sources_of sum_of difference_of
row354 = (((ltb-true 0 4294967296 refl, ltb-true 1 4294967296 refl), refl, (refl, refl, refl)), ((ltb-true 0 4294967296 refl, ltb-true 1 4294967296 refl), refl))

row355 : Leaves (sources_of (op.TwoOperands Subtract Long)) 9 (temps 0 1 4294967295 16045690984833335023 16045690984833335023)
unfolding sources_of sum_of difference_of
row355 = (((ltb-true 0 4294967296 refl, ltb-true 1 4294967296 refl), refl, (refl, refl, refl)), ((ltb-true 0 4294967296 refl, ltb-true 1 4294967296 refl), refl))

row356 : Leaves (sources_of (op.Compare Long)) 9 (temps 0 1 16045690984833335023 16045690984833335023 16045690984833335023)
unfolding sources_of sum_of difference_of
row356 = (((ltb-true 0 4294967296 refl, ltb-true 1 4294967296 refl), (refl, refl, refl)), ((ltb-true 0 4294967296 refl, ltb-true 1 4294967296 refl), refl))

row357 : Leaves (sources_of (op.TwoOperands Add Long)) 0 (temps 0 2 2 16045690984833335023 16045690984833335023)
unfolding sources_of sum_of difference_of
row357 = (((ltb-true 0 4294967296 refl, ltb-true 2 4294967296 refl), refl, (refl, refl, refl)), ((ltb-true 0 4294967296 refl, ltb-true 2 4294967296 refl), refl))

row358 : Leaves (sources_of (op.TwoOperands Subtract Long)) 9 (temps 0 2 4294967294 16045690984833335023 16045690984833335023)
unfolding sources_of sum_of difference_of
row358 = (((ltb-true 0 4294967296 refl, ltb-true 2 4294967296 refl), refl, (refl, refl, refl)), ((ltb-true 0 4294967296 refl, ltb-true 2 4294967296 refl), refl))

row359 : Leaves (sources_of (op.Compare Long)) 9 (temps 0 2 16045690984833335023 16045690984833335023 16045690984833335023)
unfolding sources_of sum_of difference_of
row359 = (((ltb-true 0 4294967296 refl, ltb-true 2 4294967296 refl), (refl, refl, refl)), ((ltb-true 0 4294967296 refl, ltb-true 2 4294967296 refl), refl))

row360 : Leaves (sources_of (op.TwoOperands Add Long)) 0 (temps 0 2147483647 2147483647 16045690984833335023 16045690984833335023)
unfolding sources_of sum_of difference_of
row360 = (((ltb-true 0 4294967296 refl, ltb-true 2147483647 4294967296 refl), refl, (refl, refl, refl)), ((ltb-true 0 4294967296 refl, ltb-true 2147483647 4294967296 refl), refl))

row361 : Leaves (sources_of (op.TwoOperands Subtract Long)) 9 (temps 0 2147483647 2147483649 16045690984833335023 16045690984833335023)
unfolding sources_of sum_of difference_of
row361 = (((ltb-true 0 4294967296 refl, ltb-true 2147483647 4294967296 refl), refl, (refl, refl, refl)), ((ltb-true 0 4294967296 refl, ltb-true 2147483647 4294967296 refl), refl))

row362 : Leaves (sources_of (op.Compare Long)) 9 (temps 0 2147483647 16045690984833335023 16045690984833335023 16045690984833335023)
unfolding sources_of sum_of difference_of
row362 = (((ltb-true 0 4294967296 refl, ltb-true 2147483647 4294967296 refl), (refl, refl, refl)), ((ltb-true 0 4294967296 refl, ltb-true 2147483647 4294967296 refl), refl))

row363 : Leaves (sources_of (op.TwoOperands Add Long)) 8 (temps 0 2147483648 2147483648 16045690984833335023 16045690984833335023)
unfolding sources_of sum_of difference_of
row363 = (((ltb-true 0 4294967296 refl, ltb-true 2147483648 4294967296 refl), refl, (refl, refl, refl)), ((ltb-true 0 4294967296 refl, ltb-true 2147483648 4294967296 refl), refl))

row364 : Leaves (sources_of (op.TwoOperands Subtract Long)) 11 (temps 0 2147483648 2147483648 16045690984833335023 16045690984833335023)
unfolding sources_of sum_of difference_of
row364 = (((ltb-true 0 4294967296 refl, ltb-true 2147483648 4294967296 refl), refl, (refl, refl, refl)), ((ltb-true 0 4294967296 refl, ltb-true 2147483648 4294967296 refl), refl))

row365 : Leaves (sources_of (op.Compare Long)) 1 (temps 0 2147483648 16045690984833335023 16045690984833335023 16045690984833335023)
unfolding sources_of sum_of difference_of
row365 = (((ltb-true 0 4294967296 refl, ltb-true 2147483648 4294967296 refl), (refl, refl, refl)), ((ltb-true 0 4294967296 refl, ltb-true 2147483648 4294967296 refl), refl))

row366 : Leaves (sources_of (op.TwoOperands Add Long)) 8 (temps 0 2147483649 2147483649 16045690984833335023 16045690984833335023)
unfolding sources_of sum_of difference_of
row366 = (((ltb-true 0 4294967296 refl, ltb-true 2147483649 4294967296 refl), refl, (refl, refl, refl)), ((ltb-true 0 4294967296 refl, ltb-true 2147483649 4294967296 refl), refl))

row367 : Leaves (sources_of (op.TwoOperands Subtract Long)) 1 (temps 0 2147483649 2147483647 16045690984833335023 16045690984833335023)
unfolding sources_of sum_of difference_of
row367 = (((ltb-true 0 4294967296 refl, ltb-true 2147483649 4294967296 refl), refl, (refl, refl, refl)), ((ltb-true 0 4294967296 refl, ltb-true 2147483649 4294967296 refl), refl))

row368 : Leaves (sources_of (op.Compare Long)) 1 (temps 0 2147483649 16045690984833335023 16045690984833335023 16045690984833335023)
unfolding sources_of sum_of difference_of
row368 = (((ltb-true 0 4294967296 refl, ltb-true 2147483649 4294967296 refl), (refl, refl, refl)), ((ltb-true 0 4294967296 refl, ltb-true 2147483649 4294967296 refl), refl))

row369 : Leaves (sources_of (op.TwoOperands Add Long)) 8 (temps 0 4294967295 4294967295 16045690984833335023 16045690984833335023)
unfolding sources_of sum_of difference_of
row369 = (((ltb-true 0 4294967296 refl, ltb-true 4294967295 4294967296 refl), refl, (refl, refl, refl)), ((ltb-true 0 4294967296 refl, ltb-true 4294967295 4294967296 refl), refl))

row370 : Leaves (sources_of (op.TwoOperands Subtract Long)) 1 (temps 0 4294967295 1 16045690984833335023 16045690984833335023)
unfolding sources_of sum_of difference_of
row370 = (((ltb-true 0 4294967296 refl, ltb-true 4294967295 4294967296 refl), refl, (refl, refl, refl)), ((ltb-true 0 4294967296 refl, ltb-true 4294967295 4294967296 refl), refl))

row371 : Leaves (sources_of (op.Compare Long)) 1 (temps 0 4294967295 16045690984833335023 16045690984833335023 16045690984833335023)
unfolding sources_of sum_of difference_of
row371 = (((ltb-true 0 4294967296 refl, ltb-true 4294967295 4294967296 refl), (refl, refl, refl)), ((ltb-true 0 4294967296 refl, ltb-true 4294967295 4294967296 refl), refl))

row372 : Leaves (sources_of (op.TwoOperands Add Long)) 0 (temps 1 0 1 16045690984833335023 16045690984833335023)
unfolding sources_of sum_of difference_of
row372 = (((ltb-true 1 4294967296 refl, ltb-true 0 4294967296 refl), refl, (refl, refl, refl)), ((ltb-true 1 4294967296 refl, ltb-true 0 4294967296 refl), refl))

row373 : Leaves (sources_of (op.TwoOperands Subtract Long)) 0 (temps 1 0 1 16045690984833335023 16045690984833335023)
unfolding sources_of sum_of difference_of
row373 = (((ltb-true 1 4294967296 refl, ltb-true 0 4294967296 refl), refl, (refl, refl, refl)), ((ltb-true 1 4294967296 refl, ltb-true 0 4294967296 refl), refl))

row374 : Leaves (sources_of (op.Compare Long)) 0 (temps 1 0 16045690984833335023 16045690984833335023 16045690984833335023)
unfolding sources_of sum_of difference_of
row374 = (((ltb-true 1 4294967296 refl, ltb-true 0 4294967296 refl), (refl, refl, refl)), ((ltb-true 1 4294967296 refl, ltb-true 0 4294967296 refl), refl))

row375 : Leaves (sources_of (op.TwoOperands Add Long)) 0 (temps 1 1 2 16045690984833335023 16045690984833335023)
unfolding sources_of sum_of difference_of
row375 = (((ltb-true 1 4294967296 refl, ltb-true 1 4294967296 refl), refl, (refl, refl, refl)), ((ltb-true 1 4294967296 refl, ltb-true 1 4294967296 refl), refl))

row376 : Leaves (sources_of (op.TwoOperands Subtract Long)) 4 (temps 1 1 0 16045690984833335023 16045690984833335023)
unfolding sources_of sum_of difference_of
row376 = (((ltb-true 1 4294967296 refl, ltb-true 1 4294967296 refl), refl, (refl, refl, refl)), ((ltb-true 1 4294967296 refl, ltb-true 1 4294967296 refl), refl))

row377 : Leaves (sources_of (op.Compare Long)) 4 (temps 1 1 16045690984833335023 16045690984833335023 16045690984833335023)
unfolding sources_of sum_of difference_of
row377 = (((ltb-true 1 4294967296 refl, ltb-true 1 4294967296 refl), (refl, refl, refl)), ((ltb-true 1 4294967296 refl, ltb-true 1 4294967296 refl), refl))

row378 : Leaves (sources_of (op.TwoOperands Add Long)) 0 (temps 1 2 3 16045690984833335023 16045690984833335023)
unfolding sources_of sum_of difference_of
row378 = (((ltb-true 1 4294967296 refl, ltb-true 2 4294967296 refl), refl, (refl, refl, refl)), ((ltb-true 1 4294967296 refl, ltb-true 2 4294967296 refl), refl))

row379 : Leaves (sources_of (op.TwoOperands Subtract Long)) 9 (temps 1 2 4294967295 16045690984833335023 16045690984833335023)
unfolding sources_of sum_of difference_of
row379 = (((ltb-true 1 4294967296 refl, ltb-true 2 4294967296 refl), refl, (refl, refl, refl)), ((ltb-true 1 4294967296 refl, ltb-true 2 4294967296 refl), refl))

row380 : Leaves (sources_of (op.Compare Long)) 9 (temps 1 2 16045690984833335023 16045690984833335023 16045690984833335023)
unfolding sources_of sum_of difference_of
row380 = (((ltb-true 1 4294967296 refl, ltb-true 2 4294967296 refl), (refl, refl, refl)), ((ltb-true 1 4294967296 refl, ltb-true 2 4294967296 refl), refl))

row381 : Leaves (sources_of (op.TwoOperands Add Long)) 10 (temps 1 2147483647 2147483648 16045690984833335023 16045690984833335023)
unfolding sources_of sum_of difference_of
row381 = (((ltb-true 1 4294967296 refl, ltb-true 2147483647 4294967296 refl), refl, (refl, refl, refl)), ((ltb-true 1 4294967296 refl, ltb-true 2147483647 4294967296 refl), refl))

row382 : Leaves (sources_of (op.TwoOperands Subtract Long)) 9 (temps 1 2147483647 2147483650 16045690984833335023 16045690984833335023)
unfolding sources_of sum_of difference_of
row382 = (((ltb-true 1 4294967296 refl, ltb-true 2147483647 4294967296 refl), refl, (refl, refl, refl)), ((ltb-true 1 4294967296 refl, ltb-true 2147483647 4294967296 refl), refl))

row383 : Leaves (sources_of (op.Compare Long)) 9 (temps 1 2147483647 16045690984833335023 16045690984833335023 16045690984833335023)
unfolding sources_of sum_of difference_of
row383 = (((ltb-true 1 4294967296 refl, ltb-true 2147483647 4294967296 refl), (refl, refl, refl)), ((ltb-true 1 4294967296 refl, ltb-true 2147483647 4294967296 refl), refl))

row384 : Leaves (sources_of (op.TwoOperands Add Long)) 8 (temps 1 2147483648 2147483649 16045690984833335023 16045690984833335023)
unfolding sources_of sum_of difference_of
row384 = (((ltb-true 1 4294967296 refl, ltb-true 2147483648 4294967296 refl), refl, (refl, refl, refl)), ((ltb-true 1 4294967296 refl, ltb-true 2147483648 4294967296 refl), refl))

row385 : Leaves (sources_of (op.TwoOperands Subtract Long)) 11 (temps 1 2147483648 2147483649 16045690984833335023 16045690984833335023)
unfolding sources_of sum_of difference_of
row385 = (((ltb-true 1 4294967296 refl, ltb-true 2147483648 4294967296 refl), refl, (refl, refl, refl)), ((ltb-true 1 4294967296 refl, ltb-true 2147483648 4294967296 refl), refl))

row386 : Leaves (sources_of (op.Compare Long)) 1 (temps 1 2147483648 16045690984833335023 16045690984833335023 16045690984833335023)
unfolding sources_of sum_of difference_of
row386 = (((ltb-true 1 4294967296 refl, ltb-true 2147483648 4294967296 refl), (refl, refl, refl)), ((ltb-true 1 4294967296 refl, ltb-true 2147483648 4294967296 refl), refl))

row387 : Leaves (sources_of (op.TwoOperands Add Long)) 8 (temps 1 2147483649 2147483650 16045690984833335023 16045690984833335023)
unfolding sources_of sum_of difference_of
row387 = (((ltb-true 1 4294967296 refl, ltb-true 2147483649 4294967296 refl), refl, (refl, refl, refl)), ((ltb-true 1 4294967296 refl, ltb-true 2147483649 4294967296 refl), refl))

row388 : Leaves (sources_of (op.TwoOperands Subtract Long)) 11 (temps 1 2147483649 2147483648 16045690984833335023 16045690984833335023)
unfolding sources_of sum_of difference_of
row388 = (((ltb-true 1 4294967296 refl, ltb-true 2147483649 4294967296 refl), refl, (refl, refl, refl)), ((ltb-true 1 4294967296 refl, ltb-true 2147483649 4294967296 refl), refl))

row389 : Leaves (sources_of (op.Compare Long)) 1 (temps 1 2147483649 16045690984833335023 16045690984833335023 16045690984833335023)
unfolding sources_of sum_of difference_of
row389 = (((ltb-true 1 4294967296 refl, ltb-true 2147483649 4294967296 refl), (refl, refl, refl)), ((ltb-true 1 4294967296 refl, ltb-true 2147483649 4294967296 refl), refl))

row390 : Leaves (sources_of (op.TwoOperands Add Long)) 5 (temps 1 4294967295 0 16045690984833335023 16045690984833335023)
unfolding sources_of sum_of difference_of
row390 = (((ltb-true 1 4294967296 refl, ltb-true 4294967295 4294967296 refl), refl, (refl, refl, refl)), ((ltb-true 1 4294967296 refl, ltb-true 4294967295 4294967296 refl), refl))

row391 : Leaves (sources_of (op.TwoOperands Subtract Long)) 1 (temps 1 4294967295 2 16045690984833335023 16045690984833335023)
unfolding sources_of sum_of difference_of
row391 = (((ltb-true 1 4294967296 refl, ltb-true 4294967295 4294967296 refl), refl, (refl, refl, refl)), ((ltb-true 1 4294967296 refl, ltb-true 4294967295 4294967296 refl), refl))

row392 : Leaves (sources_of (op.Compare Long)) 1 (temps 1 4294967295 16045690984833335023 16045690984833335023 16045690984833335023)
unfolding sources_of sum_of difference_of
row392 = (((ltb-true 1 4294967296 refl, ltb-true 4294967295 4294967296 refl), (refl, refl, refl)), ((ltb-true 1 4294967296 refl, ltb-true 4294967295 4294967296 refl), refl))

row393 : Leaves (sources_of (op.TwoOperands Add Long)) 0 (temps 2 0 2 16045690984833335023 16045690984833335023)
unfolding sources_of sum_of difference_of
row393 = (((ltb-true 2 4294967296 refl, ltb-true 0 4294967296 refl), refl, (refl, refl, refl)), ((ltb-true 2 4294967296 refl, ltb-true 0 4294967296 refl), refl))

row394 : Leaves (sources_of (op.TwoOperands Subtract Long)) 0 (temps 2 0 2 16045690984833335023 16045690984833335023)
unfolding sources_of sum_of difference_of
row394 = (((ltb-true 2 4294967296 refl, ltb-true 0 4294967296 refl), refl, (refl, refl, refl)), ((ltb-true 2 4294967296 refl, ltb-true 0 4294967296 refl), refl))

row395 : Leaves (sources_of (op.Compare Long)) 0 (temps 2 0 16045690984833335023 16045690984833335023 16045690984833335023)
unfolding sources_of sum_of difference_of
row395 = (((ltb-true 2 4294967296 refl, ltb-true 0 4294967296 refl), (refl, refl, refl)), ((ltb-true 2 4294967296 refl, ltb-true 0 4294967296 refl), refl))

row396 : Leaves (sources_of (op.TwoOperands Add Long)) 0 (temps 2 1 3 16045690984833335023 16045690984833335023)
unfolding sources_of sum_of difference_of
row396 = (((ltb-true 2 4294967296 refl, ltb-true 1 4294967296 refl), refl, (refl, refl, refl)), ((ltb-true 2 4294967296 refl, ltb-true 1 4294967296 refl), refl))

row397 : Leaves (sources_of (op.TwoOperands Subtract Long)) 0 (temps 2 1 1 16045690984833335023 16045690984833335023)
unfolding sources_of sum_of difference_of
row397 = (((ltb-true 2 4294967296 refl, ltb-true 1 4294967296 refl), refl, (refl, refl, refl)), ((ltb-true 2 4294967296 refl, ltb-true 1 4294967296 refl), refl))

row398 : Leaves (sources_of (op.Compare Long)) 0 (temps 2 1 16045690984833335023 16045690984833335023 16045690984833335023)
unfolding sources_of sum_of difference_of
row398 = (((ltb-true 2 4294967296 refl, ltb-true 1 4294967296 refl), (refl, refl, refl)), ((ltb-true 2 4294967296 refl, ltb-true 1 4294967296 refl), refl))

row399 : Leaves (sources_of (op.TwoOperands Add Long)) 0 (temps 2 2 4 16045690984833335023 16045690984833335023)
unfolding sources_of sum_of difference_of
row399 = (((ltb-true 2 4294967296 refl, ltb-true 2 4294967296 refl), refl, (refl, refl, refl)), ((ltb-true 2 4294967296 refl, ltb-true 2 4294967296 refl), refl))

row400 : Leaves (sources_of (op.TwoOperands Subtract Long)) 4 (temps 2 2 0 16045690984833335023 16045690984833335023)
unfolding sources_of sum_of difference_of
row400 = (((ltb-true 2 4294967296 refl, ltb-true 2 4294967296 refl), refl, (refl, refl, refl)), ((ltb-true 2 4294967296 refl, ltb-true 2 4294967296 refl), refl))

row401 : Leaves (sources_of (op.Compare Long)) 4 (temps 2 2 16045690984833335023 16045690984833335023 16045690984833335023)
unfolding sources_of sum_of difference_of
row401 = (((ltb-true 2 4294967296 refl, ltb-true 2 4294967296 refl), (refl, refl, refl)), ((ltb-true 2 4294967296 refl, ltb-true 2 4294967296 refl), refl))

row402 : Leaves (sources_of (op.TwoOperands Add Long)) 10 (temps 2 2147483647 2147483649 16045690984833335023 16045690984833335023)
unfolding sources_of sum_of difference_of
row402 = (((ltb-true 2 4294967296 refl, ltb-true 2147483647 4294967296 refl), refl, (refl, refl, refl)), ((ltb-true 2 4294967296 refl, ltb-true 2147483647 4294967296 refl), refl))

row403 : Leaves (sources_of (op.TwoOperands Subtract Long)) 9 (temps 2 2147483647 2147483651 16045690984833335023 16045690984833335023)
unfolding sources_of sum_of difference_of
row403 = (((ltb-true 2 4294967296 refl, ltb-true 2147483647 4294967296 refl), refl, (refl, refl, refl)), ((ltb-true 2 4294967296 refl, ltb-true 2147483647 4294967296 refl), refl))

row404 : Leaves (sources_of (op.Compare Long)) 9 (temps 2 2147483647 16045690984833335023 16045690984833335023 16045690984833335023)
unfolding sources_of sum_of difference_of
row404 = (((ltb-true 2 4294967296 refl, ltb-true 2147483647 4294967296 refl), (refl, refl, refl)), ((ltb-true 2 4294967296 refl, ltb-true 2147483647 4294967296 refl), refl))

row405 : Leaves (sources_of (op.TwoOperands Add Long)) 8 (temps 2 2147483648 2147483650 16045690984833335023 16045690984833335023)
unfolding sources_of sum_of difference_of
row405 = (((ltb-true 2 4294967296 refl, ltb-true 2147483648 4294967296 refl), refl, (refl, refl, refl)), ((ltb-true 2 4294967296 refl, ltb-true 2147483648 4294967296 refl), refl))

row406 : Leaves (sources_of (op.TwoOperands Subtract Long)) 11 (temps 2 2147483648 2147483650 16045690984833335023 16045690984833335023)
unfolding sources_of sum_of difference_of
row406 = (((ltb-true 2 4294967296 refl, ltb-true 2147483648 4294967296 refl), refl, (refl, refl, refl)), ((ltb-true 2 4294967296 refl, ltb-true 2147483648 4294967296 refl), refl))

row407 : Leaves (sources_of (op.Compare Long)) 1 (temps 2 2147483648 16045690984833335023 16045690984833335023 16045690984833335023)
unfolding sources_of sum_of difference_of
row407 = (((ltb-true 2 4294967296 refl, ltb-true 2147483648 4294967296 refl), (refl, refl, refl)), ((ltb-true 2 4294967296 refl, ltb-true 2147483648 4294967296 refl), refl))

row408 : Leaves (sources_of (op.TwoOperands Add Long)) 8 (temps 2 2147483649 2147483651 16045690984833335023 16045690984833335023)
unfolding sources_of sum_of difference_of
row408 = (((ltb-true 2 4294967296 refl, ltb-true 2147483649 4294967296 refl), refl, (refl, refl, refl)), ((ltb-true 2 4294967296 refl, ltb-true 2147483649 4294967296 refl), refl))

row409 : Leaves (sources_of (op.TwoOperands Subtract Long)) 11 (temps 2 2147483649 2147483649 16045690984833335023 16045690984833335023)
unfolding sources_of sum_of difference_of
row409 = (((ltb-true 2 4294967296 refl, ltb-true 2147483649 4294967296 refl), refl, (refl, refl, refl)), ((ltb-true 2 4294967296 refl, ltb-true 2147483649 4294967296 refl), refl))

row410 : Leaves (sources_of (op.Compare Long)) 1 (temps 2 2147483649 16045690984833335023 16045690984833335023 16045690984833335023)
unfolding sources_of sum_of difference_of
row410 = (((ltb-true 2 4294967296 refl, ltb-true 2147483649 4294967296 refl), (refl, refl, refl)), ((ltb-true 2 4294967296 refl, ltb-true 2147483649 4294967296 refl), refl))

row411 : Leaves (sources_of (op.TwoOperands Add Long)) 1 (temps 2 4294967295 1 16045690984833335023 16045690984833335023)
unfolding sources_of sum_of difference_of
row411 = (((ltb-true 2 4294967296 refl, ltb-true 4294967295 4294967296 refl), refl, (refl, refl, refl)), ((ltb-true 2 4294967296 refl, ltb-true 4294967295 4294967296 refl), refl))

row412 : Leaves (sources_of (op.TwoOperands Subtract Long)) 1 (temps 2 4294967295 3 16045690984833335023 16045690984833335023)
unfolding sources_of sum_of difference_of
row412 = (((ltb-true 2 4294967296 refl, ltb-true 4294967295 4294967296 refl), refl, (refl, refl, refl)), ((ltb-true 2 4294967296 refl, ltb-true 4294967295 4294967296 refl), refl))

row413 : Leaves (sources_of (op.Compare Long)) 1 (temps 2 4294967295 16045690984833335023 16045690984833335023 16045690984833335023)
unfolding sources_of sum_of difference_of
row413 = (((ltb-true 2 4294967296 refl, ltb-true 4294967295 4294967296 refl), (refl, refl, refl)), ((ltb-true 2 4294967296 refl, ltb-true 4294967295 4294967296 refl), refl))

row414 : Leaves (sources_of (op.TwoOperands Add Long)) 0 (temps 2147483647 0 2147483647 16045690984833335023 16045690984833335023)
unfolding sources_of sum_of difference_of
row414 = (((ltb-true 2147483647 4294967296 refl, ltb-true 0 4294967296 refl), refl, (refl, refl, refl)), ((ltb-true 2147483647 4294967296 refl, ltb-true 0 4294967296 refl), refl))

row415 : Leaves (sources_of (op.TwoOperands Subtract Long)) 0 (temps 2147483647 0 2147483647 16045690984833335023 16045690984833335023)
unfolding sources_of sum_of difference_of
row415 = (((ltb-true 2147483647 4294967296 refl, ltb-true 0 4294967296 refl), refl, (refl, refl, refl)), ((ltb-true 2147483647 4294967296 refl, ltb-true 0 4294967296 refl), refl))

row416 : Leaves (sources_of (op.Compare Long)) 0 (temps 2147483647 0 16045690984833335023 16045690984833335023 16045690984833335023)
unfolding sources_of sum_of difference_of
row416 = (((ltb-true 2147483647 4294967296 refl, ltb-true 0 4294967296 refl), (refl, refl, refl)), ((ltb-true 2147483647 4294967296 refl, ltb-true 0 4294967296 refl), refl))

row417 : Leaves (sources_of (op.TwoOperands Add Long)) 10 (temps 2147483647 1 2147483648 16045690984833335023 16045690984833335023)
unfolding sources_of sum_of difference_of
row417 = (((ltb-true 2147483647 4294967296 refl, ltb-true 1 4294967296 refl), refl, (refl, refl, refl)), ((ltb-true 2147483647 4294967296 refl, ltb-true 1 4294967296 refl), refl))

row418 : Leaves (sources_of (op.TwoOperands Subtract Long)) 0 (temps 2147483647 1 2147483646 16045690984833335023 16045690984833335023)
unfolding sources_of sum_of difference_of
row418 = (((ltb-true 2147483647 4294967296 refl, ltb-true 1 4294967296 refl), refl, (refl, refl, refl)), ((ltb-true 2147483647 4294967296 refl, ltb-true 1 4294967296 refl), refl))

row419 : Leaves (sources_of (op.Compare Long)) 0 (temps 2147483647 1 16045690984833335023 16045690984833335023 16045690984833335023)
unfolding sources_of sum_of difference_of
row419 = (((ltb-true 2147483647 4294967296 refl, ltb-true 1 4294967296 refl), (refl, refl, refl)), ((ltb-true 2147483647 4294967296 refl, ltb-true 1 4294967296 refl), refl))

row420 : Leaves (sources_of (op.TwoOperands Add Long)) 10 (temps 2147483647 2 2147483649 16045690984833335023 16045690984833335023)
unfolding sources_of sum_of difference_of
row420 = (((ltb-true 2147483647 4294967296 refl, ltb-true 2 4294967296 refl), refl, (refl, refl, refl)), ((ltb-true 2147483647 4294967296 refl, ltb-true 2 4294967296 refl), refl))

row421 : Leaves (sources_of (op.TwoOperands Subtract Long)) 0 (temps 2147483647 2 2147483645 16045690984833335023 16045690984833335023)
unfolding sources_of sum_of difference_of
row421 = (((ltb-true 2147483647 4294967296 refl, ltb-true 2 4294967296 refl), refl, (refl, refl, refl)), ((ltb-true 2147483647 4294967296 refl, ltb-true 2 4294967296 refl), refl))

row422 : Leaves (sources_of (op.Compare Long)) 0 (temps 2147483647 2 16045690984833335023 16045690984833335023 16045690984833335023)
unfolding sources_of sum_of difference_of
row422 = (((ltb-true 2147483647 4294967296 refl, ltb-true 2 4294967296 refl), (refl, refl, refl)), ((ltb-true 2147483647 4294967296 refl, ltb-true 2 4294967296 refl), refl))

row423 : Leaves (sources_of (op.TwoOperands Add Long)) 10 (temps 2147483647 2147483647 4294967294 16045690984833335023 16045690984833335023)
unfolding sources_of sum_of difference_of
row423 = (((ltb-true 2147483647 4294967296 refl, ltb-true 2147483647 4294967296 refl), refl, (refl, refl, refl)), ((ltb-true 2147483647 4294967296 refl, ltb-true 2147483647 4294967296 refl), refl))

row424 : Leaves (sources_of (op.TwoOperands Subtract Long)) 4 (temps 2147483647 2147483647 0 16045690984833335023 16045690984833335023)
unfolding sources_of sum_of difference_of
row424 = (((ltb-true 2147483647 4294967296 refl, ltb-true 2147483647 4294967296 refl), refl, (refl, refl, refl)), ((ltb-true 2147483647 4294967296 refl, ltb-true 2147483647 4294967296 refl), refl))

row425 : Leaves (sources_of (op.Compare Long)) 4 (temps 2147483647 2147483647 16045690984833335023 16045690984833335023 16045690984833335023)
unfolding sources_of sum_of difference_of
row425 = (((ltb-true 2147483647 4294967296 refl, ltb-true 2147483647 4294967296 refl), (refl, refl, refl)), ((ltb-true 2147483647 4294967296 refl, ltb-true 2147483647 4294967296 refl), refl))

row426 : Leaves (sources_of (op.TwoOperands Add Long)) 8 (temps 2147483647 2147483648 4294967295 16045690984833335023 16045690984833335023)
unfolding sources_of sum_of difference_of
row426 = (((ltb-true 2147483647 4294967296 refl, ltb-true 2147483648 4294967296 refl), refl, (refl, refl, refl)), ((ltb-true 2147483647 4294967296 refl, ltb-true 2147483648 4294967296 refl), refl))

row427 : Leaves (sources_of (op.TwoOperands Subtract Long)) 11 (temps 2147483647 2147483648 4294967295 16045690984833335023 16045690984833335023)
unfolding sources_of sum_of difference_of
row427 = (((ltb-true 2147483647 4294967296 refl, ltb-true 2147483648 4294967296 refl), refl, (refl, refl, refl)), ((ltb-true 2147483647 4294967296 refl, ltb-true 2147483648 4294967296 refl), refl))

row428 : Leaves (sources_of (op.Compare Long)) 1 (temps 2147483647 2147483648 16045690984833335023 16045690984833335023 16045690984833335023)
unfolding sources_of sum_of difference_of
row428 = (((ltb-true 2147483647 4294967296 refl, ltb-true 2147483648 4294967296 refl), (refl, refl, refl)), ((ltb-true 2147483647 4294967296 refl, ltb-true 2147483648 4294967296 refl), refl))

row429 : Leaves (sources_of (op.TwoOperands Add Long)) 5 (temps 2147483647 2147483649 0 16045690984833335023 16045690984833335023)
unfolding sources_of sum_of difference_of
row429 = (((ltb-true 2147483647 4294967296 refl, ltb-true 2147483649 4294967296 refl), refl, (refl, refl, refl)), ((ltb-true 2147483647 4294967296 refl, ltb-true 2147483649 4294967296 refl), refl))

row430 : Leaves (sources_of (op.TwoOperands Subtract Long)) 11 (temps 2147483647 2147483649 4294967294 16045690984833335023 16045690984833335023)
unfolding sources_of sum_of difference_of
row430 = (((ltb-true 2147483647 4294967296 refl, ltb-true 2147483649 4294967296 refl), refl, (refl, refl, refl)), ((ltb-true 2147483647 4294967296 refl, ltb-true 2147483649 4294967296 refl), refl))

row431 : Leaves (sources_of (op.Compare Long)) 1 (temps 2147483647 2147483649 16045690984833335023 16045690984833335023 16045690984833335023)
unfolding sources_of sum_of difference_of
row431 = (((ltb-true 2147483647 4294967296 refl, ltb-true 2147483649 4294967296 refl), (refl, refl, refl)), ((ltb-true 2147483647 4294967296 refl, ltb-true 2147483649 4294967296 refl), refl))

row432 : Leaves (sources_of (op.TwoOperands Add Long)) 1 (temps 2147483647 4294967295 2147483646 16045690984833335023 16045690984833335023)
unfolding sources_of sum_of difference_of
row432 = (((ltb-true 2147483647 4294967296 refl, ltb-true 4294967295 4294967296 refl), refl, (refl, refl, refl)), ((ltb-true 2147483647 4294967296 refl, ltb-true 4294967295 4294967296 refl), refl))

row433 : Leaves (sources_of (op.TwoOperands Subtract Long)) 11 (temps 2147483647 4294967295 2147483648 16045690984833335023 16045690984833335023)
unfolding sources_of sum_of difference_of
row433 = (((ltb-true 2147483647 4294967296 refl, ltb-true 4294967295 4294967296 refl), refl, (refl, refl, refl)), ((ltb-true 2147483647 4294967296 refl, ltb-true 4294967295 4294967296 refl), refl))

row434 : Leaves (sources_of (op.Compare Long)) 1 (temps 2147483647 4294967295 16045690984833335023 16045690984833335023 16045690984833335023)
unfolding sources_of sum_of difference_of
row434 = (((ltb-true 2147483647 4294967296 refl, ltb-true 4294967295 4294967296 refl), (refl, refl, refl)), ((ltb-true 2147483647 4294967296 refl, ltb-true 4294967295 4294967296 refl), refl))

row435 : Leaves (sources_of (op.TwoOperands Add Long)) 8 (temps 2147483648 0 2147483648 16045690984833335023 16045690984833335023)
unfolding sources_of sum_of difference_of
row435 = (((ltb-true 2147483648 4294967296 refl, ltb-true 0 4294967296 refl), refl, (refl, refl, refl)), ((ltb-true 2147483648 4294967296 refl, ltb-true 0 4294967296 refl), refl))

row436 : Leaves (sources_of (op.TwoOperands Subtract Long)) 8 (temps 2147483648 0 2147483648 16045690984833335023 16045690984833335023)
unfolding sources_of sum_of difference_of
row436 = (((ltb-true 2147483648 4294967296 refl, ltb-true 0 4294967296 refl), refl, (refl, refl, refl)), ((ltb-true 2147483648 4294967296 refl, ltb-true 0 4294967296 refl), refl))

row437 : Leaves (sources_of (op.Compare Long)) 8 (temps 2147483648 0 16045690984833335023 16045690984833335023 16045690984833335023)
unfolding sources_of sum_of difference_of
row437 = (((ltb-true 2147483648 4294967296 refl, ltb-true 0 4294967296 refl), (refl, refl, refl)), ((ltb-true 2147483648 4294967296 refl, ltb-true 0 4294967296 refl), refl))

row438 : Leaves (sources_of (op.TwoOperands Add Long)) 8 (temps 2147483648 1 2147483649 16045690984833335023 16045690984833335023)
unfolding sources_of sum_of difference_of
row438 = (((ltb-true 2147483648 4294967296 refl, ltb-true 1 4294967296 refl), refl, (refl, refl, refl)), ((ltb-true 2147483648 4294967296 refl, ltb-true 1 4294967296 refl), refl))

row439 : Leaves (sources_of (op.TwoOperands Subtract Long)) 2 (temps 2147483648 1 2147483647 16045690984833335023 16045690984833335023)
unfolding sources_of sum_of difference_of
row439 = (((ltb-true 2147483648 4294967296 refl, ltb-true 1 4294967296 refl), refl, (refl, refl, refl)), ((ltb-true 2147483648 4294967296 refl, ltb-true 1 4294967296 refl), refl))

row440 : Leaves (sources_of (op.Compare Long)) 8 (temps 2147483648 1 16045690984833335023 16045690984833335023 16045690984833335023)
unfolding sources_of sum_of difference_of
row440 = (((ltb-true 2147483648 4294967296 refl, ltb-true 1 4294967296 refl), (refl, refl, refl)), ((ltb-true 2147483648 4294967296 refl, ltb-true 1 4294967296 refl), refl))

row441 : Leaves (sources_of (op.TwoOperands Add Long)) 8 (temps 2147483648 2 2147483650 16045690984833335023 16045690984833335023)
unfolding sources_of sum_of difference_of
row441 = (((ltb-true 2147483648 4294967296 refl, ltb-true 2 4294967296 refl), refl, (refl, refl, refl)), ((ltb-true 2147483648 4294967296 refl, ltb-true 2 4294967296 refl), refl))

row442 : Leaves (sources_of (op.TwoOperands Subtract Long)) 2 (temps 2147483648 2 2147483646 16045690984833335023 16045690984833335023)
unfolding sources_of sum_of difference_of
row442 = (((ltb-true 2147483648 4294967296 refl, ltb-true 2 4294967296 refl), refl, (refl, refl, refl)), ((ltb-true 2147483648 4294967296 refl, ltb-true 2 4294967296 refl), refl))

row443 : Leaves (sources_of (op.Compare Long)) 8 (temps 2147483648 2 16045690984833335023 16045690984833335023 16045690984833335023)
unfolding sources_of sum_of difference_of
row443 = (((ltb-true 2147483648 4294967296 refl, ltb-true 2 4294967296 refl), (refl, refl, refl)), ((ltb-true 2147483648 4294967296 refl, ltb-true 2 4294967296 refl), refl))

row444 : Leaves (sources_of (op.TwoOperands Add Long)) 8 (temps 2147483648 2147483647 4294967295 16045690984833335023 16045690984833335023)
unfolding sources_of sum_of difference_of
row444 = (((ltb-true 2147483648 4294967296 refl, ltb-true 2147483647 4294967296 refl), refl, (refl, refl, refl)), ((ltb-true 2147483648 4294967296 refl, ltb-true 2147483647 4294967296 refl), refl))

row445 : Leaves (sources_of (op.TwoOperands Subtract Long)) 2 (temps 2147483648 2147483647 1 16045690984833335023 16045690984833335023)
unfolding sources_of sum_of difference_of
row445 = (((ltb-true 2147483648 4294967296 refl, ltb-true 2147483647 4294967296 refl), refl, (refl, refl, refl)), ((ltb-true 2147483648 4294967296 refl, ltb-true 2147483647 4294967296 refl), refl))

row446 : Leaves (sources_of (op.Compare Long)) 8 (temps 2147483648 2147483647 16045690984833335023 16045690984833335023 16045690984833335023)
unfolding sources_of sum_of difference_of
row446 = (((ltb-true 2147483648 4294967296 refl, ltb-true 2147483647 4294967296 refl), (refl, refl, refl)), ((ltb-true 2147483648 4294967296 refl, ltb-true 2147483647 4294967296 refl), refl))

row447 : Leaves (sources_of (op.TwoOperands Add Long)) 7 (temps 2147483648 2147483648 0 16045690984833335023 16045690984833335023)
unfolding sources_of sum_of difference_of
row447 = (((ltb-true 2147483648 4294967296 refl, ltb-true 2147483648 4294967296 refl), refl, (refl, refl, refl)), ((ltb-true 2147483648 4294967296 refl, ltb-true 2147483648 4294967296 refl), refl))

row448 : Leaves (sources_of (op.TwoOperands Subtract Long)) 4 (temps 2147483648 2147483648 0 16045690984833335023 16045690984833335023)
unfolding sources_of sum_of difference_of
row448 = (((ltb-true 2147483648 4294967296 refl, ltb-true 2147483648 4294967296 refl), refl, (refl, refl, refl)), ((ltb-true 2147483648 4294967296 refl, ltb-true 2147483648 4294967296 refl), refl))

row449 : Leaves (sources_of (op.Compare Long)) 4 (temps 2147483648 2147483648 16045690984833335023 16045690984833335023 16045690984833335023)
unfolding sources_of sum_of difference_of
row449 = (((ltb-true 2147483648 4294967296 refl, ltb-true 2147483648 4294967296 refl), (refl, refl, refl)), ((ltb-true 2147483648 4294967296 refl, ltb-true 2147483648 4294967296 refl), refl))

row450 : Leaves (sources_of (op.TwoOperands Add Long)) 3 (temps 2147483648 2147483649 1 16045690984833335023 16045690984833335023)
unfolding sources_of sum_of difference_of
row450 = (((ltb-true 2147483648 4294967296 refl, ltb-true 2147483649 4294967296 refl), refl, (refl, refl, refl)), ((ltb-true 2147483648 4294967296 refl, ltb-true 2147483649 4294967296 refl), refl))

row451 : Leaves (sources_of (op.TwoOperands Subtract Long)) 9 (temps 2147483648 2147483649 4294967295 16045690984833335023 16045690984833335023)
unfolding sources_of sum_of difference_of
row451 = (((ltb-true 2147483648 4294967296 refl, ltb-true 2147483649 4294967296 refl), refl, (refl, refl, refl)), ((ltb-true 2147483648 4294967296 refl, ltb-true 2147483649 4294967296 refl), refl))

row452 : Leaves (sources_of (op.Compare Long)) 9 (temps 2147483648 2147483649 16045690984833335023 16045690984833335023 16045690984833335023)
unfolding sources_of sum_of difference_of
row452 = (((ltb-true 2147483648 4294967296 refl, ltb-true 2147483649 4294967296 refl), (refl, refl, refl)), ((ltb-true 2147483648 4294967296 refl, ltb-true 2147483649 4294967296 refl), refl))

row453 : Leaves (sources_of (op.TwoOperands Add Long)) 3 (temps 2147483648 4294967295 2147483647 16045690984833335023 16045690984833335023)
unfolding sources_of sum_of difference_of
row453 = (((ltb-true 2147483648 4294967296 refl, ltb-true 4294967295 4294967296 refl), refl, (refl, refl, refl)), ((ltb-true 2147483648 4294967296 refl, ltb-true 4294967295 4294967296 refl), refl))

row454 : Leaves (sources_of (op.TwoOperands Subtract Long)) 9 (temps 2147483648 4294967295 2147483649 16045690984833335023 16045690984833335023)
unfolding sources_of sum_of difference_of
row454 = (((ltb-true 2147483648 4294967296 refl, ltb-true 4294967295 4294967296 refl), refl, (refl, refl, refl)), ((ltb-true 2147483648 4294967296 refl, ltb-true 4294967295 4294967296 refl), refl))

row455 : Leaves (sources_of (op.Compare Long)) 9 (temps 2147483648 4294967295 16045690984833335023 16045690984833335023 16045690984833335023)
unfolding sources_of sum_of difference_of
row455 = (((ltb-true 2147483648 4294967296 refl, ltb-true 4294967295 4294967296 refl), (refl, refl, refl)), ((ltb-true 2147483648 4294967296 refl, ltb-true 4294967295 4294967296 refl), refl))

row456 : Leaves (sources_of (op.TwoOperands Add Long)) 8 (temps 2147483649 0 2147483649 16045690984833335023 16045690984833335023)
unfolding sources_of sum_of difference_of
row456 = (((ltb-true 2147483649 4294967296 refl, ltb-true 0 4294967296 refl), refl, (refl, refl, refl)), ((ltb-true 2147483649 4294967296 refl, ltb-true 0 4294967296 refl), refl))

row457 : Leaves (sources_of (op.TwoOperands Subtract Long)) 8 (temps 2147483649 0 2147483649 16045690984833335023 16045690984833335023)
unfolding sources_of sum_of difference_of
row457 = (((ltb-true 2147483649 4294967296 refl, ltb-true 0 4294967296 refl), refl, (refl, refl, refl)), ((ltb-true 2147483649 4294967296 refl, ltb-true 0 4294967296 refl), refl))

row458 : Leaves (sources_of (op.Compare Long)) 8 (temps 2147483649 0 16045690984833335023 16045690984833335023 16045690984833335023)
unfolding sources_of sum_of difference_of
row458 = (((ltb-true 2147483649 4294967296 refl, ltb-true 0 4294967296 refl), (refl, refl, refl)), ((ltb-true 2147483649 4294967296 refl, ltb-true 0 4294967296 refl), refl))

row459 : Leaves (sources_of (op.TwoOperands Add Long)) 8 (temps 2147483649 1 2147483650 16045690984833335023 16045690984833335023)
unfolding sources_of sum_of difference_of
row459 = (((ltb-true 2147483649 4294967296 refl, ltb-true 1 4294967296 refl), refl, (refl, refl, refl)), ((ltb-true 2147483649 4294967296 refl, ltb-true 1 4294967296 refl), refl))

row460 : Leaves (sources_of (op.TwoOperands Subtract Long)) 8 (temps 2147483649 1 2147483648 16045690984833335023 16045690984833335023)
unfolding sources_of sum_of difference_of
row460 = (((ltb-true 2147483649 4294967296 refl, ltb-true 1 4294967296 refl), refl, (refl, refl, refl)), ((ltb-true 2147483649 4294967296 refl, ltb-true 1 4294967296 refl), refl))

row461 : Leaves (sources_of (op.Compare Long)) 8 (temps 2147483649 1 16045690984833335023 16045690984833335023 16045690984833335023)
unfolding sources_of sum_of difference_of
row461 = (((ltb-true 2147483649 4294967296 refl, ltb-true 1 4294967296 refl), (refl, refl, refl)), ((ltb-true 2147483649 4294967296 refl, ltb-true 1 4294967296 refl), refl))

row462 : Leaves (sources_of (op.TwoOperands Add Long)) 8 (temps 2147483649 2 2147483651 16045690984833335023 16045690984833335023)
unfolding sources_of sum_of difference_of
row462 = (((ltb-true 2147483649 4294967296 refl, ltb-true 2 4294967296 refl), refl, (refl, refl, refl)), ((ltb-true 2147483649 4294967296 refl, ltb-true 2 4294967296 refl), refl))

row463 : Leaves (sources_of (op.TwoOperands Subtract Long)) 2 (temps 2147483649 2 2147483647 16045690984833335023 16045690984833335023)
unfolding sources_of sum_of difference_of
row463 = (((ltb-true 2147483649 4294967296 refl, ltb-true 2 4294967296 refl), refl, (refl, refl, refl)), ((ltb-true 2147483649 4294967296 refl, ltb-true 2 4294967296 refl), refl))

row464 : Leaves (sources_of (op.Compare Long)) 8 (temps 2147483649 2 16045690984833335023 16045690984833335023 16045690984833335023)
unfolding sources_of sum_of difference_of
row464 = (((ltb-true 2147483649 4294967296 refl, ltb-true 2 4294967296 refl), (refl, refl, refl)), ((ltb-true 2147483649 4294967296 refl, ltb-true 2 4294967296 refl), refl))

row465 : Leaves (sources_of (op.TwoOperands Add Long)) 5 (temps 2147483649 2147483647 0 16045690984833335023 16045690984833335023)
unfolding sources_of sum_of difference_of
row465 = (((ltb-true 2147483649 4294967296 refl, ltb-true 2147483647 4294967296 refl), refl, (refl, refl, refl)), ((ltb-true 2147483649 4294967296 refl, ltb-true 2147483647 4294967296 refl), refl))

row466 : Leaves (sources_of (op.TwoOperands Subtract Long)) 2 (temps 2147483649 2147483647 2 16045690984833335023 16045690984833335023)
unfolding sources_of sum_of difference_of
row466 = (((ltb-true 2147483649 4294967296 refl, ltb-true 2147483647 4294967296 refl), refl, (refl, refl, refl)), ((ltb-true 2147483649 4294967296 refl, ltb-true 2147483647 4294967296 refl), refl))

row467 : Leaves (sources_of (op.Compare Long)) 8 (temps 2147483649 2147483647 16045690984833335023 16045690984833335023 16045690984833335023)
unfolding sources_of sum_of difference_of
row467 = (((ltb-true 2147483649 4294967296 refl, ltb-true 2147483647 4294967296 refl), (refl, refl, refl)), ((ltb-true 2147483649 4294967296 refl, ltb-true 2147483647 4294967296 refl), refl))

row468 : Leaves (sources_of (op.TwoOperands Add Long)) 3 (temps 2147483649 2147483648 1 16045690984833335023 16045690984833335023)
unfolding sources_of sum_of difference_of
row468 = (((ltb-true 2147483649 4294967296 refl, ltb-true 2147483648 4294967296 refl), refl, (refl, refl, refl)), ((ltb-true 2147483649 4294967296 refl, ltb-true 2147483648 4294967296 refl), refl))

row469 : Leaves (sources_of (op.TwoOperands Subtract Long)) 0 (temps 2147483649 2147483648 1 16045690984833335023 16045690984833335023)
unfolding sources_of sum_of difference_of
row469 = (((ltb-true 2147483649 4294967296 refl, ltb-true 2147483648 4294967296 refl), refl, (refl, refl, refl)), ((ltb-true 2147483649 4294967296 refl, ltb-true 2147483648 4294967296 refl), refl))

row470 : Leaves (sources_of (op.Compare Long)) 0 (temps 2147483649 2147483648 16045690984833335023 16045690984833335023 16045690984833335023)
unfolding sources_of sum_of difference_of
row470 = (((ltb-true 2147483649 4294967296 refl, ltb-true 2147483648 4294967296 refl), (refl, refl, refl)), ((ltb-true 2147483649 4294967296 refl, ltb-true 2147483648 4294967296 refl), refl))

row471 : Leaves (sources_of (op.TwoOperands Add Long)) 3 (temps 2147483649 2147483649 2 16045690984833335023 16045690984833335023)
unfolding sources_of sum_of difference_of
row471 = (((ltb-true 2147483649 4294967296 refl, ltb-true 2147483649 4294967296 refl), refl, (refl, refl, refl)), ((ltb-true 2147483649 4294967296 refl, ltb-true 2147483649 4294967296 refl), refl))

row472 : Leaves (sources_of (op.TwoOperands Subtract Long)) 4 (temps 2147483649 2147483649 0 16045690984833335023 16045690984833335023)
unfolding sources_of sum_of difference_of
row472 = (((ltb-true 2147483649 4294967296 refl, ltb-true 2147483649 4294967296 refl), refl, (refl, refl, refl)), ((ltb-true 2147483649 4294967296 refl, ltb-true 2147483649 4294967296 refl), refl))

row473 : Leaves (sources_of (op.Compare Long)) 4 (temps 2147483649 2147483649 16045690984833335023 16045690984833335023 16045690984833335023)
unfolding sources_of sum_of difference_of
row473 = (((ltb-true 2147483649 4294967296 refl, ltb-true 2147483649 4294967296 refl), (refl, refl, refl)), ((ltb-true 2147483649 4294967296 refl, ltb-true 2147483649 4294967296 refl), refl))

row474 : Leaves (sources_of (op.TwoOperands Add Long)) 9 (temps 2147483649 4294967295 2147483648 16045690984833335023 16045690984833335023)
unfolding sources_of sum_of difference_of
row474 = (((ltb-true 2147483649 4294967296 refl, ltb-true 4294967295 4294967296 refl), refl, (refl, refl, refl)), ((ltb-true 2147483649 4294967296 refl, ltb-true 4294967295 4294967296 refl), refl))

row475 : Leaves (sources_of (op.TwoOperands Subtract Long)) 9 (temps 2147483649 4294967295 2147483650 16045690984833335023 16045690984833335023)
unfolding sources_of sum_of difference_of
row475 = (((ltb-true 2147483649 4294967296 refl, ltb-true 4294967295 4294967296 refl), refl, (refl, refl, refl)), ((ltb-true 2147483649 4294967296 refl, ltb-true 4294967295 4294967296 refl), refl))

row476 : Leaves (sources_of (op.Compare Long)) 9 (temps 2147483649 4294967295 16045690984833335023 16045690984833335023 16045690984833335023)
unfolding sources_of sum_of difference_of
row476 = (((ltb-true 2147483649 4294967296 refl, ltb-true 4294967295 4294967296 refl), (refl, refl, refl)), ((ltb-true 2147483649 4294967296 refl, ltb-true 4294967295 4294967296 refl), refl))

row477 : Leaves (sources_of (op.TwoOperands Add Long)) 8 (temps 4294967295 0 4294967295 16045690984833335023 16045690984833335023)
unfolding sources_of sum_of difference_of
row477 = (((ltb-true 4294967295 4294967296 refl, ltb-true 0 4294967296 refl), refl, (refl, refl, refl)), ((ltb-true 4294967295 4294967296 refl, ltb-true 0 4294967296 refl), refl))

row478 : Leaves (sources_of (op.TwoOperands Subtract Long)) 8 (temps 4294967295 0 4294967295 16045690984833335023 16045690984833335023)
unfolding sources_of sum_of difference_of
row478 = (((ltb-true 4294967295 4294967296 refl, ltb-true 0 4294967296 refl), refl, (refl, refl, refl)), ((ltb-true 4294967295 4294967296 refl, ltb-true 0 4294967296 refl), refl))

row479 : Leaves (sources_of (op.Compare Long)) 8 (temps 4294967295 0 16045690984833335023 16045690984833335023 16045690984833335023)
unfolding sources_of sum_of difference_of
row479 = (((ltb-true 4294967295 4294967296 refl, ltb-true 0 4294967296 refl), (refl, refl, refl)), ((ltb-true 4294967295 4294967296 refl, ltb-true 0 4294967296 refl), refl))

row480 : Leaves (sources_of (op.TwoOperands Add Long)) 5 (temps 4294967295 1 0 16045690984833335023 16045690984833335023)
unfolding sources_of sum_of difference_of
row480 = (((ltb-true 4294967295 4294967296 refl, ltb-true 1 4294967296 refl), refl, (refl, refl, refl)), ((ltb-true 4294967295 4294967296 refl, ltb-true 1 4294967296 refl), refl))

row481 : Leaves (sources_of (op.TwoOperands Subtract Long)) 8 (temps 4294967295 1 4294967294 16045690984833335023 16045690984833335023)
unfolding sources_of sum_of difference_of
row481 = (((ltb-true 4294967295 4294967296 refl, ltb-true 1 4294967296 refl), refl, (refl, refl, refl)), ((ltb-true 4294967295 4294967296 refl, ltb-true 1 4294967296 refl), refl))

row482 : Leaves (sources_of (op.Compare Long)) 8 (temps 4294967295 1 16045690984833335023 16045690984833335023 16045690984833335023)
unfolding sources_of sum_of difference_of
row482 = (((ltb-true 4294967295 4294967296 refl, ltb-true 1 4294967296 refl), (refl, refl, refl)), ((ltb-true 4294967295 4294967296 refl, ltb-true 1 4294967296 refl), refl))

row483 : Leaves (sources_of (op.TwoOperands Add Long)) 1 (temps 4294967295 2 1 16045690984833335023 16045690984833335023)
unfolding sources_of sum_of difference_of
row483 = (((ltb-true 4294967295 4294967296 refl, ltb-true 2 4294967296 refl), refl, (refl, refl, refl)), ((ltb-true 4294967295 4294967296 refl, ltb-true 2 4294967296 refl), refl))

row484 : Leaves (sources_of (op.TwoOperands Subtract Long)) 8 (temps 4294967295 2 4294967293 16045690984833335023 16045690984833335023)
unfolding sources_of sum_of difference_of
row484 = (((ltb-true 4294967295 4294967296 refl, ltb-true 2 4294967296 refl), refl, (refl, refl, refl)), ((ltb-true 4294967295 4294967296 refl, ltb-true 2 4294967296 refl), refl))

row485 : Leaves (sources_of (op.Compare Long)) 8 (temps 4294967295 2 16045690984833335023 16045690984833335023 16045690984833335023)
unfolding sources_of sum_of difference_of
row485 = (((ltb-true 4294967295 4294967296 refl, ltb-true 2 4294967296 refl), (refl, refl, refl)), ((ltb-true 4294967295 4294967296 refl, ltb-true 2 4294967296 refl), refl))

row486 : Leaves (sources_of (op.TwoOperands Add Long)) 1 (temps 4294967295 2147483647 2147483646 16045690984833335023 16045690984833335023)
unfolding sources_of sum_of difference_of
row486 = (((ltb-true 4294967295 4294967296 refl, ltb-true 2147483647 4294967296 refl), refl, (refl, refl, refl)), ((ltb-true 4294967295 4294967296 refl, ltb-true 2147483647 4294967296 refl), refl))

row487 : Leaves (sources_of (op.TwoOperands Subtract Long)) 8 (temps 4294967295 2147483647 2147483648 16045690984833335023 16045690984833335023)
unfolding sources_of sum_of difference_of
row487 = (((ltb-true 4294967295 4294967296 refl, ltb-true 2147483647 4294967296 refl), refl, (refl, refl, refl)), ((ltb-true 4294967295 4294967296 refl, ltb-true 2147483647 4294967296 refl), refl))

row488 : Leaves (sources_of (op.Compare Long)) 8 (temps 4294967295 2147483647 16045690984833335023 16045690984833335023 16045690984833335023)
unfolding sources_of sum_of difference_of
row488 = (((ltb-true 4294967295 4294967296 refl, ltb-true 2147483647 4294967296 refl), (refl, refl, refl)), ((ltb-true 4294967295 4294967296 refl, ltb-true 2147483647 4294967296 refl), refl))

row489 : Leaves (sources_of (op.TwoOperands Add Long)) 3 (temps 4294967295 2147483648 2147483647 16045690984833335023 16045690984833335023)
unfolding sources_of sum_of difference_of
row489 = (((ltb-true 4294967295 4294967296 refl, ltb-true 2147483648 4294967296 refl), refl, (refl, refl, refl)), ((ltb-true 4294967295 4294967296 refl, ltb-true 2147483648 4294967296 refl), refl))

row490 : Leaves (sources_of (op.TwoOperands Subtract Long)) 0 (temps 4294967295 2147483648 2147483647 16045690984833335023 16045690984833335023)
unfolding sources_of sum_of difference_of
row490 = (((ltb-true 4294967295 4294967296 refl, ltb-true 2147483648 4294967296 refl), refl, (refl, refl, refl)), ((ltb-true 4294967295 4294967296 refl, ltb-true 2147483648 4294967296 refl), refl))

row491 : Leaves (sources_of (op.Compare Long)) 0 (temps 4294967295 2147483648 16045690984833335023 16045690984833335023 16045690984833335023)
unfolding sources_of sum_of difference_of
row491 = (((ltb-true 4294967295 4294967296 refl, ltb-true 2147483648 4294967296 refl), (refl, refl, refl)), ((ltb-true 4294967295 4294967296 refl, ltb-true 2147483648 4294967296 refl), refl))

row492 : Leaves (sources_of (op.TwoOperands Add Long)) 9 (temps 4294967295 2147483649 2147483648 16045690984833335023 16045690984833335023)
unfolding sources_of sum_of difference_of
row492 = (((ltb-true 4294967295 4294967296 refl, ltb-true 2147483649 4294967296 refl), refl, (refl, refl, refl)), ((ltb-true 4294967295 4294967296 refl, ltb-true 2147483649 4294967296 refl), refl))

row493 : Leaves (sources_of (op.TwoOperands Subtract Long)) 0 (temps 4294967295 2147483649 2147483646 16045690984833335023 16045690984833335023)
unfolding sources_of sum_of difference_of
row493 = (((ltb-true 4294967295 4294967296 refl, ltb-true 2147483649 4294967296 refl), refl, (refl, refl, refl)), ((ltb-true 4294967295 4294967296 refl, ltb-true 2147483649 4294967296 refl), refl))

row494 : Leaves (sources_of (op.Compare Long)) 0 (temps 4294967295 2147483649 16045690984833335023 16045690984833335023 16045690984833335023)
unfolding sources_of sum_of difference_of
row494 = (((ltb-true 4294967295 4294967296 refl, ltb-true 2147483649 4294967296 refl), (refl, refl, refl)), ((ltb-true 4294967295 4294967296 refl, ltb-true 2147483649 4294967296 refl), refl))

row495 : Leaves (sources_of (op.TwoOperands Add Long)) 9 (temps 4294967295 4294967295 4294967294 16045690984833335023 16045690984833335023)
unfolding sources_of sum_of difference_of
row495 = (((ltb-true 4294967295 4294967296 refl, ltb-true 4294967295 4294967296 refl), refl, (refl, refl, refl)), ((ltb-true 4294967295 4294967296 refl, ltb-true 4294967295 4294967296 refl), refl))

row496 : Leaves (sources_of (op.TwoOperands Subtract Long)) 4 (temps 4294967295 4294967295 0 16045690984833335023 16045690984833335023)
unfolding sources_of sum_of difference_of
row496 = (((ltb-true 4294967295 4294967296 refl, ltb-true 4294967295 4294967296 refl), refl, (refl, refl, refl)), ((ltb-true 4294967295 4294967296 refl, ltb-true 4294967295 4294967296 refl), refl))

row497 : Leaves (sources_of (op.Compare Long)) 4 (temps 4294967295 4294967295 16045690984833335023 16045690984833335023 16045690984833335023)
unfolding sources_of sum_of difference_of
row497 = (((ltb-true 4294967295 4294967296 refl, ltb-true 4294967295 4294967296 refl), (refl, refl, refl)), ((ltb-true 4294967295 4294967296 refl, ltb-true 4294967295 4294967296 refl), refl))

row498 : Leaves (sources_of op.AddAlignedWord) 5 (temps 65535 1 0 16045690984833335023 16045690984833335023)
unfolding sources_of sum_of difference_of
row498 = (((ltb-true 65535 65536 refl, ltb-true 1 65536 refl), refl, (refl, refl, refl)), ((ltb-true 65535 65536 refl, ltb-true 1 65536 refl), refl))

row499 : Leaves (sources_of op.AddAlignedWord) 10 (temps 32767 1 32768 16045690984833335023 16045690984833335023)
unfolding sources_of sum_of difference_of
row499 = (((ltb-true 32767 65536 refl, ltb-true 1 65536 refl), refl, (refl, refl, refl)), ((ltb-true 32767 65536 refl, ltb-true 1 65536 refl), refl))

row500 : Leaves (sources_of op.AddAlignedWord) 7 (temps 32768 32768 0 16045690984833335023 16045690984833335023)
unfolding sources_of sum_of difference_of
row500 = (((ltb-true 32768 65536 refl, ltb-true 32768 65536 refl), refl, (refl, refl, refl)), ((ltb-true 32768 65536 refl, ltb-true 32768 65536 refl), refl))

row501 : Leaves (sources_of op.AddAlignedWord) 0 (temps 3 4 7 16045690984833335023 16045690984833335023)
unfolding sources_of sum_of difference_of
row501 = (((ltb-true 3 65536 refl, ltb-true 4 65536 refl), refl, (refl, refl, refl)), ((ltb-true 3 65536 refl, ltb-true 4 65536 refl), refl))

row502 : Leaves (sources_of (op.TwoOperands Multiply Byte)) 4 (temps 16045690984833335023 16045690984833335023 0 0 16045690984833335023)
unfolding sources_of sum_of difference_of
row502 = ((ltb-true 0 256 refl, refl, refl, refl), refl)

row503 : Leaves (sources_of (op.TwoOperands Multiply Byte)) 6 (temps 16045690984833335023 16045690984833335023 0 1 16045690984833335023)
unfolding sources_of sum_of difference_of
row503 = ((ltb-true 0 256 refl, refl, refl, refl), refl)

row504 : Leaves (sources_of (op.TwoOperands Multiply Byte)) 0 (temps 16045690984833335023 16045690984833335023 1 0 16045690984833335023)
unfolding sources_of sum_of difference_of
row504 = ((ltb-true 1 256 refl, refl, refl, refl), refl)

row505 : Leaves (sources_of (op.TwoOperands Multiply Byte)) 2 (temps 16045690984833335023 16045690984833335023 1 1 16045690984833335023)
unfolding sources_of sum_of difference_of
row505 = ((ltb-true 1 256 refl, refl, refl, refl), refl)

row506 : Leaves (sources_of (op.TwoOperands Multiply Byte)) 0 (temps 16045690984833335023 16045690984833335023 2 0 16045690984833335023)
unfolding sources_of sum_of difference_of
row506 = ((ltb-true 2 256 refl, refl, refl, refl), refl)

row507 : Leaves (sources_of (op.TwoOperands Multiply Byte)) 2 (temps 16045690984833335023 16045690984833335023 2 1 16045690984833335023)
unfolding sources_of sum_of difference_of
row507 = ((ltb-true 2 256 refl, refl, refl, refl), refl)

row508 : Leaves (sources_of (op.TwoOperands Multiply Byte)) 0 (temps 16045690984833335023 16045690984833335023 127 0 16045690984833335023)
unfolding sources_of sum_of difference_of
row508 = ((ltb-true 127 256 refl, refl, refl, refl), refl)

row509 : Leaves (sources_of (op.TwoOperands Multiply Byte)) 2 (temps 16045690984833335023 16045690984833335023 127 1 16045690984833335023)
unfolding sources_of sum_of difference_of
row509 = ((ltb-true 127 256 refl, refl, refl, refl), refl)

row510 : Leaves (sources_of (op.TwoOperands Multiply Byte)) 8 (temps 16045690984833335023 16045690984833335023 128 0 16045690984833335023)
unfolding sources_of sum_of difference_of
row510 = ((ltb-true 128 256 refl, refl, refl, refl), refl)

row511 : Leaves (sources_of (op.TwoOperands Multiply Byte)) 10 (temps 16045690984833335023 16045690984833335023 128 1 16045690984833335023)
unfolding sources_of sum_of difference_of
row511 = ((ltb-true 128 256 refl, refl, refl, refl), refl)

row512 : Leaves (sources_of (op.TwoOperands Multiply Byte)) 8 (temps 16045690984833335023 16045690984833335023 129 0 16045690984833335023)
unfolding sources_of sum_of difference_of
row512 = ((ltb-true 129 256 refl, refl, refl, refl), refl)

row513 : Leaves (sources_of (op.TwoOperands Multiply Byte)) 10 (temps 16045690984833335023 16045690984833335023 129 1 16045690984833335023)
unfolding sources_of sum_of difference_of
row513 = ((ltb-true 129 256 refl, refl, refl, refl), refl)

row514 : Leaves (sources_of (op.TwoOperands Multiply Byte)) 8 (temps 16045690984833335023 16045690984833335023 255 0 16045690984833335023)
unfolding sources_of sum_of difference_of
row514 = ((ltb-true 255 256 refl, refl, refl, refl), refl)

row515 : Leaves (sources_of (op.TwoOperands Multiply Byte)) 10 (temps 16045690984833335023 16045690984833335023 255 1 16045690984833335023)
unfolding sources_of sum_of difference_of
row515 = ((ltb-true 255 256 refl, refl, refl, refl), refl)

row516 : Leaves (sources_of (op.TwoOperands Multiply Word)) 4 (temps 16045690984833335023 16045690984833335023 0 0 16045690984833335023)
unfolding sources_of sum_of difference_of
row516 = ((ltb-true 0 65536 refl, refl, refl, refl), refl)

row517 : Leaves (sources_of (op.TwoOperands Multiply Word)) 6 (temps 16045690984833335023 16045690984833335023 0 1 16045690984833335023)
unfolding sources_of sum_of difference_of
row517 = ((ltb-true 0 65536 refl, refl, refl, refl), refl)

row518 : Leaves (sources_of (op.TwoOperands Multiply Word)) 0 (temps 16045690984833335023 16045690984833335023 1 0 16045690984833335023)
unfolding sources_of sum_of difference_of
row518 = ((ltb-true 1 65536 refl, refl, refl, refl), refl)

row519 : Leaves (sources_of (op.TwoOperands Multiply Word)) 2 (temps 16045690984833335023 16045690984833335023 1 1 16045690984833335023)
unfolding sources_of sum_of difference_of
row519 = ((ltb-true 1 65536 refl, refl, refl, refl), refl)

row520 : Leaves (sources_of (op.TwoOperands Multiply Word)) 0 (temps 16045690984833335023 16045690984833335023 2 0 16045690984833335023)
unfolding sources_of sum_of difference_of
row520 = ((ltb-true 2 65536 refl, refl, refl, refl), refl)

row521 : Leaves (sources_of (op.TwoOperands Multiply Word)) 2 (temps 16045690984833335023 16045690984833335023 2 1 16045690984833335023)
unfolding sources_of sum_of difference_of
row521 = ((ltb-true 2 65536 refl, refl, refl, refl), refl)

row522 : Leaves (sources_of (op.TwoOperands Multiply Word)) 0 (temps 16045690984833335023 16045690984833335023 32767 0 16045690984833335023)
unfolding sources_of sum_of difference_of
row522 = ((ltb-true 32767 65536 refl, refl, refl, refl), refl)

row523 : Leaves (sources_of (op.TwoOperands Multiply Word)) 2 (temps 16045690984833335023 16045690984833335023 32767 1 16045690984833335023)
unfolding sources_of sum_of difference_of
row523 = ((ltb-true 32767 65536 refl, refl, refl, refl), refl)

row524 : Leaves (sources_of (op.TwoOperands Multiply Word)) 8 (temps 16045690984833335023 16045690984833335023 32768 0 16045690984833335023)
unfolding sources_of sum_of difference_of
row524 = ((ltb-true 32768 65536 refl, refl, refl, refl), refl)

row525 : Leaves (sources_of (op.TwoOperands Multiply Word)) 10 (temps 16045690984833335023 16045690984833335023 32768 1 16045690984833335023)
unfolding sources_of sum_of difference_of
row525 = ((ltb-true 32768 65536 refl, refl, refl, refl), refl)

row526 : Leaves (sources_of (op.TwoOperands Multiply Word)) 8 (temps 16045690984833335023 16045690984833335023 32769 0 16045690984833335023)
unfolding sources_of sum_of difference_of
row526 = ((ltb-true 32769 65536 refl, refl, refl, refl), refl)

row527 : Leaves (sources_of (op.TwoOperands Multiply Word)) 10 (temps 16045690984833335023 16045690984833335023 32769 1 16045690984833335023)
unfolding sources_of sum_of difference_of
row527 = ((ltb-true 32769 65536 refl, refl, refl, refl), refl)

row528 : Leaves (sources_of (op.TwoOperands Multiply Word)) 8 (temps 16045690984833335023 16045690984833335023 65535 0 16045690984833335023)
unfolding sources_of sum_of difference_of
row528 = ((ltb-true 65535 65536 refl, refl, refl, refl), refl)

row529 : Leaves (sources_of (op.TwoOperands Multiply Word)) 10 (temps 16045690984833335023 16045690984833335023 65535 1 16045690984833335023)
unfolding sources_of sum_of difference_of
row529 = ((ltb-true 65535 65536 refl, refl, refl, refl), refl)

row530 : Leaves (sources_of (op.TwoOperands Multiply Long)) 4 (temps 16045690984833335023 16045690984833335023 0 0 16045690984833335023)
unfolding sources_of sum_of difference_of
row530 = ((ltb-true 0 4294967296 refl, refl, refl, refl), refl)

row531 : Leaves (sources_of (op.TwoOperands Multiply Long)) 6 (temps 16045690984833335023 16045690984833335023 0 1 16045690984833335023)
unfolding sources_of sum_of difference_of
row531 = ((ltb-true 0 4294967296 refl, refl, refl, refl), refl)

row532 : Leaves (sources_of (op.TwoOperands Multiply Long)) 0 (temps 16045690984833335023 16045690984833335023 1 0 16045690984833335023)
unfolding sources_of sum_of difference_of
row532 = ((ltb-true 1 4294967296 refl, refl, refl, refl), refl)

row533 : Leaves (sources_of (op.TwoOperands Multiply Long)) 2 (temps 16045690984833335023 16045690984833335023 1 1 16045690984833335023)
unfolding sources_of sum_of difference_of
row533 = ((ltb-true 1 4294967296 refl, refl, refl, refl), refl)

row534 : Leaves (sources_of (op.TwoOperands Multiply Long)) 0 (temps 16045690984833335023 16045690984833335023 2 0 16045690984833335023)
unfolding sources_of sum_of difference_of
row534 = ((ltb-true 2 4294967296 refl, refl, refl, refl), refl)

row535 : Leaves (sources_of (op.TwoOperands Multiply Long)) 2 (temps 16045690984833335023 16045690984833335023 2 1 16045690984833335023)
unfolding sources_of sum_of difference_of
row535 = ((ltb-true 2 4294967296 refl, refl, refl, refl), refl)

row536 : Leaves (sources_of (op.TwoOperands Multiply Long)) 0 (temps 16045690984833335023 16045690984833335023 2147483647 0 16045690984833335023)
unfolding sources_of sum_of difference_of
row536 = ((ltb-true 2147483647 4294967296 refl, refl, refl, refl), refl)

row537 : Leaves (sources_of (op.TwoOperands Multiply Long)) 2 (temps 16045690984833335023 16045690984833335023 2147483647 1 16045690984833335023)
unfolding sources_of sum_of difference_of
row537 = ((ltb-true 2147483647 4294967296 refl, refl, refl, refl), refl)

row538 : Leaves (sources_of (op.TwoOperands Multiply Long)) 8 (temps 16045690984833335023 16045690984833335023 2147483648 0 16045690984833335023)
unfolding sources_of sum_of difference_of
row538 = ((ltb-true 2147483648 4294967296 refl, refl, refl, refl), refl)

row539 : Leaves (sources_of (op.TwoOperands Multiply Long)) 10 (temps 16045690984833335023 16045690984833335023 2147483648 1 16045690984833335023)
unfolding sources_of sum_of difference_of
row539 = ((ltb-true 2147483648 4294967296 refl, refl, refl, refl), refl)

row540 : Leaves (sources_of (op.TwoOperands Multiply Long)) 8 (temps 16045690984833335023 16045690984833335023 2147483649 0 16045690984833335023)
unfolding sources_of sum_of difference_of
row540 = ((ltb-true 2147483649 4294967296 refl, refl, refl, refl), refl)

row541 : Leaves (sources_of (op.TwoOperands Multiply Long)) 10 (temps 16045690984833335023 16045690984833335023 2147483649 1 16045690984833335023)
unfolding sources_of sum_of difference_of
row541 = ((ltb-true 2147483649 4294967296 refl, refl, refl, refl), refl)

row542 : Leaves (sources_of (op.TwoOperands Multiply Long)) 8 (temps 16045690984833335023 16045690984833335023 4294967295 0 16045690984833335023)
unfolding sources_of sum_of difference_of
row542 = ((ltb-true 4294967295 4294967296 refl, refl, refl, refl), refl)

row543 : Leaves (sources_of (op.TwoOperands Multiply Long)) 10 (temps 16045690984833335023 16045690984833335023 4294967295 1 16045690984833335023)
unfolding sources_of sum_of difference_of
row543 = ((ltb-true 4294967295 4294967296 refl, refl, refl, refl), refl)

row544 : Leaves (sources_of (op.SubtractOneBranch false)) 5 (temps 16045690984833335023 16045690984833335023 0 0 16045690984833335023)
unfolding sources_of sum_of difference_of
row544 = ((ltb-true 0 4294967296 refl, refl, refl, refl), refl)

row545 : Leaves (sources_of op.AddWithCarry) 4 (temps 16045690984833335023 16045690984833335023 0 0 0)
unfolding sources_of sum_of difference_of
row545 = ((ltb-true 0 4294967296 refl, refl, refl, refl), refl)

row546 : Leaves (sources_of op.AddWithCarry) 5 (temps 16045690984833335023 16045690984833335023 0 0 1)
unfolding sources_of sum_of difference_of
row546 = ((ltb-true 0 4294967296 refl, refl, refl, refl), refl)

row547 : Leaves (sources_of (op.SubtractOneBranch false)) 7 (temps 16045690984833335023 16045690984833335023 0 1 16045690984833335023)
unfolding sources_of sum_of difference_of
row547 = ((ltb-true 0 4294967296 refl, refl, refl, refl), refl)

row548 : Leaves (sources_of op.AddWithCarry) 6 (temps 16045690984833335023 16045690984833335023 0 1 0)
unfolding sources_of sum_of difference_of
row548 = ((ltb-true 0 4294967296 refl, refl, refl, refl), refl)

row549 : Leaves (sources_of op.AddWithCarry) 7 (temps 16045690984833335023 16045690984833335023 0 1 1)
unfolding sources_of sum_of difference_of
row549 = ((ltb-true 0 4294967296 refl, refl, refl, refl), refl)

row550 : Leaves (sources_of (op.SubtractOneBranch false)) 1 (temps 16045690984833335023 16045690984833335023 1 0 16045690984833335023)
unfolding sources_of sum_of difference_of
row550 = ((ltb-true 1 4294967296 refl, refl, refl, refl), refl)

row551 : Leaves (sources_of op.AddWithCarry) 0 (temps 16045690984833335023 16045690984833335023 1 0 0)
unfolding sources_of sum_of difference_of
row551 = ((ltb-true 1 4294967296 refl, refl, refl, refl), refl)

row552 : Leaves (sources_of op.AddWithCarry) 1 (temps 16045690984833335023 16045690984833335023 1 0 1)
unfolding sources_of sum_of difference_of
row552 = ((ltb-true 1 4294967296 refl, refl, refl, refl), refl)

row553 : Leaves (sources_of (op.SubtractOneBranch false)) 3 (temps 16045690984833335023 16045690984833335023 1 1 16045690984833335023)
unfolding sources_of sum_of difference_of
row553 = ((ltb-true 1 4294967296 refl, refl, refl, refl), refl)

row554 : Leaves (sources_of op.AddWithCarry) 2 (temps 16045690984833335023 16045690984833335023 1 1 0)
unfolding sources_of sum_of difference_of
row554 = ((ltb-true 1 4294967296 refl, refl, refl, refl), refl)

row555 : Leaves (sources_of op.AddWithCarry) 3 (temps 16045690984833335023 16045690984833335023 1 1 1)
unfolding sources_of sum_of difference_of
row555 = ((ltb-true 1 4294967296 refl, refl, refl, refl), refl)

row556 : Leaves (sources_of (op.SubtractOneBranch false)) 1 (temps 16045690984833335023 16045690984833335023 2 0 16045690984833335023)
unfolding sources_of sum_of difference_of
row556 = ((ltb-true 2 4294967296 refl, refl, refl, refl), refl)

row557 : Leaves (sources_of op.AddWithCarry) 0 (temps 16045690984833335023 16045690984833335023 2 0 0)
unfolding sources_of sum_of difference_of
row557 = ((ltb-true 2 4294967296 refl, refl, refl, refl), refl)

row558 : Leaves (sources_of op.AddWithCarry) 1 (temps 16045690984833335023 16045690984833335023 2 0 1)
unfolding sources_of sum_of difference_of
row558 = ((ltb-true 2 4294967296 refl, refl, refl, refl), refl)

row559 : Leaves (sources_of (op.SubtractOneBranch false)) 3 (temps 16045690984833335023 16045690984833335023 2 1 16045690984833335023)
unfolding sources_of sum_of difference_of
row559 = ((ltb-true 2 4294967296 refl, refl, refl, refl), refl)

row560 : Leaves (sources_of op.AddWithCarry) 2 (temps 16045690984833335023 16045690984833335023 2 1 0)
unfolding sources_of sum_of difference_of
row560 = ((ltb-true 2 4294967296 refl, refl, refl, refl), refl)

row561 : Leaves (sources_of op.AddWithCarry) 3 (temps 16045690984833335023 16045690984833335023 2 1 1)
unfolding sources_of sum_of difference_of
row561 = ((ltb-true 2 4294967296 refl, refl, refl, refl), refl)

row562 : Leaves (sources_of (op.SubtractOneBranch false)) 1 (temps 16045690984833335023 16045690984833335023 2147483647 0 16045690984833335023)
unfolding sources_of sum_of difference_of
row562 = ((ltb-true 2147483647 4294967296 refl, refl, refl, refl), refl)

row563 : Leaves (sources_of op.AddWithCarry) 0 (temps 16045690984833335023 16045690984833335023 2147483647 0 0)
unfolding sources_of sum_of difference_of
row563 = ((ltb-true 2147483647 4294967296 refl, refl, refl, refl), refl)

row564 : Leaves (sources_of op.AddWithCarry) 1 (temps 16045690984833335023 16045690984833335023 2147483647 0 1)
unfolding sources_of sum_of difference_of
row564 = ((ltb-true 2147483647 4294967296 refl, refl, refl, refl), refl)

row565 : Leaves (sources_of (op.SubtractOneBranch false)) 3 (temps 16045690984833335023 16045690984833335023 2147483647 1 16045690984833335023)
unfolding sources_of sum_of difference_of
row565 = ((ltb-true 2147483647 4294967296 refl, refl, refl, refl), refl)

row566 : Leaves (sources_of op.AddWithCarry) 2 (temps 16045690984833335023 16045690984833335023 2147483647 1 0)
unfolding sources_of sum_of difference_of
row566 = ((ltb-true 2147483647 4294967296 refl, refl, refl, refl), refl)

row567 : Leaves (sources_of op.AddWithCarry) 3 (temps 16045690984833335023 16045690984833335023 2147483647 1 1)
unfolding sources_of sum_of difference_of
row567 = ((ltb-true 2147483647 4294967296 refl, refl, refl, refl), refl)

row568 : Leaves (sources_of (op.SubtractOneBranch false)) 9 (temps 16045690984833335023 16045690984833335023 2147483648 0 16045690984833335023)
unfolding sources_of sum_of difference_of
row568 = ((ltb-true 2147483648 4294967296 refl, refl, refl, refl), refl)

row569 : Leaves (sources_of op.AddWithCarry) 8 (temps 16045690984833335023 16045690984833335023 2147483648 0 0)
unfolding sources_of sum_of difference_of
row569 = ((ltb-true 2147483648 4294967296 refl, refl, refl, refl), refl)

row570 : Leaves (sources_of op.AddWithCarry) 9 (temps 16045690984833335023 16045690984833335023 2147483648 0 1)
unfolding sources_of sum_of difference_of
row570 = ((ltb-true 2147483648 4294967296 refl, refl, refl, refl), refl)

row571 : Leaves (sources_of (op.SubtractOneBranch false)) 11 (temps 16045690984833335023 16045690984833335023 2147483648 1 16045690984833335023)
unfolding sources_of sum_of difference_of
row571 = ((ltb-true 2147483648 4294967296 refl, refl, refl, refl), refl)

row572 : Leaves (sources_of op.AddWithCarry) 10 (temps 16045690984833335023 16045690984833335023 2147483648 1 0)
unfolding sources_of sum_of difference_of
row572 = ((ltb-true 2147483648 4294967296 refl, refl, refl, refl), refl)

row573 : Leaves (sources_of op.AddWithCarry) 11 (temps 16045690984833335023 16045690984833335023 2147483648 1 1)
unfolding sources_of sum_of difference_of
row573 = ((ltb-true 2147483648 4294967296 refl, refl, refl, refl), refl)

row574 : Leaves (sources_of (op.SubtractOneBranch false)) 9 (temps 16045690984833335023 16045690984833335023 2147483649 0 16045690984833335023)
unfolding sources_of sum_of difference_of
row574 = ((ltb-true 2147483649 4294967296 refl, refl, refl, refl), refl)

row575 : Leaves (sources_of op.AddWithCarry) 8 (temps 16045690984833335023 16045690984833335023 2147483649 0 0)
unfolding sources_of sum_of difference_of
row575 = ((ltb-true 2147483649 4294967296 refl, refl, refl, refl), refl)

row576 : Leaves (sources_of op.AddWithCarry) 9 (temps 16045690984833335023 16045690984833335023 2147483649 0 1)
unfolding sources_of sum_of difference_of
row576 = ((ltb-true 2147483649 4294967296 refl, refl, refl, refl), refl)

row577 : Leaves (sources_of (op.SubtractOneBranch false)) 11 (temps 16045690984833335023 16045690984833335023 2147483649 1 16045690984833335023)
unfolding sources_of sum_of difference_of
row577 = ((ltb-true 2147483649 4294967296 refl, refl, refl, refl), refl)

row578 : Leaves (sources_of op.AddWithCarry) 10 (temps 16045690984833335023 16045690984833335023 2147483649 1 0)
unfolding sources_of sum_of difference_of
row578 = ((ltb-true 2147483649 4294967296 refl, refl, refl, refl), refl)

row579 : Leaves (sources_of op.AddWithCarry) 11 (temps 16045690984833335023 16045690984833335023 2147483649 1 1)
unfolding sources_of sum_of difference_of
row579 = ((ltb-true 2147483649 4294967296 refl, refl, refl, refl), refl)

row580 : Leaves (sources_of (op.SubtractOneBranch false)) 9 (temps 16045690984833335023 16045690984833335023 4294967295 0 16045690984833335023)
unfolding sources_of sum_of difference_of
row580 = ((ltb-true 4294967295 4294967296 refl, refl, refl, refl), refl)

row581 : Leaves (sources_of op.AddWithCarry) 8 (temps 16045690984833335023 16045690984833335023 4294967295 0 0)
unfolding sources_of sum_of difference_of
row581 = ((ltb-true 4294967295 4294967296 refl, refl, refl, refl), refl)

row582 : Leaves (sources_of op.AddWithCarry) 9 (temps 16045690984833335023 16045690984833335023 4294967295 0 1)
unfolding sources_of sum_of difference_of
row582 = ((ltb-true 4294967295 4294967296 refl, refl, refl, refl), refl)

row583 : Leaves (sources_of (op.SubtractOneBranch false)) 11 (temps 16045690984833335023 16045690984833335023 4294967295 1 16045690984833335023)
unfolding sources_of sum_of difference_of
row583 = ((ltb-true 4294967295 4294967296 refl, refl, refl, refl), refl)

row584 : Leaves (sources_of op.AddWithCarry) 10 (temps 16045690984833335023 16045690984833335023 4294967295 1 0)
unfolding sources_of sum_of difference_of
row584 = ((ltb-true 4294967295 4294967296 refl, refl, refl, refl), refl)

row585 : Leaves (sources_of op.AddWithCarry) 11 (temps 16045690984833335023 16045690984833335023 4294967295 1 1)
unfolding sources_of sum_of difference_of
row585 = ((ltb-true 4294967295 4294967296 refl, refl, refl, refl), refl)

row586 : Leaves (sources_of (op.AddCompareBranch Byte)) 7 (temps 16045690984833335023 16045690984833335023 0 1 16045690984833335023)
unfolding sources_of sum_of difference_of
row586 = ((ltb-true 0 256 refl, refl, refl, refl), refl)

row587 : Leaves (sources_of (op.AddCompareBranch Byte)) 3 (temps 16045690984833335023 16045690984833335023 1 1 16045690984833335023)
unfolding sources_of sum_of difference_of
row587 = ((ltb-true 1 256 refl, refl, refl, refl), refl)

row588 : Leaves (sources_of (op.AddCompareBranch Byte)) 3 (temps 16045690984833335023 16045690984833335023 2 1 16045690984833335023)
unfolding sources_of sum_of difference_of
row588 = ((ltb-true 2 256 refl, refl, refl, refl), refl)

row589 : Leaves (sources_of (op.AddCompareBranch Byte)) 3 (temps 16045690984833335023 16045690984833335023 127 1 16045690984833335023)
unfolding sources_of sum_of difference_of
row589 = ((ltb-true 127 256 refl, refl, refl, refl), refl)

row590 : Leaves (sources_of (op.AddCompareBranch Byte)) 11 (temps 16045690984833335023 16045690984833335023 128 1 16045690984833335023)
unfolding sources_of sum_of difference_of
row590 = ((ltb-true 128 256 refl, refl, refl, refl), refl)

row591 : Leaves (sources_of (op.AddCompareBranch Byte)) 11 (temps 16045690984833335023 16045690984833335023 129 1 16045690984833335023)
unfolding sources_of sum_of difference_of
row591 = ((ltb-true 129 256 refl, refl, refl, refl), refl)

row592 : Leaves (sources_of (op.AddCompareBranch Byte)) 11 (temps 16045690984833335023 16045690984833335023 255 1 16045690984833335023)
unfolding sources_of sum_of difference_of
row592 = ((ltb-true 255 256 refl, refl, refl, refl), refl)

row593 : Leaves (sources_of (op.AddCompareBranch Word)) 7 (temps 16045690984833335023 16045690984833335023 0 1 16045690984833335023)
unfolding sources_of sum_of difference_of
row593 = ((ltb-true 0 65536 refl, refl, refl, refl), refl)

row594 : Leaves (sources_of (op.AddCompareBranch Word)) 3 (temps 16045690984833335023 16045690984833335023 1 1 16045690984833335023)
unfolding sources_of sum_of difference_of
row594 = ((ltb-true 1 65536 refl, refl, refl, refl), refl)

row595 : Leaves (sources_of (op.AddCompareBranch Word)) 3 (temps 16045690984833335023 16045690984833335023 2 1 16045690984833335023)
unfolding sources_of sum_of difference_of
row595 = ((ltb-true 2 65536 refl, refl, refl, refl), refl)

row596 : Leaves (sources_of (op.AddCompareBranch Word)) 3 (temps 16045690984833335023 16045690984833335023 32767 1 16045690984833335023)
unfolding sources_of sum_of difference_of
row596 = ((ltb-true 32767 65536 refl, refl, refl, refl), refl)

row597 : Leaves (sources_of (op.AddCompareBranch Word)) 11 (temps 16045690984833335023 16045690984833335023 32768 1 16045690984833335023)
unfolding sources_of sum_of difference_of
row597 = ((ltb-true 32768 65536 refl, refl, refl, refl), refl)

row598 : Leaves (sources_of (op.AddCompareBranch Word)) 11 (temps 16045690984833335023 16045690984833335023 32769 1 16045690984833335023)
unfolding sources_of sum_of difference_of
row598 = ((ltb-true 32769 65536 refl, refl, refl, refl), refl)

row599 : Leaves (sources_of (op.AddCompareBranch Word)) 11 (temps 16045690984833335023 16045690984833335023 65535 1 16045690984833335023)
unfolding sources_of sum_of difference_of
row599 = ((ltb-true 65535 65536 refl, refl, refl, refl), refl)

row600 : Leaves (sources_of op.BitSetPsw) 0 (temps 16045690984833335023 16045690984833335023 0 16045690984833335023 16045690984833335023)
unfolding sources_of sum_of difference_of
row600 = (refl, refl)

row601 : Leaves (sources_of op.BitSetPsw) 1 (temps 16045690984833335023 16045690984833335023 1 16045690984833335023 16045690984833335023)
unfolding sources_of sum_of difference_of
row601 = (refl, refl)

row602 : Leaves (sources_of op.BitSetPsw) 2 (temps 16045690984833335023 16045690984833335023 2 16045690984833335023 16045690984833335023)
unfolding sources_of sum_of difference_of
row602 = (refl, refl)

row603 : Leaves (sources_of op.BitSetPsw) 3 (temps 16045690984833335023 16045690984833335023 3 16045690984833335023 16045690984833335023)
unfolding sources_of sum_of difference_of
row603 = (refl, refl)

row604 : Leaves (sources_of op.BitSetPsw) 4 (temps 16045690984833335023 16045690984833335023 4 16045690984833335023 16045690984833335023)
unfolding sources_of sum_of difference_of
row604 = (refl, refl)

row605 : Leaves (sources_of op.BitSetPsw) 5 (temps 16045690984833335023 16045690984833335023 5 16045690984833335023 16045690984833335023)
unfolding sources_of sum_of difference_of
row605 = (refl, refl)

row606 : Leaves (sources_of op.BitSetPsw) 6 (temps 16045690984833335023 16045690984833335023 6 16045690984833335023 16045690984833335023)
unfolding sources_of sum_of difference_of
row606 = (refl, refl)

row607 : Leaves (sources_of op.BitSetPsw) 7 (temps 16045690984833335023 16045690984833335023 7 16045690984833335023 16045690984833335023)
unfolding sources_of sum_of difference_of
row607 = (refl, refl)

row608 : Leaves (sources_of op.BitSetPsw) 8 (temps 16045690984833335023 16045690984833335023 8 16045690984833335023 16045690984833335023)
unfolding sources_of sum_of difference_of
row608 = (refl, refl)

row609 : Leaves (sources_of op.BitSetPsw) 9 (temps 16045690984833335023 16045690984833335023 9 16045690984833335023 16045690984833335023)
unfolding sources_of sum_of difference_of
row609 = (refl, refl)

row610 : Leaves (sources_of op.BitSetPsw) 10 (temps 16045690984833335023 16045690984833335023 10 16045690984833335023 16045690984833335023)
unfolding sources_of sum_of difference_of
row610 = (refl, refl)

row611 : Leaves (sources_of op.BitSetPsw) 11 (temps 16045690984833335023 16045690984833335023 11 16045690984833335023 16045690984833335023)
unfolding sources_of sum_of difference_of
row611 = (refl, refl)

row612 : Leaves (sources_of op.BitSetPsw) 12 (temps 16045690984833335023 16045690984833335023 12 16045690984833335023 16045690984833335023)
unfolding sources_of sum_of difference_of
row612 = (refl, refl)

row613 : Leaves (sources_of op.BitSetPsw) 13 (temps 16045690984833335023 16045690984833335023 13 16045690984833335023 16045690984833335023)
unfolding sources_of sum_of difference_of
row613 = (refl, refl)

row614 : Leaves (sources_of op.BitSetPsw) 14 (temps 16045690984833335023 16045690984833335023 14 16045690984833335023 16045690984833335023)
unfolding sources_of sum_of difference_of
row614 = (refl, refl)

row615 : Leaves (sources_of op.BitSetPsw) 15 (temps 16045690984833335023 16045690984833335023 15 16045690984833335023 16045690984833335023)
unfolding sources_of sum_of difference_of
row615 = (refl, refl)

row616 : Leaves (sources_of op.BitSetPsw) 240 (temps 16045690984833335023 16045690984833335023 240 16045690984833335023 16045690984833335023)
unfolding sources_of sum_of difference_of
row616 = (refl, refl)

row617 : Leaves (sources_of op.BitSetPsw) 255 (temps 16045690984833335023 16045690984833335023 255 16045690984833335023 16045690984833335023)
unfolding sources_of sum_of difference_of
row617 = (refl, refl)

row618 : Leaves (sources_of op.BitClearPsw) 229 (temps 16045690984833335023 16045690984833335023 229 16045690984833335023 16045690984833335023)
unfolding sources_of sum_of difference_of
row618 = (refl, refl)

row619 : Leaves (sources_of op.NoOperation) 15 (temps 16045690984833335023 16045690984833335023 16045690984833335023 16045690984833335023 16045690984833335023)
unfolding sources_of sum_of difference_of
row619 = ((refl, refl, refl), refl)

row620 : Leaves (sources_of (op.Branch Byte)) 15 (temps 16045690984833335023 16045690984833335023 16045690984833335023 16045690984833335023 16045690984833335023)
unfolding sources_of sum_of difference_of
row620 = ((refl, refl, refl), refl)

row621 : Leaves (sources_of op.MovePsl) 15 (temps 16045690984833335023 16045690984833335023 16045690984833335023 16045690984833335023 16045690984833335023)
unfolding sources_of sum_of difference_of
row621 = ((refl, refl, refl), refl)
